-- Literals, and sets of literals that name no point both ways. A literal is a signed number here: p for the point p, and -p
-- for its denial. Assumes nothing.
use Rattle.std.specs.Prelude.{◌≡◌, ℕ, suc, ◌-◌, Bool, true, false, not, ◌&&◌, ◌||◌, List, [], ◌∷◌, ℤ, pos, negsuc, Some, None, Option, ◌==◌, refl}
use Rattle.points.specs.Sets.{member, none, single, joined, common, without, is_empty, subset}
use Rattle.points.specs.declared.set.PointSet.{PointSet}
use Rattle.points.proofs.Members.{differences_apart}
use Rattle.statements.specs.declared.literals.Literal.{Literal}
use Rattle.statements.specs.declared.literals.Literal.TheVariants.{Positive, Negative}
use Rattle.statements.specs.declared.literals.LiteralSet.{LiteralSet}

-- the number of a literal
abbrev pub signed : Literal → ℤ
signed (Positive p) = pos p.number
signed (Negative p) = negsuc (p.number - 1)

-- the point of a literal
abbrev pub point_of : ℤ → ℕ
point_of (pos p) = p
point_of (negsuc k) = suc k

-- whether the set has the literal
abbrev pub names : LiteralSet → ℤ → Bool
names s (pos p) = member s.yes p
names s (negsuc k) = member s.no (suc k)

-- whether a literal is true in an assignment: its point is yes, or its point is denied and is no
abbrev pub true_in : (ℕ → Bool) → ℤ → Bool
true_in a (pos p) = a p
true_in a (negsuc k) = not (a (suc k))

abbrev pub same_number : ℤ → ℤ → Bool
same_number (pos m) (pos n) = m == n
same_number (pos m) (negsuc n) = false
same_number (negsuc m) (pos n) = false
same_number (negsuc m) (negsuc n) = m == n

-- whether the number is one of these
unfoldable pub listed : List ℤ → ℤ → Bool
listed [] z = false
listed (x ∷ xs) z = same_number z x || listed xs z

-- no literal
unfoldable pub bare : LiteralSet
unfolding none common is_empty
bare = record { yes = none; no = none; apart = refl }

-- the set of these literals, if no point is named both ways
unfoldable pub clear_by : (y n : PointSet) (b : Bool) → is_empty (common y n) ≡ b → Option LiteralSet
clear_by y n true e = Some (record { yes = y; no = n; apart = e })
clear_by y n false e = None

unfoldable pub clear : PointSet → PointSet → Option LiteralSet
unfolding clear_by
clear y n = clear_by y n (is_empty (common y n)) refl

-- the points that the set names, either way
abbrev pub named : LiteralSet → PointSet
named s = joined s.yes s.no

-- whether a literal of the set on the point p is true
abbrev pub true_at : LiteralSet → (ℕ → Bool) → ℕ → Bool
true_at s a p = member s.yes p && a p || member s.no p && not (a p)

-- whether each literal of the first is in the second
abbrev pub within : LiteralSet → LiteralSet → Bool
within a b = subset a.yes b.yes && subset a.no b.no

-- whether the first has a literal on the point p that the second lacks
abbrev pub lacks : LiteralSet → LiteralSet → ℕ → Bool
lacks a b p = member a.yes p && not (member b.yes p) || member a.no p && not (member b.no p)

-- whether the two name the point p oppositely
abbrev pub opposed : LiteralSet → LiteralSet → ℕ → Bool
opposed a b p = member a.yes p && member b.no p || member a.no p && member b.yes p

-- all literals of the two but those on p, if no point is then named both ways
abbrev pub resolvent : LiteralSet → LiteralSet → ℕ → Option LiteralSet
resolvent a b p = clear (without (joined a.yes b.yes) (single p)) (without (joined a.no b.no) (single p))

-- the literals of the two whose denials neither has: all but those on the points that the two name oppositely
unfoldable pub cancelled : LiteralSet → LiteralSet → LiteralSet
cancelled a b = record {
  yes = without (joined a.yes b.yes) (joined a.no b.no);
  no = without (joined a.no b.no) (joined a.yes b.yes);
  apart = differences_apart (joined a.yes b.yes) (joined a.no b.no);
}
