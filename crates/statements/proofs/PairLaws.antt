-- Two sets of literals: what they have, lack and oppose, and what is left of the two where opposed literals go. Assumes nothing.
use Rattle.std.proofs.Common.{subst, ◌≡◌, ℕ, suc, ◌≤◌, Bool, true, false, not, ◌&&◌, ◌||◌, eqb, ℤ, pos, negsuc, Option, sym, ap, ◌∙◌, ap₂, MatchOption, arith}
use Rattle.std.proofs.lemmas.Bool.{false_from_ne_true, and_parts}
use Rattle.std.proofs.lemmas.Bool.Decides.{nat_tests}
use Rattle.points.specs.Sets.{member, single, joined, without}
use Rattle.points.specs.declared.set.PointSet.{PointSet}
use Rattle.points.proofs.Members.{differences_apart, member-joined, member-without}
use Rattle.statements.specs.Literals.{names, point_of, opposed, resolvent, cancelled}
use Rattle.statements.specs.declared.literals.LiteralSet.{LiteralSet}
use Rattle.statements.specs.LiteralLaws.{never_both, same_literals}
use Rattle.statements.specs.ClauseLaws.{rest_member}
use Rattle.statements.proofs.MakeLaws.{Cleared, made_of, both, cleared}

-- ---- the points that the two name oppositely

-- a set has a point and its denial nowhere
apart_at : (s : LiteralSet) (p : ℕ) → (member s.yes p && member s.no p) ≡ false
apart_at s p = false_from_ne_true (member s.yes p && member s.no p) (λ e. let b = and_parts (member s.yes p) (member s.no p) e in never_both s p b.0 b.1)

-- the two name a point oppositely where they name it both ways together
pub opposed_both : (s t : LiteralSet) (p : ℕ) → ((member s.yes p || member t.yes p) && (member s.no p || member t.no p)) ≡ opposed s t p
opposed_both s t p = let a = apart_at s p in let b = apart_at t p in grind (arith, nat_tests)

-- ---- what is left of the two without the literals on the points that they name oppositely

member_left : (s t u v : PointSet) (p : ℕ) → member (without (joined s t) (joined u v)) p ≡ ((member s p || member t p) && not (member u p || member v p))
member_left s t u v p =
    member-without (joined s t) (joined u v) p ∙ ap₂ (λ (x y : Bool). x && not y) (member-joined s t p) (member-joined u v p)

pub cancelled-names : (s t : LiteralSet) (z : ℤ) → names (cancelled s t) z ≡ ((names s z || names t z) && not (opposed s t (point_of z)))
unfolding cancelled
cancelled-names s t (pos p) = let left = member_left s.yes t.yes s.no t.no p in let both = opposed_both s t p in grind (arith, nat_tests)
cancelled-names s t (negsuc k) = let left = member_left s.no t.no s.yes t.yes (suc k) in let both = opposed_both s t (suc k) in grind (arith, nat_tests)

pub cancelled_as : (s t r : LiteralSet) → r ≡ cancelled s t → (z : ℤ) → names r z ≡ ((names s z || names t z) && not (opposed s t (point_of z)))
cancelled_as s t r e z = ap (λ (u : LiteralSet). names u z) e ∙ cancelled-names s t z

pub ruleset cancels = (same_literals, differences_apart, cancelled_as)

-- ---- what is left of the two without the literals on one point

-- the literals of either but not those on p, or another point that the two name oppositely
abbrev pub Resolved : LiteralSet → LiteralSet → ℕ → Option LiteralSet → Type 0
Resolved s t p r =
    MatchOption r ((q : ℕ) × (q ≡ p → ⊥) × (opposed s t q ≡ true)) (λ u. (z : ℤ) → names u z ≡ ((names s z || names t z) && not (eqb (point_of z) p)))

module _ (s t : LiteralSet) (p : ℕ) (low : 1 ≤ p) (high : p ≤ 64) where
  resolved_from : {o : Option LiteralSet} → Cleared (without (joined s.yes t.yes) (single p)) (without (joined s.no t.no) (single p)) o → Resolved s t p o
  resolved_from (made_of u e f) = at
    where
      at : (z : ℤ) → names u z ≡ ((names s z || names t z) && not (eqb (point_of z) p))
      at (pos q) = ap (λ (w : PointSet). member w q) e ∙ rest_member s.yes t.yes p q low high
      at (negsuc k) = ap (λ (w : PointSet). member w (suc k)) f ∙ rest_member s.no t.no p (suc k) low high
  resolved_from (both k y n) =
      let yes = rest_member s.yes t.yes p (suc k) low high in
      let no = rest_member s.no t.no p (suc k) low high in
      let op = opposed_both s t (suc k) in
      (suc k, (λ same. grind (arith, nat_tests)), grind (arith, nat_tests))

  pub resolved_law : Resolved s t p (resolvent s t p)
  resolved_law = resolved_from (cleared (without (joined s.yes t.yes) (single p)) (without (joined s.no t.no) (single p)))

  pub resolved_as : (r : Option LiteralSet) → r ≡ resolvent s t p → Resolved s t p r
  resolved_as r e = subst (Resolved s t p) (sym e) resolved_law
