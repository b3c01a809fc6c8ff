-- Sets of literals by their literals. Assumes nothing.
use Rattle.std.specs.Prelude.{◌≡◌, ℕ, zero, suc, ℤ, pos, negsuc, Decides, Bool, true, false, Some, None, ◌≢◌, refl}
use Rattle.std.proofs.Common.{sym, ap, ◌∙◌}
use Rattle.std.proofs.Math.Bool.{Bool-set}
use mathlib.Core.HLevel.{is_prop→PathP}
use Rattle.std.proofs.lemmas.Bool.{both_ways, and_from, true≢false}
use Rattle.std.proofs.lemmas.Bool.Decides.{Decides-and, Decides-like}
use Rattle.std.proofs.lemmas.Option.{none-some, same_Some}
use Rattle.points.specs.Sets.{member, common, is_empty, subset}
use Rattle.points.specs.declared.set.PointSet.{PointSet}
use Rattle.points.proofs.Members.{member-common, empty_decides, subset_decides, zero_none}
use Rattle.statements.specs.Literals.{names, within, clear, clear_by}
use Rattle.statements.specs.declared.literals.LiteralSet.{LiteralSet}

-- a set of literals is told by its two sets of points
pub same_literals : (s t : LiteralSet) → s.yes ≡ t.yes → s.no ≡ t.no → s ≡ t
same_literals s t e f = λ i.
    record {
      yes = e i;
      no = f i;
      apart = is_prop→PathP (λ j. is_empty (common (e j) (f j)) ≡ true) (λ j. Bool-set (is_empty (common (e j) (f j))) true) s.apart t.apart i;
    }

-- no point is named both ways
pub never_both : (s : LiteralSet) (p : ℕ) → member s.yes p ≡ true → member s.no p ≢ true
never_both s p y n =
    both_ways (member (common s.yes s.no) p) ((empty_decides (common s.yes s.no)).0 s.apart p)
    (member-common s.yes s.no p ∙ and_from (member s.yes p) (member s.no p) y n)

-- ---- whether each literal of the one is in the other

pub within_decides : (s t : LiteralSet) → Decides (within s t) ((z : ℤ) → names s z ≡ true → names t z ≡ true)
within_decides s t =
    Decides-like (within s t) to from
    (Decides-and (subset s.yes t.yes) (subset s.no t.no) (subset_decides s.yes t.yes) (subset_decides s.no t.no))
  where
    to : ((p : ℕ) → member s.yes p ≡ true → member t.yes p ≡ true) × ((p : ℕ) → member s.no p ≡ true → member t.no p ≡ true)
        → (z : ℤ) → names s z ≡ true → names t z ≡ true
    to (y, n) (pos p) h = y p h
    to (y, n) (negsuc k) h = n (suc k) h

    from : ((z : ℤ) → names s z ≡ true → names t z ≡ true)
        → ((p : ℕ) → member s.yes p ≡ true → member t.yes p ≡ true) × ((p : ℕ) → member s.no p ≡ true → member t.no p ≡ true)
    from f = (λ p. f (pos p), denied)
      where
        denied : (p : ℕ) → member s.no p ≡ true → member t.no p ≡ true
        denied zero h = absurd (both_ways (member s.no 0) (zero_none s.no) h)
        denied (suc k) h = f (negsuc k) h

-- ---- what `clear` gives

clear_by_lem : (y n : PointSet) (b : Bool) (e : is_empty (common y n) ≡ b) (s : LiteralSet) → clear_by y n b e ≡ Some s → (s.yes ≡ y) × (s.no ≡ n)
unfolding clear_by
clear_by_lem y n true e s h = let same = same_Some _ s h in (sym (ap (λ (t : LiteralSet). t.yes) same), sym (ap (λ (t : LiteralSet). t.no) same))
clear_by_lem y n false e s h = absurd (none-some s h)

-- a set that it gives has just these points
pub clear_parts : (y n : PointSet) (s : LiteralSet) → clear y n ≡ Some s → (s.yes ≡ y) × (s.no ≡ n)
unfolding clear
clear_parts y n s h = clear_by_lem y n (is_empty (common y n)) refl s h

some_by : (s : LiteralSet) (b : Bool) (e : is_empty (common s.yes s.no) ≡ b) → clear_by s.yes s.no b e ≡ Some s
unfolding clear_by
some_by s true e = ap Some (same_literals (record { yes = s.yes; no = s.no; apart = e }) s refl refl)
some_by s false e = absurd (true≢false (sym s.apart ∙ e))

-- it gives a set at the points of a set
pub clear_some : (s : LiteralSet) → clear s.yes s.no ≡ Some s
unfolding clear
clear_some s = some_by s (is_empty (common s.yes s.no)) refl

none_by : (y n : PointSet) (b : Bool) (e : is_empty (common y n) ≡ b) → is_empty (common y n) ≡ false → clear_by y n b e ≡ None
unfolding clear_by
none_by y n true e h = absurd (both_ways (is_empty (common y n)) h e)
none_by y n false e h = refl

-- and nothing where a point is on both sides
pub clear_none : (y n : PointSet) → is_empty (common y n) ≡ false → clear y n ≡ None
unfolding clear
clear_none y n h = none_by y n (is_empty (common y n)) refl h
