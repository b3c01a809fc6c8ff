-- Making sets of literals of signed numbers, and what is refused. Assumes nothing.
use Rattle.std.specs.Prelude.{◌≡◌, ℕ, suc, Bool, true, false, cond, ◌&&◌, List, [], ◌∷◌, ℤ, pos, negsuc, Err, Result, nat_le, unsigned_abs}
use Rattle.std.specs.Option.{ok_or}
use Rattle.points.specs.Sets.{none, single, joined}
use Rattle.points.specs.declared.set.PointSet.{PointSet}
use Rattle.statements.specs.Literals.{listed, clear}
use Rattle.statements.specs.declared.fault.MakeFault.{MakeFault}
use Rattle.statements.specs.declared.fault.MakeFault.TheVariants.{Magnitude, Opposed}
use Rattle.statements.specs.declared.literals.LiteralSet.{LiteralSet}

-- whether the number stands for a literal: its magnitude is from 1 to 64
abbrev pub is_literal : ℤ → Bool
is_literal z = nat_le 1 (unsigned_abs z) && nat_le (unsigned_abs z) 64

unfoldable pub are_literals : List ℤ → Bool
are_literals [] = true
are_literals (z ∷ zs) = is_literal z && are_literals zs

-- the points that a number names as they are, and those that it denies
abbrev pub asserted : ℤ → PointSet
asserted (pos p) = single p
asserted (negsuc k) = none

abbrev pub denied : ℤ → PointSet
denied (pos p) = none
denied (negsuc k) = single (suc k)

unfoldable pub all_asserted : List ℤ → PointSet
all_asserted [] = none
all_asserted (z ∷ zs) = joined (asserted z) (all_asserted zs)

unfoldable pub all_denied : List ℤ → PointSet
all_denied [] = none
all_denied (z ∷ zs) = joined (denied z) (all_denied zs)

-- the set of the literals that the numbers stand for. First the magnitudes are asked, of all of them, then the opposed points.
unfoldable pub made : List ℤ → Result LiteralSet MakeFault
made zs = cond (are_literals zs) (ok_or (clear (all_asserted zs) (all_denied zs)) Opposed) (Err Magnitude)

-- a set with the literal z besides
unfoldable pub extended : LiteralSet → ℤ → Result LiteralSet MakeFault
extended s z = ok_or (clear (joined s.yes (asserted z)) (joined s.no (denied z))) Opposed

-- each refusal: its number, and the lists of numbers to which it is the answer
abbrev pub make_refusal : MakeFault → ℕ × (List ℤ → Type 0)
make_refusal Magnitude = (2, λ zs. are_literals zs ≡ false)
make_refusal Opposed = (3, λ zs. (are_literals zs ≡ true) × ((p : ℕ) × (listed zs (pos (suc p)) ≡ true) × (listed zs (negsuc p) ≡ true)))
