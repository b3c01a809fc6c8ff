-- Sets of points from 1 to 64, by their members. Assumes nothing.
use Rattle.std.specs.Prelude.{ℕ, zero, suc, ◌+◌, ◌-◌, ◌/◌, ◌%◌, ◌^◌, Bool, false, cond, ◌||◌, ◌==◌, bit_and, bit_or}
use Rattle.std.proofs.Common.{lt_of_le_of_lt, mod-lt, lit<}
use Rattle.std.proofs.lemmas.Nat.{or_lt, and_le_l}
use Rattle.std.specs.Cmp.{IsEquivalence, IsPartialEquivalence, on_equiv, on_per, partial_equiv_from_equiv, nat_eq_equiv}
use Rattle.std.specs.Int.Count.{count_leading_zeros}
use Rattle.points.specs.declared.set.PointSet.{PointSet}

-- whether a word has the point p: whether its bit p - 1 is set
unfoldable pub has : ℕ → ℕ → Bool
has word zero = false
has word (suc k) = word / 2 ^ k % 2 == 1

-- whether the point p is in the set. The crates above speak of members, and never of bits.
unfoldable pub member : PointSet → ℕ → Bool
unfolding has
member s p = has s.bits p

-- how many of the points 1 to n have the property
unfoldable pub counted : (ℕ → Bool) → ℕ → ℕ
counted P zero = 0
counted P (suc k) = cond (P (suc k)) 1 0 + counted P k

-- the greatest of the points 1 to n that has the property, or 0
unfoldable pub last_of : (ℕ → Bool) → ℕ → ℕ
last_of P zero = 0
last_of P (suc k) = cond (P (suc k)) (suc k) (last_of P k)

-- whether one of the points 1 to n has the property
unfoldable pub some_of : (ℕ → Bool) → ℕ → Bool
some_of P zero = false
some_of P (suc k) = P (suc k) || some_of P k

-- The sets themselves, as words. What each has for members is a law, and stands in the contract of the function that makes it.
unfoldable pub none : PointSet
none = record { bits = 0; within = lit< tt }

-- the point p alone; no point where p is not from 1 to 64
unfoldable pub single : ℕ → PointSet
single zero = none
single (suc k) = record { bits = 2 ^ k % 2 ^ 64; within = mod-lt (2 ^ k) (lit< tt) }

unfoldable pub joined : PointSet → PointSet → PointSet
joined a b = record { bits = bit_or a.bits b.bits; within = or_lt 64 a.bits b.bits a.within b.within }

unfoldable pub common : PointSet → PointSet → PointSet
common a b = record { bits = bit_and a.bits b.bits; within = lt_of_le_of_lt (and_le_l a.bits b.bits) a.within }

unfoldable pub without : PointSet → PointSet → PointSet
without a b = record { bits = bit_and a.bits (2 ^ 64 - 1 - b.bits); within = lt_of_le_of_lt (and_le_l a.bits (2 ^ 64 - 1 - b.bits)) a.within }

unfoldable pub is_empty : PointSet → Bool
is_empty s = s.bits == 0

unfoldable pub subset : PointSet → PointSet → Bool
subset a b = bit_and a.bits b.bits == a.bits

-- whether the two are the same set
unfoldable pub same_set : PointSet → PointSet → Bool
same_set a b = a.bits == b.bits

pub same_set_per : IsPartialEquivalence same_set
unfolding same_set
same_set_per = on_per (λ (s : PointSet). s.bits) (partial_equiv_from_equiv nat_eq_equiv)

pub same_set_equivalence : IsEquivalence same_set
unfolding same_set
same_set_equivalence = on_equiv (λ (s : PointSet). s.bits) nat_eq_equiv

unfoldable pub greatest : PointSet → ℕ
greatest s = 64 - count_leading_zeros 64 s.bits

-- how many members: those among the points up to the greatest
unfoldable pub size : PointSet → ℕ
size s = counted (member s) (greatest s)
