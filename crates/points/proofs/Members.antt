-- What the sets have for members, and that their members tell them apart. Assumes nothing.
use Rattle.std.proofs.Common.{◌≡◌, ℕ, zero, suc, ◌+◌, ◌-◌, ◌/◌, ◌^◌, ◌<◌, ◌≤◌, min, Bool, true, false, not, ◌&&◌, ◌||◌, eqb, ◌⊎◌, Decides, sym, refl, ap, ◌∙◌, inl, inr, not-suc-le-zero, mod-eq_of_lt, one-mul, pow-suc, ◌*◌, ◌%◌, arith, w64}
use mathlib.Core.HLevel.{is_prop→PathP}
use native.Mathlib.Bridge.{le_prop}
use lib.Bits.{bit_and, bit_or}
use Rattle.std.specs.Int.{bit_at}
use Rattle.std.proofs.lemmas.Nat.Bits.{bit_at_and, bit_at_or, bit_at_not, bit_at-lt, bit_at_above, bit_at_lowest, bit_at-suc, bit_at-zero, bit_at-pow_same, bit_at-pow_other, same_from_bits_below}
use lib.Pow.{pow-lt}
use Rattle.std.proofs.lemmas.Bool.{false_from_ne_true, and_parts, eqb-true, eq-eqb, cases_eq, cases_lt, both_ways, true≢false}
use Rattle.std.proofs.lemmas.Bool.Decides.{nat_tests}
use Rattle.points.specs.Sets.{has, member, none, single, joined, common, without, is_empty, subset, same_set}
use Rattle.points.specs.declared.set.PointSet.{PointSet}

-- a set is told by its word
pub same_word : (a b : PointSet) → a.bits ≡ b.bits → a ≡ b
same_word a b e = λ i.
    record { bits = e i; within = is_prop→PathP (λ j. e j < 2 ^ 64) (λ j. le_prop) a.within b.within i }

-- members are points from 1 to 64
pub member_positive : (s : PointSet) (p : ℕ) → member s p ≡ true → 1 ≤ p
unfolding member has
member_positive s zero h = absurd (true≢false (sym h))
member_positive s (suc k) h = omega arith

pub zero_none : (s : PointSet) → member s 0 ≡ false
unfolding member has
zero_none s = refl

pub beyond_none : (s : PointSet) (p : ℕ) → 64 < p → member s p ≡ false
unfolding member has
beyond_none s zero h = refl
beyond_none s (suc k) h = ap (λ (d : ℕ). eqb d 1) (bit_at_above s.bits 64 k s.within (omega arith))

pub member_small : (s : PointSet) (p : ℕ) → member s p ≡ true → p ≤ 64
member_small s p h = let beyond = beyond_none s p in grind arith

-- two numbers of w digits that add up to w ones have opposite digits
pub digit_opposite : (w a b k : ℕ) → a + b + 1 ≡ 2 ^ w → k < w → bit_at b k ≡ 1 - bit_at a k
digit_opposite zero a b k e lt = absurd (omega arith)
digit_opposite (suc w) a b zero e lt = omega (arith, bit_at_lowest a, bit_at_lowest b, pow-suc 2 w)
digit_opposite (suc w) a b (suc k) e lt =
    let halves : a / 2 + b / 2 + 1 ≡ 2 ^ w = omega (arith, pow-suc 2 w) in
    bit_at-suc b k ∙ digit_opposite w (a / 2) (b / 2) k halves (omega arith) ∙ sym (ap (λ (d : ℕ). 1 - d) (bit_at-suc a k))

-- ---- what each operation has for members

pub member-none : (p : ℕ) → member none p ≡ false
unfolding member has none
member-none zero = refl
member-none (suc k) = ap (λ (d : ℕ). eqb d 1) (bit_at-zero k)

pub member-joined : (a b : PointSet) (p : ℕ) → member (joined a b) p ≡ (member a p || member b p)
unfolding member has joined
member-joined a b zero = refl
member-joined a b (suc k) = grind (arith, nat_tests, bit_at_or a.bits b.bits k, bit_at-lt a.bits k, bit_at-lt b.bits k)

pub member-common : (a b : PointSet) (p : ℕ) → member (common a b) p ≡ (member a p && member b p)
unfolding member has common
member-common a b zero = refl
member-common a b (suc k) = grind (arith, nat_tests, bit_at_and a.bits b.bits k, bit_at-lt a.bits k, bit_at-lt b.bits k)

pub member-without : (a b : PointSet) (p : ℕ) → member (without a b) p ≡ (member a p && not (member b p))
unfolding member has without
member-without a b zero = refl
member-without a b (suc k) = go (cases_lt k 64)
  where
    both : bit_at (bit_and a.bits (2 ^ 64 - 1 - b.bits)) k ≡ min (bit_at a.bits k) (bit_at (2 ^ 64 - 1 - b.bits) k)
    both = bit_at_and a.bits (2 ^ 64 - 1 - b.bits) k

    go : (k < 64) ⊎ (64 ≤ k) → eqb (bit_at (bit_and a.bits (2 ^ 64 - 1 - b.bits)) k) 1 ≡ (eqb (bit_at a.bits k) 1 && not (eqb (bit_at b.bits k) 1))
    go (inl l) = grind (arith, nat_tests, both, bit_at_not w64 b.bits k b.within l, bit_at-lt a.bits k, bit_at-lt b.bits k)
    go (inr l) = grind (arith, nat_tests, both, bit_at_above a.bits 64 k a.within l)

pub member-single : (q p : ℕ) → 1 ≤ q → q ≤ 64 → member (single q) p ≡ eqb p q
unfolding member has single
member-single zero p low high = absurd (not-suc-le-zero low)
member-single (suc j) zero low high = grind (arith, nat_tests)
member-single (suc j) (suc k) low high = ap (λ (n : ℕ). eqb (bit_at n k) 1) (mod-eq_of_lt (pow-lt high)) ∙ go (cases_eq k j)
  where
    go : (k ≡ j) ⊎ (k ≡ j → ⊥) → eqb (bit_at (2 ^ j) k) 1 ≡ eqb (suc k) (suc j)
    go (inl e) = ap (λ (i : ℕ). eqb (bit_at (2 ^ j) i) 1) e ∙ ap (λ (d : ℕ). eqb d 1) (bit_at-pow_same j) ∙ sym (eq-eqb (suc k) (suc j) (ap suc e))
    go (inr ne) = grind (arith, nat_tests, bit_at-pow_other j k ne)

-- the word of a union has 64 digits
pub joined_fits : (a b : PointSet) → bit_or a.bits b.bits < 2 ^ 64
unfolding joined
joined_fits a b = (joined a b).within

-- the word that is made of one point
pub single-bits : (n : ℕ) → 1 ≤ n → (single n).bits ≡ 1 * 2 ^ (n - 1) % 2 ^ 64
unfolding single
single-bits zero low = absurd (not-suc-le-zero low)
single-bits (suc k) low = let j : suc k - 1 ≡ k = omega arith in rw (j, one-mul)

pub member_word : (s : PointSet) (n p : ℕ) → 1 ≤ n → n ≤ 64 → s.bits ≡ 1 * 2 ^ (n - 1) % 2 ^ 64 → member s p ≡ eqb p n
member_word s n p low high e = ap (λ (t : PointSet). member t p) (same_word s (single n) (e ∙ sym (single-bits n low))) ∙ member-single n p low high

-- what the functions that make these sets are proved by
pub ruleset members = (same_word, single-bits, joined_fits, member-none, member_word, member-joined, member-common, member-without)

-- ---- sets with the same members are equal

pub same_members : (a b : PointSet) → ((p : ℕ) → member a p ≡ member b p) → a ≡ b
unfolding member has
same_members a b h =
    same_word a b
    (same_from_bits_below 64 a.bits b.bits a.within b.within (λ k l. let e = h (suc k) in grind (arith, nat_tests, bit_at-lt a.bits k, bit_at-lt b.bits k)))

-- ---- the tests

pub empty_decides : (s : PointSet) → Decides (is_empty s) ((p : ℕ) → member s p ≡ false)
unfolding is_empty none
empty_decides s = (
  λ e p. ap (λ (t : PointSet). member t p) (same_word s none (eqb-true s.bits 0 e)) ∙ member-none p,
  λ h. eq-eqb s.bits 0 (ap (λ (t : PointSet). t.bits) (same_members s none (λ p. h p ∙ sym (member-none p)))),
)

pub same_set_decides : (a b : PointSet) → Decides (same_set a b) (a ≡ b)
unfolding same_set
same_set_decides a b = (λ e. same_word a b (eqb-true a.bits b.bits e), λ e. eq-eqb a.bits b.bits (ap (λ (s : PointSet). s.bits) e))

pub same_set_members : (a b : PointSet) → Decides (same_set a b) ((p : ℕ) → member a p ≡ member b p)
same_set_members a b = (
  λ e p. ap (λ (s : PointSet). member s p) ((same_set_decides a b).0 e),
  λ h. (same_set_decides a b).1 (same_members a b h),
)

-- two sets, each without the members of the other, have nothing in common
pub differences_apart : (a b : PointSet) → is_empty (common (without a b) (without b a)) ≡ true
differences_apart a b = (empty_decides (common (without a b) (without b a))).1 (λ p.
    let both = member-common (without a b) (without b a) p in
    let left = member-without a b p in
    let right = member-without b a p in
    grind (arith, nat_tests))

-- a set with a member is not empty
pub some_not_empty : (s : PointSet) (p : ℕ) → member s p ≡ true → is_empty s ≡ false
some_not_empty s p h = false_from_ne_true (is_empty s) (λ e. both_ways (member s p) ((empty_decides s).0 e p) h)

inside_from : (x y : Bool) → (x ≡ true → y ≡ true) → (x && y) ≡ x
inside_from true y h = h refl
inside_from false y h = refl

pub subset_decides : (a b : PointSet) → Decides (subset a b) ((p : ℕ) → member a p ≡ true → member b p ≡ true)
unfolding subset common
subset_decides a b = (
  λ e p h.
      (and_parts (member a p) (member b p) (sym (member-common a b p) ∙ ap (λ (t : PointSet). member t p) (same_word (common a b) a (eqb-true (bit_and a.bits b.bits) a.bits e)) ∙ h)).1,
  λ h.
      eq-eqb (bit_and a.bits b.bits) a.bits
      (ap (λ (t : PointSet). t.bits)
      (same_members (common a b) a (λ p. member-common a b p ∙ inside_from (member a p) (member b p) (h p)))),
)

-- a point is a member exactly where the set has something in common with it alone
pub contains_single : (s : PointSet) (q : ℕ) → 1 ≤ q → q ≤ 64 → not (is_empty (common s (single q))) ≡ member s q
contains_single s q low high = go (member s q) refl
  where
    at : (p : ℕ) → member (common s (single q)) p ≡ (member s p && eqb p q)
    at p = member-common s (single q) p ∙ ap (λ (t : Bool). member s p && t) (member-single q p low high)

    here : member (common s (single q)) q ≡ member s q
    here = let a = at q in grind (arith, nat_tests)

    none : member s q ≡ false → (p : ℕ) → member (common s (single q)) p ≡ false
    none h p = let a = at p in grind (arith, nat_tests)

    go : (b : Bool) → member s q ≡ b → not (is_empty (common s (single q))) ≡ member s q
    go true h = ap not (some_not_empty (common s (single q)) q (here ∙ h)) ∙ sym h
    go false h = ap not ((empty_decides (common s (single q))).1 (none h)) ∙ sym h
