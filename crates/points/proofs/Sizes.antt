-- The size of a set and its greatest member, by its members. Assumes nothing.
use Rattle.std.proofs.Common.{◌≡◌, ℕ, zero, suc, ◌+◌, ◌-◌, ◌*◌, ◌/◌, ◌%◌, ◌^◌, ◌<◌, ◌≤◌, true, false, cond, eqb, sym, refl, ap, ◌∙◌, subst, ap₂, le_of_suc-le-suc, not-suc-le-zero, mod-lt, mod-eq_of_lt, pow-suc, one-add, arith, lit<}
use native.Mathlib.Nat.{mod-one, div-eq_of_lt-le}
use lib.Count.{ones, ones_in, ones_cat, ones-le, count_leading_zeros, leading_length}
use Rattle.std.specs.Int.{bit_at}
use Rattle.std.proofs.lemmas.Nat.{mod-pow-add, pow_pos}
use Rattle.std.proofs.lemmas.Nat.Bits.{bit_at-lt, bit_at_above}
use Rattle.std.proofs.lemmas.Bool.{both_ways, cond-true}
use Rattle.points.specs.Sets.{has, member, counted, last_of, size, greatest, is_empty}
use Rattle.points.specs.declared.set.PointSet.{PointSet}
use Rattle.points.proofs.Counts.{counted_beyond, last_beyond}
use Rattle.points.proofs.Members.{empty_decides, zero_none}

-- ---- the greatest member

pub record Top (s : PointSet) : Type 0 where
  pub small : greatest s ≤ 64
  pub beyond : (p : ℕ) → greatest s < p → member s p ≡ false
  pub there : (k : ℕ) → greatest s ≡ suc k → member s (suc k) ≡ true

pub top : (s : PointSet) → Top s
unfolding greatest member has
top s = record {
  small = omega (arith, len.1);
  beyond = λ p h. past p h;
  there = λ k e. at k e;
}
  where
    len : (m : ℕ) × (count_leading_zeros 64 s.bits + m ≡ 64) × (s.bits < 2 ^ m) × (2 ^ m ≤ 2 * s.bits + 1)
    len = leading_length 64 s.bits s.within

    is : 64 - count_leading_zeros 64 s.bits ≡ len.0
    is = omega (arith, len.1)

    past : (p : ℕ) → 64 - count_leading_zeros 64 s.bits < p → member s p ≡ false
    past zero h = refl
    past (suc k) h = ap (λ (d : ℕ). eqb d 1) (bit_at_above s.bits len.0 k len.2 (omega (arith, is)))

    at : (k : ℕ) → 64 - count_leading_zeros 64 s.bits ≡ suc k → member s (suc k) ≡ true
    at k e =
        let m : len.0 ≡ suc k = sym is ∙ e in
        let up : s.bits < 2 ^ suc k = subst (λ (j : ℕ). s.bits < 2 ^ j) m len.2 in
        let low : 2 ^ suc k ≤ 2 * s.bits + 1 = subst (λ (j : ℕ). 2 ^ j ≤ 2 * s.bits + 1) m len.3 in
        let one : s.bits / 2 ^ k ≡ 1 = div-eq_of_lt-le (2 ^ k) (omega (arith, pow-suc 2 k)) (omega (arith, pow-suc 2 k)) in
        ap (λ (n : ℕ). eqb (n % 2) 1) one

up_to : (s : PointSet) → greatest s + (64 - greatest s) ≡ 64
up_to s = omega (arith, (top s).small)

pub greatest-last : (s : PointSet) → greatest s ≡ last_of (member s) 64
unfolding last_of
greatest-last s =
    sym (go (greatest s) refl)
    ∙ sym (last_beyond (member s) (greatest s) (64 - greatest s) (top s).beyond)
    ∙ ap (last_of (member s)) (up_to s)
  where
    go : (g : ℕ) → greatest s ≡ g → last_of (member s) (greatest s) ≡ greatest s
    go zero e = ap (last_of (member s)) e ∙ sym e
    go (suc k) e = ap (last_of (member s)) e ∙ cond-true (member s (suc k)) (suc k) (last_of (member s) k) ((top s).there k e) ∙ sym e

-- each member is at most the greatest
pub member-last : (s : PointSet) (p : ℕ) → member s p ≡ true → p ≤ greatest s
member-last s p h = let beyond = (top s).beyond p in grind arith

-- the greatest is the least bound of the members
pub greatest_below : (s : PointSet) (n : ℕ) → ((p : ℕ) → member s p ≡ true → p ≤ n) → greatest s ≤ n
greatest_below s n h = go (greatest s) refl
  where
    go : (g : ℕ) → greatest s ≡ g → greatest s ≤ n
    go zero e = omega arith
    go (suc k) e = omega (arith, h (suc k) ((top s).there k e))

-- a set that is not empty has its greatest for a member
pub some_member : (s : PointSet) → is_empty s ≡ false → (p : ℕ) × (member s p ≡ true)
some_member s h = go (greatest s) refl
  where
    go : (g : ℕ) → greatest s ≡ g → (p : ℕ) × (member s p ≡ true)
    go zero e = absurd (both_ways (is_empty s) h ((empty_decides s).1 (λ p. none p)))
      where
        none : (p : ℕ) → member s p ≡ false
        none zero = zero_none s
        none (suc k) = (top s).beyond (suc k) (omega arith)
    go (suc k) e = (suc k, (top s).there k e)

-- ---- the size

ones_digit : (d : ℕ) → d < 2 → ones d ≡ cond (eqb d 1) 1 0
unfolding ones ones_in
ones_digit zero h = refl
ones_digit (suc zero) h = refl
ones_digit (suc (suc d)) h = absurd (not-suc-le-zero (le_of_suc-le-suc (le_of_suc-le-suc h)))

ones_counted : (s : PointSet) (w : ℕ) → ones (s.bits % 2 ^ w) ≡ counted (member s) w
unfolding member has counted
ones_counted s zero = ap ones (mod-one s.bits) ∙ ones_digit 0 (lit< tt)
ones_counted s (suc w) =
    ap (λ (j : ℕ). ones (s.bits % 2 ^ j)) (sym (one-add w))
    ∙ ap ones (mod-pow-add s.bits 1 w)
    ∙ ones_cat w (bit_at s.bits w) (s.bits % 2 ^ w) (mod-lt s.bits (pow_pos w))
    ∙ ap₂ (λ (x y : ℕ). x + y) (ones_digit (bit_at s.bits w) (bit_at-lt s.bits w)) (ones_counted s w)

pub size-counted : (s : PointSet) → size s ≡ counted (member s) 64
unfolding size
size-counted s =
    sym (counted_beyond (member s) (greatest s) (64 - greatest s) (top s).beyond)
    ∙ ap (counted (member s)) (up_to s)

pub size_ones : (s : PointSet) → ones s.bits ≡ size s
size_ones s = ap ones (sym (mod-eq_of_lt s.within)) ∙ ones_counted s 64 ∙ sym (size-counted s)

-- what the functions that answer size and greatest are proved by
pub ruleset sizes = (greatest-last, size_ones, size-counted, ones-le)
