-- The decimal form of a number writes that number. Assumes nothing.
use Rattle.std.proofs.Common.{◌≡◌, ℕ, zero, suc, ◌+◌, ◌-◌, ◌/◌, ◌%◌, ◌^◌, ◌<◌, ◌≤◌, true, false, eqb, ltb, leb, List, [], ◌∷◌, ◌++◌, map, length, pos, negsuc, Some, sym, refl, ap, ◌∙◌, pow-suc, arith}
use Rattle.std.proofs.lemmas.Int.Digits.{number_push}
use Rattle.std.proofs.lemmas.List.{length_push, map_push}
use Rattle.std.proofs.lemmas.Bool.Decides.{nat_tests}
use Rattle.std.proofs.lemmas.Bool.{and_parts, and_from, leb-true, ltb-true, ltb-false, ne_eqb, cond_both, cond-false}
use Rattle.std.specs.Char.{is_ascii_digit}
use Rattle.std.specs.List.{AllByRecursion}
use Rattle.std.specs.Int.Digits.{number_from_digits}
use Rattle.lexer.specs.Numerals.{all_digits, decimal, numeral_length, numeral_of, plus, minus, number_of}
use Rattle.lexer.specs.Text.{is_line_end, is_blank, is_separator}
use Rattle.lexer.proofs.Decimals.{numeral_is}
use Rattle.dimacs.specs.Plain.{digits_by, decimal_of}

-- these are digits, at least one and at most `most`, and they write v
record Written (most v : ℕ) (bs : List ℕ) : Type 0 where
  some : 1 ≤ length bs
  few : length bs ≤ most
  digits : all_digits bs ≡ true
  worth : decimal bs ≡ v

a_digit : (d : ℕ) → d < 10 → is_ascii_digit (48 + d) ≡ true
a_digit d h = grind (arith, nat_tests)

digits_push : (bs : List ℕ) (b : ℕ) → all_digits bs ≡ true → is_ascii_digit b ≡ true → all_digits (bs ++ b ∷ []) ≡ true
digits_push [] b h d = and_from (is_ascii_digit b) true d refl
digits_push (a ∷ bs) b h d =
    let two = and_parts (is_ascii_digit a) (all_digits bs) h in
    and_from (is_ascii_digit a) (all_digits (bs ++ b ∷ [])) two.0 (digits_push bs b two.1 d)

one_digit : (f v : ℕ) → v < 10 → Written (suc f) v ((48 + v) ∷ [])
one_digit f v h = record {
  some = omega arith;
  few = omega arith;
  digits = and_from (is_ascii_digit (48 + v)) true (a_digit v h) refl;
  worth = omega arith;
}

one_more : (f v : ℕ) (bs : List ℕ) → Written f (v / 10) bs → Written (suc f) v (bs ++ (48 + v % 10) ∷ [])
one_more f v bs w =
    let b = 48 + v % 10 in
    let ds = map (λ x. x - 48) bs in
    let last : number_from_digits 10 (ds ++ (b - 48) ∷ []) ≡ v = omega (arith, number_push 10 ds (b - 48), w.worth) in
    record {
      some = omega (arith, length_push bs b);
      few = omega (arith, length_push bs b, w.few);
      digits = digits_push bs b w.digits (a_digit (v % 10) (omega arith));
      worth = ap (number_from_digits 10) (map_push (λ x. x - 48) bs b) ∙ last;
    }

digits_written : (f v : ℕ) → v < 10 ^ suc f → Written (suc f) v (digits_by (suc f) v)
unfolding digits_by
digits_written zero v h = cond_both (ltb v 10) _ _ (Written 1 v) (λ e. one_digit 0 v h) (λ e. absurd (omega (arith, ltb-false v 10 e)))
digits_written (suc f) v h =
    cond_both (ltb v 10) _ _ (Written (suc (suc f)) v)
    (λ e. one_digit (suc f) v (ltb-true v 10 e))
    (λ e. one_more (suc f) v (digits_by (suc f) (v / 10)) (digits_written f (v / 10) (omega (arith, pow-suc 10 (suc f)))))

decimal_written : (v : ℕ) → v ≤ 99999 → Written 5 v (decimal_of v)
decimal_written v h = digits_written 4 v (omega arith)

pub decimal_some : (v : ℕ) → v ≤ 99999 → 1 ≤ length (decimal_of v)
decimal_some v h = (decimal_written v h).some

pub decimal_numeral : (v : ℕ) → v ≤ 99999 → numeral_of (decimal_of v) ≡ Some v
decimal_numeral v h =
    let w = decimal_written v h in
    let count = length (decimal_of v) in
    let some = w.some in
    let few = w.few in
    let fits : numeral_length count ≡ true = grind (arith, nat_tests) in
    sym (numeral_is (decimal_of v) fits w.digits) ∙ ap Some w.worth

-- ---- a digit is no line end, no blank and no separator

each_digit : (P : ℕ → Type 0) → ((b : ℕ) → 48 ≤ b → P b) → (bs : List ℕ) → all_digits bs ≡ true → AllByRecursion P bs
each_digit P p [] h = tt
each_digit P p (b ∷ bs) h =
    let two = and_parts (is_ascii_digit b) (all_digits bs) h in
    (p b (leb-true 48 b (and_parts (leb 48 b) (leb b 57) two.0).0), each_digit P p bs two.1)

no_line_end : (b : ℕ) → 48 ≤ b → is_line_end b ≡ false
no_line_end b h = grind (arith, nat_tests)

no_blank : (b : ℕ) → 48 ≤ b → is_blank b ≡ false
no_blank b h = grind (arith, nat_tests)

no_separator : (b : ℕ) → 48 ≤ b → is_separator b ≡ false
no_separator b h = grind (arith, nat_tests)

module _ (v : ℕ) (h : v ≤ 99999) where
  pub decimal_unbroken : AllByRecursion (λ b. is_line_end b ≡ false) (decimal_of v)
  decimal_unbroken = each_digit (λ b. is_line_end b ≡ false) no_line_end (decimal_of v) (decimal_written v h).digits

  pub decimal_unblank : AllByRecursion (λ b. is_blank b ≡ false) (decimal_of v)
  decimal_unblank = each_digit (λ b. is_blank b ≡ false) no_blank (decimal_of v) (decimal_written v h).digits

  pub decimal_solid : AllByRecursion (λ b. is_separator b ≡ false) (decimal_of v)
  decimal_solid = each_digit (λ b. is_separator b ≡ false) no_separator (decimal_of v) (decimal_written v h).digits

-- ---- a number with no minus, and one with a minus

number_digits : (bs : List ℕ) → 1 ≤ length bs → all_digits bs ≡ true → number_of bs ≡ plus (numeral_of bs)
unfolding number_of
number_digits [] some h = absurd (omega arith)
number_digits (b ∷ bs) some h =
    let two = and_parts (is_ascii_digit b) (all_digits bs) h in
    let low = leb-true 48 b (and_parts (leb 48 b) (leb b 57) two.0).0 in
    cond-false (eqb b 45) _ _ (ne_eqb b 45 (λ e. omega arith))

pub decimal_number : (v : ℕ) → v ≤ 99999 → number_of (decimal_of v) ≡ Some (pos v)
decimal_number v h = let w = decimal_written v h in number_digits (decimal_of v) w.some w.digits ∙ ap plus (decimal_numeral v h)

pub minus_number : (k : ℕ) → suc k ≤ 99999 → number_of (45 ∷ decimal_of (suc k)) ≡ Some (negsuc k)
unfolding number_of
minus_number k h = ap minus (decimal_numeral (suc k) h)
