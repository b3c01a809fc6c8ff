-- What numerals are worth. Assumes nothing.
use Rattle.std.proofs.Common.{◌≡◌, ℕ, ◌+◌, ◌-◌, ◌<◌, true, false, ◌&&◌, leb, List, [], ◌∷◌, map, length, get_or, drop, Some, sym, ap, ◌∙◌, arith}
use Rattle.std.proofs.lemmas.List.{drop_more}
use Rattle.std.proofs.lemmas.Bool.{leb-true, and_parts, and_from, and_left, cond-true}
use Rattle.std.specs.Char.{is_ascii_digit}
use Rattle.std.specs.Int.Digits.{AllBelowBase}
use Rattle.lexer.specs.Numerals.{all_digits, decimal, numeral_length, numeral_of}

pub numeral_is : (bs : List ℕ) → numeral_length (length bs) ≡ true → all_digits bs ≡ true → Some (decimal bs) ≡ numeral_of bs
unfolding numeral_of
numeral_is bs few e = sym (cond-true _ _ _ (and_from _ _ few e))

-- the digits from a place on: one more, and a byte that is none
pub digits_on : (bs : List ℕ) (i : ℕ) → i < length bs → is_ascii_digit (get_or bs i 0) ≡ true → all_digits (drop i bs) ≡ all_digits (drop (i + 1) bs)
digits_on bs i h e = ap all_digits (drop_more bs i 0 h) ∙ ap (λ t. t && all_digits (drop (i + 1) bs)) e

pub digits_stop : (bs : List ℕ) (i : ℕ) → i < length bs → is_ascii_digit (get_or bs i 0) ≡ false → all_digits (drop i bs) ≡ false
digits_stop bs i h e = ap all_digits (drop_more bs i 0 h) ∙ and_left _ _ e

-- the numbers that digits stand for are below the base
pub under : (bs : List ℕ) → all_digits bs ≡ true → AllBelowBase 10 (map (λ b. b - 48) bs)
under [] e = tt
under (b ∷ bs) e =
    let two = and_parts (is_ascii_digit b) (all_digits bs) e in
    let ends = and_parts (leb 48 b) (leb b 57) two.0 in
    (omega (arith, leb-true b 57 ends.1), under bs two.1)
