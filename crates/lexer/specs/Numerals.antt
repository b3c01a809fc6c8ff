-- The numbers that tokens write. Assumes nothing.
use Rattle.std.specs.Prelude.{ℕ, zero, suc, ◌-◌, Bool, true, cond, ◌&&◌, List, [], ◌∷◌, map, length, ℤ, pos, negsuc, Some, None, Option, ◌==◌, nat_le}
use Rattle.std.specs.Char.{is_ascii_digit}
use Rattle.std.specs.Int.Digits.{number_from_digits}

abbrev pub all_digits : List ℕ → Bool
all_digits [] = true
all_digits (b ∷ bs) = is_ascii_digit b && all_digits bs

-- the number that digits write, the highest first
abbrev pub decimal : List ℕ → ℕ
decimal bs = number_from_digits 10 (map (λ b. b - 48) bs)

-- how many digits a numeral may have
abbrev pub numeral_length : ℕ → Bool
numeral_length n = nat_le 1 n && nat_le n 5

-- a numeral is one to five digits
unfoldable pub numeral_of : List ℕ → Option ℕ
numeral_of bs = cond (numeral_length (length bs) && all_digits bs) (Some (decimal bs)) None

-- a numeral's value, as an integer
abbrev pub plus : Option ℕ → Option ℤ
plus None = None
plus (Some v) = Some (pos v)

-- a numeral's value after a minus, which does not stand before 0
abbrev pub minus : Option ℕ → Option ℤ
minus None = None
minus (Some zero) = None
minus (Some (suc v)) = Some (negsuc v)

-- a number is a numeral, or a minus and a numeral that is not 0
unfoldable pub number_of : List ℕ → Option ℤ
number_of [] = None
number_of (b ∷ bs) = cond (b == 45) (minus (numeral_of bs)) (plus (numeral_of (b ∷ bs)))
