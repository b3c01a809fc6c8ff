use Rattle.std.proofs.Common.{◌≡◌, ◌-◌, ◌^◌, ◌<◌, map, drop}
use Rattle.std.specs.Int.Digits.{number_from_digits_after}
use Rattle.lexer.specs.Numerals.{all_digits, decimal}
use Rattle.lexer.proofs.numbers.numeral.Given as goal

abbrev pub invariant-loop-byte : goal.invariant-loop-byte
invariant-loop-byte l = (all_digits (drop l.byte-index l.digits) ≡ all_digits l.digits) × (number_from_digits_after 10 l.value (map (λ b. b - 48) (drop l.byte-index l.digits)) ≡ decimal l.digits) × (l.value < 10 ^ l.byte-index)
