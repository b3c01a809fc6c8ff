-- The header line of a clause file, and what it says. Assumes nothing.
use Rattle.std.specs.Prelude.{◌≡◌, ℕ, ◌≤◌, Bool, false, cond, ◌&&◌, List, [], ◌∷◌, length, drop, Some, None, codes, Option, ◌==◌}
use Rattle.std.specs.Str.{bytes_eq}
use Rattle.lexer.specs.Text.{Piece, is_blank, words, lines_from, tokens, tokens_from}
use Rattle.lexer.specs.Cuts.{part}
use Rattle.lexer.specs.Numerals.{numeral_of}
use Rattle.lexer.specs.declared.headers.Header.{Header}
use Rattle.lexer.specs.declared.headers.LineKind.{LineKind}
use Rattle.lexer.specs.declared.headers.LineKind.TheVariants.{Comment, Problem, Other}

abbrev pub begins_with : ℕ → List ℕ → Bool
begins_with c [] = false
begins_with c (b ∷ bs) = b == c

abbrev pub last_byte : List ℕ → ℕ
last_byte [] = 0
last_byte (b ∷ []) = b
last_byte (b ∷ c ∷ bs) = last_byte (c ∷ bs)

-- a line is told by its first byte, `c` or `p`
abbrev pub kind_of : List ℕ → LineKind
kind_of bs = cond (begins_with 99 bs) Comment (cond (begins_with 112 bs) Problem Other)

-- the first line that is no comment, with the lines after it
unfoldable pub headed : List Piece → Option (Piece × List Piece)
headed [] = None
headed (l ∷ ls) = cond (begins_with 99 l.1) (headed ls) (Some (l, ls))

-- two numerals, the first of which stands at `at`
abbrev pub counts : ℕ → Option ℕ → Option ℕ → Option Header
counts at None d = None
counts at (Some m) None = None
counts at (Some m) (Some n) = Some (record { points = m; points_at = at; clauses = n })

-- the words of a header are `p`, `cnf`, the number of points and the number of clauses
abbrev pub fields : List Piece → Option Header
fields [] = None
fields (a ∷ []) = None
fields (a ∷ b ∷ []) = None
fields (a ∷ b ∷ c ∷ []) = None
fields (a ∷ b ∷ c ∷ d ∷ []) = cond (bytes_eq a.1 (codes "p") && bytes_eq b.1 (codes "cnf")) (counts c.0 (numeral_of c.1) (numeral_of d.1)) None
fields (a ∷ b ∷ c ∷ d ∷ e ∷ ws) = None

-- what the words of a line with no blank at its end say
unfoldable pub fields_of : List ℕ → Option Header
fields_of bs = cond (is_blank (last_byte bs)) None (fields (words is_blank 0 bs))

-- what a header line says: a line of such words that begins with `p`
unfoldable pub header_of : List ℕ → Option Header
header_of bs = cond (begins_with 112 bs) (fields_of bs) None

-- the header line of a text stands from `start` to `end`, and the tokens after it are those of the text from `end` on
pub record HeaderAt (text : List ℕ) (start end : ℕ) : Type 0 where
  pub after : List Piece
  pub first : headed (lines_from 0 text) ≡ Some ((start, part start end text), after)
  pub ordered : start ≤ end
  pub inside : end ≤ length text
  pub rest : tokens after ≡ tokens_from end (drop end text)
