-- A text is a list of bytes. Here it is cut into pieces, lines, words and tokens. Assumes nothing.
use Rattle.std.specs.Prelude.{ℕ, suc, ◌+◌, Bool, cond, ◌||◌, List, [], ◌∷◌, ◌++◌, length, ◌==◌}

-- a piece of a text, with the place of its first byte
abbrev pub Piece : Type 0
Piece = ℕ × List ℕ

abbrev pub is_line_end : ℕ → Bool
is_line_end b = b == 10

-- what stands between the words of a header line
abbrev pub is_blank : ℕ → Bool
is_blank b = b == 32 || b == 9

-- what stands between the tokens of a line
abbrev pub is_space : ℕ → Bool
is_space b = is_blank b || b == 13

-- what stands between two tokens
abbrev pub is_separator : ℕ → Bool
is_separator b = is_space b || is_line_end b

-- how many bytes stand before the first byte that cuts
abbrev pub run : (ℕ → Bool) → List ℕ → ℕ
run cuts [] = 0
run cuts (b ∷ bs) = cond (cuts b) 0 (suc (run cuts bs))

-- pieces with one more byte before the first
abbrev pub first_byte : ℕ → List (List ℕ) → List (List ℕ)
first_byte b [] = (b ∷ []) ∷ []
first_byte b (p ∷ ps) = (b ∷ p) ∷ ps

-- the pieces of a text between the bytes that cut it
unfoldable pub pieces : (ℕ → Bool) → List ℕ → List (List ℕ)
pieces cuts [] = [] ∷ []
pieces cuts (b ∷ bs) = cond (cuts b) ([] ∷ pieces cuts bs) (first_byte b (pieces cuts bs))

-- each piece with the place of its first byte, where the text begins at `at`, and one byte cuts two pieces
unfoldable pub placed : ℕ → List (List ℕ) → List Piece
placed at [] = []
placed at (p ∷ ps) = (at, p) ∷ placed (at + length p + 1) ps

-- a piece before others, unless it is empty
abbrev pub keep : ℕ → List ℕ → List Piece → List Piece
keep at [] ps = ps
keep at (b ∷ bs) ps = (at, b ∷ bs) ∷ ps

-- the pieces that are not empty
unfoldable pub solid : List Piece → List Piece
solid [] = []
solid (p ∷ ps) = keep p.0 p.1 (solid ps)

-- the words of a text that begins at `at`: its pieces that are not empty
unfoldable pub words : (ℕ → Bool) → ℕ → List ℕ → List Piece
words cuts at bs = solid (placed at (pieces cuts bs))

-- the lines of a text that begins at `at`
unfoldable pub lines_from : ℕ → List ℕ → List Piece
lines_from at bs = placed at (pieces is_line_end bs)

-- the tokens of lines
unfoldable pub tokens : List Piece → List Piece
tokens [] = []
tokens (l ∷ ls) = words is_space l.0 l.1 ++ tokens ls

-- the tokens of a text that begins at `at`
unfoldable pub tokens_from : ℕ → List ℕ → List Piece
tokens_from at bs = tokens (lines_from at bs)
