-- What the iterators over the words and the lines of a text have left, and what a step of them gives. Assumes nothing.
use Rattle.std.specs.Prelude.{◌≡◌, ℕ, ◌+◌, ◌<◌, false, not, List, [], length, drop, Some, None, Option, MatchOption, slice_index}
use Rattle.std.specs.Iterator.{YieldsFirstBy}
use Rattle.lexer.specs.Text.{Piece, run, words, lines_from}
use Rattle.lexer.specs.Cuts.{cuts_at, part, FirstWord}
use Rattle.lexer.specs.declared.part.Part.{Part}
use Rattle.lexer.specs.declared.words.Words.{Words}
use Rattle.lexer.specs.declared.lines.Lines.{Lines}

-- a part of a text as a piece
abbrev pub piece_of : Part → Piece
piece_of p = (p.start, p.bytes.now)

-- the words that are left
abbrev pub words_left : Words → List Piece
words_left s = words (cuts_at s.cut) s.at (drop s.at s.text.now)

-- the first word that s has left begins at `start`: only bytes that cut stand before it
pub record StartsAt (s : Words) (start : ℕ) : Type 0 where
  pub begins : start ≡ s.at + run (λ b. not (cuts_at s.cut b)) (drop s.at s.text.now)
  pub inside : start < length s.text.now
  pub stops : cuts_at s.cut (slice_index s.text.now start) ≡ false
  pub same : words_left s ≡ words (cuts_at s.cut) start (drop start s.text.now)

-- w is the first word that s has left, and t stands at its end in the same text
pub record TakesWord (s : Words) (w : Part) (t : Words) : Type 0 where
  pub first : FirstWord (cuts_at s.cut) s.text.now s.at w.start t.at
  pub bytes : w.bytes.now ≡ part w.start t.at s.text.now
  pub text : t.text ≡ s.text
  pub cut : t.cut ≡ s.cut

-- a call from s gives the first of the words that are left, and leaves t with the others; where none is left it changes nothing
abbrev pub NextWord : Words → Option Part → Words → Type 0
NextWord s r t = YieldsFirstBy piece_of words_left s r t × MatchOption r (t ≡ s) (λ w. TakesWord s w t)

-- the lines of a text from a place on, if lines are left
abbrev pub lines_at : List ℕ → Option ℕ → List Piece
lines_at text None = []
lines_at text (Some i) = lines_from i (drop i text)

-- the lines that are left
abbrev pub lines_left : Lines → List Piece
lines_left s = lines_at s.text.now s.at
