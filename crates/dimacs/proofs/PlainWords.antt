-- A text that begins with a word: its pieces, its words, its lines, and the numbers that it writes. Assumes nothing.
use Rattle.std.proofs.Common.{◌≡◌, ℕ, ◌+◌, ◌≤◌, Bool, true, false, List, [], ◌∷◌, ◌++◌, length, ℤ, Some, sym, refl, ap, ◌∙◌, ap₂, arith}
use Rattle.std.proofs.lemmas.Bool.{cond-true, cond-false}
use Rattle.std.specs.List.{AllByRecursion}
use Rattle.lexer.specs.Cuts.{cuts_at}
use Rattle.lexer.specs.Headers.{last_byte}
use Rattle.lexer.specs.Numerals.{number_of}
use Rattle.lexer.specs.Text.{is_line_end, is_separator, first_byte, pieces, placed, solid, words, lines_from, tokens_from}
use Rattle.lexer.specs.declared.pieces.Cut.TheVariants.{Space}
use Rattle.lexer.proofs.Tokens.{tokens_none, tokens_words}
use Rattle.dimacs.specs.Denoting.{and_then, numbers_of}

module _ (cuts : ℕ → Bool) where
  -- no byte of these cuts
  abbrev pub Whole : List ℕ → Type 0
  Whole bs = AllByRecursion (λ b. cuts b ≡ false) bs

  pieces_front : (w : List ℕ) (b : ℕ) (rest : List ℕ) → Whole w → cuts b ≡ true → pieces cuts (w ++ b ∷ rest) ≡ w ∷ pieces cuts rest
  unfolding pieces
  pieces_front [] b rest h c = cond-true (cuts b) _ _ c
  pieces_front (a ∷ w) b rest h c = cond-false (cuts a) _ _ h.0 ∙ ap (first_byte a) (pieces_front w b rest h.1 c)

  pieces_whole : (w : List ℕ) → Whole w → pieces cuts w ≡ w ∷ []
  unfolding pieces
  pieces_whole [] h = refl
  pieces_whole (a ∷ w) h = cond-false (cuts a) _ _ h.0 ∙ ap (first_byte a) (pieces_whole w h.1)

  pub words_front : (at : ℕ) (w : List ℕ) (b : ℕ) (rest : List ℕ) → 1 ≤ length w → Whole w → cuts b ≡ true
      → words cuts at (w ++ b ∷ rest) ≡ (at, w) ∷ words cuts (at + length w + 1) rest
  unfolding words placed solid
  words_front at [] b rest some h c = absurd (omega arith)
  words_front at (a ∷ w) b rest some h c = ap (λ ps. solid (placed at ps)) (pieces_front (a ∷ w) b rest h c)

  pub words_whole : (at : ℕ) (w : List ℕ) → 1 ≤ length w → Whole w → words cuts at w ≡ (at, w) ∷ []
  unfolding words placed solid
  words_whole at [] some h = absurd (omega arith)
  words_whole at (a ∷ w) some h = ap (λ ps. solid (placed at ps)) (pieces_whole (a ∷ w) h)

  -- the last byte of a text that ends with a word does not cut
  pub last_whole : (front w : List ℕ) → 1 ≤ length w → Whole w → cuts (last_byte (front ++ w)) ≡ false
  last_whole [] [] some h = absurd (omega arith)
  last_whole [] (b ∷ []) some h = h.0
  last_whole [] (b ∷ c ∷ w) some h = last_whole [] (c ∷ w) (omega arith) h.1
  last_whole (a ∷ front) [] some h = absurd (omega arith)
  last_whole (a ∷ []) (b ∷ w) some h = last_whole [] (b ∷ w) some h
  last_whole (a ∷ c ∷ front) (b ∷ w) some h = last_whole (c ∷ front) (b ∷ w) some h

pub lines_front : (at : ℕ) (line rest : List ℕ) → Whole is_line_end line → lines_from at (line ++ 10 ∷ rest) ≡ (at, line) ∷ lines_from (at + length line + 1) rest
unfolding lines_from placed
lines_front at line rest h = ap (placed at) (pieces_front is_line_end line 10 rest h refl)

-- a text that writes these numbers, wherever it begins
abbrev pub Writes : List ℕ → List ℤ → Type 0
Writes bs zs = (at : ℕ) → numbers_of (tokens_from at bs) ≡ Some zs

pub writes_none : Writes [] []
unfolding numbers_of
writes_none at = ap numbers_of (tokens_none at)

pub writes_more : (w : List ℕ) (b : ℕ) (rest : List ℕ) (z : ℤ) (zs : List ℤ) → 1 ≤ length w → Whole is_separator w → is_separator b ≡ true
    → number_of w ≡ Some z → Writes rest zs → Writes (w ++ b ∷ rest) (z ∷ zs)
unfolding numbers_of
writes_more w b rest z zs some h c e more at =
    let next = at + length w + 1 in
    ap numbers_of (tokens_words at (w ++ b ∷ rest) ∙ words_front (cuts_at Space) at w b rest some h c ∙ ap (λ ts. (at, w) ∷ ts) (sym (tokens_words next rest)))
    ∙ ap₂ and_then e (more next)
