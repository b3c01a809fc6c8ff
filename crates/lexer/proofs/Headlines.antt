-- What the words of a header line say. Assumes nothing.
use Rattle.std.proofs.Common.{◌==◌, ⊎_elim, ◌≡◌, ℕ, zero, suc, ◌+◌, ◌<◌, Bool, true, false, cond, not, List, [], ◌∷◌, length, drop, None, Bor, sym, refl, ap, ◌∙◌, arith, length-drop}
use Rattle.std.proofs.Math.Bool.{not-not}
use Rattle.std.proofs.lemmas.List.{drop_all}
use Rattle.std.proofs.lemmas.Grind.{common_steps}
use Rattle.std.proofs.lemmas.Bool.{eqb-true, eqb-false, cases_Bool, cond-true, cond-false}
use Rattle.std.specs.Str.{bytes_eq}
use Rattle.lexer.specs.Text.{Piece, is_blank, run, words}
use Rattle.lexer.specs.Cuts.{cuts_at, FirstWord}
use Rattle.lexer.specs.Parts.{piece_of, words_left, TakesWord}
use Rattle.lexer.specs.declared.part.Part.{Part}
use Rattle.lexer.specs.declared.pieces.Cut.TheVariants.{Blank}
use Rattle.lexer.specs.declared.words.Words.{Words}
use Rattle.lexer.specs.Headers.{last_byte, fields, fields_of}
use Rattle.lexer.proofs.WordLaws.{words_none, last_word, last_cut, part_end}

last-drop : (bs : List ℕ) (i : ℕ) → i < length bs → last_byte (drop i bs) ≡ last_byte bs
last-drop bs zero h = refl
last-drop [] (suc i) h = absurd (omega arith)
last-drop (b ∷ []) (suc i) h = absurd (omega arith)
last-drop (b ∷ c ∷ bs) (suc i) h = last-drop (c ∷ bs) i (omega arith)

-- what `!=` on slices of bytes says, the second of which is ys
pub same_from_ne : (xs ys slice : List ℕ) (r : Bool) → slice ≡ ys → r ≡ not (bytes_eq xs slice) → bytes_eq xs ys ≡ not r
same_from_ne xs ys slice r is told = ap (bytes_eq xs) (sym is) ∙ sym (not-not (bytes_eq xs slice)) ∙ ap not (sym told)

-- w is the first word of a line at `from` or later, and ws are the words after it
pub record WordIn (line : List ℕ) (from : ℕ) (w : Piece) (ws : List Piece) : Type 0 where
  pub first : FirstWord is_blank line from w.0 (w.0 + length w.1)
  pub left : ws ≡ words is_blank (w.0 + length w.1) (drop (w.0 + length w.1) line)

pub word_in : (line : List ℕ) (s : Words) (w : Part) (t : Words) → s.text.now ≡ line → s.cut ≡ Blank → TakesWord s w t → WordIn line s.at (piece_of w) (words_left t)
word_in line s w t here blank k =
    let text : t.text.now ≡ line = ap (λ (text : Bor (List ℕ)). text.now) k.text ∙ here in
    let cut : t.cut ≡ Blank = k.cut ∙ blank in
    let first : FirstWord is_blank line s.at w.start t.at = rw (← here, ← ap cuts_at blank) k.first in
    let end : w.start + length w.bytes.now ≡ t.at = ap (λ (bs : List ℕ). w.start + length bs) k.bytes ∙ rw here (part_end line w.start t.at (omega (arith, first.some)) first.inside) in
    record { first = rw end first; left = rw (end, text, cut) refl }

-- a line begins with four words, and `others` come after them
module _ (line : List ℕ) (from : ℕ) (w₁ w₂ w₃ w₄ : Piece) (others : List Piece) (all : words is_blank 0 line ≡ w₁ ∷ w₂ ∷ w₃ ∷ w₄ ∷ others) (last : WordIn line from w₄ others) where
  abbrev end : ℕ
  end = w₄.0 + length w₄.1

  more_words : (ws : List Piece) → others ≡ ws → end < length line → fields_of line ≡ None
  unfolding fields_of
  more_words [] e h =
      let left : 0 < length (drop end line) = omega (arith, length-drop end line) in
      let blank : is_blank (last_byte line) ≡ true = ap is_blank (sym (last-drop line end h)) ∙ last_cut is_blank end (drop end line) (sym last.left ∙ e) left in
      cond-true _ _ _ blank
  more_words (w ∷ ws) e h = grind (arith, common_steps)

  four_words : end ≡ length line → fields_of line ≡ fields (w₁ ∷ w₂ ∷ w₃ ∷ w₄ ∷ [])
  unfolding fields_of
  four_words e =
      let some = last.first.some in
      let size : run is_blank (drop w₄.0 line) ≡ length (drop w₄.0 line) = omega (arith, last.first.ends, length-drop w₄.0 line) in
      let left : 0 < length (drop w₄.0 line) = omega (arith, length-drop w₄.0 line) in
      let inside : w₄.0 < length line = omega arith in
      let solid-end : is_blank (last_byte line) ≡ false = ap is_blank (sym (last-drop line w₄.0 inside)) ∙ last_word is_blank (drop w₄.0 line) size left in
      let none : others ≡ [] = last.left ∙ ap (words is_blank end) (drop_all end line (omega arith)) ∙ words_none is_blank end in
      cond-false _ _ _ solid-end ∙ ap fields (all ∙ ap (λ ws. w₁ ∷ w₂ ∷ w₃ ∷ w₄ ∷ ws) none)

  -- the line says what the four words say, if the last of them ends it
  pub fields_four : fields_of line ≡ cond (end == length line) (fields (w₁ ∷ w₂ ∷ w₃ ∷ w₄ ∷ [])) None
  fields_four =
      let inside = last.first.inside in
      ⊎_elim
      (λ (t : (end == length line) ≡ true). four_words (eqb-true _ _ t) ∙ sym (cond-true _ _ _ t))
      (λ (t : (end == length line) ≡ false). let other = eqb-false _ _ t in more_words others refl (omega arith) ∙ sym (cond-false _ _ _ t))
      (cases_Bool (end == length line))
