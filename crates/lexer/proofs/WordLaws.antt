-- Runs of bytes that do not cut, and the words of a text. Assumes nothing.
use Rattle.std.proofs.Common.{◌≡◌, ℕ, suc, ◌+◌, ◌-◌, ◌<◌, ◌≤◌, Bool, true, false, cond, not, Option, List, [], ◌∷◌, length, get_or, take, drop, sym, refl, ap, ◌∙◌, subst, ⊎_elim, add-zero, arith, length-drop, length-take-le, get_or-drop, drop-drop}
use Rattle.std.proofs.lemmas.List.{drop_more, drop_all}
use Rattle.std.proofs.lemmas.Bool.{cases_Bool}
use Rattle.std.proofs.lemmas.Bool.Decides.{nat_tests}
use Rattle.std.proofs.lemmas.Grind.{common_steps}
use Rattle.std.proofs.lemmas.List.Sums.{prefix_len-le-length, prefix_len_stops}
use Rattle.std.proofs.lemmas.List.Recursion.{is_position_or_len}
use Rattle.std.specs.List.{position_or_len, position}
use Rattle.std.specs.Option.{unwrap_or}
use Rattle.lexer.specs.Text.{run, first_byte, pieces, placed, solid, words}
use Rattle.lexer.specs.Cuts.{part, WordAt}
use Rattle.lexer.specs.Headers.{last_byte}

module _ (cuts : ℕ → Bool) where
  -- a run is as long as the library's position of the first byte that cuts, or the whole text
  pub run_position : (bs : List ℕ) → run cuts bs ≡ position_or_len cuts bs
  run_position bs = is_position_or_len (run cuts) cuts refl (λ b bs. let e : suc (run cuts bs) ≡ 1 + run cuts bs = omega arith in ap (cond (cuts b) 0) e) bs

  pub run_le : (bs : List ℕ) → run cuts bs ≤ length bs
  run_le bs = omega (arith, run_position bs, prefix_len-le-length (λ b. not (cuts b)) bs)

  -- what the library finds, or the length where it finds nothing
  pub run_found : (bs : List ℕ) (found : Option ℕ) (r : ℕ) → found ≡ position cuts bs → r ≡ unwrap_or found (length bs) → r ≡ run cuts bs
  run_found bs found r e u =
      let is = run_position bs in
      let le = run_le bs in
      grind (arith, nat_tests)

  -- after a run comes a byte that cuts, or the end
  pub run_stops : (bs : List ℕ) → run cuts bs < length bs → cuts (get_or bs (run cuts bs) 0) ≡ true
  run_stops bs h = let is = run_position bs in grind (arith, common_steps, prefix_len_stops (λ b. not (cuts b)) bs 0)

  -- no run follows a run
  run_again : (bs : List ℕ) → run cuts (drop (run cuts bs) bs) ≡ 0
  run_again [] = refl
  run_again (b ∷ bs) = ⊎_elim (λ (e : cuts b ≡ true). simp e) (λ (e : cuts b ≡ false). simp e (run_again bs)) (cases_Bool (cuts b))

  run_some : (text : List ℕ) (i : ℕ) → i < length text → cuts (get_or text i 0) ≡ false → 0 < run cuts (drop i text)
  run_some text i h e = simp (drop_more text i 0 h, e) (omega arith)

  -- the end of the run that begins at a place of a text
  pub run_inside : (text : List ℕ) (from end : ℕ) → from ≤ length text → end ≡ from + run cuts (drop from text) → end ≤ length text
  run_inside text from end h e = omega (arith, run_le (drop from text), length-drop from text)

  pub run_stops_at : (text : List ℕ) (from end : ℕ) → end ≡ from + run cuts (drop from text) → end < length text → cuts (get_or text end 0) ≡ true
  run_stops_at text from end e h =
      let r = run cuts (drop from text) in
      let below : r < length (drop from text) = omega (arith, length-drop from text) in
      ap cuts (ap (λ k. get_or text k 0) e ∙ sym (get_or-drop from text r 0)) ∙ run_stops (drop from text) below

-- after a run of bytes that cut comes a byte that does not, or the end
pub run_ends_at : (cuts : ℕ → Bool) (text : List ℕ) (from end : ℕ) → end ≡ from + run (λ b. not (cuts b)) (drop from text) → end < length text → cuts (get_or text end 0) ≡ false
run_ends_at cuts text from end e h = grind (arith, run_stops_at (λ b. not (cuts b)) text from end e h)

-- the bytes of pieces, with one byte after each
abbrev pub extent : List (List ℕ) → ℕ
extent [] = 0
extent (p ∷ ps) = length p + 1 + extent ps

module _ (cuts : ℕ → Bool) where
  -- what the byte that ends a piece leaves
  abbrev pub later : List ℕ → List (List ℕ)
  later [] = []
  later (b ∷ bs) = pieces cuts bs

  pub pieces-run : (bs : List ℕ) → pieces cuts bs ≡ take (run cuts bs) bs ∷ later (drop (run cuts bs) bs)
  unfolding pieces
  pieces-run [] = refl
  pieces-run (b ∷ bs) =
      let more = pieces-run bs in
      elim (cuts b) as (λ t. cond t ([] ∷ pieces cuts bs) (first_byte b (pieces cuts bs)) ≡ take (cond t 0 (suc (run cuts bs))) (b ∷ bs) ∷ later (drop (cond t 0 (suc (run cuts bs))) (b ∷ bs))) [ true ↦ refl | false ↦ ap (first_byte b) more ]

  pub extent_pieces : (bs : List ℕ) → extent (pieces cuts bs) ≡ length bs + 1
  unfolding pieces
  extent_pieces [] = refl
  extent_pieces (b ∷ bs) =
      let more = extent_pieces bs in
      let cut = pieces-run bs in
      let on : extent (first_byte b (pieces cuts bs)) ≡ suc (length bs) + 1 = simp cut (omega (arith, simp cut at more)) in
      elim (cuts b) as (λ t. extent (cond t ([] ∷ pieces cuts bs) (first_byte b (pieces cuts bs))) ≡ suc (length bs) + 1) [ true ↦ omega arith | false ↦ on ]

  pub words_none : (at : ℕ) → words cuts at [] ≡ []
  unfolding words pieces placed solid
  words_none at = refl

  words_cut : (at b : ℕ) (bs : List ℕ) → cuts b ≡ true → words cuts at (b ∷ bs) ≡ words cuts (at + 1) bs
  unfolding words pieces placed solid
  words_cut at b bs e = simp (e, add-zero)

  -- bytes that cut, before a word, do not matter
  pub words_skip : (at : ℕ) (bs : List ℕ) → words cuts at bs ≡ words cuts (at + run (λ b. not (cuts b)) bs) (drop (run (λ b. not (cuts b)) bs) bs)
  words_skip at [] = simp add-zero
  words_skip at (b ∷ bs) =
      let r = run (λ b. not (cuts b)) bs in
      let step : at + 1 + r ≡ at + suc r = omega arith in
      ⊎_elim
      (λ (e : cuts b ≡ true). words_cut at b bs e ∙ words_skip (at + 1) bs ∙ ap (λ k. words cuts k (drop r bs)) step ∙ simp e)
      (λ (e : cuts b ≡ false). simp (e, add-zero))
      (cases_Bool (cuts b))

  words_stop : (at : ℕ) (bs : List ℕ) → run cuts bs ≡ 0 → words cuts at bs ≡ solid (placed (at + 1) (later bs))
  unfolding words placed solid
  words_stop at bs e = simp (pieces-run bs, e, add-zero)

  -- a text that begins with a word: the word, and those after it
  pub words_take : (at b : ℕ) (bs : List ℕ) → cuts b ≡ false → words cuts at (b ∷ bs) ≡ (at, take (run cuts (b ∷ bs)) (b ∷ bs)) ∷ words cuts (at + run cuts (b ∷ bs)) (drop (run cuts (b ∷ bs)) (b ∷ bs))
  unfolding words placed solid
  words_take at b bs e =
      let m = run cuts bs in
      let long : length (take m bs) ≡ m = length-take-le m bs (run_le cuts bs) in
      let front : words cuts at (b ∷ bs) ≡ (at, b ∷ take m bs) ∷ solid (placed (at + suc m + 1) (later (drop m bs))) = simp (pieces-run (b ∷ bs), e, long) in
      let back = words_stop (at + suc m) (drop m bs) (run_again cuts bs) in
      front ∙ ap (λ ws. (at, b ∷ take m bs) ∷ ws) (sym back) ∙ simp e

  pub words_from : (text : List ℕ) (from start : ℕ) → start ≡ from + run (λ b. not (cuts b)) (drop from text) → words cuts from (drop from text) ≡ words cuts start (drop start text)
  words_from text from start e =
      let r = run (λ b. not (cuts b)) (drop from text) in
      words_skip from (drop from text) ∙ ap (λ ds. words cuts (from + r) ds) (drop-drop r from text) ∙ ap (λ k. words cuts k (drop k text)) (sym e)

  pub no_word : (text : List ℕ) (from start : ℕ) → start ≡ from + run (λ b. not (cuts b)) (drop from text) → length text ≤ start → words cuts from (drop from text) ≡ []
  no_word text from start e h = words_from text from start e ∙ ap (words cuts start) (drop_all start text h) ∙ words_none start

  pub word_at : (text : List ℕ) (start end : ℕ) → end ≡ start + run cuts (drop start text) → start < length text → cuts (get_or text start 0) ≡ false → WordAt cuts text start end
  word_at text start end e h letter =
      let n = run cuts (drop start text) in
      let size : n ≡ end - start = omega arith in
      let P : List ℕ → Type 0 = λ bs. words cuts start bs ≡ (start, take (run cuts bs) bs) ∷ words cuts (start + run cuts bs) (drop (run cuts bs) bs) in
      let split : P (drop start text) = subst P (sym (drop_more text start 0 h)) (words_take start (get_or text start 0) (drop (start + 1) text) letter) in
      record {
        some = omega (arith, run_some cuts text start h letter);
        inside = run_inside cuts text start end (omega arith) e;
        ends = e;
        split = split ∙ ap (λ ds. (start, take n (drop start text)) ∷ words cuts (start + n) ds) (drop-drop n start text) ∙ ap (λ k. (start, take n (drop start text)) ∷ words cuts k (drop k text)) (sym e) ∙ ap (λ k. (start, take k (drop start text)) ∷ words cuts end (drop end text)) size;
      }

  -- a word to the end of a text has no byte that cuts, and neither has its last byte
  pub last_word : (bs : List ℕ) → run cuts bs ≡ length bs → 0 < length bs → cuts (last_byte bs) ≡ false
  last_word [] e h = absurd (omega arith)
  last_word (b ∷ []) e h = ⊎_elim (λ (t : cuts b ≡ true). let z : 0 ≡ 1 = simp t at e in absurd (omega arith)) (λ t. t) (cases_Bool (cuts b))
  last_word (b ∷ c ∷ bs) e h =
      ⊎_elim
      (λ (t : cuts b ≡ true). let z : 0 ≡ suc (suc (length bs)) = simp t at e in absurd (omega arith))
      (λ (t : cuts b ≡ false). let more : suc (run cuts (c ∷ bs)) ≡ suc (suc (length bs)) = simp t at e in last_word (c ∷ bs) (omega arith) (omega arith))
      (cases_Bool (cuts b))

  -- where there is no word, each byte cuts
  pub last_cut : (at : ℕ) (bs : List ℕ) → words cuts at bs ≡ [] → 0 < length bs → cuts (last_byte bs) ≡ true
  last_cut at [] e h = absurd (omega arith)
  last_cut at (b ∷ []) e h =
      ⊎_elim (λ t. t) (λ (t : cuts b ≡ false). let some = words_take at b [] t in cc) (cases_Bool (cuts b))
  last_cut at (b ∷ c ∷ bs) e h =
      ⊎_elim
      (λ (t : cuts b ≡ true). last_cut (at + 1) (c ∷ bs) (sym (words_cut at b (c ∷ bs) t) ∙ e) (omega arith))
      (λ (t : cuts b ≡ false). let some = words_take at b (c ∷ bs) t in cc)
      (cases_Bool (cuts b))

-- a part of a text has as many bytes as stand between its ends
pub part_end : (text : List ℕ) (start end : ℕ) → start ≤ end → end ≤ length text → start + length (part start end text) ≡ end
part_end text start end h i =
    let long : length (part start end text) ≡ end - start = length-take-le (end - start) (drop start text) (omega (arith, length-drop start text)) in
    omega arith
