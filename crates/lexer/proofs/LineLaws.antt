-- The lines of a text, one after another. Assumes nothing.
use Rattle.std.proofs.Common.{◌≡◌, ℕ, zero, suc, ◌+◌, ◌-◌, ◌<◌, ◌≤◌, true, false, not, List, [], ◌∷◌, length, get_or, take, drop, Some, None, Option, IfSome, MatchOption, sym, refl, ap, ◌∙◌, subst, ⊎_elim, arith, length-take-le, drop-drop}
use Rattle.std.proofs.lemmas.List.{drop_more, drop_all}
use Rattle.std.specs.List.{find}
use Rattle.std.proofs.lemmas.Bool.{cases_Bool, cases_lt, cond-true, cond-false}
use Rattle.lexer.specs.Text.{Piece, is_line_end, run, placed, lines_from, tokens, tokens_from}
use Rattle.lexer.specs.Cuts.{part}
use Rattle.lexer.specs.Parts.{lines_at}
use Rattle.lexer.specs.Headers.{begins_with, headed, HeaderAt}
use Rattle.lexer.proofs.WordLaws.{run_le, run_stops_at, run_inside, later, pieces-run, part_end}
use Rattle.lexer.proofs.Tokens.{tokens_none, tokens_line_end}

-- `end` is where the line that begins at `start` ends
module _ (text : List ℕ) (start end : ℕ) (h : start ≤ length text) (e : end ≡ start + run is_line_end (drop start text)) where
  -- the lines after this one
  abbrev pub others : List Piece
  others = placed (end + 1) (later is_line_end (drop end text))

  first_line : lines_from start (drop start text) ≡ (start, part start end text) ∷ others
  unfolding lines_from placed
  first_line =
      let ds = drop start text in
      let n = run is_line_end ds in
      let long : length (take n ds) ≡ n = length-take-le n ds (run_le is_line_end ds) in
      let size : n ≡ end - start = omega arith in
      ap (placed start) (pieces-run is_line_end ds)
      ∙ ap (λ k. (start, take n ds) ∷ placed (start + k + 1) (later is_line_end (drop n ds))) long
      ∙ ap (λ bs. (start, take n ds) ∷ placed (start + n + 1) (later is_line_end bs)) (drop-drop n start text)
      ∙ ap (λ k. (start, take n ds) ∷ placed (k + 1) (later is_line_end (drop k text))) (sym e)
      ∙ ap (λ k. (start, take k ds) ∷ others) size

  others_more : end < length text → others ≡ lines_from (end + 1) (drop (end + 1) text)
  unfolding lines_from
  others_more k = ap (λ bs. placed (end + 1) (later is_line_end bs)) (drop_more text end 0 k)

  others_none : length text ≤ end → others ≡ []
  unfolding placed
  others_none k = ap (λ bs. placed (end + 1) (later is_line_end bs)) (drop_all end text k)

  others_tokens : tokens others ≡ tokens_from end (drop end text)
  unfolding tokens_from tokens
  others_tokens =
      ⊎_elim
      (λ (k : end < length text). ap tokens (others_more k) ∙ sym (tokens_line_end end (get_or text end 0) (drop (end + 1) text) (run_stops_at is_line_end text start end e k)) ∙ ap (tokens_from end) (sym (drop_more text end 0 k)))
      (λ (k : length text ≤ end). ap tokens (others_none k) ∙ sym (ap (tokens_from end) (drop_all end text k) ∙ tokens_none end))
      (cases_lt end (length text))

  -- a comment is passed over
  pub comment_more : begins_with 99 (part start end text) ≡ true → end < length text → headed (lines_from start (drop start text)) ≡ headed (lines_from (end + 1) (drop (end + 1) text))
  unfolding headed
  comment_more b k = ap headed first_line ∙ cond-true _ _ _ b ∙ ap headed (others_more k)

  pub comment_last : begins_with 99 (part start end text) ≡ true → length text ≤ end → headed (lines_from start (drop start text)) ≡ None
  unfolding headed
  comment_last b k = ap headed first_line ∙ cond-true _ _ _ b ∙ ap headed (others_none k)

  -- any other line is the header line
  pub header_here : headed (lines_from start (drop start text)) ≡ headed (lines_from 0 text) → begins_with 99 (part start end text) ≡ false → HeaderAt text start end
  unfolding headed
  header_here same b = record {
    after = others;
    first = sym same ∙ ap headed first_line ∙ cond-false _ _ _ b;
    ordered = omega arith;
    inside = run_inside is_line_end text start end h e;
    rest = others_tokens;
  }

  -- a step of the lines: this line, and then those after it
  pub lines_step : (next : Option ℕ) → (end < length text → next ≡ Some (end + 1)) → (length text ≤ end → next ≡ None) → lines_from start (drop start text) ≡ (start, part start end text) ∷ lines_at text next
  lines_step next more none =
      ⊎_elim
      (λ (k : end < length text). first_line ∙ ap (λ (ls : List Piece). (start, part start end text) ∷ ls) (others_more k ∙ ap (lines_at text) (sym (more k))))
      (λ (k : length text ≤ end). first_line ∙ ap (λ (ls : List Piece). (start, part start end text) ∷ ls) (others_none k ∙ ap (lines_at text) (sym (none k))))
      (cases_lt end (length text))

-- the first line that is no comment, among those that begin at a place
module _ (text : List ℕ) where
  -- a piece that is the header line of the text
  abbrev pub Headline : Piece → Type 0
  Headline l = HeaderAt text l.0 (l.0 + length l.1) × (l.1 ≡ part l.0 (l.0 + length l.1) text)

  abbrev Leads : Option (Piece × List Piece) → Type 0
  Leads o = IfSome o (λ p. Headline p.0)

  abbrev AtHeader : ℕ → Type 0
  AtHeader at = headed (lines_from at (drop at text)) ≡ headed (lines_from 0 text)

  -- by the line that begins at `at`, and then the one after it
  one_line : (at : ℕ) → at ≤ length text → AtHeader at → (at + run is_line_end (drop at text) < length text → (next : ℕ) → next ≡ at + run is_line_end (drop at text) + 1 → AtHeader next → Leads (headed (lines_from next (drop next text)))) → Leads (headed (lines_from at (drop at text)))
  unfolding headed
  one_line at h same go =
      let end = at + run is_line_end (drop at text) in
      let size = part_end text at end (omega arith) (run_inside is_line_end text at end h refl) in
      ⊎_elim
      (λ (b : begins_with 99 (part at end text) ≡ true).
      ⊎_elim
      (λ (k : end < length text). let more = comment_more text at end h refl b k in subst Leads (sym more) (go k (end + 1) refl (sym more ∙ same)))
      (λ (k : length text ≤ end). subst Leads (sym (comment_last text at end h refl b k)) tt)
      (cases_lt end (length text)))
      (λ (b : begins_with 99 (part at end text) ≡ false).
      let P : ℕ → Type 0 = λ e. HeaderAt text at e × (part at end text ≡ part at e text) in
      subst Leads (sym (ap headed (first_line text at end h refl) ∙ cond-false _ _ _ b)) (subst P (sym size) (header_here text at end h refl same b, refl)))
      (cases_Bool (begins_with 99 (part at end text)))

  leads_from : (n at : ℕ) → at ≤ length text → length text ≤ at + n → AtHeader at → Leads (headed (lines_from at (drop at text)))
  leads_from zero at h few same = one_line at h same (λ k next is same'. absurd (omega arith))
  leads_from (suc n) at h few same = one_line at h same (λ k next is same'. leads_from n next (omega arith) (omega arith) same')

  -- the first of the lines that pass, if it has one
  headed_find : (ls : List Piece) (o : Option Piece) → o ≡ find (λ l. not (begins_with 99 l.1)) ls → Leads (headed ls) → MatchOption o (headed ls ≡ None) Headline
  unfolding headed
  headed_find [] None e h = refl
  headed_find [] (Some l) e h = cc
  headed_find (l ∷ ls) o e h =
      ⊎_elim
      (λ (b : begins_with 99 l.1 ≡ true). simp b (headed_find ls o (simp b at e) (simp b at h)))
      (λ (b : begins_with 99 l.1 ≡ false). subst (λ (p : Option Piece). MatchOption p (headed (l ∷ ls) ≡ None) Headline) (sym (simp b at e)) (simp b at h))
      (cases_Bool (begins_with 99 l.1))

  -- what is found among the lines of the text
  pub header_found : (o : Option Piece) → o ≡ find (λ l. not (begins_with 99 l.1)) (lines_from 0 text) → MatchOption o (headed (lines_from 0 text) ≡ None) Headline
  header_found o e = headed_find (lines_from 0 text) o e (leads_from (length text) 0 (omega arith) (omega arith) refl)
