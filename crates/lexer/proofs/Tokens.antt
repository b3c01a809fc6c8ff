-- The tokens of a text: its lines cut at spaces are the text cut at each separator. Assumes nothing.
use Rattle.std.proofs.Common.{◌≡◌, ℕ, ◌+◌, true, false, cond, ◌||◌, List, [], ◌∷◌, ◌++◌, length, take, drop, sym, refl, ap, ◌∙◌, add-zero, arith}
use Rattle.lexer.specs.Text.{Piece, is_line_end, is_space, is_separator, run, first_byte, pieces, placed, keep, solid, words, lines_from, tokens, tokens_from}
use Rattle.lexer.specs.Cuts.{cuts_at}
use Rattle.lexer.specs.declared.pieces.Cut.TheVariants.{Space}
use Rattle.lexer.proofs.WordLaws.{later, pieces-run, extent, extent_pieces, words_none}

keep_append : (at : ℕ) (p : List ℕ) (ps qs : List Piece) → keep at p (ps ++ qs) ≡ keep at p ps ++ qs
keep_append at [] ps qs = refl
keep_append at (b ∷ bs) ps qs = refl

solid-append : (ps qs : List Piece) → solid (ps ++ qs) ≡ solid ps ++ solid qs
unfolding solid
solid-append [] qs = refl
solid-append (p ∷ ps) qs = ap (keep p.0 p.1) (solid-append ps qs) ∙ keep_append p.0 p.1 (solid ps) (solid qs)

placed-append : (at : ℕ) (ps qs : List (List ℕ)) → placed at (ps ++ qs) ≡ placed at ps ++ placed (at + extent ps) qs
unfolding placed
placed-append at [] qs = simp add-zero
placed-append at (p ∷ ps) qs =
    let next : at + length p + 1 + extent ps ≡ at + (length p + 1 + extent ps) = omega arith in
    ap (λ rs. (at, p) ∷ rs) (placed-append (at + length p + 1) ps qs ∙ ap (λ k. placed (at + length p + 1) ps ++ placed k qs) next)

-- lines, cut at spaces
splits : List (List ℕ) → List (List ℕ)
splits [] = []
splits (p ∷ ps) = pieces is_space p ++ splits ps

first-append : (b : ℕ) (p : List ℕ) (ps : List (List ℕ)) → first_byte b (pieces is_space p ++ ps) ≡ first_byte b (pieces is_space p) ++ ps
first-append b p ps = simp (pieces-run is_space p)

splits_first : (b : ℕ) (p : List ℕ) (ps : List (List ℕ)) → splits ((b ∷ p) ∷ ps) ≡ cond (is_space b) ([] ∷ splits (p ∷ ps)) (first_byte b (splits (p ∷ ps)))
unfolding splits pieces
splits_first b p ps =
    elim (is_space b) as (λ t. cond t ([] ∷ pieces is_space p) (first_byte b (pieces is_space p)) ++ splits ps ≡ cond t ([] ∷ (pieces is_space p ++ splits ps)) (first_byte b (pieces is_space p ++ splits ps))) [ true ↦ refl | false ↦ sym (first-append b p (splits ps)) ]

-- a line end cuts, and any other byte cuts as a space does
splits_lines : (bs : List ℕ) → splits (pieces is_line_end bs) ≡ pieces is_separator bs
unfolding splits pieces
splits_lines [] = refl
splits_lines (b ∷ bs) =
    let cut = pieces-run is_line_end bs in
    let more = splits_lines bs in
    let ps = pieces is_separator bs in
    let on : splits (first_byte b (pieces is_line_end bs)) ≡ cond (is_space b) ([] ∷ ps) (first_byte b ps) =
    ap (λ q. splits (first_byte b q)) cut
    ∙ splits_first b (take (run is_line_end bs) bs) (later is_line_end (drop (run is_line_end bs) bs))
    ∙ ap (λ q. cond (is_space b) ([] ∷ q) (first_byte b q)) (ap splits (sym cut) ∙ more) in
    let ended : [] ∷ ps ≡ cond (is_space b || true) ([] ∷ ps) (first_byte b ps) =
    elim (is_space b) as (λ t. [] ∷ ps ≡ cond (t || true) ([] ∷ ps) (first_byte b ps)) [ true ↦ refl | false ↦ refl ] in
    let inner : cond (is_space b) ([] ∷ ps) (first_byte b ps) ≡ cond (is_space b || false) ([] ∷ ps) (first_byte b ps) =
    elim (is_space b) as (λ t. cond t ([] ∷ ps) (first_byte b ps) ≡ cond (t || false) ([] ∷ ps) (first_byte b ps)) [ true ↦ refl | false ↦ refl ] in
    elim (is_line_end b) as (λ t. splits (cond t ([] ∷ pieces is_line_end bs) (first_byte b (pieces is_line_end bs))) ≡ cond (is_space b || t) ([] ∷ ps) (first_byte b ps)) [ true ↦ ap (λ q. [] ∷ q) more ∙ ended | false ↦ on ∙ inner ]

tokens_placed : (at : ℕ) (ps : List (List ℕ)) → tokens (placed at ps) ≡ solid (placed at (splits ps))
unfolding tokens placed splits solid words
tokens_placed at [] = refl
tokens_placed at (p ∷ ps) =
    let next = at + length p + 1 in
    let size : at + extent (pieces is_space p) ≡ next = omega (arith, extent_pieces is_space p) in
    ap (λ ts. words is_space at p ++ ts) (tokens_placed next ps)
    ∙ sym (solid-append (placed at (pieces is_space p)) (placed next (splits ps)))
    ∙ ap (λ k. solid (placed at (pieces is_space p) ++ placed k (splits ps))) (sym size)
    ∙ ap solid (sym (placed-append at (pieces is_space p) (splits ps)))

-- the tokens of a text are its words between separators
pub tokens_words : (at : ℕ) (bs : List ℕ) → tokens_from at bs ≡ words (cuts_at Space) at bs
unfolding tokens_from lines_from words
tokens_words at bs = tokens_placed at (pieces is_line_end bs) ∙ ap (λ ps. solid (placed at ps)) (splits_lines bs)

pub tokens_none : (at : ℕ) → tokens_from at [] ≡ []
tokens_none at = tokens_words at [] ∙ words_none (cuts_at Space) at

-- a line end before the tokens does not matter
pub tokens_line_end : (at b : ℕ) (bs : List ℕ) → is_line_end b ≡ true → tokens_from at (b ∷ bs) ≡ tokens_from (at + 1) bs
unfolding tokens_from lines_from tokens words pieces placed solid
tokens_line_end at b bs e = simp (e, add-zero)
