-- What a text says, by its header and its tokens. Assumes nothing.
use Rattle.std.proofs.Common.{◌≡◌, ℕ, ◌+◌, ◌<◌, ◌≤◌, ◌&&◌, leb, List, [], length, drop, Some, None, Option, ap, ◌∙◌}
use Rattle.std.proofs.lemmas.Bool.{cond-true, cond-false, le-leb, lt-leb, leb-true, and_from, and_parts, false_from_ne_true}
use Rattle.cases.specs.declared.fault.OpenFault.TheVariants.{Points}
use Rattle.lexer.specs.Cuts.{part}
use Rattle.lexer.specs.Headers.{headed, header_of, HeaderAt}
use Rattle.lexer.specs.Text.{Piece, lines_from, tokens_from}
use Rattle.lexer.specs.declared.headers.Header.{Header}
use Rattle.dimacs.specs.Reading.{refused, begun, body, from_header, from_line, reading}
use Rattle.dimacs.specs.declared.fault.Cause.TheVariants.{Long, Header as BadHeader, Open}

module _ (rows : ℕ) (text : List ℕ) where
  pub reading_long : 16384 < length text → reading rows text ≡ refused [] Long 16384
  unfolding reading
  reading_long h =
      cond-false _ _ _ (lt-leb (length text) 16384 h)

  reading_line : length text ≤ 16384 → (o : Option (Piece × List Piece)) → headed (lines_from 0 text) ≡ o → reading rows text ≡ from_line rows (length text) o
  unfolding reading
  reading_line h o e =
      cond-true _ _ _ (le-leb (length text) 16384 h) ∙ ap (from_line rows (length text)) e

  pub reading_comments : length text ≤ 16384 → headed (lines_from 0 text) ≡ None → reading rows text ≡ refused [] BadHeader (length text)
  reading_comments h e = reading_line h None e

  reading_header : length text ≤ 16384 → (start end : ℕ) (at : HeaderAt text start end) (o : Option Header) → header_of (part start end text) ≡ o
      → reading rows text ≡ from_header rows (length text) start at.after o
  reading_header h start end at o e =
      reading_line h (Some ((start, part start end text), at.after)) at.first ∙ ap (from_header rows (length text) start at.after) e

  pub reading_bad : length text ≤ 16384 → (start end : ℕ) → HeaderAt text start end → header_of (part start end text) ≡ None → reading rows text ≡ refused [] BadHeader start
  reading_bad h start end at e = reading_header h start end at None e

  pub reading_points : length text ≤ 16384 → (start end : ℕ) → HeaderAt text start end → (d : Header) → header_of (part start end text) ≡ Some d
      → (1 ≤ d.points → d.points ≤ 64 → ⊥) → reading rows text ≡ refused [] (Open Points) (start + d.points_at)
  reading_points h start end at d e out =
      reading_header h start end at (Some d) e
      ∙ cond-false _ _ _
      (false_from_ne_true (leb 1 d.points && leb d.points 64) (λ t. let b = and_parts (leb 1 d.points) (leb d.points 64) t in out (leb-true 1 d.points b.0) (leb-true d.points 64 b.1)))

  pub reading_body : length text ≤ 16384 → (start end : ℕ) → HeaderAt text start end → (d : Header) → header_of (part start end text) ≡ Some d
      → 1 ≤ d.points → d.points ≤ 64
      → reading rows text ≡ body d.points d.clauses rows (length text) (tokens_from end (drop end text)) begun
  reading_body h start end at d e low high =
      reading_header h start end at (Some d) e
      ∙ cond-true _ _ _ (and_from (leb 1 d.points) (leb d.points 64) (le-leb 1 d.points low) (le-leb d.points 64 high))
      ∙ ap (λ (ts : List Piece). body d.points d.clauses rows (length text) ts begun) at.rest
