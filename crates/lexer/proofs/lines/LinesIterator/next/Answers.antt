use Rattle.std.proofs.Common.{◌≡◌, ℕ, List, ◌+◌, ◌∷◌, ◌<◌, ◌≤◌, length, Some, None, sym, ap, ap₂, ◌∙◌, rules, tests}
use Rattle.lexer.specs.Cuts.{part}
use Rattle.lexer.specs.Parts.{lines_left, lines_at}
use Rattle.lexer.proofs.LineLaws.{lines_step}
use Rattle.lexer.proofs.lines.LinesIterator.next.Goals as goal

pub returns : goal.returns
returns c =
    let text = c.args.self.now.text.now in
    let start = c.in_ok-start.start in
    let end = c.piece_end-end.result in
    let is : c.args.self.now.at ≡ Some start = search rules in
    let inside : start ≤ length text = search rules in
    let next = c.then_some-self.result in
    let more : end < length text → next ≡ Some (end + 1) = λ k. search (rules, tests) in
    let none : length text ≤ end → next ≡ None = λ k. search (rules, tests) in
    let step : lines_left c.args.self.now ≡ (start, part start end text) ∷ lines_at text next =
    ap (lines_at text) is ∙ lines_step text start end inside c.piece_end-end.ensures.value next more none in
    let shorter = ap length step in
    record { steps = step ∙ ap₂ (λ (n : ℕ) (bs : List ℕ). (n, bs) ∷ lines_at text next) (sym c.cut.ensures.place) (sym c.cut.ensures.bytes); goes = search rules }
