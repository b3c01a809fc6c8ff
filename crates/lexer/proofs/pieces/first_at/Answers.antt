use Rattle.std.proofs.Common.{◌≡◌, ◌+◌, drop, ap, ◌∙◌, arith}
use Rattle.std.proofs.lemmas.Grind.{common_steps}
use Rattle.std.proofs.lemmas.Iterator.{YieldsList-from_slice}
use Rattle.std.proofs.lemmas.Iterator.Search.{position_from_yields_List}
use Rattle.lexer.specs.Text.{run}
use Rattle.lexer.proofs.WordLaws.{run_found}
use Rattle.lexer.proofs.pieces.first_at.Goals as goal

pub returns : goal.returns
returns g c = λ test computes.
    let rest : c.unwrap_or-rest.result.now ≡ drop c.args.from c.args.text.now = grind (arith, common_steps) in
    let bs = c.unwrap_or-rest.result.now in
    let found = position_from_yields_List test _ _ c.position.result c.position.ensures.ran (YieldsList-from_slice bs (cc)) (λ x b q k. computes x b q k) in
    let r : c.unwrap_or.result ≡ run test bs = run_found test bs c.position.result c.unwrap_or.result found c.unwrap_or.ensures in
    ap (λ n. c.args.from + n) (r ∙ ap (run test) rest)
