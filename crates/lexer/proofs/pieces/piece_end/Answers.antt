use Rattle.std.proofs.Common.{rules, tests}
use Rattle.lexer.specs.Cuts.{cuts_at}
use Rattle.lexer.proofs.WordLaws.{run_inside, run_stops_at, word_at}
use Rattle.lexer.proofs.pieces.piece_end.Goals as goal

pub returns : goal.returns
returns c =
    let cuts = cuts_at c.args.cut in
    let value = c.first_at.ensures cuts (λ x b q k. search (rules, tests)) in
    record {
      value = value;
      inside = λ h. run_inside cuts c.args.text.now c.args.from c.first_at.result h value;
      stops = run_stops_at cuts c.args.text.now c.args.from c.first_at.result value;
      word = word_at cuts c.args.text.now c.args.from c.first_at.result value;
    }
