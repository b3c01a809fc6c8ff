use Rattle.std.proofs.Common.{Err, sym, ap, ◌∙◌}
use Rattle.lexer.specs.Parts.{piece_of, words_left}
use Rattle.dimacs.specs.Steps.{at_end_of}
use Rattle.dimacs.proofs.WalkLaws.{walked_more, walked_refused, walked_all}
use Rattle.dimacs.proofs.reader.body.Reader.tokens.Goals as goal

pub returns-in-Err : goal.returns-in-Err
returns-in-Err c = λ end.
    let r = c.args.self.now in
    let l = c.loop-word in
    let walks = walked_refused end _ _ r l.self (l.invariant end) (Unit {0}) (at_end_of r end)
    c.in-Err.cause (piece_of c.in-Some.word) (words_left c.next.new.self) c.token.new.self c.in-Some.ensures.steps.0 c.in-Err.ensures in
    (walks.0 ∙ ap Err (sym c.at.ensures), walks.1)

pub loop-word-preserved : goal.loop-word-preserved
loop-word-preserved c = λ end.
    let l = c.loop-word in
    walked_more end _ _ c.args.self.now l.self (l.invariant end)
    (tt {0}) (piece_of c.in-Some.word) (words_left c.next.new.self) c.token.new.self c.in-Some.ensures.steps.0 c.in_default.ensures

pub returns : goal.returns
returns c = λ end.
    let l = c.loop-word in
    walked_all end _ _ c.args.self.now l.self (l.invariant end) (tt {0}) c.in-None.ensures.steps.0.0
