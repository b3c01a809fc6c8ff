use Rattle.std.proofs.Common.{not, rules, tests}
use Rattle.lexer.specs.Cuts.{cuts_at}
use Rattle.lexer.proofs.WordLaws.{run_ends_at, words_from, no_word}
use Rattle.lexer.proofs.words.Words.next_start.Goals as goal

pub returns-then-start-self : goal.returns-then-start-self
returns-then-start-self c =
    let s = c.args.self.now in
    let cuts = cuts_at s.cut in
    let begins = c.first_at-start.ensures (λ b. not (cuts b)) (λ x b q k. search (rules, tests)) in
    no_word cuts s.text.now s.at c.first_at-start.result begins c.if-start-self.true

pub returns : goal.returns
returns c =
    let s = c.args.self.now in
    let cuts = cuts_at s.cut in
    let begins = c.first_at-start.ensures (λ b. not (cuts b)) (λ x b q k. search (rules, tests)) in
    let inside = c.if-start-self.false in
    record {
      begins = begins;
      inside = inside;
      stops = run_ends_at cuts s.text.now s.at c.first_at-start.result begins inside;
      same = words_from cuts s.text.now s.at c.first_at-start.result begins;
    }
