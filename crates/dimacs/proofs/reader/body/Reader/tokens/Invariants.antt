use Rattle.std.proofs.Common.{ℕ}
use Rattle.lexer.specs.Parts.{words_left}
use Rattle.dimacs.proofs.WalkLaws.{Walked}
use Rattle.dimacs.proofs.reader.body.Reader.tokens.Given as goal

abbrev pub invariant-loop-word : goal.invariant-loop-word
invariant-loop-word l = (end : ℕ) → Walked end (words_left l.fn.tokens) (words_left l.word-iterator) l.initial.self l.self
