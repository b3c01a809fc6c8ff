use Rattle.statements.proofs.MakeLaws.{Sorted}
use Rattle.statements.proofs.literals.make.sorted.Given as goal

abbrev pub invariant-loop-number : goal.invariant-loop-number
invariant-loop-number l = Sorted l.numbers l.number-index l.yes l.no
