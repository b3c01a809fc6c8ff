use Rattle.std.proofs.Common.{arith}
use Rattle.std.proofs.lemmas.Bool.Decides.{Decides-at, nat_tests}
use Rattle.statements.specs.LiteralLaws.{within_decides}
use Rattle.statements.proofs.literals.LiteralSet.is_subset.Goals as goal

pub returns-then-is_subset-clause-literals : goal.returns-then-is_subset-clause-literals
returns-then-is_subset-clause-literals c = Decides-at _ _ (grind (arith, nat_tests)) (within_decides c.args.self c.args.other)

pub returns-else-is_subset-clause-literals : goal.returns-else-is_subset-clause-literals
returns-else-is_subset-clause-literals c = Decides-at _ _ (grind (arith, nat_tests)) (within_decides c.args.self c.args.other)
