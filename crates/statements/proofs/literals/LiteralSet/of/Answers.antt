use Rattle.std.proofs.Common.{sym}
use Rattle.statements.specs.LiteralLaws.{clear_some}
use Rattle.statements.proofs.literals.LiteralSet.of.Goals as goal

pub returns-then-is_empty : goal.returns-then-is_empty
returns-then-is_empty c = sym (clear_some (record { yes = c.args.yes; no = c.args.no; apart = _ }))
