-- What an assignment says. Assumes nothing.
use Rattle.std.specs.Prelude.{ℕ, Bool}
use Rattle.points.specs.Sets.{member}
use Rattle.points.specs.declared.assignment.Assignment.{Assignment}

-- whether it says yes to the point
abbrev pub says : Assignment → ℕ → Bool
says a p = member a.yes p
