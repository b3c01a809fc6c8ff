-- Clauses: what they mean, and what they answer. Assumes nothing.
use Rattle.std.specs.Prelude.{◌≡◌, ℕ, Bool, true, cond, ℤ, None, Ok, Err, Result}
use Rattle.std.specs.Option.{option_map}
use Rattle.points.specs.Sets.{is_empty, size, greatest, some_of}
use Rattle.statements.specs.Kind.{Core, Kind}
use Rattle.statements.specs.Literals.{names, true_in, named, true_at, within, opposed, resolvent}
use Rattle.statements.specs.declared.clause.Clause.{Clause}
use Rattle.statements.specs.declared.fault.MakeFault.{MakeFault}
use Rattle.statements.specs.declared.literals.LiteralSet.{LiteralSet}

abbrev pub clause_of : LiteralSet → Clause
clause_of s = record { literals = s }

abbrev pub as_clause : Result LiteralSet MakeFault → Result Clause MakeFault
as_clause (Ok s) = Ok (clause_of s)
as_clause (Err e) = Err e

-- a clause means that at least one of its literals is true
abbrev pub Fits : Clause → (ℕ → Bool) → Type 0
Fits c a = (z : ℤ) × (names c.literals z ≡ true) × (true_in a z ≡ true)

abbrev pub clause_core : Core Clause
clause_core = record {
  number = 1;
  last = λ c. greatest (named c.literals);
  impossible = λ c. is_empty (named c.literals);
  combine = λ a b p. cond (opposed a.literals b.literals p) (option_map clause_of (resolvent a.literals b.literals p)) None;
}

abbrev pub clause_kind : Kind Clause
clause_kind = record {
  core = clause_core;
  length = λ c. size (named c.literals);
  holds = λ c a. some_of (true_at c.literals a) (greatest (named c.literals));
  covers = λ a b. within a.literals b.literals;
}
