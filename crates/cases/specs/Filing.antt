-- What the calls open and file leave and answer. Assumes nothing.
use Rattle.std.specs.Prelude.{◌≡◌, ℕ, ◌+◌, ◌<◌, ◌≤◌, List, length, None, Ok, Err, Result, slice_set}
use Rattle.statements.specs.Kind.{Core}
use Rattle.cases.specs.Refusals.{usable, file_refusal}
use Rattle.cases.specs.declared.fault.FileFault.{FileFault}
use Rattle.cases.specs.declared.open.OpenCase.{OpenCase}

-- a new case: nothing is filed, and no supposition stands
pub record Opened (n : ℕ) (c : OpenCase) : Type 0 where
  pub points_are : c.points ≡ n
  pub none_filed : c.filed ≡ 0
  pub none_noted : c.noted ≡ None

-- an accepted statement: it gets the number of those before it, and stands in that row; nothing else changes
pub record Accepted {S : Type 0} (K : Core S) (c : OpenCase) (table : List S) (s : S) (d : OpenCase) (after : List S) (number : ℕ) : Type 0 where
  pub known : K.last s ≤ c.points
  pub free : c.filed < usable (length table)
  pub numbered : number ≡ c.filed
  pub one_more : d.filed ≡ c.filed + 1
  pub same_points : d.points ≡ c.points
  pub same_note : d.noted ≡ c.noted
  pub written : after ≡ slice_set table c.filed s

-- a refused statement: nothing changes
pub record Refused {S : Type 0} (K : Core S) (c : OpenCase) (table : List S) (s : S) (d : OpenCase) (after : List S) (e : FileFault) : Type 0 where
  pub why : (file_refusal e).1 c.points c.filed (length table) (K.last s)
  pub same_case : d ≡ c
  pub same_table : after ≡ table

abbrev pub Files : {S : Type 0} → Core S → OpenCase → List S → S → OpenCase → List S → Result ℕ FileFault → Type 0
Files K c table s d after (Ok number) = Accepted K c table s d after number
Files K c table s d after (Err e) = Refused K c table s d after e
