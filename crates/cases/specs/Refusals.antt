-- Each refusal of a case's calls: its number, and the values to which it is the answer. Assumes nothing.
use Rattle.std.specs.Prelude.{ℕ, ◌<◌, ◌≤◌, min}
use Rattle.cases.specs.declared.fault.FileFault.{FileFault}
use Rattle.cases.specs.declared.fault.FileFault.TheVariants.{Beyond, Full}
use Rattle.cases.specs.declared.fault.OpenFault.{OpenFault}
use Rattle.cases.specs.declared.fault.OpenFault.TheVariants.{Points}

-- to open a case of n points
abbrev pub open_refusal : OpenFault → ℕ × (ℕ → Type 0)
open_refusal Points = (1, λ n. 1 ≤ n → n ≤ 64 → ⊥)

-- how many rows of a table of so many are used
abbrev pub usable : ℕ → ℕ
usable rows = min 65536 rows

-- to file, into a case of n points with so many statements filed and so many rows, a statement with this last point
abbrev pub file_refusal : FileFault → ℕ × (ℕ → ℕ → ℕ → ℕ → Type 0)
file_refusal Beyond = (4, λ n filed rows last. n < last)
file_refusal Full = (5, λ n filed rows last. (last ≤ n) × (usable rows ≤ filed))
