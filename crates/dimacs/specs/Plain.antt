-- The plain form of a list of clauses: a header line, and a line for each clause. Assumes nothing.
use Rattle.std.specs.Prelude.{◌≡◌, ℕ, zero, suc, ◌+◌, ◌/◌, ◌%◌, ◌≤◌, cond, List, [], ◌∷◌, ◌++◌, length, codes, nat_lt, refl}
use Rattle.std.proofs.Common.{lit<}
use Rattle.cases.specs.Refusals.{usable}
use Rattle.points.specs.Sets.{member, common, is_empty, greatest}
use Rattle.statements.specs.Literals.{named}
use Rattle.statements.specs.Clauses.{clause_of}
use Rattle.statements.specs.declared.clause.Clause.{Clause}
use Rattle.dimacs.specs.Denoting.{OnPoints, Case}
use Rattle.dimacs.specs.Reading.{accepted, reading}

-- the decimal digits of a number below 10 ^ fuel
unfoldable pub digits_by : ℕ → ℕ → List ℕ
digits_by zero v = []
digits_by (suc f) v = cond (nat_lt v 10) ((48 + v) ∷ []) (digits_by f (v / 10) ++ (48 + v % 10) ∷ [])

abbrev pub decimal_of : ℕ → List ℕ
decimal_of v = digits_by 5 v

-- the literal on the point p, if there is one, and a space after it
abbrev pub literal_text : Clause → ℕ → List ℕ
literal_text c p =
    cond (member c.literals.yes p) (decimal_of p ++ 32 ∷ [])
    (cond (member c.literals.no p) (45 ∷ (decimal_of p ++ 32 ∷ [])) [])

-- the literals on the points 1 to n, by point
unfoldable pub literals_text : Clause → ℕ → List ℕ
literals_text c zero = []
literals_text c (suc k) = literals_text c k ++ literal_text c (suc k)

abbrev pub clause_line : Clause → List ℕ
clause_line c = literals_text c (greatest (named c.literals)) ++ 48 ∷ 10 ∷ []

unfoldable pub clause_lines : List Clause → List ℕ
clause_lines [] = []
clause_lines (c ∷ cs) = clause_line c ++ clause_lines cs

-- the header line, without its end: `p cnf`, the number of points and the number of clauses
abbrev pub header_line : ℕ → ℕ → List ℕ
header_line n m = codes "p cnf " ++ (decimal_of n ++ 32 ∷ decimal_of m)

abbrev pub plain : ℕ → List Clause → List ℕ
plain n cs = header_line n (length cs) ++ 10 ∷ clause_lines cs

-- The plain form of clauses on the points 1 to n, where it is short enough and there are rows enough, reads back as these clauses.
abbrev pub ReadsBack : Type 0
ReadsBack = (rows n : ℕ) (cs : List Clause) → 1 ≤ n → n ≤ 64 → OnPoints n cs → length cs ≤ usable rows → length (plain n cs) ≤ 16384 → reading rows (plain n cs) ≡ accepted cs n

-- two clauses: the points 1 and 2, and the denial of 1 with the point 3
unfoldable pub first_clause : Clause
unfolding common is_empty
first_clause = clause_of (record { yes = record { bits = 3; within = lit< tt }; no = record { bits = 0; within = lit< tt }; apart = refl })

unfoldable pub second_clause : Clause
unfolding common is_empty
second_clause = clause_of (record { yes = record { bits = 4; within = lit< tt }; no = record { bits = 1; within = lit< tt }; apart = refl })

unfoldable pub two_clauses : List Clause
two_clauses = first_clause ∷ second_clause ∷ []

-- a case on three points
abbrev pub Example : Type 0
Example = Case 512 (codes "p cnf 3 2\n1 2 0\n-1 3 0\n") 3 two_clauses
