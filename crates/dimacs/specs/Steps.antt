-- What each step of the reader does to the reader and the table. Assumes nothing.
use Rattle.std.specs.Prelude.{◌≡◌, ℕ, ◌≤◌, List, length, take, drop, ℤ, None, Ok, Err, Result, ◌≢◌}
use Rattle.cases.specs.declared.open.OpenCase.{OpenCase}
use Rattle.lexer.specs.Text.{Piece}
use Rattle.statements.specs.declared.clause.Clause.{Clause}
use Rattle.dimacs.specs.Reading.{Progress, Reading, literal_token, token, at_end, body, over}
use Rattle.dimacs.specs.declared.fault.Cause.{Cause}
use Rattle.dimacs.specs.declared.fault.Cause.TheVariants.{Count}
use Rattle.dimacs.specs.declared.fault.Fault.{Fault}
use Rattle.dimacs.specs.declared.reader.body.Reader.{Reader}

-- how far the reader is: the rows below its count are filed
abbrev pub progress : Reader → Progress
progress r = record { filed = take r.case.filed r.table.now; pending = r.literals }

-- the definition of reading, at the numbers of the reader: what it says of one token, of pieces, and at the end of the text
abbrev pub token_of : Reader → List ℕ → Progress → Result Progress Cause
token_of r bs st = token r.case.points r.announced (length r.table.now) st bs

abbrev pub body_of : Reader → ℕ → List Piece → Progress → Reading
body_of r end = body r.case.points r.announced (length r.table.now) end

abbrev pub at_end_of : Reader → ℕ → Progress → Reading
at_end_of r end = at_end r.case.points r.announced (length r.table.now) end

-- a step keeps the table, its length, the points, the note and the announced number, takes back no clause, and leaves the rows from
-- the new count on as they are
pub record Steady (r s : Reader) : Type 0 where
  pub same_table : s.table.ghost_name ≡ r.table.ghost_name
  pub long : length s.table.now ≡ length r.table.now
  pub rest : drop s.case.filed s.table.now ≡ drop s.case.filed r.table.now
  pub points : s.case.points ≡ r.case.points
  pub noted : s.case.noted ≡ r.case.noted
  pub announced : s.announced ≡ r.announced
  pub grows : r.case.filed ≤ s.case.filed

-- the table is the same, and its rows are these
pub record Leaves (r s : Reader) (rows : List Clause) : Type 0 where
  pub same_table : s.table.ghost_name ≡ r.table.ghost_name
  pub now : s.table.now ≡ rows

-- one step: the definition's own; a refusal leaves the whole table
abbrev pub Steps : (Progress → Result Progress Cause) → {U : Type 0} → Reader → Reader → Result U Cause → Type 0
Steps step r s (Ok _) = (step (progress r) ≡ Ok (progress s)) × Steady r s
Steps step r s (Err e) = (step (progress r) ≡ Err e) × Leaves r s r.table.now

-- one literal more
abbrev pub Adds : {U : Type 0} → ℤ → Reader → Reader → Result U Cause → Type 0
Adds z r s (Ok _) = (literal_token r.case.points r.literals z ≡ Ok s.literals) × (s.case.filed ≡ r.case.filed) × (s.table.now ≡ r.table.now) × Steady r s
Adds z r s (Err e) = (literal_token r.case.points r.literals z ≡ Err e) × Leaves r s r.table.now

-- the tokens from a place on, up to the end of the text: the definition goes on from there as it does after them
abbrev pub Walks : {U : Type 0} → (Progress → Reading) → (Progress → Reading) → Reader → Reader → Result U Fault → Type 0
Walks all rest r s (Ok _) = (all (progress r) ≡ rest (progress s)) × Steady r s × (s.table.now ≡ over (progress s).filed r.table.now)
Walks all rest r s (Err f) = ((all (progress r)).answer ≡ Err f) × Leaves r s (over (all (progress r)).clauses r.table.now)

-- the case that is read, or the refusal
abbrev pub Answers : Reading → Result OpenCase Fault → Type 0
Answers reading (Ok c) = (reading.answer ≡ Ok c.points) × (c.filed ≡ length reading.clauses) × (c.noted ≡ None)
Answers reading (Err f) = reading.answer ≡ Err f

-- the end of the text
abbrev pub Finishes : Reader → ℕ → Result OpenCase Fault → Type 0
Finishes r end (Ok c) = (r.case.filed ≡ r.announced) × (c ≡ r.case)
Finishes r end (Err f) = (r.case.filed ≢ r.announced) × (f ≡ record { cause = Count; place = end })
