-- What a text denotes, in the words of the format: its header line, its numbers, and the clauses that they spell. Assumes nothing.
use Rattle.std.specs.Prelude.{◌≡◌, ℕ, ◌≤◌, List, [], ◌∷◌, ◌++◌, length, take, ℤ, pos, Some, None, Ok, Err, Option, Result}
use Rattle.cases.specs.Refusals.{usable}
use Rattle.cases.specs.declared.open.OpenCase.{OpenCase}
use Rattle.lexer.specs.Headers.{headed, header_of}
use Rattle.lexer.specs.Numerals.{number_of}
use Rattle.lexer.specs.Text.{Piece, lines_from, tokens}
use Rattle.points.specs.Sets.{greatest}
use Rattle.statements.specs.Literals.{named}
use Rattle.statements.specs.Making.{made}
use Rattle.statements.specs.declared.clause.Clause.{Clause}
use Rattle.dimacs.specs.Reading.{reading, over}
use Rattle.dimacs.specs.Steps.{Answers}
use Rattle.dimacs.specs.declared.fault.Fault.{Fault}

abbrev pub and_then : Option ℤ → Option (List ℤ) → Option (List ℤ)
and_then None zs = None
and_then (Some z) None = None
and_then (Some z) (Some zs) = Some (z ∷ zs)

-- the numbers that the tokens write, if each of them is a number
unfoldable pub numbers_of : List Piece → Option (List ℤ)
numbers_of [] = Some []
numbers_of (t ∷ ts) = and_then (number_of t.1) (numbers_of ts)

-- numbers spell clauses: those of each clause, of which the clause is made, and then a 0
pub data Spells : List ℤ → List Clause → Type 0 where
  nothing : Spells [] []
  clause : (zs : List ℤ) (c : Clause) (rest : List ℤ) (cs : List Clause) → made zs ≡ Ok c.literals → Spells rest cs → Spells (zs ++ pos 0 ∷ rest) (c ∷ cs)

-- each clause is on the points 1 to n
abbrev pub OnPoints : ℕ → List Clause → Type 0
OnPoints n [] = Unit {0}
OnPoints n (c ∷ cs) = (greatest (named c.literals) ≤ n) × OnPoints n cs

-- the text announces n points and so many clauses, and its numbers spell these clauses
pub record Denotes (text : List ℕ) (n : ℕ) (cs : List Clause) : Type 0 where
  pub line : Piece
  pub after : List Piece
  pub at : ℕ
  pub numbers : List ℤ
  pub first : headed (lines_from 0 text) ≡ Some (line, after)
  pub announces : header_of line.1 ≡ Some (record { points = n; points_at = at; clauses = length cs })
  pub writes : numbers_of (tokens after) ≡ Some numbers
  pub spells : Spells numbers cs
  pub known : OnPoints n cs

-- and the limits are kept: 16,384 bytes, 64 points, and a usable row for each clause
pub record Case (rows : ℕ) (text : List ℕ) (n : ℕ) (cs : List Clause) : Type 0 where
  pub short : length text ≤ 16384
  pub some : 1 ≤ n
  pub few : n ≤ 64
  pub room : length cs ≤ usable rows
  pub denotes : Denotes text n cs

-- A text is read where it is a case, and then the first rows have its clauses; a text that is refused is no case.
abbrev pub Judged : ℕ → List ℕ → List Clause → Result OpenCase Fault → Type 0
Judged rows text table (Ok c) = Case rows text c.points (take c.filed table)
Judged rows text table (Err f) = (n : ℕ) (cs : List Clause) → Case rows text n cs → ⊥

-- What reading a text into a lent table answers and leaves: the definition's answer, which judges the text, and its clauses in the
-- first rows, with the rows after them as they were.
pub record Reads (text : List ℕ) (table after : List Clause) (r : Result OpenCase Fault) : Type 0 where
  pub answer : Answers (reading (length table) text) r
  pub judged : Judged (length table) text after r
  pub rows : after ≡ over (reading (length table) text).clauses table
