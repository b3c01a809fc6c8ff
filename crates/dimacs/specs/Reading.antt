-- What a text says: the case that it opens and the clauses that it files, or the first refusal. Assumes nothing.
use Rattle.std.specs.Prelude.{ℕ, zero, suc, ◌+◌, cond, ◌&&◌, List, [], ◌∷◌, ◌++◌, length, drop, ℤ, pos, negsuc, Some, None, Ok, Err, Option, Result, ◌==◌, nat_le, nat_lt, unsigned_abs, codes, decimal}
use Rattle.cases.specs.Refusals.{open_refusal, file_refusal, usable}
use Rattle.cases.specs.declared.fault.FileFault.TheVariants.{Beyond, Full}
use Rattle.cases.specs.declared.fault.OpenFault.TheVariants.{Points}
use Rattle.lexer.specs.Headers.{headed, header_of}
use Rattle.lexer.specs.Numerals.{number_of}
use Rattle.lexer.specs.Text.{Piece, lines_from, tokens}
use Rattle.lexer.specs.declared.headers.Header.{Header}
use Rattle.statements.specs.Clauses.{clause_of}
use Rattle.statements.specs.Literals.{bare}
use Rattle.statements.specs.Making.{is_literal, extended, make_refusal}
use Rattle.statements.specs.declared.clause.Clause.{Clause}
use Rattle.statements.specs.declared.fault.MakeFault.{MakeFault}
use Rattle.statements.specs.declared.fault.MakeFault.TheVariants.{Magnitude}
use Rattle.statements.specs.declared.literals.LiteralSet.{LiteralSet}
use Rattle.dimacs.specs.declared.fault.Cause.{Cause}
use Rattle.dimacs.specs.declared.fault.Cause.TheVariants.{Long, Header as BadHeader, Token, Count, Open, Make, File}
use Rattle.dimacs.specs.declared.fault.Fault.{Fault}

-- the number of each refusal
abbrev pub cause_number : Cause → ℕ
cause_number Long = 20
cause_number BadHeader = 21
cause_number Token = 22
cause_number Count = 23
cause_number (Open e) = (open_refusal e).0
cause_number (Make e) = (make_refusal e).0
cause_number (File e) = (file_refusal e).0

-- a refusal as it is printed: its number, and the place
abbrev pub fault_text : Fault → List ℕ
fault_text f = codes "refused " ++ decimal (cause_number f.cause) ++ codes " at " ++ decimal f.place

-- the clauses that are filed so far, and the literals of the clause that is not finished
pub record Progress : Type 0 where
  pub filed : List Clause
  pub pending : LiteralSet

-- the clauses that a text files, and the number of its points, or why and where it is refused
pub record Reading : Type 0 where
  pub clauses : List Clause
  pub answer : Result ℕ Fault

abbrev pub refused : List Clause → Cause → ℕ → Reading
refused cs e at = record { clauses = cs; answer = Err (record { cause = e; place = at }) }

abbrev pub accepted : List Clause → ℕ → Reading
accepted cs n = record { clauses = cs; answer = Ok n }

abbrev pub begun : Progress
begun = record { filed = []; pending = bare }

abbrev pub as_cause : Result LiteralSet MakeFault → Result LiteralSet Cause
as_cause (Ok s) = Ok s
as_cause (Err e) = Err (Make e)

-- a number that is not 0 comes to these literals: its magnitude is asked, its point, and its denial
abbrev pub literal_token : ℕ → LiteralSet → ℤ → Result LiteralSet Cause
literal_token n s z = cond (is_literal z) (cond (nat_le (unsigned_abs z) n) (as_cause (extended s z)) (Err (File Beyond))) (Err (Make Magnitude))

abbrev pub with_pending : List Clause → Result LiteralSet Cause → Result Progress Cause
with_pending cs (Ok s) = Ok (record { filed = cs; pending = s })
with_pending cs (Err e) = Err e

-- a 0: a row is asked for, and the clause is filed
abbrev pub end_token : ℕ → Progress → Result Progress Cause
end_token rows st = cond (nat_lt (length st.filed) (usable rows)) (Ok (record { filed = st.filed ++ clause_of st.pending ∷ []; pending = bare })) (Err (File Full))

abbrev pub number_token : ℕ → ℕ → Progress → ℤ → Result Progress Cause
number_token n rows st (pos zero) = end_token rows st
number_token n rows st (pos (suc p)) = with_pending st.filed (literal_token n st.pending (pos (suc p)))
number_token n rows st (negsuc k) = with_pending st.filed (literal_token n st.pending (negsuc k))

abbrev pub or_token : ℕ → ℕ → Progress → Option ℤ → Result Progress Cause
or_token n rows st None = Err Token
or_token n rows st (Some z) = number_token n rows st z

-- any token: whether a clause is still announced, whether it is a number, and then as above
unfoldable pub token : ℕ → ℕ → ℕ → Progress → List ℕ → Result Progress Cause
token n announced rows st bs = cond (nat_le announced (length st.filed)) (Err Count) (or_token n rows st (number_of bs))

-- the tokens after the header, in a text that ends at `end`
module _ (n announced rows end : ℕ) where
  abbrev pub at_end : Progress → Reading
  at_end st = cond (length st.filed == announced) (accepted st.filed n) (refused st.filed Count end)

  abbrev pub go_on : (Progress → Reading) → List Clause → ℕ → Result Progress Cause → Reading
  go_on next cs at (Ok st) = next st
  go_on next cs at (Err e) = refused cs e at

  unfoldable pub body : List Piece → Progress → Reading
  body [] st = at_end st
  body (t ∷ ts) st = go_on (body ts) st.filed t.0 (token n announced rows st t.1)

-- a header line that stands at `at`, with the lines after it
abbrev pub from_header : ℕ → ℕ → ℕ → List Piece → Option Header → Reading
from_header rows end at after None = refused [] BadHeader at
from_header rows end at after (Some h) =
    cond (nat_le 1 h.points && nat_le h.points 64)
    (body h.points h.clauses rows end (tokens after) begun)
    (refused [] (Open Points) (at + h.points_at))

abbrev pub from_line : ℕ → ℕ → Option (Piece × List Piece) → Reading
from_line rows end None = refused [] BadHeader end
from_line rows end (Some l) = from_header rows end l.0.0 l.1 (header_of l.0.1)

-- what a text says, where so many rows are lent
unfoldable pub reading : ℕ → List ℕ → Reading
reading rows text = cond (nat_le (length text) 16384) (from_line rows (length text) (headed (lines_from 0 text))) (refused [] Long 16384)

-- a table whose first rows are written
abbrev pub over : List Clause → List Clause → List Clause
over new old = new ++ drop (length new) old
