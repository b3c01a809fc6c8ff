use Rattle.std.proofs.Common.{◌≡◌, ℕ, ◌+◌, ◌≤◌, Bool, false, nat_lt, List, [], length, drop, Err, Result, sym, ap, ap₂, ◌∙◌, subst, arith, Some, rules}
use Rattle.std.proofs.lemmas.Bool.{ltb-true, ltb-false}
use Rattle.std.proofs.lemmas.Result.{err_from_is_err_and}
use Rattle.cases.specs.declared.fault.OpenFault.TheVariants.{Points}
use Rattle.cases.specs.declared.open.OpenCase.{OpenCase}
use Rattle.lexer.specs.Cuts.{part}
use Rattle.lexer.specs.Headers.{header_of, HeaderAt}
use Rattle.lexer.specs.Parts.{words_left}
use Rattle.lexer.specs.Text.{Piece, tokens_from}
use Rattle.lexer.specs.declared.headers.Header.{Header}
use Rattle.lexer.proofs.Tokens.{tokens_words}
use Rattle.statements.specs.declared.clause.Clause.{Clause}
use Rattle.dimacs.specs.Denoting.{Reads}
use Rattle.dimacs.specs.Reading.{Reading, refused, begun, body, reading, over}
use Rattle.dimacs.specs.Steps.{Answers}
use Rattle.dimacs.specs.declared.fault.Cause.{Cause}
use Rattle.dimacs.specs.declared.fault.Cause.TheVariants.{Long, Header as BadHeader, Open}
use Rattle.dimacs.specs.declared.fault.Fault.{Fault}
use Rattle.dimacs.proofs.AcceptLaws.{judged}
use Rattle.dimacs.proofs.Handed.{handed}
use Rattle.dimacs.proofs.ReadLaws.{reading_long, reading_comments, reading_bad, reading_points, reading_body}
use Rattle.dimacs.proofs.reader.read.Goals as goal

-- a refusal that files nothing
refusal : (text : List ℕ) (table : List Clause) (e : Cause) (at : ℕ) (r : Result OpenCase Fault)
    → reading (length table) text ≡ refused [] e at → r ≡ Err (record { cause = e; place = at }) → Reads text table table r
refusal text table e at r is err =
    subst (Reads text table table) (sym err)
    (let answer = ap (λ (x : Reading). x.answer) is in
    let rows : table ≡ over (reading (length table) text).clauses table = sym (ap (λ (x : Reading). over x.clauses table) is) in
    record { answer = answer; judged = judged (length table) text table table (Err (record { cause = e; place = at })) answer rows; rows = rows })

pub returns-then-is_too_long-clause-reads : goal.returns-then-is_too_long-clause-reads
returns-then-is_too_long-clause-reads c =
    refusal c.args.text.now c.args.table.now Long 16384 _
    (reading_long (length c.args.table.now) c.args.text.now (ltb-true 16384 (length c.args.text.now) (sym c.is_too_long.ensures ∙ c.if-is_too_long.true)))
    (ap Err c.at.ensures)

-- a text that is not too long
short : (text : List ℕ) (b : Bool) → b ≡ nat_lt 16384 (length text) → b ≡ false → length text ≤ 16384
short text b is fits = ltb-false 16384 (length text) (sym is ∙ fits)

pub returns-in_err-line-clause-reads : goal.returns-in_err-line-clause-reads
returns-in_err-line-clause-reads c =
    let none = c.in_err-line.ensures.ok_part in
    refusal c.args.text.now c.args.table.now BadHeader (length c.args.text.now) _
    (reading_comments (length c.args.table.now) c.args.text.now (short _ _ c.is_too_long.ensures c.if-is_too_long.false) (rw none at c.header_line.ensures).line)
    (handed _ _ _ _ c.from_residual.ensures.1 c.in_err-line.ensures.value none ∙ ap Err c.at-2.ensures)

pub returns-in_err-header-clause-reads : goal.returns-in_err-header-clause-reads
returns-in_err-header-clause-reads c =
    let line = c.in_ok-line.line in
    let stands = rw c.in_ok-line.ensures.ok_part at c.header_line.ensures in
    let none = c.in_err-header.ensures.ok_part in
    refusal c.args.text.now c.args.table.now BadHeader line.start _
    (reading_bad (length c.args.table.now) c.args.text.now (short _ _ c.is_too_long.ensures c.if-is_too_long.false) line.start (line.start + length line.bytes.now)
    stands.line (ap header_of (sym stands.bytes) ∙ sym c.parse.ensures.value ∙ none))
    (handed _ _ _ _ c.from_residual-in_err-header.ensures.1 c.in_err-header.ensures.value none ∙ ap Err c.at-3.ensures)

pub returns-in_err-case-clause-reads : goal.returns-in_err-case-clause-reads
returns-in_err-case-clause-reads c =
    let line = c.in_ok-line.line in
    let stands = rw c.in_ok-line.ensures.ok_part at c.header_line.ensures in
    let d = c.in_ok-header.header in
    let why = c.in_err-case.ensures in
    let p = err_from_is_err_and c.from_residual-in_err-case.result c.from_residual-in_err-case.ensures.1 in
    refusal c.args.text.now c.args.table.now (Open Points) (line.start + d.points_at) _
    (reading_points (length c.args.table.now) c.args.text.now (short _ _ c.is_too_long.ensures c.if-is_too_long.false) line.start (line.start + length line.bytes.now)
    stands.line d (ap header_of (sym stands.bytes) ∙ sym c.parse.ensures.value ∙ c.in_ok-header.ensures.ok_part) why.1)
    (p.1 ∙ ap Err (p.2 ∙ why.0))

-- the definition at a text whose header line is right, from its tokens on
whole : (rows : ℕ) (text : List ℕ) → length text ≤ 16384 → (start end : ℕ) → HeaderAt text start end → (d : Header) → header_of (part start end text) ≡ Some d
    → (case : OpenCase) → case.points ≡ d.points → (tokens : List Piece) → tokens ≡ tokens_from end (drop end text)
    → body case.points d.clauses rows (length text) tokens begun ≡ reading rows text
whole rows text few start end stands d says case points tokens left =
    ap₂ (λ (n : ℕ) (ts : List Piece). body n d.clauses rows (length text) ts begun) points left
    ∙ sym (reading_body rows text few start end stands d says (omega (arith, points, case.some)) (omega (arith, points, case.few)))

-- what is read, where the definition says the same as these
reads : (text : List ℕ) (table after : List Clause) (r : Result OpenCase Fault) (says : Reading) → says ≡ reading (length table) text
    → Answers says r → after ≡ over says.clauses table → Reads text table after r
reads text table after r says is a rows =
    let answer = subst (λ (x : Reading). Answers x r) is a in
    let left = rows ∙ ap (λ (x : Reading). over x.clauses table) is in
    record { answer = answer; judged = judged (length table) text table after r answer left; rows = left }

pub returns-in_err-tokens-clause-reads : goal.returns-in_err-tokens-clause-reads
returns-in_err-tokens-clause-reads c =
    let table = c.args.table.now in
    let text = c.args.text.now in
    let line = c.in_ok-line.line in
    let d = c.in_ok-header.header in
    let case = c.in_ok-case.case in
    let stands = rw c.in_ok-line.ensures.ok_part at c.header_line.ensures in
    let end = line.start + length line.bytes.now in
    let walks = c.in_err-tokens.ensures (length text) in
    reads text table _ _ (body case.points d.clauses (length table) (length text) (words_left c.new.result) begun)
    (whole (length table) text (short _ _ c.is_too_long.ensures c.if-is_too_long.false) line.start end stands.line d
    (ap header_of (sym stands.bytes) ∙ sym c.parse.ensures.value ∙ c.in_ok-header.ensures.ok_part) case c.in_ok-case.ensures.points_are _
    (c.new.ensures.left ∙ sym (tokens_words c.end.result (drop c.end.result text)) ∙ ap (λ (k : ℕ). tokens_from k (drop k text)) c.end.ensures))
    (search rules) (search rules)

pub returns-clause-reads : goal.returns-clause-reads
returns-clause-reads c =
    let table = c.args.table.now in
    let text = c.args.text.now in
    let line = c.in_ok-line.line in
    let d = c.in_ok-header.header in
    let case = c.in_ok-case.case in
    let stands = rw c.in_ok-line.ensures.ok_part at c.header_line.ensures in
    let end = line.start + length line.bytes.now in
    let walks = c.in_ok-tokens.ensures (length text) in
    reads text table _ _ (body case.points d.clauses (length table) (length text) (words_left c.new.result) begun)
    (whole (length table) text (short _ _ c.is_too_long.ensures c.if-is_too_long.false) line.start end stands.line d
    (ap header_of (sym stands.bytes) ∙ sym c.parse.ensures.value ∙ c.in_ok-header.ensures.ok_part) case c.in_ok-case.ensures.points_are _
    (c.new.ensures.left ∙ sym (tokens_words c.end.result (drop c.end.result text)) ∙ ap (λ (k : ℕ). tokens_from k (drop k text)) c.end.ensures))
    (search rules) (search rules)
