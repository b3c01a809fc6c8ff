-- The walk over the tokens. Assumes nothing.
use Rattle.std.proofs.Common.{◌≡◌, ℕ, ◌+◌, ◌-◌, List, [], ◌∷◌, ◌++◌, length, take, drop, Ok, Err, Result, sym, refl, ap, ◌∙◌, le_refl, arith, take-append-drop, drop-drop}
use Rattle.lexer.specs.Text.{Piece}
use Rattle.statements.specs.declared.clause.Clause.{Clause}
use Rattle.dimacs.specs.Reading.{Progress, Reading, token, go_on, body, over}
use Rattle.dimacs.specs.Steps.{progress, token_of, body_of, at_end_of, Steady, Steps, Walks}
use Rattle.dimacs.specs.declared.fault.Cause.{Cause}
use Rattle.dimacs.specs.declared.reader.body.Reader.{Reader}
use Rattle.dimacs.proofs.StepLaws.{filed_count}

-- the reader r, which began at the pieces `all` of a text that ends at `end`, has come to s, with the pieces `left` left
pub record Walked (end : ℕ) (all left : List Piece) (r s : Reader) : Type 0 where
  pub same : body_of r end all (progress r) ≡ body_of r end left (progress s)
  pub steady : Steady r s

pub walked_none : (end : ℕ) (all left : List Piece) (r : Reader) → all ≡ left → Walked end all left r r
walked_none end all left r e = record {
  same = ap (λ (ts : List Piece). body_of r end ts (progress r)) e;
  steady = record { same_table = refl; long = refl; rest = refl; points = refl; noted = refl; announced = refl; grows = le_refl r.case.filed };
}

-- what is written over the front of the table
written : (r s : Reader) → Steady r s → s.table.now ≡ over (progress s).filed r.table.now
written r s steady =
    sym (take-append-drop s.case.filed s.table.now)
    ∙ ap (λ (t : List Clause). take s.case.filed s.table.now ++ t) (steady.rest ∙ ap (λ (n : ℕ). drop n r.table.now) (sym (filed_count s)))

later_drop : (m n k : ℕ) (xs : List Clause) → m + k ≡ n → drop k (drop m xs) ≡ drop n xs
later_drop m n k xs e = drop-drop k m xs ∙ ap (λ (j : ℕ). drop j xs) e

-- two steps together
further : (r s t : Reader) → Steady r s → Steady s t → Steady r t
further r s t a b = record {
  same_table = b.same_table ∙ a.same_table;
  long = b.long ∙ a.long;
  rest =
      let by = t.case.filed - s.case.filed in
      let more : s.case.filed + by ≡ t.case.filed = omega (arith, b.grows) in
      b.rest
      ∙ sym (later_drop s.case.filed t.case.filed by s.table.now more)
      ∙ ap (drop by) a.rest
      ∙ later_drop s.case.filed t.case.filed by r.table.now more;
  points = b.points ∙ a.points;
  noted = b.noted ∙ a.noted;
  announced = b.announced ∙ a.announced;
  grows = omega (arith, a.grows, b.grows);
}

module _ (end : ℕ) (all left : List Piece) (r s : Reader) (w : Walked end all left r s) where
  -- the definition at the next piece, with the reader's own numbers
  next : (p : Piece) (ps : List Piece) → left ≡ p ∷ ps
      → body_of r end left (progress s)
      ≡ go_on r.case.points r.announced (length r.table.now) end (body_of r end ps) (progress s).filed p.0
      (token_of s p.1 (progress s))
  unfolding body
  next p ps e =
      let go : Result Progress Cause → Reading = go_on r.case.points r.announced (length r.table.now) end
      (body_of r end ps) (progress s).filed p.0 in
      ap (λ (ts : List Piece). body_of r end ts (progress s)) e
      ∙ ap (λ (n : ℕ). go (token n r.announced (length r.table.now) (progress s) p.1)) (sym w.steady.points)
      ∙ ap (λ (n : ℕ). go (token s.case.points n (length r.table.now) (progress s) p.1)) (sym w.steady.announced)
      ∙ ap (λ (n : ℕ). go (token s.case.points s.announced n (progress s) p.1)) (sym w.steady.long)

  pub walked_more : {U : Type 0} (u : U) (p : Piece) (ps : List Piece) (t : Reader) → left ≡ p ∷ ps
      → Steps (token_of s p.1) {U = U} s t (Ok u)
      → Walked end all ps r t
  walked_more u p ps t f (e, steady) = record {
    same = w.same ∙ next p ps f ∙ ap (go_on r.case.points r.announced (length r.table.now) end (body_of r end ps) (progress s).filed p.0) e;
    steady = further r s t w.steady steady;
  }

  pub walked_refused : (U : Type 0) (rest : Progress → Reading) (e : Cause) (p : Piece) (ps : List Piece) (t : Reader) → left ≡ p ∷ ps
      → Steps (token_of s p.1) {U = U} s t (Err e)
      → Walks {U = U} (body_of r end all) rest r t (Err (record { cause = e; place = p.0 }))
  walked_refused U rest e p ps t f (h, leaves) =
      let whole =
      w.same ∙ next p ps f ∙ ap (go_on r.case.points r.announced (length r.table.now) end (body_of r end ps) (progress s).filed p.0) h in (
        ap (λ (x : Reading). x.answer) whole,
        record {
          same_table = leaves.same_table ∙ w.steady.same_table;
          now = leaves.now ∙ written r s w.steady ∙ ap (λ (x : Reading). over x.clauses r.table.now) (sym whole);
        },
      )

  pub walked_all : {U : Type 0} (u : U) → left ≡ []
      → Walks {U = U} (body_of r end all) (at_end_of r end) r s (Ok u)
  unfolding body
  walked_all u none = (
    w.same ∙ ap (λ (ts : List Piece). body_of r end ts (progress s)) none,
    w.steady,
    written r s w.steady,
  )
