-- The steps of the reader. Assumes nothing.
use Rattle.std.proofs.Common.{◌≡◌, ℕ, zero, suc, ◌<◌, ◌≤◌, true, false, ◌||◌, ◌⊎◌, List, length, ℤ, pos, negsuc, nat_abs, Some, Ok, Err, Option, sym, refl, ap, ◌∙◌, subst, inl, inr, arith, length-set, length-take}
use lib.Count.{count_leading_zeros}
use Rattle.std.proofs.lemmas.Bool.{cond-true, cond-false, le-leb, lt-leb, or_cases, eqb-true}
use Rattle.cases.specs.Filing.{Accepted}
use Rattle.cases.specs.declared.open.OpenCase.{OpenCase}
use Rattle.lexer.specs.Numerals.{number_of}
use Rattle.points.specs.Sets.{member, none, joined, greatest}
use Rattle.points.proofs.Sizes.{greatest_below, member-last}
use Rattle.statements.specs.Clauses.{clause_core, clause_of}
use Rattle.statements.specs.Literals.{named, bare, names, same_number, point_of}
use Rattle.statements.specs.Making.{is_literal, extended}
use Rattle.statements.specs.declared.clause.Clause.{Clause}
use Rattle.statements.specs.declared.fault.MakeFault.TheVariants.{Magnitude}
use Rattle.statements.specs.declared.literals.LiteralSet.{LiteralSet}
use Rattle.statements.specs.ClauseLaws.{named_literal, names_point}
use Rattle.dimacs.specs.Reading.{Progress, end_token, literal_token, as_cause, with_pending, number_token, or_token, token}
use Rattle.dimacs.specs.Steps.{progress, Leaves}
use Rattle.dimacs.specs.declared.fault.Cause.TheVariants.{Make}
use Rattle.dimacs.specs.declared.reader.body.Reader.{Reader}

pub bare_last : greatest (named bare) ≡ 0
unfolding bare none joined greatest count_leading_zeros
bare_last = refl

-- ---- the end of a clause

-- after a clause is filed, the rows below the count are there, and no literal waits
pub accepted_rows : {c d : OpenCase} {table after : List Clause} {s : Clause} {number : ℕ} → Accepted clause_core c table s d after number → d.filed ≤ length after
accepted_rows {c = c} {table = table} {s = s} a = omega (arith, a.one_more, ap length a.written, length-set table c.filed s, a.free)

pub bare_known : (n : ℕ) {l : LiteralSet} → l ≡ bare → greatest (named l) ≤ n
bare_known n e = omega (arith, ap (λ (l : LiteralSet). greatest (named l)) e ∙ bare_last)

-- ---- one literal more

same_number_lem : (w z : ℤ) → same_number w z ≡ true → w ≡ z
same_number_lem (pos m) (pos n) h = ap pos (eqb-true m n h)
same_number_lem (pos m) (negsuc n) h = cc
same_number_lem (negsuc m) (pos n) h = cc
same_number_lem (negsuc m) (negsuc n) h = ap negsuc (eqb-true m n h)

pub point_size : (z : ℤ) → point_of z ≡ nat_abs z
point_size (pos p) = refl
point_size (negsuc k) = refl

-- a literal on a point of the case leaves the literals on points of the case
pub added_last : (s t : LiteralSet) (z : ℤ) (n : ℕ) → ((w : ℤ) → names t w ≡ (names s w || same_number w z))
    → greatest (named s) ≤ n → nat_abs z ≤ n → greatest (named t) ≤ n
added_last s t z n law old new = greatest_below (named t) n bound
  where
    side : (w : ℤ) → (names s w ≡ true) ⊎ (same_number w z ≡ true) → point_of w ≤ n
    side w (inl h) = omega (arith, member-last (named s) (point_of w) (names_point (clause_of s) w h))
    side w (inr h) = omega (arith, ap point_of (same_number_lem w z h), point_size z)

    bound : (p : ℕ) → member (named t) p ≡ true → p ≤ n
    bound p m =
        let l = named_literal (clause_of t) p m in
        subst (λ (q : ℕ). q ≤ n) l.1 (side l.0 (or_cases (names s l.0) (same_number l.0 z) (sym (law l.0) ∙ l.2)))

pub added : (n : ℕ) (s t : LiteralSet) (z : ℤ) → is_literal z ≡ true → nat_abs z ≤ n → extended s z ≡ Ok t → literal_token n s z ≡ Ok t
added n s t z lit within e =
    cond-true _ _ _ lit ∙ cond-true _ _ _ (le-leb (nat_abs z) n within)
    ∙ ap as_cause e

pub added_large : (n : ℕ) (s : LiteralSet) (z : ℤ) → is_literal z ≡ false → literal_token n s z ≡ Err (Make Magnitude)
added_large n s z out = cond-false _ _ _ out

-- ---- a token

module _ (n announced rows : ℕ) (st : Progress) (bs : List ℕ) where
  token_number : length st.filed < announced → (o : Option ℤ) → number_of bs ≡ o → token n announced rows st bs ≡ or_token n rows st o
  unfolding token
  token_number h o e =
      cond-false _ _ _ (lt-leb announced (length st.filed) h) ∙ ap (or_token n rows st) e

  pub token_end : length st.filed < announced → number_of bs ≡ Some (pos 0) → token n announced rows st bs ≡ end_token rows st
  token_end h e = token_number h (Some (pos 0)) e

  pub token_literal : length st.filed < announced → (z : ℤ) → number_of bs ≡ Some z → (z ≡ pos 0 → ⊥)
      → token n announced rows st bs ≡ with_pending st.filed (literal_token n st.pending z)
  token_literal h z e ne = token_number h (Some z) e ∙ literal z ne
    where
      literal : (z : ℤ) → (z ≡ pos 0 → ⊥) → number_token n rows st z ≡ with_pending st.filed (literal_token n st.pending z)
      literal (pos zero) ne = absurd (ne refl)
      literal (pos (suc p)) ne = refl
      literal (negsuc k) ne = refl

-- how many clauses are filed
pub filed_count : (r : Reader) → length (progress r).filed ≡ r.case.filed
filed_count r = length-take r.case.filed r.table.now ∙ omega (arith, r.rows)

pub untouched : (r : Reader) → Leaves r r r.table.now
untouched r = record { same_table = refl; now = refl }
