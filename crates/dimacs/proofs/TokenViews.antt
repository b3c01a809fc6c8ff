-- The ways in which a token is taken or refused. Assumes nothing.
use Rattle.std.proofs.Common.{◌≡◌, ℕ, zero, suc, ◌<◌, ◌≤◌, true, ltb, leb, List, [], ◌∷◌, ◌++◌, length, ℤ, pos, negsuc, nat_abs, Some, None, Ok, Err, Option, Result, refl}
use Rattle.std.proofs.lemmas.Bool.{cond_both, leb-true, leb-false, ltb-true}
use Rattle.cases.specs.Refusals.{usable}
use Rattle.cases.specs.declared.fault.FileFault.TheVariants.{Beyond, Full}
use Rattle.lexer.specs.Numerals.{number_of}
use Rattle.statements.specs.Clauses.{clause_of}
use Rattle.statements.specs.Literals.{bare}
use Rattle.statements.specs.Making.{is_literal, extended}
use Rattle.statements.specs.declared.fault.MakeFault.{MakeFault}
use Rattle.statements.specs.declared.fault.MakeFault.TheVariants.{Magnitude}
use Rattle.statements.specs.declared.literals.LiteralSet.{LiteralSet}
use Rattle.dimacs.specs.Reading.{Progress, as_cause, literal_token, with_pending, end_token, or_token, token}
use Rattle.dimacs.specs.declared.fault.Cause.{Cause}
use Rattle.dimacs.specs.declared.fault.Cause.TheVariants.{Token, Count, Make, File}

module _ (n announced rows : ℕ) (st : Progress) (bs : List ℕ) where
  pub data View : Result Progress Cause → Type 0 where
    literal : (z : ℤ) (s : LiteralSet) → length st.filed < announced → number_of bs ≡ Some z → is_literal z ≡ true → nat_abs z ≤ n → extended st.pending z ≡ Ok s
        → View (Ok (record { filed = st.filed; pending = s }))
    finish : length st.filed < announced → number_of bs ≡ Some (pos 0) → length st.filed < usable rows
        → View (Ok (record { filed = st.filed ++ clause_of st.pending ∷ []; pending = bare }))
    stop : (e : Cause) → View (Err e)

  module _ (under : length st.filed < announced) where
    end_view : number_of bs ≡ Some (pos 0) → View (end_token rows st)
    end_view is = cond_both (ltb (length st.filed) (usable rows)) _ _ View (λ t. finish under is (ltb-true (length st.filed) (usable rows) t)) (λ f. stop (File Full))

    extended_view : (z : ℤ) → number_of bs ≡ Some z → is_literal z ≡ true → nat_abs z ≤ n → (r : Result LiteralSet MakeFault) → extended st.pending z ≡ r
        → View (with_pending st.filed (as_cause r))
    extended_view z is lit low (Ok s) e = literal z s under is lit low e
    extended_view z is lit low (Err e) _ = stop (Make e)

    literal_view : (z : ℤ) → number_of bs ≡ Some z → View (with_pending st.filed (literal_token n st.pending z))
    literal_view z is =
        let Pends : Result LiteralSet Cause → Type 0 = λ r. View (with_pending st.filed r) in
        cond_both (is_literal z) _ _ Pends
        (λ lit. cond_both (leb (nat_abs z) n) _ _ Pends (λ low. extended_view z is lit (leb-true (nat_abs z) n low) (extended st.pending z) refl) (λ f. stop (File Beyond)))
        (λ f. stop (Make Magnitude))

    number_view : (o : Option ℤ) → number_of bs ≡ o → View (or_token n rows st o)
    number_view None is = stop Token
    number_view (Some (pos zero)) is = end_view is
    number_view (Some (pos (suc p))) is = literal_view (pos (suc p)) is
    number_view (Some (negsuc k)) is = literal_view (negsuc k) is

  pub token_view : View (token n announced rows st bs)
  unfolding token
  token_view = cond_both (leb announced (length st.filed)) _ _ View (λ t. stop Count) (λ f. number_view (leb-false announced (length st.filed) f) (number_of bs) refl)
