use Rattle.std.proofs.Common.{◌≡◌, ◌≤◌, ◌||◌, ℤ, nat_abs, Err, sym, ap, ◌∙◌, subst, arith, w32, to_z, of_z}
use mir.ValLaws.{to_z-of_z}
use Rattle.std.proofs.lemmas.Result.{err_from_is_err_and}
use Rattle.statements.specs.Literals.{names, same_number, signed}
use Rattle.statements.specs.Making.{is_literal}
use Rattle.statements.proofs.MakeLaws.{refused_alone}
use Rattle.dimacs.specs.Steps.{Adds}
use Rattle.dimacs.specs.declared.fault.Cause.TheVariants.{Make}
use Rattle.dimacs.proofs.StepLaws.{added_last, added_large, untouched}
use Rattle.dimacs.proofs.reader.body.Reader.add.Goals as goal

pub returns-in_err-literal : goal.returns-in_err-literal
returns-in_err-literal c =
    let r = c.args.self.now in
    let z = c.args.value in
    let alone = refused_alone c.in_err-literal.field-0.0 (to_z w32 (of_z w32 z)) c.in_err-literal.ensures in
    let p = err_from_is_err_and c.from_residual.result c.from_residual.ensures.1 in
    subst (Adds z r r) (sym (p.1 ∙ ap Err (p.2 ∙ ap Make alone.0)))
    (added_large r.case.points r.literals z (sym (ap is_literal (to_z-of_z w32 z c.ranges.value)) ∙ alone.1), untouched r)

pub invariant_of-self : goal.invariant_of-self
invariant_of-self c =
    let r = c.args.self.now in
    let z = c.args.value in
    let t = c.in_ok-self.field-0 in
    let back = to_z-of_z w32 z c.ranges.value in
    let is : signed c.in_ok-literal.literal ≡ z = c.in_ok-literal.ensures ∙ back in
    let within : nat_abs z ≤ r.case.points = omega (arith, c.in_ok-admit.ensures, c.unsigned_abs.ensures.value ∙ ap nat_abs back) in
    let law : (w : ℤ) → names t w ≡ (names r.literals w || same_number w z) = λ w.
    c.in_ok-self.ensures.literals w ∙ ap (λ (x : ℤ). names r.literals w || same_number w x) is in
    record { rows = r.rows; known = added_last r.literals t z r.case.points law r.known within }
