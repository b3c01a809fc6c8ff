use Rattle.std.proofs.Common.{◌≡◌, get_or, pos, sym, ap, ◌∙◌, w32, SFits, rules}
use mir.ValLaws.{to_z-of_z}
use Rattle.points.specs.declared.set.PointSet.{PointSet}
use Rattle.statements.specs.Literals.{signed}
use Rattle.statements.specs.declared.literals.Literal.{Literal}
use Rattle.statements.proofs.MakeLaws.{sorted_more, literal_number, joined-none, denied_more}
use Rattle.statements.proofs.literals.make.sorted.Goals as goal
use Rattle.statements.proofs.literals.make.sorted.Goals.{in-Positive, in-Negative}

pub loop-number-preserved : goal.loop-number-preserved
loop-number-preserved c =
    let zs = c.args.numbers.now in
    let i = c.loop-number.number-index in
    let z = get_or zs i (pos 0) in
    let f : SFits w32 z = search rules in
    let l = c.in_ok-point.field-0 in
    let at : z ≡ signed l = sym (c.in_ok-point.ensures ∙ to_z-of_z w32 z f) in
    let more = λ (y n : PointSet) (k : Literal) (is : l ≡ k).
    sorted_more zs i c.loop-number.yes c.loop-number.no y n (signed k) c.loop-number-test.true (at ∙ ap signed is) (literal_number k) c.loop-number.invariant in
    elim c.match-branch-2.branch [
      | in-Positive w ↦ more _ _ _ w.in-Positive.is (w.yes-is ∙ w.with-yes.ensures) (w.no-is ∙ sym (joined-none c.loop-number.no))
      | in-Negative w ↦
          more _ _ _ w.in-Negative.is (w.yes-is ∙ sym (joined-none c.loop-number.yes))
          (w.no-is ∙ w.with-no.ensures ∙ denied_more c.loop-number.no w.in-Negative.point)
    ]
