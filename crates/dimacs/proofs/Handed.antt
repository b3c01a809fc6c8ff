-- What a `?` hands on. Assumes nothing.
use Rattle.std.proofs.Common.{◌≡◌, None, Err, Option, Result, IsErrAnd, refl, ap, ◌∙◌}
use Rattle.std.specs.Bool.{⊤}
use Rattle.std.specs.Option.{ok_or}
use Rattle.std.proofs.lemmas.Result.{err_from_is_err_and, MatchResult-at_err}

-- the error that stands in place of what is not there
pub handed : {T U E : Type 0} (r : Result U E) (f x : E) (o : Option T) → IsErrAnd r (λ y. y ≡ f) → Err f ≡ ok_or o x → o ≡ None → r ≡ Err x
handed r f x o is value none =
    let p = err_from_is_err_and r is in
    p.1 ∙ ap Err (p.2 ∙ MatchResult-at_err (λ _. ⊤) (λ y. f ≡ y) x (value ∙ ap (λ q. ok_or q x) none) refl)
