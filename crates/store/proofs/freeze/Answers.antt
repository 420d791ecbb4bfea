-- `store::freeze` keeps its promise: a wrong size or a flaw is refused; else the work is done, and the work area is cleared.
use Rattle.std.proofs.Common.{refl, ap, ◌∙◌, List, ◌++◌, ℕ, ◌*◌, replicate}
use Rattle.std.proofs.lemmas.Result.{err_from_is_err_and}
use Rattle.rules.specs.Calls.{refused_by, takes_list, clear}
use Rattle.rules.specs.Commands.{settles}
use Rattle.entering.specs.Calls.{refused_arm, unlisted_arm}
use Rattle.store.proofs.freeze.Goals as goal

pub returns-in_err-enter : goal.returns-in_err-enter
unfolding refused_by takes_list
returns-in_err-enter c =
    let e = err_from_is_err_and c.from_residual.result c.from_residual.ensures.1 in
    rw (e.1, e.2) (refused_arm refl c.enter.ensures c.in_err-enter.was)

pub returns : goal.returns
unfolding takes_list settles clear
returns c =
    let left = c.leave.ensures ∙ ap (λ (l : List ℕ). replicate (8 * c.args.n) 0 ++ l) c.freeze-answer.ensures.later in
    unlisted_arm refl c.enter.ensures c.in_ok-enter.was c.freeze-answer.ensures.did left
