-- `store::look` keeps its promise: a wrong size or a flaw is refused; else the work is done, and the work area is cleared.
use Rattle.std.proofs.Common.{refl}
use Rattle.std.proofs.lemmas.Result.{err_from_is_err_and}
use Rattle.rules.specs.Calls.{refused_by, takes_list}
use Rattle.into.specs.Stores.{leaves_into}
use Rattle.laws.specs.Verdicts.{bare_did}
use Rattle.entering.specs.Calls.{refused_arm, still_arm}
use Rattle.store.proofs.look.Goals as goal

pub returns-in_err-enter : goal.returns-in_err-enter
unfolding refused_by takes_list
returns-in_err-enter c =
    let e = err_from_is_err_and c.from_residual.result c.from_residual.ensures.1 in
    rw (e.1, e.2) (refused_arm refl c.enter.ensures c.in_err-enter.was)

pub returns : goal.returns
unfolding takes_list leaves_into
returns c = still_arm c.enter.ensures c.in_ok-enter.was refl (bare_did refl c.look-seen.ensures) c.leave.ensures
