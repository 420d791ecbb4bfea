-- `store::check` keeps its promise: the answer is yes or no by how the call began, and the work area is cleared.
use Rattle.std.proofs.Common.{ap, ◌∙◌, Err}
use Rattle.rules.specs.Calls.{takes_list}
use Rattle.entering.specs.Calls.{check_no, check_refused, check_yes}
use Rattle.store.proofs.check.Goals as goal

pub returns-in-Ok : goal.returns-in-Ok
unfolding takes_list
returns-in-Ok c = check_yes c.enter.ensures c.in-Ok.is c.leave.ensures

pub returns-in-Unsound : goal.returns-in-Unsound
unfolding takes_list
returns-in-Unsound c = check_no c.enter.ensures (c.in-Err.is ∙ ap Err c.in-Unsound.is)

pub returns-in_default : goal.returns-in_default
unfolding takes_list
returns-in_default c = check_refused c.enter.ensures c.in-Err.is c.in_default.not-Unsound
