-- `groups::step` meets its contract: what is explored is finished.
use Rattle.groups.specs.Advance.{came_then}
use Rattle.groups.proofs.step.Goals as goal

pub returns : goal.returns
returns c = came_then c.explore-explored.ensures.came c.finish.ensures
