-- `groups::search` meets its contract: each step keeps what held at the root, and the measure falls.
use Rattle.paths.specs.Search.{measure}
use Rattle.groups.specs.Steps.{view}
use Rattle.groups.specs.Class.{in_class}
use Rattle.groups.specs.Whole.{Searching}
use Rattle.groups.proofs.search.Given as goal

abbrev pub invariant-loop-at : goal.invariant-loop-at
invariant-loop-at l = in_class l.class Searching l.initial.work l.root l.work l.at

abbrev pub decreases-loop-at : goal.decreases-loop-at
decreases-loop-at l = measure l.class.n (view l.class.n l.work l.at) l.at.size l.at.stand
