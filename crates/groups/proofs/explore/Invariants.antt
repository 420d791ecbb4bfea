-- `groups::explore` meets its contract: each place explored is one move of the search.
use Rattle.paths.specs.Search.{measure}
use Rattle.groups.specs.Steps.{view}
use Rattle.groups.specs.Class.{in_class}
use Rattle.groups.specs.Advance.{Exploring}
use Rattle.groups.proofs.explore.Given as goal

abbrev pub invariant-loop-at : goal.invariant-loop-at
invariant-loop-at l = in_class l.class Exploring l.initial.work l.initial.at l.work l.at l.end

abbrev pub decreases-loop-at : goal.decreases-loop-at
decreases-loop-at l = measure l.class.n (view l.class.n l.work l.at) l.at.size l.at.stand
