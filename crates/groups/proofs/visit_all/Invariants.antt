-- `groups::visit_all` meets its contract: every piece of the class below `root` is finished.
use Rattle.groups.specs.Roots.{Trying}
use Rattle.groups.proofs.visit_all.Given as goal

abbrev pub invariant-loop-root : goal.invariant-loop-root
invariant-loop-root l = Trying l.n l.states l.links l.class l.initial.work l.work l.root
