-- `groups::visit_all` meets its contract: every piece of the class below `root` is finished.
use Rattle.std.proofs.Common.{refl}
use Rattle.groups.specs.Whole.{already}
use Rattle.groups.specs.Roots.{trying-none, trying_start, trying-more, trying_pass, trying-all}
use Rattle.groups.proofs.visit_all.Goals as goal
use Rattle.groups.proofs.visit_all.Goals.{then-states-root+then-get-eq0, then-states-root+else-get-eq0, else-states-root}

pub loop-root-init : goal.loop-root-init
loop-root-init c = trying-none c.requires

pub loop-root-preserved : goal.loop-root-preserved
loop-root-preserved c =
    let Q = c.loop-root.invariant in
    let lt = c.loop-root-test.true in
    elim c.if-states-root.branch [
      | then-states-root+then-get-eq0 w ↦ rw w.work-is (trying-more Q w.search.ensures lt w.if-states-root.true w.search.auto.work)
      | then-states-root+else-get-eq0 w ↦
          let started = trying_start Q lt w.if-states-root.true in
          rw w.work-is (trying-more Q (already started w.get.ensures w.if-get-eq0.false) lt w.if-states-root.true refl)
      | else-states-root w ↦ rw w.work-is (trying_pass Q lt w.if-states-root.false)
    ]

pub returns : goal.returns
returns c = trying-all c.loop-root.invariant c.loop-root-test.false
