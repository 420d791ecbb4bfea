-- `reader::total` counts drafts, frozen pieces and groups: the loop keeps `Totalled` up to p.
use Rattle.reader.specs.Ended.{Totalled}
use Rattle.reader.proofs.total.Given as goal

abbrev pub invariant-loop-p : goal.invariant-loop-p
invariant-loop-p l = Totalled l.states l.leaders l.p l.drafts l.frozen l.groups
