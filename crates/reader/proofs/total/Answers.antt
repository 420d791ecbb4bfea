-- `reader::total` counts drafts, frozen pieces and groups: the loop keeps `Totalled` up to p.
use Rattle.reader.specs.Ended.{total-none, total-more}
use Rattle.reader.proofs.total.Goals as goal

pub loop-p-init : goal.loop-p-init
loop-p-init c = total-none

pub loop-p-preserved : goal.loop-p-preserved
loop-p-preserved c = total-more c.loop-p.invariant c.is_state-drafts.ensures c.is_state-frozen.ensures c.leads_one-groups.ensures
