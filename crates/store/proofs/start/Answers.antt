-- `store::start` keeps its promise: areas of the right sizes are filled, others are left, and each keeps its length.
use Rattle.std.proofs.Common.{refl, ap, not}
use Rattle.entering.specs.Judged.{sizes}
use Rattle.entering.specs.Started.{start_short, start_done}
use Rattle.store.proofs.start.Goals as goal

pub returns-then-not-sized : goal.returns-then-not-sized
returns-then-not-sized c = search start_short

pub clear-requires : goal.clear-requires
clear-requires c = (sizes (ap not c.if-not-sized.false) c.sized.ensures).1.register

pub returns : goal.returns
returns c =
    start_done (ap not c.if-not-sized.false) c.sized.ensures c.fresh.ensures (record {
      n = refl;
      states = c.fill.ensures.after (λ y e. e);
      links = c.fill-2.ensures.after (λ y e. e);
      leaders = c.fill-3.ensures.after (λ y e. e);
      holds = c.fill-4.ensures.after (λ y e. e);
      counts = c.fill-5.ensures.after (λ y e. e);
    }) c.clear.ensures (c.fill-6.ensures.after (λ y e. e))
