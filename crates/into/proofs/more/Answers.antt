-- `into::more` meets its contract: the target's entry changes, or none does.
use Rattle.into.specs.Moves.{more-none, more-one}
use Rattle.into.proofs.more.Goals as goal

pub returns-then-counts_for : goal.returns-then-counts_for
returns-then-counts_for c = more-one c.requires (c.if-counts_for.ensures {u = tt})

pub returns-else-counts_for : goal.returns-else-counts_for
returns-else-counts_for c = more-none (c.if-counts_for.ensures {u = tt})
