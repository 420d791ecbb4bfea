-- `trace::turn` answers the whole lines of what is kept and what was read, and keeps the rest.
use Rattle.trace.specs.Turned.{turned_over, turned_on}
use Rattle.trace.proofs.turn.Goals as goal

pub returns-then-chunk-clause-turned : goal.returns-then-chunk-clause-turned
returns-then-chunk-clause-turned c =
    turned_over c.in_ok-chunk.ensures.behind c.whole-whole.ensures c.in_ok-serve.ensures.served c.requires.0 c.if-chunk.true

pub returns-clause-turned : goal.returns-clause-turned
returns-clause-turned c = turned_on c.in_ok-chunk.ensures.behind c.whole-whole.ensures c.in_ok-serve.ensures.served c.if-chunk.false c.carry.ensures
