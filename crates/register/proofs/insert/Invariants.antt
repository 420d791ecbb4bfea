-- `register::insert` meets its contract: the lines from i on stand one further, block by block.
use Rattle.std.proofs.Common.{List, ℕ, ◌+◌, ◌*◌}
use Rattle.register.specs.Opened.{Opened}
use Rattle.register.proofs.insert.Given as goal

abbrev pub invariant-loop-blocks : goal.invariant-loop-blocks
invariant-loop-blocks here =
    (l : List ℕ) → Opened l here.i (3 * here.i + 96 * here.initial.blocks) here.initial.register → Opened l here.i (3 * here.i + 96 * here.blocks) here.register

abbrev pub decreases-loop-blocks : goal.decreases-loop-blocks
decreases-loop-blocks l = l.blocks
