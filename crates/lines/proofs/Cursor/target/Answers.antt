-- `target` takes `-` or a number, by the byte at the cursor.
use Rattle.std.proofs.Common.{sym, ◌∙◌}
use Rattle.lines.specs.Says.{target-number}
use Rattle.lines.proofs.Cursor.target.Goals as goal

pub returns : goal.returns
returns c =
    (c.number.ensures.0 ∙ sym (target-number _ _ c.requires.0 c.if-text-self-eq45.false), c.number.ensures.1)
