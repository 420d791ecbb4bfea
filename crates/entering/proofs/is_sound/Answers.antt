-- `entering::is_sound` meets its contract: the tables decide, and then the register.
use Rattle.entering.specs.Judged.{judged_flawed, judged_sound}
use Rattle.entering.proofs.is_sound.Goals as goal

pub returns-then-is_sound : goal.returns-then-is_sound
returns-then-is_sound c =
    judged_sound _ c.is_sound.ensures.1 c.requires.1 c.if-is_sound.true c.is_sound.ensures.0 c.agrees.ensures.0 c.agrees.ensures.1

pub returns-else-is_sound : goal.returns-else-is_sound
returns-else-is_sound c = judged_flawed _ c.is_sound.ensures.1 c.if-is_sound.false c.is_sound.ensures.0
