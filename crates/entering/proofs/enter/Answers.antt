-- `entering::enter` judges the sizes, then the soundness; an unsound store leaves work cleared.
use Rattle.std.proofs.Common.{refl, inr, arith, ap, not}
use Rattle.entering.specs.Entered.{fits→, left_clear}
use Rattle.entering.specs.Judged.{granted, denied}
use Rattle.entering.proofs.enter.Goals as goal

pub is_sound-requires : goal.is_sound-requires
is_sound-requires c = let z = fits→ (granted (ap not c.if-not-fits.false) c.fits.ensures) in (z.sized, z.worked)

pub leave-requires : goal.leave-requires
leave-requires c =
    let z = fits→ (granted (ap not c.if-not-fits.false) c.fits.ensures) in
    (omega (arith, z.sized.tables.base.most), omega (arith, z.worked, c.is_sound.ensures.1.size))

pub returns-then-not-is_sound : goal.returns-then-not-is_sound
returns-then-not-is_sound c =
    record { began = inr (refl, (granted (ap not c.if-not-fits.false) c.fits.ensures, denied (ap not c.if-not-is_sound.true) c.is_sound.ensures.0, left_clear _ c.is_sound.ensures.1 c.leave.ensures)) }
