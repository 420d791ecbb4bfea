-- `sound::zero_pieces` meets its contract: one fill of the first two regions, and one of the last two.
use Rattle.std.proofs.Common.{◌*◌, ◌-◌, arith}
use Rattle.sound.specs.Zeros.{fill_zeroed, pieces_zeroed}
use Rattle.sound.proofs.zero_pieces.Goals as goal

pub returns : goal.returns
returns c =
    let n = c.args.n in
    let a = fill_zeroed 0 (2 * n) (2 * n) _ _ (omega arith) (omega (arith, c.requires.1)) (c.fill.ensures.after (λ y z. z)) in
    let b = fill_zeroed (6 * n) (8 * n - 6 * n) (8 * n) _ _ (omega arith) (omega (arith, a.kept.size, c.requires.1)) (c.fill-2.ensures.after (λ y z. z)) in
    pieces_zeroed a b
