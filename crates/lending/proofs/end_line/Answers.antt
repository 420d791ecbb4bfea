-- `lending::end_line` copies as many bytes of a line as are enough and puts byte 10 behind them.
use Rattle.std.proofs.Common.{ℕ, ◌∙◌, ap, arith, take, length-append, length-take, length-drop, take-take}
use Rattle.std.proofs.lemmas.List.{take-append-le}
use Rattle.std.proofs.lemmas.Bool.Decides.{nat_tests}
use Rattle.lending.specs.Filled.{ends_some}
use Rattle.lending.proofs.end_line.Goals as goal

pub returns : goal.returns
returns c =
    let size = c.min-size.result in
    ends_some c.args.line.now c.args.last.now _ (grind (arith, nat_tests)) c.requires (omega arith)
    (omega (arith, length-append {A = ℕ}, length-take {A = ℕ}, length-drop {A = ℕ}))
    (take-append-le size _ _ (omega (arith, length-take {A = ℕ})) ∙ ap (take size) c.copy_from_slice.ensures.after ∙ take-take size size c.args.line.now (omega arith))
