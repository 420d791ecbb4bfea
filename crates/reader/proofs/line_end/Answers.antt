-- `reader::line_end` asks the first 64 bytes, passes blocks in which no line ends and asks the next 64.
use Rattle.std.proofs.Common.{arith}
use Rattle.reader.specs.Lines.{no_end_join}
use Rattle.reader.specs.Blocks.{first_here, first_on, first_join, line_past}
use Rattle.reader.proofs.line_end.Goals as goal

pub returns-in-Some : goal.returns-in-Some
returns-in-Some c = first_here (omega arith) c.in-Some.ensures.1 c.in-Some.ensures.0

pub pass-far-requires-clause-place : goal.pass-far-requires-clause-place
pass-far-requires-clause-place c = (first_on (omega arith) c.in_default.ensures (omega arith) c.requires.1, omega arith, c.requires.1)

pub returns : goal.returns
returns c =
    let text = c.args.text.now in
    let passed = first_join (omega arith) c.in_default.ensures (omega arith) c.requires.1 (no_end_join text _ _ _ c.pass-far.ensures.2 c.pass-near.ensures.2) in
    line_past (omega (arith, c.pass-far.ensures.0, c.pass-near.ensures.0)) passed c.near_end.ensures
