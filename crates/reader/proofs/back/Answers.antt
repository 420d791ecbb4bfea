-- `reader::back` goes back to the last byte 10, or as far as it may.
use Rattle.std.proofs.Common.{rules}
use Rattle.std.proofs.iter.runs.Made.{chains}
use Rattle.reader.specs.Blocks.{back_some, back_none}
use Rattle.reader.proofs.back.Goals as goal

pub returns-in-Some : goal.returns-in-Some
returns-in-Some c = back_some c.args.text.now c.requires (search (rules, chains))

pub returns-in-None : goal.returns-in-None
returns-in-None c = back_none c.args.text.now c.requires (search (rules, chains))
