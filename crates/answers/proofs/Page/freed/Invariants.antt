-- `freed` writes the freed numbers: those passed stand there, in at most 6 bytes each.
use Rattle.std.proofs.Common.{◌+◌, ◌*◌, ◌≤◌, take}
use Rattle.rules.specs.Trace.{spaced}
use Rattle.answers.specs.Page.{Puts}
use Rattle.answers.proofs.Page.freed.Given as goal

abbrev pub invariant-loop-number : goal.invariant-loop-number
invariant-loop-number l =
    record {
      few_bytes : l.self.at ≤ l.fn.self.at + 6 * l.number-index;
      written : Puts (spaced (take l.number-index l.freed)) l.fn.self l.self;
    }
