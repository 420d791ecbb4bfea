-- The loop's invariant: the digits passed give a value below that power of ten,
-- and what is left of the text gives the number once these digits are read.
use Rattle.std.proofs.Common.{◌≡◌, ◌+◌, ◌^◌, ◌<◌, length, drop}
use Rattle.rules.specs.Trace.{number}
use Rattle.lines.specs.Numbers.{number_after}
use Rattle.lines.proofs.Cursor.number.Given as goal

abbrev pub invariant-loop-k : goal.invariant-loop-k
invariant-loop-k l =
    record {
      inside : l.self.at + l.k < length l.text;
      few : l.v < 10 ^ l.k;
      same : number_after l.k l.v (drop (l.self.at + l.k) l.text) ≡ number (drop l.self.at l.text);
    }
