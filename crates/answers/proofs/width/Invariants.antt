-- `width` passes the powers of ten that a number reaches.
use Rattle.std.proofs.Common.{◌≡◌, ◌-◌, ◌^◌, ◌≤◌, ◌<◌}
use Rattle.answers.proofs.width.Given as goal

abbrev pub invariant-loop-k : goal.invariant-loop-k
invariant-loop-k l = record { next : l.power ≡ 10 ^ l.k; reached : 1 < l.k → 10 ^ (l.k - 1) ≤ l.v }
