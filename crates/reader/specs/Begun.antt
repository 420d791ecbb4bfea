-- The empty store stands: where a trace begins.
use Rattle.std.specs.Prelude.{ℕ, ◌*◌, ◌≤◌, replicate}
use Rattle.std.proofs.Common.{zero-le, arith}
use Rattle.std.proofs.Math.ListN.{length-replicate}
use Rattle.rules.specs.Limits.{most}
use Rattle.rules.specs.Tables.{empty_tables, empty}
use Rattle.demands.specs.Sound.{empty-ok}
use Rattle.obeying.specs.Obeyed.{Stands}

-- over the capacity, so that nothing computes
pub begun : (n : ℕ) → 1 ≤ n → n ≤ most → Stands n (empty n) (replicate n 0) (replicate (8 * n) 0) 0
begun n a b = record {
  ready = record { least = unfold empty empty_tables in a; sized = (empty-ok n b).sized; sound = (empty-ok n b).sound };
  room = omega (arith, length-replicate {A = ℕ} n 0);
  wide = omega (arith, length-replicate {A = ℕ} (8 * n) 0);
  small = zero-le;
  none = λ q k. absurd (omega arith);
}
