-- Bin keeps the pieces well.
use Rattle.std.proofs.Common.{sym}
use Rattle.std.specs.Prelude.{◌≢◌, ℕ, ◌<◌, T}
use Rattle.std.proofs.Math.Logic.{⊎_elim}
use Rattle.std.proofs.Math.Bool.{not}
use Rattle.std.proofs.Math.Dec.{T_not, eqb}
use Rattle.rules.specs.Tests.{◌&◌}
use Rattle.laws.specs.Tests.{and_both}
use Rattle.rules.specs.Below.{any}
use Rattle.laws.specs.Below.{T_dec, →some}
use Rattle.rules.specs.Tables.{Base, link_at}
use Rattle.rules.specs.Words.{wfree}
use Rattle.laws.specs.Words.{eqb_of, neqb_of}
use Rattle.laws.specs.Settle.{freed_well, kept_well}
use Rattle.rules.specs.Commands.{is_linked, free_all}
use Rattle.laws.specs.Passes.{Wells}

-- ---- bin

module _ (b : Base) (ws : Wells b) (p : ℕ) (un : T (not (is_linked b p))) where
  named : (q k : ℕ) → q < b.n → q ≢ p → k < 4 → link_at b q k ≢ p
  unfolding is_linked
  named q k m d i e =
      T_not (is_linked b p) un
      (→some (λ r. not (eqb r p) & any (λ k. eqb (link_at b r k) p) 4) b.n q m
      (and_both (not (eqb q p)) (any (λ k. eqb (link_at b q k) p) 4) (neqb_of {m = q} {n = p} d) (→some (λ k. eqb (link_at b q k) p) 4 k i (eqb_of e))))

  pub bin_well : Wells (free_all b (eqb p))
  unfolding free_all
  bin_well q m =
      ⊎_elim (λ t. wfree (freed_well b (eqb p) q m t)) (λ t.
      let d : q ≢ p = λ x. T_not (eqb p q) t (eqb_of (sym x)) in
      kept_well b (eqb p) q m t (λ k i l. neqb_of {m = p} {n = link_at b q k} (λ x. named q k m d i (sym x))) (ws q m)) (T_dec (eqb p q))
