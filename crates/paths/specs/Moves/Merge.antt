-- Blocks are merged: the block starts above a position are dropped.
use Rattle.std.proofs.Common.{subst, ⊎_elim, arith}
use Rattle.std.specs.Prelude.{ℕ, suc, pred, ◌≤◌, ◌<◌}
use Rattle.rules.specs.Lists.{◌!◌}
use Rattle.laws.specs.Words.{trans}
use Rattle.laws.specs.Numbers.{lt_or}
use Rattle.paths.specs.Ground.{Ground, Way}
use Rattle.paths.specs.Search.{Trail, Regions, Invariant}
use Rattle.paths.specs.Runs.{up_to}

module _ {g : Ground} {old : Regions} {root : ℕ} {s : Regions} {size blocks stand : ℕ} (I : Invariant g old root s size blocks stand) (live : 0 < size) (t : ℕ) (t-lt : t < size)
    (hit : Way g (s.stack ! stand) (s.stack ! t)) (b : ℕ) (b-pos : 0 < b) (b-le : b ≤ blocks) (below : s.starts ! pred b ≤ t)
    (above : (i : ℕ) → b ≤ i → i < blocks → t < s.starts ! i) where
  T : Trail g s.next s.stack s.starts s.parents size blocks
  T = I.base.trail

  pub merge : Invariant g old root s size b stand
  merge = record {
    base = record {
      small = I.base.small;
      sizes = I.base.sizes;
      stack = I.base.stack;
      bounds = record {
        some = λ _. b-pos;
        base = λ _. I.base.bounds.base (omega arith);
        mono = λ i j lt lt'. I.base.bounds.mono i j lt (omega arith);
        below = λ i lt. I.base.bounds.below i (omega arith);
        rank = λ i lt. I.base.bounds.rank i (omega arith);
      };
      trail = record {
        par_le = T.par_le;
        par_lt = T.par_lt;
        par_in = λ p lt pos i u. T.par_in p lt pos i (omega arith);
        par_full = T.par_full;
        up = T.up;
        back = λ p lt none.
            ⊎_elim
            (λ h. trans (up_to T (suc p) (pred size) (omega arith) (omega arith))
            (trans (I.live live).top (trans hit (up_to T t p (omega arith) (omega arith)))))
            (λ h. T.back p lt (λ i u e.
            ⊎_elim (λ v. none i v e) (λ v. omega (arith, above i v u)) (lt_or i b)))
            (lt_or t (suc p));
      };
      explored = record {
        four = I.base.explored.four;
        fresh = I.base.explored.fresh;
        seen = λ p lt j u v w i x. I.base.explored.seen p lt j u v w i (omega arith);
      };
      ends = I.base.ends;
      others = I.base.others;
    };
    live = λ pos.
        let L = I.live pos in
        record {
          stand_lt = L.stand_lt;
          stand_in = λ i u. L.stand_in i (omega arith);
          stand_full = L.stand_full;
          top = L.top;
          first = L.first;
        };
    rooted = I.rooted;
  }

  -- every block that is left starts at t or before
  pub merged_below : (i : ℕ) → i < b → s.starts ! i ≤ t
  merged_below i lt =
      ⊎_elim
      (λ h. omega (arith, I.base.bounds.mono i (pred b) h (omega arith)))
      (λ h. subst (λ (m : ℕ). s.starts ! m ≤ t) (omega arith) below)
      (lt_or i (pred b))
