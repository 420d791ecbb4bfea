-- A piece with all places explored that starts no block: back to its parent.
use Rattle.std.specs.Prelude.{◌≡◌, ℕ, pred, ◌≤◌, ◌<◌}
use Rattle.std.proofs.Common.{sym, ap, subst, ⊎_elim, arith}
use Rattle.rules.specs.Lists.{◌!◌}
use Rattle.laws.specs.Words.{trans}
use Rattle.laws.specs.Numbers.{eq_or, lt_or}
use Rattle.paths.specs.Ground.{Ground}
use Rattle.paths.specs.Search.{Standing, Regions, Invariant}
use Rattle.paths.specs.Runs.{back_to}

module _ {g : Ground} {old : Regions} {root : ℕ} {s : Regions} {size blocks stand : ℕ} (I : Invariant g old root s size blocks stand) (live : 0 < size)
    (full : s.next ! (s.stack ! stand) ≡ 4) (inner : s.starts ! pred blocks ≡ stand → ⊥) where
  L : Standing g s.next s.stack s.starts root size blocks stand
  L = I.live live

  apart : (i : ℕ) → i < blocks → s.starts ! i < stand
  apart i lt =
      let d : s.starts ! i ≤ s.starts ! pred blocks =
      ⊎_elim
      (λ h. omega (arith, I.base.bounds.mono i (pred blocks) h (omega arith)))
      (λ h. let e : i ≡ pred blocks = omega arith in omega (arith, ap (λ (m : ℕ). s.starts ! m) e))
      (lt_or i (pred blocks))
      in
      let u : s.starts ! pred blocks ≤ stand = L.stand_in (pred blocks) (omega arith) in
      ⊎_elim (λ h. omega arith) (λ h. absurd (inner (omega arith))) (lt_or (s.starts ! pred blocks) stand)

  pub stand_pos : 0 < stand
  stand_pos = omega (arith, apart 0 (I.base.bounds.some live))

  pub back : Invariant g old root s size blocks (s.parents ! stand)
  back = record {
    base = I.base;
    live = λ pos.
        let down : s.parents ! stand < stand = I.base.trail.par_lt stand L.stand_lt stand_pos in
        record {
          stand_lt = omega (arith, L.stand_lt);
          stand_in = λ i lt. I.base.trail.par_in stand L.stand_lt stand_pos i lt (apart i lt);
          stand_full = λ r a b.
              ⊎_elim
              (λ h. I.base.trail.par_full stand L.stand_lt stand_pos r a h)
              (λ h. ⊎_elim (λ e. subst (λ (m : ℕ). s.next ! (s.stack ! m) ≡ 4) (sym e) full) (λ f. L.stand_full r (omega (arith, f)) b) (eq_or r stand))
              (lt_or r stand);
          top = trans L.top (back_to I.base.trail (s.parents ! stand) stand (omega arith) L.stand_lt
              (λ i lt a b. omega (arith, I.base.trail.par_in stand L.stand_lt stand_pos i lt (apart i lt))));
          first = L.first;
        };
    rooted = I.rooted;
  }
