-- A place is explored: its piece's counter goes up by one.
use Rattle.std.specs.Prelude.{◌≡◌, ℕ, suc, ◌≤◌, ◌<◌, length, set}
use Rattle.std.proofs.Common.{sym, ◌∙◌, ap, subst, inl, inr, ⊎_elim, arith, length-set, get_or-set_other}
use Rattle.rules.specs.Lists.{◌!◌}
use Rattle.laws.specs.Numbers.{lt_or, set_cases}
use Rattle.paths.specs.Ground.{Ground, Reached}
use Rattle.paths.specs.Search.{Regions, Invariant}

abbrev pub bumped : Regions → ℕ → Regions
bumped s v = record { marks = s.marks; next = set s.next v (suc (s.next ! v)); leaders = s.leaders; stack = s.stack; starts = s.starts; parents = s.parents }

module _ {g : Ground} {old : Regions} {root : ℕ} {s : Regions} {size blocks stand : ℕ} (I : Invariant g old root s size blocks stand) (q : ℕ) (q-lt : q < size)
    (more : s.next ! (s.stack ! q) < 4)
    (good : g.at (s.stack ! q) (s.next ! (s.stack ! q)) < g.n → g.state (g.at (s.stack ! q) (s.next ! (s.stack ! q))) ≡ g.class
    → (i : ℕ) → i < blocks → s.starts ! i ≤ q → s.starts ! i < s.marks ! (g.at (s.stack ! q) (s.next ! (s.stack ! q)))) where
  v_lt : s.stack ! q < length s.next
  v_lt = omega (arith, I.base.stack.stack_lt q q-lt, I.base.sizes.next-n)

  still : (x : ℕ) → s.next ! x ≡ 4 → (bumped s (s.stack ! q)).next ! x ≡ 4
  still x e =
      ⊎_elim
      (λ w. absurd (omega (arith, ap (λ (u : ℕ). s.next ! u) w.0)))
      (λ w. w.1 ∙ e)
      (set_cases s.next (s.stack ! q) (suc (s.next ! (s.stack ! q))) x 0 v_lt)

  inj : (p : ℕ) → p < size → s.stack ! p ≡ s.stack ! q → p ≡ q
  inj p lt e = omega (arith, I.base.stack.stack_marks p lt, I.base.stack.stack_marks q q-lt, ap (λ (u : ℕ). s.marks ! u) e)

  seen : (p : ℕ) → p < size → (j : ℕ) → j < (bumped s (s.stack ! q)).next ! (s.stack ! p) → g.at (s.stack ! p) j < g.n → g.state (g.at (s.stack ! p) j) ≡ g.class
      → (i : ℕ) → i < blocks → s.starts ! i ≤ p → s.starts ! i < s.marks ! (g.at (s.stack ! p) j)
  seen p lt j j-lt =
      ⊎_elim
      (λ w.
      let e : p ≡ q = inj p lt w.0 in
      ⊎_elim
      (λ l. I.base.explored.seen p lt j (omega (arith, ap (λ (u : ℕ). s.next ! u) w.0)))
      (λ h.
      let ej : j ≡ s.next ! (s.stack ! q) = omega (arith, w.1) in
      subst (λ (p : ℕ). g.at (s.stack ! p) j < g.n → g.state (g.at (s.stack ! p) j) ≡ g.class
      → (i : ℕ) → i < blocks → s.starts ! i ≤ p → s.starts ! i < s.marks ! (g.at (s.stack ! p) j)) (sym e)
      (subst (λ (j : ℕ). g.at (s.stack ! q) j < g.n → g.state (g.at (s.stack ! q) j) ≡ g.class
      → (i : ℕ) → i < blocks → s.starts ! i ≤ q → s.starts ! i < s.marks ! (g.at (s.stack ! q) j)) (sym ej) good))
      (lt_or j (s.next ! (s.stack ! q))))
      (λ w. I.base.explored.seen p lt j (omega (arith, w.1)))
      (set_cases s.next (s.stack ! q) (suc (s.next ! (s.stack ! q))) (s.stack ! p) 0 v_lt)

  pub bump : Invariant g old root (bumped s (s.stack ! q)) size blocks stand
  bump = record {
    base = record {
      small = I.base.small;
      sizes = record {
        marks_n = I.base.sizes.marks_n;
        next-n = simp length-set I.base.sizes.next-n;
        leaders_n = I.base.sizes.leaders_n;
        stack_n = I.base.sizes.stack_n;
        starts-n = I.base.sizes.starts-n;
        parents_n = I.base.sizes.parents_n;
      };
      stack = I.base.stack;
      bounds = I.base.bounds;
      trail = record {
        par_le = I.base.trail.par_le;
        par_lt = I.base.trail.par_lt;
        par_in = I.base.trail.par_in;
        par_full = λ p lt pos r a b. still (s.stack ! r) (I.base.trail.par_full p lt pos r a b);
        up = I.base.trail.up;
        back = I.base.trail.back;
      };
      explored = record {
        four = λ v lt r.
            ⊎_elim (λ w. omega (arith, w.1)) (λ w. omega (arith, w.1, I.base.explored.four v lt r))
            (set_cases s.next (s.stack ! q) (suc (s.next ! (s.stack ! q))) v 0 v_lt);
        fresh = λ v lt r z.
            get_or-set_other s.next (s.stack ! q) v (suc (s.next ! (s.stack ! q))) 0
            (λ e. omega (arith, I.base.stack.stack_marks q q-lt, ap (λ (u : ℕ). s.marks ! u) e)) ∙ I.base.explored.fresh v lt r z;
        seen = seen;
      };
      ends = I.base.ends;
      others = record {
        same = λ v lt.
            ⊎_elim
            (λ r. inl r)
            (λ e. ⊎_elim
            (λ w. inl (subst (λ (x : ℕ). Reached g root x) (sym w.0) (I.base.stack.stack_in q q-lt)))
            (λ w. inr (e.0, w.1 ∙ e.1, e.2))
            (set_cases s.next (s.stack ! q) (suc (s.next ! (s.stack ! q))) v 0 v_lt))
            (I.base.others.same v lt);
      };
    };
    live = λ pos.
        let L = I.live pos in
        record {
          stand_lt = L.stand_lt;
          stand_in = L.stand_in;
          stand_full = λ r a b. still (s.stack ! r) (L.stand_full r a b);
          top = L.top;
          first = L.first;
        };
    rooted = I.rooted;
  }
