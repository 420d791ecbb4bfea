-- An unseen piece is pushed, as a block of its own.
use Rattle.std.specs.Prelude.{◌≡◌, List, ◌⊎◌, length}
use Rattle.std.proofs.Math.Path.{refl, sym, ap, subst}
use Rattle.std.proofs.Common.{◌∙◌, inl, inr, length-set, get_or-set_same, get_or-set_other}
use Rattle.std.proofs.Math.Logic.{⊎_elim}
use Prim.Native.Nat.{ℕ, suc, pred, ◌≤◌, ◌<◌}
use native.Mathlib.Omega.{arith}
use Rattle.std.proofs.Math.ListN.{set}
use Rattle.rules.specs.Reach.{here}
use Rattle.rules.specs.Lists.{◌!◌}
use Rattle.laws.specs.Words.{trans}
use Rattle.laws.specs.Numbers.{lt_or, set_cases}
use Rattle.paths.specs.Ground.{Ground, Way, Reached, way_at}
use Rattle.paths.specs.Search.{finished_mark, sign, Stack, Starts, Trail, Explored, Ends, Others, Standing, Regions, Steady, Invariant}
use Rattle.paths.specs.Sums.{count_lt, count-more}

-- an entry of a list that grows at its end
end_cases : (l : List ℕ) (m x : ℕ) → m < length l → (q : ℕ) → q < suc m → ((q < m) × (set l m x ! q ≡ l ! q)) ⊎ ((q ≡ m) × (set l m x ! q ≡ x))
end_cases l m x h q lt =
    ⊎_elim
    (λ e. inr e)
    (λ e. inl (omega (arith, e.0), e.1))
    (set_cases l m x q 0 h)

abbrev pub pushed : Regions → ℕ → ℕ → ℕ → ℕ → Regions
pushed s size blocks stand y = record {
  marks = set s.marks y (suc size);
  next = s.next;
  leaders = s.leaders;
  stack = set s.stack size y;
  starts = set s.starts blocks size;
  parents = set s.parents size stand;
}

-- a piece is unseen: the stack has room for one more
pub stack_room : {g : Ground} {root : ℕ} {marks stack : List ℕ} {size : ℕ} → Stack g root marks stack size → (y : ℕ) → y < g.n → marks ! y ≡ 0 → size < g.n
stack_room {g} {marks = marks} S y lt e = omega (arith, S.few, count_lt marks g.n y lt e)

-- no more blocks than pieces
pub blocks_few : {starts : List ℕ} {size blocks : ℕ} → Starts starts size blocks → blocks ≤ size
blocks_few {blocks = blocks} S =
    ⊎_elim (λ h. omega (arith, S.rank (pred blocks) (omega arith), S.below (pred blocks) (omega arith))) (λ h. omega arith) (lt_or 0 blocks)

module _ {g : Ground} {old : Regions} {root : ℕ} {s : Regions} {size blocks stand : ℕ} (B : Steady g old root s size blocks)
    (lv : 0 < size → Standing g s.next s.stack s.starts root size blocks stand) (rooted : 0 < size → s.marks ! root ≡ 0 → ⊥)
    (y : ℕ) (y-lt : y < g.n) (y-in : g.state y ≡ g.class) (y-new : s.marks ! y ≡ 0)
    (hit : 0 < size → Way g (s.stack ! stand) y) (begin : size ≡ 0 → y ≡ root) (ahead : stand ≤ size) where
  size_lt : size < g.n
  size_lt = stack_room B.stack y y-lt y-new

  blocks_le : blocks ≤ size
  blocks_le = blocks_few B.bounds

  size_stack : size < length s.stack
  size_stack = omega (arith, size_lt, B.sizes.stack_n)

  size_parents : size < length s.parents
  size_parents = omega (arith, size_lt, B.sizes.parents_n)

  blocks_starts : blocks < length s.starts
  blocks_starts = omega (arith, size_lt, blocks_le, B.sizes.starts-n)

  y_marks : y < length s.marks
  y_marks = omega (arith, y-lt, B.sizes.marks_n)

  stack_old : (q : ℕ) → q < size → set s.stack size y ! q ≡ s.stack ! q
  stack_old q lt = get_or-set_other s.stack size q y 0 (λ e. omega arith)

  stack_new : set s.stack size y ! size ≡ y
  stack_new = get_or-set_same s.stack size y 0 size_stack

  starts_old : (q : ℕ) → q < blocks → set s.starts blocks size ! q ≡ s.starts ! q
  starts_old q lt = get_or-set_other s.starts blocks q size 0 (λ e. omega arith)

  starts_new : set s.starts blocks size ! blocks ≡ size
  starts_new = get_or-set_same s.starts blocks size 0 blocks_starts

  -- a block start is old, or the new one
  starts-at : (i : ℕ) → i < suc blocks → ((i < blocks) × (set s.starts blocks size ! i ≡ s.starts ! i)) ⊎ ((i ≡ blocks) × (set s.starts blocks size ! i ≡ size))
  starts-at = end_cases s.starts blocks size blocks_starts

  stack_at : (i : ℕ) → i < suc size → ((i < size) × (set s.stack size y ! i ≡ s.stack ! i)) ⊎ ((i ≡ size) × (set s.stack size y ! i ≡ y))
  stack_at = end_cases s.stack size y size_stack

  parents_at : (i : ℕ) → i < suc size → ((i < size) × (set s.parents size stand ! i ≡ s.parents ! i)) ⊎ ((i ≡ size) × (set s.parents size stand ! i ≡ stand))
  parents_at = end_cases s.parents size stand size_parents

  marks_new : set s.marks y (suc size) ! y ≡ suc size
  marks_new = get_or-set_same s.marks y (suc size) 0 y_marks

  marks_old : (v : ℕ) → (v ≡ y → ⊥) → set s.marks y (suc size) ! v ≡ s.marks ! v
  marks_old v f = get_or-set_other s.marks y v (suc size) 0 f

  marks_at : (v : ℕ) → ((v ≡ y) × (set s.marks y (suc size) ! v ≡ suc size)) ⊎ ((v ≡ y → ⊥) × (set s.marks y (suc size) ! v ≡ s.marks ! v))
  marks_at v = set_cases s.marks y (suc size) v 0 y_marks

  not-y : (q : ℕ) → q < size → s.stack ! q ≡ y → ⊥
  not-y q lt e = omega (arith, B.stack.stack_marks q lt, ap (λ (u : ℕ). s.marks ! u) e)

  y_reached : Reached g root y
  y_reached = record {
    is = y-in;
    way =
        ⊎_elim
        (λ h. trans (B.stack.stack_in stand (lv h).stand_lt).way (hit h))
        (λ h. way_at refl (begin (omega arith)) here)
        (lt_or 0 size);
  }

  stack : Stack g root (set s.marks y (suc size)) (set s.stack size y) (suc size)
  unfolding sign
  stack = record {
    stack_lt = λ q lt. ⊎_elim (λ w. omega (arith, w.1, B.stack.stack_lt q w.0)) (λ w. omega (arith, w.1)) (stack_at q lt);
    stack_marks = λ q lt.
        ⊎_elim
        (λ w. ap (λ (u : ℕ). set s.marks y (suc size) ! u) w.1 ∙ marks_old (s.stack ! q) (not-y q w.0) ∙ B.stack.stack_marks q w.0)
        (λ w. ap (λ (u : ℕ). set s.marks y (suc size) ! u) w.1 ∙ marks_new ∙ ap suc (sym w.0))
        (stack_at q lt);
    stack_in = λ q lt.
        ⊎_elim
        (λ w. subst (λ (x : ℕ). Reached g root x) (sym w.1) (B.stack.stack_in q w.0))
        (λ w. subst (λ (x : ℕ). Reached g root x) (sym w.1) y_reached)
        (stack_at q lt);
    marks_stack = λ v lt r a b.
        ⊎_elim
        (λ w. (size, w.1, omega arith, stack_new ∙ sym w.0))
        (λ w.
        let o = B.stack.marks_stack v lt r (λ e. a (w.1 ∙ e)) (λ e. b (w.1 ∙ e)) in
        (o.0, w.1 ∙ o.1, omega (arith, o.2), stack_old o.0 o.2 ∙ o.3))
        (marks_at v);
    few = omega (
      arith,
      B.stack.few,
      count-more s.marks (set s.marks y (suc size)) g.n y y-lt y-new (ap sign marks_new ∙ sign-suc) (λ i lt f. marks_old i f),
    );
  }
    where
      sign-suc : sign (suc size) ≡ 1
      sign-suc = refl

  bounds : Starts (set s.starts blocks size) (suc size) (suc blocks)
  bounds = record {
    some = λ _. omega arith;
    base = λ _.
        ⊎_elim
        (λ w. w.1 ∙ B.bounds.base w.0)
        (λ w. w.1 ∙ ⊎_elim (λ h. absurd (omega (arith, w.0, B.bounds.some h))) (λ h. omega arith) (lt_or 0 size))
        (starts-at 0 (omega arith));
    mono = λ i j lt lt'.
        ⊎_elim
        (λ w. omega (arith, w.1, starts_old i (omega arith), B.bounds.mono i j lt w.0))
        (λ w. omega (arith, w.1, starts_old i (omega arith), B.bounds.below i (omega arith)))
        (starts-at j lt');
    below = λ i lt. ⊎_elim (λ w. omega (arith, w.1, B.bounds.below i w.0)) (λ w. omega (arith, w.1)) (starts-at i lt);
    rank = λ i lt. ⊎_elim (λ w. omega (arith, w.1, B.bounds.rank i w.0)) (λ w. omega (arith, w.1, blocks_le)) (starts-at i lt);
  }

  trail : Trail g s.next (set s.stack size y) (set s.starts blocks size) (set s.parents size stand) (suc size) (suc blocks)
  trail = record {
    par_le = λ q lt. ⊎_elim (λ w. omega (arith, w.1, B.trail.par_le q w.0)) (λ w. omega (arith, w.1, ahead)) (parents_at q lt);
    par_lt = λ q lt pos.
        ⊎_elim (λ w. omega (arith, w.1, B.trail.par_lt q w.0 pos)) (λ w. omega (arith, w.1, (lv (omega arith)).stand_lt)) (parents_at q lt);
    par_in = λ q lt pos i u v.
        ⊎_elim
        (λ w. ⊎_elim
        (λ x. omega (arith, w.1, x.1, B.trail.par_in q w.0 pos i x.0 (omega (arith, x.1))))
        (λ x. absurd (omega (arith, x.1)))
        (starts-at i u))
        (λ w. ⊎_elim
        (λ x. omega (arith, w.1, x.1, (lv (omega arith)).stand_in i x.0))
        (λ x. absurd (omega (arith, x.1)))
        (starts-at i u))
        (parents_at q lt);
    par_full = λ q lt pos r a b.
        ap (λ (u : ℕ). s.next ! u) (stack_old r (omega arith)) ∙
        ⊎_elim
        (λ w. B.trail.par_full q w.0 pos r (omega (arith, w.1)) b)
        (λ w. (lv (omega arith)).stand_full r (omega (arith, w.1)) (omega arith))
        (parents_at q lt);
    up = λ q lt.
        ⊎_elim
        (λ w. way_at (stack_old q (omega arith)) w.1 (B.trail.up q w.0))
        (λ w.
        let e : q ≡ pred size = omega arith in
        way_at (stack_old q (omega arith) ∙ ap (λ (u : ℕ). s.stack ! u) e) w.1 (trans (lv (omega arith)).top (hit (omega arith))))
        (stack_at (suc q) lt);
    back = λ q lt none.
        ⊎_elim
        (λ w. way_at w.1 (stack_old q (omega arith)) (B.trail.back q w.0 (λ i u e. none i (omega arith) (starts_old i u ∙ e))))
        (λ w. absurd (none blocks (omega arith) (starts_new ∙ sym w.0)))
        (stack_at (suc q) lt);
  }

  seen_old : (q : ℕ) → q < size → (j : ℕ) → j < s.next ! (s.stack ! q) → g.at (s.stack ! q) j < g.n → g.state (g.at (s.stack ! q) j) ≡ g.class
      → (i : ℕ) → i < suc blocks → set s.starts blocks size ! i ≤ q → set s.starts blocks size ! i < set s.marks y (suc size) ! (g.at (s.stack ! q) j)
  seen_old q lt j a b d i u v =
      ⊎_elim
      (λ w. ⊎_elim
      (λ x. omega (arith, w.1, x.1, B.bounds.below i w.0))
      (λ x. omega (arith, w.1, x.1, B.explored.seen q lt j a b d i w.0 (omega (arith, w.1))))
      (marks_at (g.at (s.stack ! q) j)))
      (λ w. absurd (omega (arith, w.1)))
      (starts-at i u)

  SeenAt : ℕ → ℕ → Type 0
  SeenAt q x = (j : ℕ) → j < s.next ! x → g.at x j < g.n → g.state (g.at x j) ≡ g.class
      → (i : ℕ) → i < suc blocks → set s.starts blocks size ! i ≤ q → set s.starts blocks size ! i < set s.marks y (suc size) ! (g.at x j)

  seen_at : (q : ℕ) → q < suc size → SeenAt q (set s.stack size y ! q)
  unfolding SeenAt
  seen_at q lt =
      ⊎_elim
      (λ w. subst (λ (x : ℕ). SeenAt q x) (sym w.1) (seen_old q w.0))
      (λ w. subst (λ (x : ℕ). SeenAt q x) (sym w.1) (λ j a. absurd (omega (arith, B.explored.fresh y y-lt y_reached y-new))))
      (stack_at q lt)

  explored : Explored g root (set s.marks y (suc size)) s.next (set s.stack size y) (set s.starts blocks size) (suc size) (suc blocks)
  unfolding SeenAt
  explored = record {
    four = B.explored.four;
    fresh = λ v lt r z. ⊎_elim (λ w. absurd (omega (arith, w.1))) (λ w. B.explored.fresh v lt r (sym w.1 ∙ z)) (marks_at v);
    seen = seen_at;
  }

  fin_old : (v : ℕ) → set s.marks y (suc size) ! v ≡ finished_mark → s.marks ! v ≡ finished_mark
  fin_old v e = ⊎_elim (λ w. absurd (omega (arith, w.1, size_lt, B.small))) (λ w. sym w.1 ∙ e) (marks_at v)

  fin_new : (v : ℕ) → s.marks ! v ≡ finished_mark → set s.marks y (suc size) ! v ≡ finished_mark
  fin_new v e = ⊎_elim (λ w. absurd (omega (arith, ap (λ (u : ℕ). s.marks ! u) w.0))) (λ w. w.1 ∙ e) (marks_at v)

  ends : Ends g root (set s.marks y (suc size)) s.leaders
  ends = record {
    closed = λ x lt r e j u v w. fin_new (g.at x j) (B.ends.closed x lt r (fin_old x e) j u v w);
    exact = λ x lt r e. B.ends.exact x lt r (fin_old x e);
  }

  others : Others g root old (set s.marks y (suc size)) s.next s.leaders
  others = record {
    same = λ v lt.
        ⊎_elim
        (λ r. inl r)
        (λ e. ⊎_elim (λ w. inl (subst (λ (x : ℕ). Reached g root x) (sym w.0) y_reached)) (λ w. inr (w.1 ∙ e.0, e.1, e.2)) (marks_at v))
        (B.others.same v lt);
  }

  pub push : Invariant g old root (pushed s size blocks stand y) (suc size) (suc blocks) size
  push = record {
    base = record {
      small = B.small;
      sizes = record {
        marks_n = simp length-set B.sizes.marks_n;
        next-n = B.sizes.next-n;
        leaders_n = B.sizes.leaders_n;
        stack_n = simp length-set B.sizes.stack_n;
        starts-n = simp length-set B.sizes.starts-n;
        parents_n = simp length-set B.sizes.parents_n;
      };
      stack = stack;
      bounds = bounds;
      trail = trail;
      explored = explored;
      ends = ends;
      others = others;
    };
    live = λ pos. record {
      stand_lt = omega arith;
      stand_in = λ i lt. ⊎_elim (λ w. omega (arith, w.1, B.bounds.below i w.0)) (λ w. omega (arith, w.1)) (starts-at i lt);
      stand_full = λ r a b. absurd (omega arith);
      top = subst (λ (m : ℕ). Way g (set s.stack size y ! m) (set s.stack size y ! size)) (omega arith) here;
      first =
          ⊎_elim
          (λ w. w.1 ∙ (lv (omega (arith, w.0))).first)
          (λ w. w.1 ∙ begin (sym w.0))
          (stack_at 0 (omega arith));
    };
    rooted = λ e.
        ⊎_elim
        (λ w. omega (arith, w.1))
        (λ w. ⊎_elim (λ h. rooted h (sym w.1 ∙ e)) (λ h. w.0 (sym (begin (omega arith)))) (lt_or 0 size))
        (marks_at root);
  }
