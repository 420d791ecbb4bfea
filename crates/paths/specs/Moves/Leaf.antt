-- An unseen piece that names no piece is finished at once, as a group of its own.
use Rattle.std.specs.Prelude.{◌≡◌, refl, List, ◌⊎◌, ℕ, ◌≤◌, ◌<◌, set}
use Rattle.std.proofs.Common.{sym, ◌∙◌, subst, inl, inr, arith, length-set}
use Rattle.std.proofs.Math.Path.{ap}
use Rattle.std.proofs.Math.Logic.{⊎_elim}
use Rattle.rules.specs.Reach.{here, chain}
use Rattle.rules.specs.Lists.{◌!◌}
use Rattle.laws.specs.Numbers.{set_cases}
use Rattle.paths.specs.Ground.{Ground, Way, Leads, Reached}
use Rattle.paths.specs.Search.{finished_mark, sign, MarksClosed, Stack, Explored, Ends, Others, Regions, Invariant}
use Rattle.paths.specs.Sums.{count-more}

abbrev pub leafed : Regions → ℕ → Regions
leafed s y = record {
  marks = set s.marks y finished_mark;
  next = s.next;
  leaders = set s.leaders y y;
  stack = s.stack;
  starts = s.starts;
  parents = s.parents;
}

-- a piece that names none reaches itself alone
leaf_lowest : (g : Ground) (y q : ℕ) → ((j : ℕ) → j < 4 → g.n ≤ g.at y j) → Way g y q → y ≤ q
leaf_lowest g y q none here = omega arith
leaf_lowest g y q none (chain l r) = absurd (omega (arith, none l.place l.inside, l.names, l.to))

module _ {g : Ground} {old : Regions} {root : ℕ} {s : Regions} {size blocks stand : ℕ} (I : Invariant g old root s size blocks stand) (y : ℕ) (y-lt : y < g.n)
    (y_reached : Reached g root y) (y-new : s.marks ! y ≡ 0) (none : (j : ℕ) → j < 4 → g.n ≤ g.at y j) where
  abbrev marks' : List ℕ
  marks' = set s.marks y finished_mark

  marks_at : (v : ℕ) → ((v ≡ y) × (marks' ! v ≡ finished_mark)) ⊎ ((v ≡ y → ⊥) × (marks' ! v ≡ s.marks ! v))
  marks_at v = set_cases s.marks y finished_mark v 0 (omega (arith, y-lt, I.base.sizes.marks_n))

  leaders_at : (v : ℕ) → ((v ≡ y) × (set s.leaders y y ! v ≡ y)) ⊎ ((v ≡ y → ⊥) × (set s.leaders y y ! v ≡ s.leaders ! v))
  leaders_at v = set_cases s.leaders y y v 0 (omega (arith, y-lt, I.base.sizes.leaders_n))

  -- what was finished is finished
  still : (v : ℕ) → s.marks ! v ≡ finished_mark → marks' ! v ≡ finished_mark
  still v e = ⊎_elim (λ w. w.1) (λ w. w.1 ∙ e) (marks_at v)

  stack : Stack g root marks' s.stack size
  unfolding sign
  stack = record {
    stack_lt = I.base.stack.stack_lt;
    stack_marks = λ q lt.
        let e = I.base.stack.stack_marks q lt in
        ⊎_elim (λ w. absurd (omega (arith, e, ap (λ (u : ℕ). s.marks ! u) w.0, y-new))) (λ w. w.1 ∙ e) (marks_at (s.stack ! q));
    stack_in = I.base.stack.stack_in;
    marks_stack = λ v lt r a b.
        ⊎_elim
        (λ w. absurd (b w.1))
        (λ w. let o = I.base.stack.marks_stack v lt r (λ e. a (w.1 ∙ e)) (λ e. b (w.1 ∙ e)) in (o.0, w.1 ∙ o.1, o.2, o.3))
        (marks_at v);
    few =
        let one : sign (marks' ! y) ≡ 1 = ⊎_elim (λ w. ap sign w.1) (λ w. absurd (w.0 refl)) (marks_at y) in
        let more = count-more s.marks marks' g.n y y-lt y-new one (λ i lt f. ⊎_elim (λ w. absurd (f w.0)) (λ w. w.1) (marks_at i)) in
        omega (arith, I.base.stack.few, more);
  }

  explored : Explored g root marks' s.next s.stack s.starts size blocks
  explored = record {
    four = I.base.explored.four;
    fresh = λ v lt r z. ⊎_elim (λ w. absurd (omega (arith, w.1))) (λ w. I.base.explored.fresh v lt r (sym w.1 ∙ z)) (marks_at v);
    seen = λ q lt j a b d i u v.
        let o = I.base.explored.seen q lt j a b d i u v in
        ⊎_elim (λ w. absurd (omega (arith, o, ap (λ (x : ℕ). s.marks ! x) w.0, y-new))) (λ w. omega (arith, o, w.1)) (marks_at (g.at (s.stack ! q) j));
  }

  closed : MarksClosed g (Reached g root) marks'
  closed x lt r e j u v w =
      ⊎_elim
      (λ z. absurd (omega (arith, none j u, ap (λ (x : ℕ). g.at x j) z.0)))
      (λ z. still (g.at x j) (I.base.ends.closed x lt r (sym z.1 ∙ e) j u v w))
      (marks_at x)

  itself : Leads g y y
  itself = record { there = here; back = here; lowest = λ q r r'. leaf_lowest g y q none r }

  ends : Ends g root marks' (set s.leaders y y)
  ends = record {
    closed = closed;
    exact = λ x lt r e.
        ⊎_elim
        (λ w. subst (λ (l : ℕ). Leads g x l) (sym w.1) (subst (λ (x : ℕ). Leads g x y) (sym w.0) itself))
        (λ w. subst (λ (l : ℕ). Leads g x l) (sym w.1)
        (I.base.ends.exact x lt r (⊎_elim (λ z. absurd (w.0 z.0)) (λ z. sym z.1 ∙ e) (marks_at x))))
        (leaders_at x);
  }

  others : Others g root old marks' s.next (set s.leaders y y)
  others = record {
    same = λ v lt.
        ⊎_elim
        (λ r. inl r)
        (λ e. ⊎_elim
        (λ w. inl (subst (λ (x : ℕ). Reached g root x) (sym w.0) y_reached))
        (λ w. inr (w.1 ∙ e.0, e.1, ⊎_elim (λ z. absurd (w.0 z.0)) (λ z. z.1) (leaders_at v) ∙ e.2))
        (marks_at v))
        (I.base.others.same v lt);
  }

  pub leaf : Invariant g old root (leafed s y) size blocks stand
  leaf = record {
    base = record {
      small = I.base.small;
      sizes = record {
        marks_n = simp length-set I.base.sizes.marks_n;
        next-n = I.base.sizes.next-n;
        leaders_n = simp length-set I.base.sizes.leaders_n;
        stack_n = I.base.sizes.stack_n;
        starts-n = I.base.sizes.starts-n;
        parents_n = I.base.sizes.parents_n;
      };
      stack = stack;
      bounds = I.base.bounds;
      trail = I.base.trail;
      explored = explored;
      ends = ends;
      others = others;
    };
    live = I.live;
    rooted = λ e. ⊎_elim (λ w. omega (arith, w.1)) (λ w. I.rooted (sym w.1 ∙ e)) (marks_at root);
  }
