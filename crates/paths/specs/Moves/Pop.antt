-- A piece with all places explored that starts the last block: the block is a group, and is finished.
use Rattle.std.specs.Prelude.{◌≡◌, refl, List, ◌⊎◌, ℕ, suc, pred, ◌≤◌, ◌<◌, length}
use Rattle.std.proofs.Math.Path.{sym, ap}
use Rattle.std.proofs.Common.{◌∙◌, subst, inl, inr, arith}
use Rattle.std.proofs.Math.Logic.{⊎_elim}
use Rattle.rules.specs.Reach.{here}
use Rattle.rules.specs.Lists.{◌!◌}
use Rattle.laws.specs.Words.{trans}
use Rattle.laws.specs.Numbers.{eq_or, lt_or}
use Rattle.paths.specs.Ground.{Ground, Way, Leads, OneWay, Reached, reached_next, way_at}
use Rattle.paths.specs.Search.{finished_mark, MarksClosed, sign, Stack, Starts, Trail, Explored, Ends, Others, Standing, Regions, Invariant}
use Rattle.paths.specs.Sums.{count_le, count_same}
use Rattle.paths.specs.Runs.{up_to, back_to}
use Rattle.paths.specs.Stays.{kept_in}

abbrev pub popped : Regions → List ℕ → List ℕ → Regions
popped s marks leaders = record { marks = marks; next = s.next; leaders = leaders; stack = s.stack; starts = s.starts; parents = s.parents }

-- what the loop that finishes a block has done
pub record Closing (g : Ground) (marks leaders stack : List ℕ) (stand size low : ℕ) (marks' leaders' : List ℕ) : Type 0 where
  pub marks_len : length marks' ≡ length marks
  pub leaders_len : length leaders' ≡ length leaders
  pub hit : (q : ℕ) → stand ≤ q → q < size → (marks' ! (stack ! q) ≡ finished_mark) × (leaders' ! (stack ! q) ≡ low)
  pub miss : (u : ℕ) → u < g.n → ((q : ℕ) → stand ≤ q → q < size → stack ! q ≡ u → ⊥) → (marks' ! u ≡ marks ! u) × (leaders' ! u ≡ leaders ! u)

pub record LowestOnStack (stack : List ℕ) (stand size low : ℕ) : Type 0 where
  pub place : ℕ
  pub from_stand : stand ≤ place
  pub to_size : place < size
  pub is : stack ! place ≡ low
  pub least : (q : ℕ) → stand ≤ q → q < size → low ≤ stack ! q

module _ {g : Ground} (C : OneWay g) {old : Regions} {root : ℕ} {s : Regions} {size blocks stand : ℕ} (I : Invariant g old root s size blocks stand) (live : 0 < size)
    (full : s.next ! (s.stack ! stand) ≡ 4) (starts : s.starts ! pred blocks ≡ stand) {low : ℕ} (lowest : LowestOnStack s.stack stand size low)
    {marks' leaders' : List ℕ} (did : Closing g s.marks s.leaders s.stack stand size low marks' leaders') where
  L : Standing g s.next s.stack s.starts root size blocks stand
  L = I.live live

  blocks_pos : 0 < blocks
  blocks_pos = I.base.bounds.some live

  abbrev In : ℕ → Type 0
  In u = (q : ℕ) × (stand ≤ q) × (q < size) × (s.stack ! q ≡ u)

  abbrev Out : ℕ → Type 0
  Out u = (q : ℕ) → stand ≤ q → q < size → s.stack ! q ≡ u → ⊥

  position : (p q : ℕ) → p < size → q < size → s.stack ! p ≡ s.stack ! q → p ≡ q
  position p q a b e = omega (arith, I.base.stack.stack_marks p a, I.base.stack.stack_marks q b, ap (λ (u : ℕ). s.marks ! u) e)

  -- where a piece of the block stands, its mark tells
  in_at : (u q : ℕ) → q < size → s.stack ! q ≡ u → q ≡ pred (s.marks ! u)
  in_at u q b e = omega (arith, I.base.stack.stack_marks q b, ap (λ (u : ℕ). s.marks ! u) e)

  low_or : (u : ℕ) → In u ⊎ Out u
  low_or u =
      ⊎_elim
      (λ l. ⊎_elim
      (λ h. inr (λ q a b e. omega (arith, in_at u q b e)))
      (λ h. ⊎_elim
      (λ e. inl (pred (s.marks ! u), h, l, e))
      (λ f. inr (λ q a b e. f (ap (λ (p : ℕ). s.stack ! p) (sym (in_at u q b e)) ∙ e)))
      (eq_or (s.stack ! pred (s.marks ! u)) u))
      (lt_or (pred (s.marks ! u)) stand))
      (λ h. inr (λ q a b e. omega (arith, in_at u q b e)))
      (lt_or (pred (s.marks ! u)) size)

  in_marks : (u : ℕ) → In u → marks' ! u ≡ finished_mark
  in_marks u i = ap (λ (x : ℕ). marks' ! x) (sym i.3) ∙ (did.hit i.0 i.1 i.2).0

  in_leaders : (u : ℕ) → In u → leaders' ! u ≡ low
  in_leaders u i = ap (λ (x : ℕ). leaders' ! x) (sym i.3) ∙ (did.hit i.0 i.1 i.2).1

  in_old : (u : ℕ) → (i : In u) → s.marks ! u ≡ suc i.0
  in_old u i = ap (λ (x : ℕ). s.marks ! x) (sym i.3) ∙ I.base.stack.stack_marks i.0 i.2

  in_not_fin : (u : ℕ) → In u → s.marks ! u ≡ finished_mark → ⊥
  in_not_fin u i e = omega (arith, in_old u i, i.2, I.base.small, I.base.stack.few, count_le s.marks g.n)

  out_marks : (u : ℕ) → u < g.n → Out u → marks' ! u ≡ s.marks ! u
  out_marks u lt o = (did.miss u lt o).0

  below_out : (q : ℕ) → q < stand → Out (s.stack ! q)
  below_out q lt p a b e = omega (arith, position p q b (omega (arith, L.stand_lt)) e)

  fin_up : (u : ℕ) → u < g.n → s.marks ! u ≡ finished_mark → marks' ! u ≡ finished_mark
  fin_up u lt e = ⊎_elim (λ i. in_marks u i) (λ o. out_marks u lt o ∙ e) (low_or u)

  zero_down : (u : ℕ) → u < g.n → marks' ! u ≡ 0 → s.marks ! u ≡ 0
  zero_down u lt e = ⊎_elim (λ i. absurd (omega (arith, in_marks u i))) (λ o. sym (out_marks u lt o) ∙ e) (low_or u)

  sign_same : (u : ℕ) → u < g.n → sign (s.marks ! u) ≡ sign (marks' ! u)
  unfolding sign
  sign_same u lt = ⊎_elim (λ i. ap sign (in_old u i) ∙ sym (ap sign (in_marks u i))) (λ o. ap sign (sym (out_marks u lt o))) (low_or u)

  stack : Stack g root marks' s.stack stand
  stack = record {
    stack_lt = λ q lt. I.base.stack.stack_lt q (omega (arith, L.stand_lt));
    stack_marks = λ q lt.
        out_marks (s.stack ! q) (I.base.stack.stack_lt q (omega (arith, L.stand_lt))) (below_out q lt) ∙ I.base.stack.stack_marks q (omega (arith, L.stand_lt));
    stack_in = λ q lt. I.base.stack.stack_in q (omega (arith, L.stand_lt));
    marks_stack = λ v lt k a b.
        ⊎_elim
        (λ i. absurd (b (in_marks v i)))
        (λ o.
        let e = out_marks v lt o in
        let r = I.base.stack.marks_stack v lt k (λ z. a (e ∙ z)) (λ z. b (e ∙ z)) in
        ⊎_elim
        (λ h. (r.0, e ∙ r.1, h, r.3))
        (λ h. absurd (o r.0 h r.2 r.3))
        (lt_or r.0 stand))
        (low_or v);
    few = omega (arith, L.stand_lt, I.base.stack.few, count_same s.marks marks' g.n sign_same);
  }

  last_below : (i : ℕ) → i < pred blocks → s.starts ! i < stand
  last_below i lt = omega (arith, I.base.bounds.mono i (pred blocks) lt (omega (arith, blocks_pos)), starts)

  bounds : Starts s.starts stand (pred blocks)
  bounds = record {
    some = λ h. ⊎_elim (λ p. p) (λ z.
        let e : pred blocks ≡ 0 = omega arith in
        absurd (omega (arith, starts, ap (λ (m : ℕ). s.starts ! m) e, I.base.bounds.base blocks_pos))) (lt_or 0 (pred blocks));
    base = λ h. I.base.bounds.base blocks_pos;
    mono = λ i j a b. I.base.bounds.mono i j a (omega arith);
    below = last_below;
    rank = λ i lt. I.base.bounds.rank i (omega arith);
  }

  trail : Trail g s.next s.stack s.starts s.parents stand (pred blocks)
  trail = record {
    par_le = λ q lt. I.base.trail.par_le q (omega (arith, L.stand_lt));
    par_lt = λ q lt. I.base.trail.par_lt q (omega (arith, L.stand_lt));
    par_in = λ q lt p i u. I.base.trail.par_in q (omega (arith, L.stand_lt)) p i (omega arith);
    par_full = λ q lt. I.base.trail.par_full q (omega (arith, L.stand_lt));
    up = λ q lt. I.base.trail.up q (omega (arith, L.stand_lt));
    back = λ q lt none. I.base.trail.back q (omega (arith, L.stand_lt)) (λ i u e.
        ⊎_elim (λ h. none i h e)
        (λ h. let m : i ≡ pred blocks = omega arith in omega (arith, starts, ap (λ (m : ℕ). s.starts ! m) m))
        (lt_or i (pred blocks)));
  }

  explored : Explored g root marks' s.next s.stack s.starts stand (pred blocks)
  explored = record {
    four = I.base.explored.four;
    fresh = λ v lt k z. I.base.explored.fresh v lt k (zero_down v lt z);
    seen = λ q lt j u v w i x y.
        let o = I.base.explored.seen q (omega (arith, L.stand_lt)) j u v w i (omega arith) y in
        ⊎_elim
        (λ n. omega (arith, in_marks _ n, last_below i x, L.stand_lt, I.base.small, I.base.stack.few, count_le s.marks g.n))
        (λ n. omega (arith, o, out_marks (g.at (s.stack ! q) j) v n))
        (low_or (g.at (s.stack ! q) j));
  }

  -- all places of a piece of the block are explored
  all_four_lem : (q : ℕ) → stand ≤ q → q < size → s.next ! (s.stack ! q) ≡ 4
  all_four_lem q a b = ⊎_elim (λ e. ap (λ (m : ℕ). s.next ! (s.stack ! m)) e ∙ full) (λ f. L.stand_full q (omega (arith, f)) b) (eq_or q stand)

  block_closed : (q : ℕ) → stand ≤ q → q < size → (j : ℕ) → j < 4 → g.at (s.stack ! q) j < g.n → g.state (g.at (s.stack ! q) j) ≡ g.class
      → marks' ! (g.at (s.stack ! q) j) ≡ finished_mark
  block_closed q a b j u v w =
      let t : ℕ = g.at (s.stack ! q) j in
      let o : s.starts ! pred blocks < s.marks ! t =
      I.base.explored.seen q b j (omega (arith, all_four_lem q a b)) v w (pred blocks) (omega (arith, blocks_pos)) (omega (arith, starts)) in
      ⊎_elim
      (λ f. fin_up t v f)
      (λ nf.
      let k = reached_next (I.base.stack.stack_in q b) (I.base.stack.stack_lt q b) j u v w in
      let r = I.base.stack.marks_stack t v k (λ z. omega (arith, z, o)) nf in
      in_marks t ((r.0, omega (arith, r.1, o, starts), r.2, r.3)))
      (eq_or (s.marks ! t) finished_mark)

  closed : MarksClosed g (Reached g root) marks'
  closed x lt k e j u =
      ⊎_elim
      (λ i. subst (λ (x : ℕ). g.at x j < g.n → g.state (g.at x j) ≡ g.class → marks' ! (g.at x j) ≡ finished_mark) i.3 (block_closed i.0 i.1 i.2 j u))
      (λ o v w. fin_up (g.at x j) v (I.base.ends.closed x lt k (sym (out_marks x lt o) ∙ e) j u v w))
      (low_or x)

  -- any two pieces of the block reach each other
  within : (p q : ℕ) → stand ≤ p → p < size → stand ≤ q → q < size → Way g (s.stack ! p) (s.stack ! q)
  within p q a b d e =
      trans (up_to I.base.trail p (pred size) (omega arith) (omega arith)) (trans L.top (up_to I.base.trail stand q d e))

  exact_in : (p : ℕ) → stand ≤ p → p < size → Leads g (s.stack ! p) low
  exact_in p a b = record {
    there = way_at refl (sym lowest.is) (within p lowest.place a b lowest.from_stand lowest.to_size);
    back = way_at (sym lowest.is) refl (within lowest.place p lowest.from_stand lowest.to_size a b);
    lowest = λ y r r'.
        let lt : s.stack ! p < g.n = I.base.stack.stack_lt p b in
        let x-in = I.base.stack.stack_in p b in
        let k = kept_in marks' C closed x-in.is r r' lt x-in (did.hit p a b).0 in
        ⊎_elim
        (λ i. omega (arith, lowest.least i.0 i.1 i.2, i.3))
        (λ o.
        let yf : s.marks ! y ≡ finished_mark = sym (out_marks y k.0 o) ∙ k.2 in
        let m = kept_in s.marks C I.base.ends.closed x-in.is r' here k.0 k.1 yf in
        absurd (in_not_fin (s.stack ! p) ((p, a, b, refl)) m.2))
        (low_or y);
  }

  ends : Ends g root marks' leaders'
  ends = record {
    closed = closed;
    exact = λ x lt k e.
        ⊎_elim
        (λ i. subst (λ (l : ℕ). Leads g x l) (sym (in_leaders x i)) (subst (λ (x : ℕ). Leads g x low) i.3 (exact_in i.0 i.1 i.2)))
        (λ o. subst (λ (l : ℕ). Leads g x l) (sym (did.miss x lt o).1) (I.base.ends.exact x lt k (sym (out_marks x lt o) ∙ e)))
        (low_or x);
  }

  others : Others g root old marks' s.next leaders'
  others = record {
    same = λ v lt.
        ⊎_elim
        (λ k. inl k)
        (λ e. ⊎_elim
        (λ i. inl (subst (λ (x : ℕ). Reached g root x) i.3 (I.base.stack.stack_in i.0 i.2)))
        (λ o. inr (out_marks v lt o ∙ e.0, e.1, (did.miss v lt o).1 ∙ e.2))
        (low_or v))
        (I.base.others.same v lt);
  }

  root_lt : root < g.n
  root_lt = omega (arith, I.base.stack.stack_lt 0 live, L.first)

  pub pop : Invariant g old root (popped s marks' leaders') stand (pred blocks) (s.parents ! stand)
  pop = record {
    base = record {
      small = I.base.small;
      sizes = record {
        marks_n = did.marks_len ∙ I.base.sizes.marks_n;
        next-n = I.base.sizes.next-n;
        leaders_n = did.leaders_len ∙ I.base.sizes.leaders_n;
        stack_n = I.base.sizes.stack_n;
        starts-n = I.base.sizes.starts-n;
        parents_n = I.base.sizes.parents_n;
      };
      stack = stack;
      bounds = bounds;
      trail = trail;
      explored = explored;
      ends = ends;
      others = others;
    };
    live = λ p.
        let down : s.parents ! stand < stand = I.base.trail.par_lt stand L.stand_lt p in
        record {
          stand_lt = down;
          stand_in = λ i lt. I.base.trail.par_in stand L.stand_lt p i (omega arith) (last_below i lt);
          stand_full = λ r a b. I.base.trail.par_full stand L.stand_lt p r a b;
          top = back_to trail (s.parents ! stand) (pred stand) (omega arith) (omega arith)
              (λ i lt a b. omega (arith, I.base.trail.par_in stand L.stand_lt p i (omega arith) (last_below i lt)));
          first = L.first;
        };
    rooted = λ e. I.rooted (zero_down root root_lt e);
  }
