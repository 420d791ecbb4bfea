-- What the pass of a freeze asks, and what it leaves: the counts of older groups stay, and those of fresh groups are counted from nothing.
use Rattle.std.specs.Prelude.{◌≡◌, ◌⊎◌, List, ℕ, ◌+◌, ◌≤◌, ◌<◌, length, set}
use Rattle.std.proofs.Common.{sym, ◌∙◌, subst, inl, inr, ⊎_elim, arith}
use Rattle.rules.specs.Limits.{none}
use Rattle.rules.specs.Reach.{here}
use Rattle.rules.specs.Tables.{Base, Tables, state, link_at, holds_of}
use Rattle.rules.specs.Words.{Frozen, Reaches}
use Rattle.rules.specs.Lists.{◌!◌}
use Rattle.laws.specs.Words.{end_below}
use Rattle.laws.specs.Passes.{draft_of}
use Rattle.laws.specs.Numbers.{lt_or}
use Rattle.paths.specs.Classes.{frozen_stays}
use Rattle.tallies.specs.Sums.{get_or_any}
use Rattle.tallies.specs.Tally.{label, CountsMatch}
use Rattle.tallies.specs.Moves.{tally-most, match_hold}
use Rattle.tallies.specs.Exact.{Exact, label_past, label_frozen}
use Rattle.tallies.specs.Stores.{wells_of, exact_of, match_of, holds_most, counts_most}
use Rattle.into.specs.Stores.{IntoBase}
use Rattle.recounting.specs.Standing.{Standing, fresh_leaders, standing_or, fresh-n, fresh_on, fresh_off}
use Rattle.recounting.specs.Taken.{Taking, Taken}
use Rattle.freezing.specs.Freezable.{Freezable}
use Rattle.freezing.specs.Assembled.{Assembled}
use Rattle.tallies.specs.Joined.{Joined, Apart, tally_joined}

module _ {s : Tables} {work : List ℕ} {p : ℕ} (d : Freezable s work p) {leaders₁ found queue : List ℕ}
    (m : Assembled s.base.n s.base.states s.base.links s.leaders p leaders₁ found queue) where
  abbrev b : Base
  b = s.base

  abbrev n : ℕ
  n = b.n

  small : n ≤ 1024
  small = d.ready.sized.base.most

  was_draft : (q : ℕ) → q < n → Standing queue q → state b q ≡ 1
  unfolding state
  was_draft q h e = (m.«only» q h e).0

  lead_below : (q : ℕ) → q < n → Standing queue q → found ! q < n
  lead_below q h e = end_below h (m.leads q h (m.«only» q h e)).there

  back : (q : ℕ) → q < n → Standing queue q → Reaches b (found ! q) q
  unfolding link_at
  back q h e = (m.leads q h (m.«only» q h e)).back

  old : Exact b s.leaders
  old = exact_of s d.ready

  -- a leader that was found leads no frozen piece
  leads-none : (t q : ℕ) → t < n → q < n → (Standing queue t → ⊥) → Standing queue q → leaders₁ ! t ≡ found ! q → ⊥
  leads-none t q h k f e y =
      let L : ℕ = found ! q in
      let x : label s.leaders t ≡ L = get_or_any s.leaders t none 0 (omega (arith, d.ready.sized.leaders)) ∙ sym (m.left t h f) ∙ y in
      let g : Frozen b L = subst (Frozen b) x (old.leads t (label_frozen b s.leaders old t (subst (λ (z : ℕ). z < n) (sym x) (lead_below q k e)))).member.frozen in
      let z : state b q ≡ 2 = frozen_stays b small (wells_of s d.ready) g.is (back q k e) in
      let w = was_draft q k e in
      omega arith

  pub taking : {into : List ℕ} → length found ≡ s.base.n → IntoBase s.base into → Taking s.base.n s.base.states s.base.links leaders₁ s.counts into found queue
  taking wide x = record {
    small = small;
    states_n = d.ready.sized.base.states;
    links_n = d.ready.sized.base.links;
    leaders_n = m.leaders_n ∙ d.ready.sized.leaders;
    counts_n = d.ready.sized.counts;
    found_n = wide;
    fit = lead_below;
    draft = λ q h e. unfold state in (was_draft q h e);
    apart = leads-none;
    most = λ l h. let y = counts_most s d.ready l h in omega arith;
    queued = m.queued;
    named = x;
  }

  module _ {into states' leaders' counts' into' : List ℕ}
      (t : Taken s.base.n s.base.states s.base.links leaders₁ s.counts into found queue states' leaders' counts' into') where
    leaders_size : length leaders' ≡ n
    leaders_size = t.made.leaders_n ∙ m.leaders_n ∙ d.ready.sized.leaders

    entry : (l : List ℕ) (q : ℕ) → length l ≡ n → q < n → label l q ≡ l ! q
    entry l q e h = get_or_any l q none 0 (omega arith)

    joined : (q : ℕ) → Joined s.leaders (fresh_leaders n found queue) leaders' q
    joined q = ⊎_elim (λ h. ⊎_elim (λ e. inr (on h e)) (λ f. inl (off h f)) (standing_or queue q)) (λ h. inl (past h)) (lt_or q n)
      where
        on : q < n → Standing queue q → (label leaders' q ≡ label (fresh_leaders n found queue) q) × (label s.leaders q ≡ none)
        on h e = (
          entry leaders' q leaders_size h ∙ (t.made.on q h e).1 ∙ sym (fresh_on n found queue q h e),
          old.others q h (λ z. let y = was_draft q h e in omega arith),
        )

        off : q < n → (Standing queue q → ⊥) → (label leaders' q ≡ label s.leaders q) × (label (fresh_leaders n found queue) q ≡ none)
        off h f = (
          entry leaders' q leaders_size h ∙ (t.made.off q f).1 ∙ m.left q h f ∙ sym (entry s.leaders q d.ready.sized.leaders h),
          fresh_off n found queue q h f,
        )

        past : n ≤ q → (label leaders' q ≡ label s.leaders q) × (label (fresh_leaders n found queue) q ≡ none)
        past h = (label_past n leaders' q leaders_size h ∙ sym (label_past n s.leaders q d.ready.sized.leaders h), label_past n (fresh_leaders n found queue) q (fresh-n n found queue) h)

    -- a leader is frozen, and a fresh leader reaches a draft
    apart : Apart n s.leaders (fresh_leaders n found queue)
    apart a q L h x y =
        ⊎_elim
        (λ k. ⊎_elim (λ e. on k e) (λ f. off k f) (standing_or queue q))
        (λ k. omega (arith, label_past n (fresh_leaders n found queue) q (fresh-n n found queue) k, small))
        (lt_or q n)
      where
        off : q < n → (Standing queue q → ⊥) → ⊥
        off k f = omega (arith, fresh_off n found queue q k f, small)

        on : q < n → Standing queue q → ⊥
        on k e =
            let f : Frozen b L = subst (Frozen b) x (old.leads a (label_frozen b s.leaders old a (omega arith))).member.frozen in
            let is : L ≡ found ! q = sym y ∙ fresh_on n found queue q k e in
            let r : Reaches b (found ! q) q = back q k e in
            let g : state b q ≡ 2 = frozen_stays b small (wells_of s d.ready) f.is (subst (λ (z : ℕ). Reaches b z q) (sym is) r) in
            let z = was_draft q k e in
            omega arith

    bare_draft : (q : ℕ) → q < n → Standing queue q → b.holds ! q ≡ 0
    unfolding holds_of
    bare_draft q h e = (draft_of b q (wells_of s d.ready q h) (was_draft q h e)).holds

    bare : (q : ℕ) → q < n → (label leaders' q ≡ label s.leaders q) ⊎ (b.holds ! q ≡ 0)
    bare q h =
        ⊎_elim
        (λ e. inr (bare_draft q h e))
        (λ f. inl (entry leaders' q leaders_size h ∙ (t.made.off q f).1 ∙ m.left q h f ∙ sym (entry s.leaders q d.ready.sized.leaders h)))
        (standing_or queue q)

    counted : CountsMatch n b.links b.holds leaders' counts'
    counted L h =
        let x = match_of s d.ready L h in
        omega (arith, t.counted L h, tally_joined n s.leaders (fresh_leaders n found queue) leaders' small joined apart b.links b.holds bare L h)

    fresh_p : Standing queue p
    fresh_p = m.all p d.below (d.is, here)

    -- the leader of p is a piece, and its count has room
    pub leader_lt : leaders' ! p < n
    leader_lt = subst (λ (x : ℕ). x < n) (sym (t.made.on p d.below fresh_p).1) (lead_below p d.below fresh_p)

    pub leader_few : counts' ! (leaders' ! p) < 1028097
    leader_few = omega (arith, counted (leaders' ! p) leader_lt, tally-most n b.links b.holds leaders' (leaders' ! p) small (holds_most s d.ready))

    -- p gets one hold
    pub hold_counted : CountsMatch n b.links (set b.holds p 1) leaders' (set counts' (leaders' ! p) (counts' ! (leaders' ! p) + 1))
    hold_counted =
        match_hold n b.links b.holds leaders' counts' (t.counts_n ∙ d.ready.sized.counts) counted p 1 (counts' ! (leaders' ! p) + 1) (leaders' ! p)
        d.below (omega (arith, d.ready.sized.base.holds, d.below)) (entry leaders' p leaders_size d.below) leader_lt
        (omega (arith, bare_draft p d.below fresh_p))
