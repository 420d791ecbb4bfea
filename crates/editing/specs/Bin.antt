-- Bin: draft P becomes free, on sound tables; the groups that its four places named may have fallen.
use Rattle.std.specs.Prelude.{◌≡◌, refl, Bool, false, not, List, [], ◌∷◌, ℕ, zero, suc, ◌+◌, ◌-◌, ◌*◌, ◌/◌, ◌≤◌, ◌<◌, eqb, length, set, Err}
use Rattle.std.proofs.Math.Path.{sym, ap, subst}
use Rattle.std.proofs.Common.{◌∙◌, arith, lt→ltb, le-ltb}
use Rattle.std.proofs.Math.Logic.{inl, inr, ⊎_elim}
use Rattle.std.proofs.Math.Dec.{T, T_not, eqb→eq}
use Rattle.std.proofs.Math.ListN.{get_or, length-set}
use Rattle.std.proofs.Math.Seq.{ext_get_or}
use Rattle.std.specs.List.{slice_range}
use Rattle.std.proofs.lemmas.List.Edits.{length-between, get_or-between}
use Rattle.laws.specs.Numbers.{lt_or, set_cases}
use Rattle.rules.specs.Tests.{pick}
use Rattle.rules.specs.Limits.{none}
use Rattle.rules.specs.Below.{table, sum}
use Rattle.rules.specs.Lists.{Among, first, later, ◌!◌}
use Rattle.rules.specs.Tables.{base_of, Base, Tables, state, is_free, is_frozen, holds_of}
use Rattle.rules.specs.Words.{Frozen, Well}
use Rattle.rules.specs.Commands.{is_linked, free_all, with_states, with_links, edit, settles, value_of}
use Rattle.rules.specs.Calls.{answered, refused_by, accepted_by, done_by, Ready}
use Rattle.rules.specs.declared.Refusal.TheVariants.{Linked}
use Rattle.rules.specs.declared.Command.TheVariants.{Bin}
use Rattle.laws.specs.ByTables.{DidTables, tables_effect}
use Rattle.laws.specs.Below.{T_dec, pick_true, pick-false, get_or-table, length-table}
use Rattle.laws.specs.Words.{eqb_of, neqb_of}
use Rattle.laws.specs.Passes.{Passes, live_draft, draft_of}
use Rattle.laws.specs.Commands.{edit-well}
use Rattle.laws.specs.Settle.{link_kept, state_kept, freed_well, frozen_kept}
use Rattle.tallies.specs.Sums.{sum_cong}
use Rattle.tallies.specs.Tally.{label, cross, held, placed, tally}
use Rattle.tallies.specs.Moves.{cross_off}
use Rattle.tallies.specs.Exact.{Exact, label_past}
use Rattle.tallies.specs.Stores.{exact_moves, good_of, wells_of, exact_of, match_of, counted_of_lem, holds_most}
use Rattle.into.specs.Into.{linked_into}
use Rattle.into.specs.Stores.{IntoBase}
use Rattle.naming.specs.Told.{NamedPiece}
use Rattle.falling.specs.Queue.{lengths_kept, Known}
use Rattle.falling.specs.Fall.{Begin, OthersCounted}
use Rattle.editing.specs.Started.{lengths_of, labelled_of, Edited}
use Rattle.editing.specs.Names.{bin_names, names_pass, own_refused}
use Rattle.editing.specs.Emptied.{Emptying, Emptied}

-- ---- the refusal

module _ {s : Tables} {p : ℕ} (ready : Ready s) (named : NamedPiece s.base.n s.base.states p) (other : s.base.states ! p ≡ 2 → ⊥) where
  pub bin_draft : s.base.states ! p ≡ 1
  unfolding state is_free is_frozen
  bin_draft =
      live_draft s.base p (wells_of s ready p named.below) (neqb_of {m = s.base.states ! p} {n = 0} named.live)
      (neqb_of {m = s.base.states ! p} {n = 2} other)

  module _ {into : List ℕ} (x : IntoBase s.base into) where
    pub bin_linked : {list : List ℕ} → (into ! p ≡ 0 → ⊥) → DidTables (Bin p) s list (tables_effect (answered (Err Linked)) s list)
    unfolding refused_by
    bin_linked f = own_refused bin_names named.right Linked other
        (subst T (sym (linked_into s.base x p named.below bin_draft)) (lt→ltb 0 (into ! p) (omega (arith, f))), refl)

    pub bin_alone : into ! p ≡ 0 → is_linked s.base p ≡ false
    bin_alone e = linked_into s.base x p named.below bin_draft ∙ le-ltb 0 (into ! p) (omega arith)

-- ---- the edited base

-- each entry of a list is among it
among_at : (xs : List ℕ) (k : ℕ) → k < length xs → Among (xs ! k) xs
among_at [] k h = absurd (omega arith)
among_at (x ∷ xs) zero h = first refl
among_at (x ∷ xs) (suc k) h = later (among_at xs k (omega arith))

-- a bin that is accepted, on sound tables, with room for the list
pub record Binning (s : Tables) (list : List ℕ) (p : ℕ) : Type 0 where
  pub ready : Ready s
  pub room : s.base.n ≤ length list
  pub named : NamedPiece s.base.n s.base.states p
  pub other : s.base.states ! p ≡ 2 → ⊥
  pub alone : is_linked s.base p ≡ false

module _ {s : Tables} {list : List ℕ} {p : ℕ} (g : Binning s list p) where
  abbrev b : Base
  b = s.base

  pub bin_passes : Passes b (Bin p)
  bin_passes = names_pass bin_names g.named.right g.other (subst (λ (x : Bool). T (not x)) (sym g.alone) tt, tt)

  draft : state b p ≡ 1
  unfolding state
  draft = bin_draft g.ready g.named g.other

  pub emptying : Emptying b.n b.links s.leaders s.counts p
  emptying = record {
    labelled = labelled_of g.ready;
    links_n = g.ready.sized.base.links;
    below = g.named.below;
    bare = (exact_of s g.ready).others p g.named.below (λ s. absurd (let d = draft in omega arith));
    holds = b.holds;
    most = holds_most s g.ready;
    matches = match_of s g.ready;
  }

  abbrev e : Base
  e = free_all b (eqb p)

  pub wells_e : (r : ℕ) → r < b.n → Well e r
  unfolding edit free_all
  wells_e = edit-well b g.ready.sized.base (good_of s g.ready) (Bin p) bin_passes

  kept : (r : ℕ) → Frozen b r → T (not (eqb p r))
  kept r f = neqb_of {m = p} {n = r} (λ x. absurd (let a = f.is in let d = draft in let w : state b p ≡ state b r = ap (state b) x in omega arith))

  frozen_b : (r : ℕ) → Frozen e r → Frozen b r
  unfolding free_all
  frozen_b r f =
      ⊎_elim
      (λ t. absurd (let a = (freed_well b (eqb p) r f.below t).is in let d = f.is in omega arith))
      (λ t. record { below = f.below; is = sym (state_kept b (eqb p) r f.below t) ∙ f.is })
      (T_dec (eqb p r))

  exact_e : Exact e s.leaders
  unfolding free_all
  exact_e =
      exact_moves b e s.leaders (wells_of s g.ready) wells_e
      (record {
        size = refl;
        most = g.ready.sized.base.most;
        frozen = λ r f. frozen_kept b (eqb p) r (kept r f) f;
        links = λ r k f h. sym (link_kept b (eqb p) r k f.below h (kept r f));
      })
      (record {
        size = refl;
        most = g.ready.sized.base.most;
        frozen = frozen_b;
        links = λ r k f h. link_kept b (eqb p) r k f.below h (kept r (frozen_b r f));
      })
      (exact_of s g.ready)

  known_e : Known e s.leaders
  known_e = record { exact = exact_e; wells = unfold free_all in wells_e }

  pub states_are : set b.states p 0 ≡ e.states
  unfolding free_all state
  states_are =
      ext_get_or 0 (set b.states p 0) (table (λ r. pick (eqb p r) 0 (get_or b.states r 0)) b.n)
      (length-set b.states p 0 ∙ g.ready.sized.base.states ∙ sym (length-table _ b.n))
      (λ r h. let l : r < b.n = omega (arith, length-set b.states p 0, g.ready.sized.base.states) in
      ⊎_elim
      (λ w. w.1 ∙ sym (pick_true (eqb p r) 0 (get_or b.states r 0) (eqb_of (sym w.0))))
      (λ w. w.1 ∙ sym (pick-false (eqb p r) 0 (get_or b.states r 0) (neqb_of (λ x. w.0 (sym x)))))
      (set_cases b.states p 0 r 0 (omega (arith, g.named.below, g.ready.sized.base.states)))
      ∙ sym (get_or-table (λ r. pick (eqb p r) 0 (get_or b.states r 0)) b.n r 0 l))

  holds_are : b.holds ≡ e.holds
  unfolding free_all holds_of
  holds_are =
      ext_get_or 0 b.holds (table (λ r. pick (eqb p r) 0 (get_or b.holds r 0)) b.n) (g.ready.sized.base.holds ∙ sym (length-table _ b.n))
      (λ r h. let l : r < b.n = omega (arith, g.ready.sized.base.holds) in
      ⊎_elim
      (λ t. ap (λ (x : ℕ). get_or b.holds x 0) (sym (eqb→eq p r t)) ∙ none-held ∙ sym (pick_true (eqb p r) 0 (get_or b.holds r 0) t))
      (λ t. sym (pick-false (eqb p r) 0 (get_or b.holds r 0) t))
      (T_dec (eqb p r)) ∙ sym (get_or-table (λ r. pick (eqb p r) 0 (get_or b.holds r 0)) b.n r 0 l))
    where
      none-held : get_or b.holds p 0 ≡ 0
      none-held = unfold holds_of in (draft_of b p (wells_of s g.ready p g.named.below) draft).holds

  -- ---- the tables after the edit

  -- what p named
  abbrev olds : List ℕ
  olds = slice_range b.links (4 * p) (4 * p + 4)

  -- they are four
  pub four_olds : b.links ! (4 * p) ∷ b.links ! (4 * p + 1) ∷ b.links ! (4 * p + 2) ∷ b.links ! (4 * p + 3) ∷ [] ≡ olds
  four_olds = ext_get_or 0 four olds (sym (omega (arith, length-between b.links (4 * p) (4 * p + 4) room))) at
    where
      room : 4 * p + 4 ≤ length b.links
      room = omega (arith, g.ready.sized.base.links, g.named.below)

      four : List ℕ
      four = b.links ! (4 * p) ∷ b.links ! (4 * p + 1) ∷ b.links ! (4 * p + 2) ∷ b.links ! (4 * p + 3) ∷ []

      entry : (k : ℕ) → k < 4 → olds ! k ≡ b.links ! (4 * p + k)
      entry k h = get_or-between b.links (4 * p) (4 * p + 4) k 0 (omega arith)

      at : (k : ℕ) → k < 4 → four ! k ≡ olds ! k
      at zero h = ap (λ (i : ℕ). b.links ! i) (omega arith) ∙ sym (entry 0 h)
      at (suc zero) h = sym (entry 1 h)
      at (suc (suc zero)) h = sym (entry 2 h)
      at (suc (suc (suc zero))) h = sym (entry 3 h)
      at (suc (suc (suc (suc k)))) h = absurd (omega arith)

  among_olds : (i : ℕ) → 4 * p ≤ i → i < 4 * p + 4 → Among (b.links ! i) olds
  among_olds i u v =
      let e : 4 * p + (i - 4 * p) ≡ i = omega arith in
      let inside : i - 4 * p < length olds = omega (arith, length-between b.links (4 * p) (4 * p + 4) (omega (arith, g.ready.sized.base.links, g.named.below))) in
      subst (λ (y : ℕ). Among y olds) (get_or-between b.links (4 * p) (4 * p + 4) (i - 4 * p) 0 (omega arith) ∙ ap (λ (y : ℕ). b.links ! y) e)
      (among_at olds (i - 4 * p) inside)

  module _ {links₁ counts₁ : List ℕ} (a : Emptied b.n b.links s.leaders s.counts p 4 links₁ counts₁) where
    abbrev e₁ : Base
    e₁ = with_links (with_states b (set b.states p 0)) links₁

    links_are : links₁ ≡ e.links
    unfolding free_all
    links_are =
        ext_get_or 0 links₁ (table (λ i. pick (eqb p (i / 4)) none (get_or b.links i 0)) (4 * b.n))
        (a.links_size ∙ g.ready.sized.base.links ∙ sym (length-table _ (4 * b.n)))
        (λ i h. let l : i < 4 * b.n = omega (arith, a.links_size, g.ready.sized.base.links) in
        ⊎_elim
        (λ t. let x = eqb→eq p (i / 4) t in a.at i (omega arith) (omega arith) ∙ sym (pick_true (eqb p (i / 4)) none (get_or b.links i 0) t))
        (λ t.
        let d : p ≡ i / 4 → ⊥ = (λ x. T_not (eqb p (i / 4)) t (eqb_of x)) in
        a.off i (⊎_elim (λ y. inl y) (λ y. inr (omega arith)) (lt_or i (4 * p))) ∙ sym (pick-false (eqb p (i / 4)) none (get_or b.links i 0) t))
        (T_dec (eqb p (i / 4))) ∙ sym (get_or-table (λ i. pick (eqb p (i / 4)) none (get_or b.links i 0)) (4 * b.n) i 0 l))

    pub base_is : e₁ ≡ e
    unfolding free_all with_links with_states
    base_is = λ i. base_of b.n (states_are i) (links_are i) (holds_are i)

    begin_bin : Begin e₁ s.leaders counts₁ list
    unfolding with_links with_states
    begin_bin = record {
      known = subst (λ (y : Base). Known y s.leaders) (sym base_is) known_e;
      matches = a.matches b.holds (match_of s g.ready);
      lengths = lengths_kept (lengths_of g.ready list g.room) (length-set b.states p 0) a.links_size a.counts_size refl;
    }

    -- no group has lost its count but those that p named
    counted_bin : OthersCounted e₁ s.leaders e₁.states counts₁ olds
    unfolding with_links with_states
    counted_bin L h own _ off =
        subst (λ (x : ℕ). 0 < x) (match_of s g.ready L h ∙ sym same ∙ sym (a.matches b.holds (match_of s g.ready) L h))
        (counted_of_lem s g.ready L h own)
      where
        none_off : label s.leaders none ≡ L → ⊥
        none_off x = let m = g.ready.sized.base.most in omega (arith, label_past b.n s.leaders none g.ready.sized.leaders (omega arith))

        same_place : (i : ℕ) → i < 4 * b.n → placed links₁ s.leaders L i ≡ placed b.links s.leaders L i
        same_place i l = unfold placed in
            ⊎_elim
            (λ u. ap (λ (x : ℕ). cross s.leaders L i x) (a.off i (inl u)))
            (λ u. ⊎_elim
            (λ v.
            cross_off s.leaders L i (links₁ ! i) (λ x. none_off (ap (label s.leaders) (sym (a.at i u v)) ∙ x))
            ∙ sym (cross_off s.leaders L i (b.links ! i) (off (b.links ! i) (among_olds i u v))))
            (λ v. ap (λ (x : ℕ). cross s.leaders L i x) (a.off i (inr v)))
            (lt_or i (4 * p + 4)))
            (lt_or i (4 * p))

        same : tally b.n links₁ b.holds s.leaders L ≡ tally b.n b.links b.holds s.leaders L
        same = unfold tally in
            ap (λ (x : ℕ). sum (held b.holds s.leaders L) b.n + x)
            (sum_cong (placed links₁ s.leaders L) (placed b.links s.leaders L) (4 * b.n) same_place)

    pub bin_edited : Edited (Bin p) s list e₁ counts₁ olds
    unfolding settles accepted_by done_by value_of edit with_links with_states
    bin_edited = record {
      passes = bin_passes;
      on = refl;
      says = refl;
      is = base_is;
      holds_n = g.ready.sized.base.holds;
      begin = begin_bin;
      counted = counted_bin;
    }
