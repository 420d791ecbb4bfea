-- Set: draft P's link K becomes T, on sound tables.
use Rattle.std.specs.Prelude.{◌≡◌, ℕ, ◌+◌, ◌*◌, ◌/◌, ◌≤◌, ◌<◌, set}
use Rattle.std.proofs.Math.Path.{refl, sym, ap, subst}
use Rattle.std.proofs.Common.{◌∙◌, get_or-set_other}
use mathlib.Core.List.{List, [], ◌∷◌}
use native.Mathlib.Omega.{arith}
use Rattle.std.proofs.Math.ListN.{length, length-set}
use Rattle.rules.specs.Lists.{first, ◌!◌}
use Rattle.rules.specs.Tables.{Base, Tables, state, is_free, is_frozen, link_at}
use Rattle.rules.specs.Words.{Frozen, Well}
use Rattle.rules.specs.Commands.{edit, with_links, settles, value_of}
use Rattle.rules.specs.Calls.{accepted_by, done_by, Ready}
use Rattle.rules.specs.declared.Command.TheVariants.{Set}
use Rattle.laws.specs.Words.{neqb_of}
use Rattle.laws.specs.Passes.{Passes, live_draft}
use Rattle.laws.specs.Commands.{edit-well}
use Rattle.tallies.specs.Tally.{label, tally}
use Rattle.tallies.specs.Moves.{link_moves, cross_off}
use Rattle.tallies.specs.Exact.{Exact}
use Rattle.tallies.specs.Stores.{good_of, wells_of, exact_of, match_of, counted_of_lem, counts_most}
use Rattle.naming.specs.Told.{NamedLink}
use Rattle.falling.specs.Queue.{lengths_kept, Known}
use Rattle.falling.specs.Fall.{Begin, OthersCounted}
use Rattle.editing.specs.Started.{lengths_of, labelled_of, exact_kept, Edited}
use Rattle.editing.specs.Relink.{Relinking, Relinked}
use Rattle.editing.specs.Names.{set-names, names_pass}

-- a set that is accepted, on sound tables, with room for the list
pub record Setting (s : Tables) (list : List ℕ) (p k t : ℕ) : Type 0 where
  pub ready : Ready s
  pub room : s.base.n ≤ length list
  pub named : NamedLink s.base.n s.base.states p k t
  pub other : s.base.states ! p ≡ 2 → ⊥

module _ {s : Tables} {list : List ℕ} {p k t : ℕ} (g : Setting s list p k t) where
  abbrev b : Base
  b = s.base

  -- the link place that is set
  abbrev i : ℕ
  i = 4 * p + k

  abbrev e : Base
  e = with_links b (set b.links i t)

  pub set_passes : Passes b (Set p k t)
  set_passes = names_pass set-names g.named.right g.other tt

  draft : state b p ≡ 1
  unfolding state is_free is_frozen
  draft =
      live_draft b p (wells_of s g.ready p g.named.below) (neqb_of {m = b.states ! p} {n = 0} g.named.live)
      (neqb_of {m = b.states ! p} {n = 2} g.other)

  pub own : i / 4 ≡ p
  own = omega (arith, g.named.inside)

  pub relinking : Relinking b.n b.links s.leaders s.counts i t
  relinking = record {
    labelled = labelled_of g.ready;
    links_n = g.ready.sized.base.links;
    inside = omega (arith, g.named.below, g.named.inside);
    bare = ap (label s.leaders) own ∙ (exact_of s g.ready).others p g.named.below (λ z. absurd (let d = draft in omega arith));
    few = counts_most s g.ready;
    holds = b.holds;
    matches = match_of s g.ready;
  }

  pub edit_is : e ≡ edit b (Set p k t)
  unfolding edit
  edit_is = refl

  pub wells_e : (q : ℕ) → q < e.n → Well e q
  wells_e =
      subst (λ (x : Base). (q : ℕ) → q < x.n → Well x q) (sym edit_is) (edit-well b g.ready.sized.base (good_of s g.ready) (Set p k t) set_passes)

  links_e : (q j : ℕ) → Frozen b q → j < 4 → link_at b q j ≡ link_at e q j
  unfolding link_at with_links
  links_e q j f h =
      let y = g.named.inside in
      let d : q ≡ p → ⊥ = λ x. absurd (let u = f.is in let z = draft in let w : state b q ≡ state b p = ap (state b) x in omega arith) in
      sym (get_or-set_other b.links i (4 * q + j) t 0 (λ x. d (omega arith)))

  exact_e : Exact e s.leaders
  unfolding with_links state
  exact_e = exact_kept g.ready refl (λ q. refl) wells_e links_e

  module _ {links₁ counts₁ : List ℕ} {old : ℕ} (r : Relinked b.n b.links s.leaders s.counts i t links₁ counts₁ old) where
    abbrev e₁ : Base
    e₁ = with_links b links₁

    same_e : e ≡ e₁
    same_e = ap (with_links b) (sym r.place)

    begin_set : Begin e₁ s.leaders counts₁ list
    unfolding with_links
    begin_set = record {
      known = subst (λ (x : Base). Known x s.leaders) same_e (record { exact = exact_e; wells = wells_e });
      matches = r.matches b.holds (match_of s g.ready);
      lengths = lengths_kept (lengths_of g.ready list g.room) refl (ap length r.place ∙ length-set b.links i t) r.size refl;
    }

    -- no group but that of the old target has lost its count
    counted_set : OthersCounted e₁ s.leaders e₁.states counts₁ (old ∷ [])
    unfolding with_links
    counted_set L h own_L _ off =
        let d : label s.leaders (b.links ! i) ≡ L → ⊥ = λ x. off old (first refl) (ap (label s.leaders) r.was ∙ x) in
        let m : counts₁ ! L ≡ tally b.n (set b.links i t) b.holds s.leaders L =
        r.matches b.holds (match_of s g.ready) L h ∙ ap (λ (x : List ℕ). tally b.n x b.holds s.leaders L) r.place in
        omega (
          arith,
          m,
          match_of s g.ready L h,
          counted_of_lem s g.ready L h own_L,
          cross_off s.leaders L i (b.links ! i) d,
          link_moves b.n b.links b.holds s.leaders i t L relinking.inside (omega (arith, relinking.inside, g.ready.sized.base.links)),
        )

    pub set_edited : Edited (Set p k t) s list e₁ counts₁ (old ∷ [])
    unfolding settles accepted_by done_by value_of with_links
    set_edited = record {
      passes = set_passes;
      on = refl;
      says = refl;
      is = sym same_e ∙ edit_is;
      holds_n = g.ready.sized.base.holds;
      begin = begin_set;
      counted = counted_set;
    }
