-- New on sound tables: the lowest free number is the one that new gives out, and a new draft changes no leader and no count.
use Rattle.std.specs.Prelude.{◌≢◌, not, [], ℕ, ◌≤◌, ◌<◌, Err}
use Rattle.std.proofs.Common.{arith}
use Rattle.std.proofs.Math.Path.{◌≡◌, refl, sym, ap, ◌∙◌, subst}
use Rattle.std.proofs.Math.Dec.{T_not, not_T, eqb, eqb→eq}
use Rattle.std.proofs.Math.ListN.{get_or, set}
use Rattle.std.proofs.Math.Seq.{get_or-set_same, get_or-set_other}
use Rattle.rules.specs.Below.{every}
use Rattle.rules.specs.Tables.{Base, Tables, state, is_free, link_at, finish}
use Rattle.rules.specs.Words.{Well}
use Rattle.rules.specs.Commands.{none_free, table_refusals, with_states, first_free, edit, settles, freed_by, after, value_of, next_tables}
use Rattle.rules.specs.Tables.{tables_of}
use Rattle.rules.specs.Calls.{Ready, answered, done_by, accepted_by, refused_by, listing}
use Rattle.rules.specs.declared.Refusal.TheVariants.{Full}
use Rattle.rules.specs.declared.Command.TheVariants.{New}
use Rattle.laws.specs.ByTables.{DidTables, tables_effect}
use Rattle.laws.specs.Below.{→every, every→}
use Rattle.laws.specs.Words.{eqb_of, neqb_of}
use Rattle.laws.specs.Delta.{SameFrozen}
use Rattle.laws.specs.Passes.{Passes}
use Rattle.laws.specs.Commands.{first_free_lem, edit-well}
use Rattle.laws.specs.ByTables.{accepts, refuses, did_refused, did_accepted}
use Rattle.tallies.specs.Stores.{exact_moves, good_of, wells_of, exact_of, match_of}
use Rattle.tallies.specs.Finished.{finished}
use Rattle.areas.specs.Lowest.{LowestFree}
use Rattle.rules.specs.Replies.{done}

-- no number is free
pub full_did : {s : Tables} {r : ℕ} → LowestFree s.base.n s.base.states r → r ≡ s.base.n
    → DidTables New s [] (tables_effect (answered (Err Full)) s [])
unfolding refused_by table_refusals none_free is_free state
full_did {s} f e =
    did_refused New s [] Full
    (refuses 0 s.base New Full tt (
      →every (λ p. not (eqb (get_or s.base.states p 0) 0)) s.base.n
          (λ p l. neqb_of {m = get_or s.base.states p 0} {n = 0} (λ z. f.before p (omega arith) z)),
      refl,
    ))

module _ {s : Tables} {r : ℕ} (ready : Ready s) (f : LowestFree s.base.n s.base.states r) (h : r < s.base.n) where
  abbrev b : Base
  b = s.base

  new_passes : Passes b New
  unfolding table_refusals none_free is_free state
  new_passes = record {
    rows = (
      not_T (every (λ p. not (eqb (get_or b.states p 0) 0)) b.n)
          (λ t. T_not (eqb (get_or b.states r 0) 0) (every→ (λ p. not (eqb (get_or b.states p 0) 0)) b.n t r h) (eqb_of (f.is h))),
      tt,
    );
  }

  -- the lowest free number
  first_is : first_free b ≡ r
  unfolding is_free state
  first_is =
      let x = first_free_lem b new_passes in
      let most : first_free b ≤ r = x.least r (eqb_of (f.is h)) in
      let least : (first_free b < r) → ⊥ = λ l. f.before (first_free b) l (eqb→eq (get_or b.states (first_free b) 0) 0 x.is) in
      omega arith

  abbrev s' : Tables
  s' = tables_of b.n (set b.states r 1) b.links s.leaders b.holds s.counts

  abbrev b' : Base
  b' = s'.base

  after_is : after b New ≡ b'
  unfolding after settles edit with_states
  after_is = ap (λ (p : ℕ). with_states b (set b.states p 1)) first_is

  state_other : (p : ℕ) → p ≢ r → state b' p ≡ state b p
  unfolding with_states state
  state_other p d = get_or-set_other b.states r p 1 0 d

  state_new : state b' r ≡ 1
  unfolding with_states state
  state_new = get_or-set_same b.states r 1 0 (subst (λ (x : ℕ). r < x) (sym ready.sized.base.states) h)

  wells' : (p : ℕ) → p < b.n → Well b' p
  unfolding edit with_states
  wells' p l =
      subst (λ (x : Base). Well x p) (ap (λ (q : ℕ). with_states b (set b.states q 1)) first_is)
      (edit-well b ready.sized.base (good_of s ready) New new_passes p l)

  -- new changes no frozen piece
  off : (p : ℕ) → state b p ≡ 2 → p ≢ r
  unfolding state
  off p e d = let y = f.is h in let z : state b p ≡ state b r = ap (state b) d in omega arith

  off' : (p : ℕ) → state b' p ≡ 2 → p ≢ r
  off' p e d = let z : state b' p ≡ state b' r = ap (state b') d in let y = state_new in omega arith

  frozen_on : SameFrozen b b'
  unfolding with_states link_at
  frozen_on = record {
    size = refl;
    most = ready.sized.base.most;
    frozen = λ p x. record { below = x.below; is = state_other p (off p x.is) ∙ x.is };
    links = λ p k x i. refl;
  }

  frozen_back : SameFrozen b' b
  unfolding with_states link_at
  frozen_back = record {
    size = refl;
    most = ready.sized.base.most;
    frozen = λ p x. record { below = x.below; is = sym (state_other p (off' p x.is)) ∙ x.is };
    links = λ p k x i. refl;
  }

  next_is : s' ≡ next_tables s New
  unfolding next_tables with_states
  next_is =
      finished b' s.leaders (exact_moves b b' s.leaders (wells_of s ready) wells' frozen_on frozen_back (exact_of s ready)) wells' s.counts
      ready.sized.counts (match_of s ready)
      ∙ ap finish (sym after_is)

  pub new_did : DidTables New s [] (tables_effect (answered (done r 0)) s' [])
  unfolding accepted_by done_by value_of freed_by settles listing
  new_did = record {
    exact =
        (λ i. record { reply = answered (done (sym first_is i) 0); tables = next_is i; list = [] })
        ∙ (did_accepted New s [] (accepts new_passes)).exact;
  }
