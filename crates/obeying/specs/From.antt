-- The number below which nothing is free, after a command.
use Rattle.std.specs.Prelude.{◌≡◌, ◌⊎◌, List, [], ◌∷◌, ◌++◌, ℕ, suc, ◌+◌, ◌≤◌, ◌<◌, T, length, get_or, drop, set, Err}
use Rattle.std.proofs.Math.Path.{refl, subst}
use Rattle.std.proofs.Common.{sym, ◌∙◌, ⊎_elim, get_or-set_same, get_or-set_other}
use Rattle.std.proofs.Math.Logic.{inl, inr}
use Rattle.std.proofs.Math.Decide.{ℕ_discrete}
use native.Mathlib.Omega.{arith}
use Rattle.rules.specs.Lists.{Among, Ascending, more}
use Rattle.rules.specs.Tables.{Base, Store, state, is_free, finish}
use Rattle.rules.specs.Words.{Live, Well, wfree, wdraft, wfrozen}
use Rattle.rules.specs.Commands.{Verdict, accepted, refused, verdict, first_free, with_states, edit, settles, freed_by, after, value_of, is_again, meant, next_tables, next_store}
use Rattle.rules.specs.Calls.{Reply, answered, Effect, effect, effected, effect_of, refused_by, accepted_by, done_by, listing, ReadyStore, Did}
use Rattle.rules.specs.History.{is_accepted, freed_in}
use Rattle.rules.specs.declared.Command.{Command}
use Rattle.rules.specs.declared.Command.TheVariants.{New, Bin}
use Rattle.laws.specs.Below.{among_nil, among_cons, Lowest}
use Rattle.laws.specs.Words.{eqb_of}
use Rattle.laws.specs.Passes.{Passes, passes}
use Rattle.laws.specs.Commands.{first_free_lem}
use Rattle.laws.specs.Verdicts.{all_accept}
use Rattle.laws.specs.Calls.{ready_tables}
use Rattle.demands.specs.Meant.{accepts_other, freed_meant, bin_meant}
use Rattle.demands.specs.Demand3.{ascending_freed}
use Rattle.laws.specs.Freed.{alone}
use Rattle.tallies.specs.Stores.{good_of}
use Rattle.areas.specs.Lowest.{NoneFree}
use Rattle.obeying.specs.Obeyed.{Stands, above_of}
use Rattle.obeying.specs.Freed.{accepted_freed}
use Rattle.rules.specs.Replies.{Answer}

-- ---- the first of an ascending list is the lowest

first-lowest : (q : ℕ) (l : List ℕ) → Ascending l → Among q l → (0 < length l) × (get_or l 0 0 ≤ q)
first-lowest q [] a m = absurd (among_nil m)
first-lowest q (x ∷ []) a m = ⊎_elim (λ e. (omega arith, omega arith)) (λ n. absurd (among_nil n)) (among_cons m)
first-lowest q (x ∷ y ∷ l) (more h a) m = go (among_cons m) (λ n. (first-lowest q (y ∷ l) a n).1)
  where
    go : (q ≡ x) ⊎ Among q (y ∷ l) → (Among q (y ∷ l) → y ≤ q) → (0 < suc (suc (length l))) × (x ≤ q)
    go (inl e) ih = (omega arith, omega arith)
    go (inr n) ih = let z = ih n in (omega arith, omega arith)

list-first : (f l : List ℕ) → 0 < length f → get_or (f ++ drop (length f) l) 0 0 ≡ get_or f 0 0
list-first [] l h = absurd (omega arith)
list-first (x ∷ xs) l h = refl

-- ---- where nothing below `from` was free

module _ {s : Store} {l w : List ℕ} {from : ℕ} (stands : Stands s.tables.base.n s l w from) where
  live_of : (q : ℕ) → q < from → Live s.tables.base q
  live_of q h = go ((good_of s.tables (ready_tables stands.ready)).wells q below)
    where
      below : q < s.tables.base.n
      below = omega (arith, stands.small)

      go : Well s.tables.base q → Live s.tables.base q
      go (wfree x) = absurd (stands.none q h (unfold state in x.is))
      go (wdraft x) = inl (record { below = below; is = x.is })
      go (wfrozen x) = inr (record { below = below; is = x.is })

  -- an accepted command frees what it lists and what it bins
  accepted_none : (c : Command) (r : ℕ) → Passes s.tables.base (meant s c) → r ≤ from
      → (0 < length (freed_by s.tables.base c) → r ≤ get_or (listing (freed_by s.tables.base c) l) 0 0)
      → ((p : ℕ) → c ≡ Bin p → r ≤ p) → NoneFree (next_store s c).tables.base.states r
  accepted_none c r passed most first binned q h z =
      ⊎_elim (λ m. listed (subst (Among q) (freed_meant s c s.tables.base) m)) (λ e. let k = binned q (bin_meant s c e) in omega arith)
      ((alone s.tables.base ready.sized.tables.base (good_of s.tables (ready_tables ready)) (meant s c) passed q).0 (live_of q (omega arith), unfold next_store next_tables finish state in z))
    where
      ready : ReadyStore s
      ready = stands.ready

      freed : List ℕ
      freed = freed_by s.tables.base c

      listed : Among q (freed_by s.tables.base c) → ⊥
      listed m =
          let lowest = first-lowest q freed (ascending_freed s.tables.base c) m in
          let e : get_or (listing freed l) 0 0 ≡ get_or freed 0 0 = unfold listing in (list-first freed l lowest.0) in
          omega (arith, lowest.1, first lowest.0)

  bin_accepted : (c : Command) (p : ℕ) → c ≡ Bin p → T (is_accepted (accepted_by s.tables c))
  bin_accepted c p e = subst (λ (d : Command). T (is_accepted (accepted_by s.tables d))) (sym e) (unfold is_accepted accepted_by done_by in tt)

  -- what is known of r after an effect, and what follows
  abbrev Below : Command → ℕ → Effect → Type 0
  Below c r o =
      (0 < freed_in o.reply → r ≤ get_or o.list 0 0) → ((p : ℕ) → c ≡ Bin p → T (is_accepted o.reply) → r ≤ p)
      → NoneFree o.store.tables.base.states r

  none_by : (c : Command) (r : ℕ) → r ≤ from → (v : Verdict) → verdict s c ≡ v → Below c r (effected s l c v)
  unfolding effected
  none_by c r most accepted e first binned =
      accepted_none c r (passes s.tables.base (meant s c) (all_accept e).tables) most (λ h. first (omega (arith, accepted_freed s.tables c)))
      (λ p x. binned p x (bin_accepted c p x))
  none_by c r most (refused x) e first binned = λ q h z. stands.none q (omega arith) z

  -- nothing is free below a number that is at most `from`, the first number freed and the number binned
  pub still_none : {c : Command} {a : Reply} {s' : Store} {l' : List ℕ} {r : ℕ} → Did c s l (effect a s' l') → r ≤ from
      → (0 < freed_in a → r ≤ get_or l' 0 0) → ((p : ℕ) → c ≡ Bin p → T (is_accepted a) → r ≤ p) → NoneFree s'.tables.base.states r
  unfolding effect_of
  still_none {c} {r = r} d most = subst (Below c r) (sym d.exact) (none_by c r most (verdict s c) refl)

  -- after new, the number above the one given out
  abbrev Above : Answer → Store → Type 0
  Above a t = (above_of a from ≤ s.tables.base.n) × NoneFree t.tables.base.states (above_of a from)

  given-none : Passes s.tables.base New → Above (done_by s.tables.base New) (next_store s New)
  unfolding done_by value_of
  given-none passed = (omega (arith, lowest.below), none_free_lem)
    where
      b : Base
      b = s.tables.base

      lowest : Lowest (is_free b) b.n (first_free b)
      lowest = first_free_lem b passed

      here : first_free b < length b.states
      here = subst (λ (i : ℕ). first_free b < i) (sym stands.ready.sized.tables.base.states) lowest.below

      none_free_lem : NoneFree (next_store s New).tables.base.states (first_free b + 1)
      none_free_lem q h z = go (ℕ_discrete q (first_free b))
        where
          at : get_or (set b.states (first_free b) 1) q 0 ≡ 0
          at = unfold next_store meant is_again next_tables finish after settles edit with_states in z

          go : Dec (q ≡ first_free b) → ⊥
          go (yes e) =
              let y : get_or (set b.states (first_free b) 1) q 0 ≡ 1 = rw e (get_or-set_same b.states (first_free b) 1 0 here) in
              omega (arith, at)
          go (no e) =
              let y = lowest.least q (unfold is_free state in (eqb_of (sym (get_or-set_other b.states (first_free b) q 1 0 e) ∙ at))) in
              omega arith

  new_by : (l₀ : List ℕ) (v : Verdict) → verdict s New ≡ v → (a : Answer) → (effected s l₀ New v).reply ≡ answered a
      → Above a (effected s l₀ New v).store
  unfolding effected accepted_by refused_by
  new_by l₀ accepted e a y =
      let x : done_by s.tables.base New ≡ a = cc y in
      subst (λ (d : Answer). Above d (next_store s New)) x (given-none (passes s.tables.base New (accepts_other refl e).tables))
  new_by l₀ (refused r) e a y = let x : Err r ≡ a = cc y in subst (λ (d : Answer). Above d s) x (stands.small, stands.none)

  pub new_none : {a : Answer} {s' : Store} {l₀ l' : List ℕ} → Did New s l₀ (effect (answered a) s' l') → Above a s'
  unfolding effect_of
  new_none {a} {l₀ = l₀} d =
      subst (λ (o : Effect). (b : Answer) → o.reply ≡ answered b → Above b o.store) (sym d.exact)
      (new_by l₀ (verdict s New) refl) a refl
