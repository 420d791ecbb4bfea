-- From what a command did to tables and register to what it did to the store with the links into each draft.
use Rattle.std.proofs.Math.Path.{◌≡◌, refl}
use Rattle.std.proofs.Common.{sym, ap, ◌∙◌, subst, ⊎_elim, arith}
use Rattle.std.specs.Prelude.{Bool, true, false, List, ℕ, ◌+◌, ◌*◌, ◌/◌, ◌%◌, ◌<◌}
use Rattle.rules.specs.Lists.{◌!◌}
use Rattle.rules.specs.Tables.{Base, Tables, store_on, store_by, state, link_at, finish}
use Rattle.rules.specs.Words.{SizedBase, Live, Well, wfree, wdraft, wfrozen}
use Rattle.rules.specs.Commands.{Verdict, accepted, refused, is_freeze, meant, with_states, with_holds, one_more, one_less, first_free, edit, settles, after}
use Rattle.rules.specs.Commands.{verdict, next_tables, next_store}
use Rattle.rules.specs.Calls.{Reply, Effect, effect, effected, effect_of, ReadyStore, Did}
use Rattle.rules.specs.declared.Command.{Command}
use Rattle.rules.specs.declared.Command.TheVariants.{New, Set, Freeze, Acquire, Release, Bin, Look}
use Rattle.laws.specs.Sound.{Good}
use Rattle.laws.specs.Passes.{Passes, passes}
use Rattle.laws.specs.Commands.{first_free_lem, first_free_state, edit-well}
use Rattle.laws.specs.Calls.{ready_tables}
use Rattle.laws.specs.Verdicts.{all_accept, not_again}
use Rattle.tallies.specs.Stores.{good_of}
use Rattle.into.specs.Into.{Into, into_is, into_sound, store_follows}
use Rattle.into.specs.Bases.{into_given, into_settled}

-- the links into each draft of a base
abbrev pub IntoBase : Base → List ℕ → Type 0
IntoBase b into = Into b.n b.states b.links into

-- where they are right before and after, the command did the same to the store with them
pub with_into : {c : Command} {t t' : Tables} {register register' into into' l l' : List ℕ} {a : Reply} → IntoBase t.base into → IntoBase t'.base into'
    → Did c (store_by t register) l (effect a (store_by t' register') l') → Did c (store_on t register into) l (effect a (store_on t' register' into') l')
with_into {c} {t} {t'} {register} {register'} {into} {into'} {l} {l'} {a} x y d =
    subst (λ (i : List ℕ). Did c (store_on t register i) l (effect a (store_on t' register' into') l')) (sym (into_is t.base x))
    (subst (λ (i : List ℕ). Did c (store_by t register) l (effect a (store_on t' register' i) l')) (sym (into_is t'.base y)) d)

module _ {t : Tables} {register into : List ℕ} (ready : ReadyStore (store_on t register into)) where
  pub into_ready : IntoBase t.base into
  into_ready = into_sound ready.sized ready.sound

  -- such a store is the one that follows from its tables and its register
  pub ready_by : ReadyStore (store_by t register)
  ready_by = subst ReadyStore (store_follows ready.sized ready.sound) ready

-- ---- commands that leave them: all but set, freeze and bin

unfoldable pub leaves_into : Command → Bool
leaves_into New = true
leaves_into (Set p k t) = false
leaves_into (Freeze p i) = false
leaves_into (Acquire p i) = true
leaves_into (Release p i) = true
leaves_into (Bin p) = false
leaves_into (Look p) = true

module _ (b : Base) (z : SizedBase b) (g : Good b) {into : List ℕ} (x : IntoBase b into) where
  -- nobody names a free number
  unnamed : (q : ℕ) → q < b.n → state b q ≡ 0 → (i : ℕ) → i < 4 * b.n → b.links ! i ≡ q → ⊥
  unnamed q h free i l e = go (g.wells (i / 4) (omega arith))
    where
      whole : 4 * (i / 4) + i % 4 ≡ i
      whole = omega arith

      at : link_at b (i / 4) (i % 4) ≡ q
      at = unfold link_at in (ap (λ (j : ℕ). b.links ! j) whole ∙ e)

      alive : Live b (link_at b (i / 4) (i % 4)) → ⊥
      alive live =
          let v : state b (link_at b (i / 4) (i % 4)) ≡ state b q = ap (state b) at in
          ⊎_elim (λ d. let u = d.is in omega arith) (λ f. let u = f.is in omega arith) live

      go : Well b (i / 4) → ⊥
      go (wfree w) = omega (arith, w.links (i % 4) (omega arith), at, z.most)
      go (wdraft w) = ⊎_elim (λ y. omega (arith, at, z.most)) alive (w.links (i % 4) (omega arith))
      go (wfrozen w) = ⊎_elim (λ y. omega (arith, at, z.most))
          (λ y. let v : state b (link_at b (i / 4) (i % 4)) ≡ state b q = ap (state b) at in let u = y.is in omega arith)
          (w.links (i % 4) (omega arith))

  leaves : (c : Command) → Passes b c → leaves_into c ≡ true → IntoBase (after b c) into
  unfolding leaves_into after settles edit
  leaves New p e =
      let low = first_free_lem b p in
      unfold with_states in (into_given x (subst (λ (m : ℕ). first_free b < m) (sym z.states) low.below) (unfold state in (first_free_state b p))
      (unnamed (first_free b) low.below (first_free_state b p)))
  leaves (Set p k t) q e = absurd (let w : ◌≡◌ {A = ℕ} 0 1 = cc e in omega arith)
  leaves (Freeze p i) q e = absurd (let w : ◌≡◌ {A = ℕ} 0 1 = cc e in omega arith)
  leaves (Acquire p i) q e = unfold one_more with_holds in x
  leaves (Release p i) q e = into_settled (one_less b p) (unfold one_less with_holds in z.most) (unfold edit in (edit-well b z g (Release p i) q)) (unfold one_less with_holds in x)
  leaves (Bin p) q e = absurd (let w : ◌≡◌ {A = ℕ} 0 1 = cc e in omega arith)
  leaves (Look p) q e = x

-- so what such a command did without them it did with them
pub still_into : {c : Command} {t t' : Tables} {register register' into l l' : List ℕ} {a : Reply} → leaves_into c ≡ true → ReadyStore (store_on t register into)
    → Did c (store_by t register) l (effect a (store_by t' register') l') → Did c (store_on t register into) l (effect a (store_on t' register' into) l')
unfolding effect_of
still_into {c} {t} {t'} {register} {register'} {into} {l} {l'} {a} e ready d =
    with_into x (subst (λ (b : Base). IntoBase b into) (sym (ap (λ (o : Effect). o.store.tables.base) d.exact)) (after_is (verdict (store_by t register) c) refl)) d
  where
    x : IntoBase t.base into
    x = into_sound ready.sized ready.sound

    free_of : (c : Command) → leaves_into c ≡ true → is_freeze c ≡ false
    free_of New e = refl
    free_of (Set p k t) e = refl
    free_of (Freeze p i) e = absurd (let w : ◌≡◌ {A = ℕ} 0 1 = unfold leaves_into in (cc e) in omega arith)
    free_of (Acquire p i) e = refl
    free_of (Release p i) e = refl
    free_of (Bin p) e = refl
    free_of (Look p) e = refl

    after_is : (v : Verdict) → verdict (store_by t register) c ≡ v → IntoBase (effected (store_by t register) l c v).store.tables.base into
    after_is accepted u = unfold effected next_store next_tables finish in
        (subst (λ (m : Command). IntoBase (after t.base m) into) (sym (not_again (store_by t register) c (free_of c e)).is)
        (leaves t.base ready.sized.tables.base (good_of t (ready_tables ready)) x c
        (subst (Passes t.base) (not_again (store_by t register) c (free_of c e)).is (passes t.base (meant (store_by t register) c) (all_accept u).tables)) e))
    after_is (refused r) u = unfold effected in x
