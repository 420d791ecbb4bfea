-- Freeze of a draft keeps the pieces well and the frozen ones kept.
use Rattle.std.specs.Prelude.{◌≡◌, ◌⊎◌, ◌≢◌, Bool, not, ℕ, ◌≤◌, ◌<◌, set}
use Rattle.std.proofs.Math.Path.{refl, ap}
use Rattle.std.proofs.Common.{sym, ◌∙◌, subst, arith, T_not}
use Rattle.std.proofs.Math.Logic.{inl, inr, ⊎_elim}
use Rattle.std.proofs.Math.Decide.{ℕ_discrete}
use Rattle.std.proofs.Math.Dec.{T}
use Rattle.std.proofs.Math.ListN.{get_or}
use Rattle.std.proofs.Math.Seq.{get_or-set_same, get_or-set_other}
use Rattle.rules.specs.Tests.{◌&◌, pick}
use Rattle.laws.specs.Tests.{and_both, and_left, and_right}
use Rattle.laws.specs.Below.{T_dec, pick_true, pick-false, get_or-table}
use Rattle.rules.specs.Reach.{here, chain}
use Rattle.rules.specs.Tables.{Base, state, is_draft, link_at, holds_of, reaches}
use Rattle.rules.specs.Words.{Draft, Frozen, Live, Reaches, Root, Kept, FrozenWell, Well, wfree, wdraft, wfrozen, SizedBase}
use Rattle.laws.specs.Words.{trans, is_draft→, →is_draft, reaches→, →reaches}
use Rattle.laws.specs.Sound.{Good}
use Rattle.rules.specs.Commands.{freeze_first}
use Rattle.laws.specs.Passes.{Wells, draft_of}

-- ---- freeze of a draft

module _ (b : Base) (z : SizedBase b) (g : Good b) (p : ℕ) (h : p < b.n) (dr : state b p ≡ 1) where
  unfoldable pub fr : Base
  fr = freeze_first b p

  turns : ℕ → Bool
  turns q = is_draft b q & reaches b p q

  fr-state : (q : ℕ) → q < b.n → state fr q ≡ pick (turns q) 2 (state b q)
  unfolding fr freeze_first state turns
  fr-state q m = get_or-table (λ x. pick (is_draft b x & reaches b p x) 2 (state b x)) b.n q 0 m

  fr_turns : (q : ℕ) → q < b.n → T (turns q) → state fr q ≡ 2
  fr_turns q m t = fr-state q m ∙ pick_true (turns q) 2 (state b q) t

  fr_stays : (q : ℕ) → q < b.n → T (not (turns q)) → state fr q ≡ state b q
  fr_stays q m t = fr-state q m ∙ pick-false (turns q) 2 (state b q) t

  turn : (q : ℕ) → Draft b q → Reaches b p q → T (turns q)
  unfolding turns
  turn q d r = and_both (is_draft b q) (reaches b p q) (→is_draft b q d.is) (→reaches b p q d.below r)

  turned : (q : ℕ) → q < b.n → T (turns q) → Draft b q × Reaches b p q
  unfolding turns
  turned q m t = (is_draft→ b q m (and_left (is_draft b q) (reaches b p q) t), reaches→ b p q (and_right (is_draft b q) (reaches b p q) t))

  fr_frozen : (q : ℕ) → Frozen b q → Frozen fr q
  unfolding fr freeze_first
  fr_frozen q f = record { below = f.below; is = ⊎_elim (λ t. fr_turns q f.below t) (λ t. fr_stays q f.below t ∙ f.is) (T_dec (turns q)) }

  fr_reached : (q : ℕ) → Live b q → Reaches b p q → Frozen fr q
  unfolding fr freeze_first
  fr_reached q (inl d) r = record { below = d.below; is = fr_turns q d.below (turn q d r) }
  fr_reached q (inr f) r = fr_frozen q f

  fr_live : (q : ℕ) → Live b q → Live fr q
  unfolding fr freeze_first
  fr_live q (inr f) = inr (fr_frozen q f)
  fr_live q (inl d) =
      ⊎_elim (λ t. inr (record { below = d.below; is = fr_turns q d.below t })) (λ t. inl (record { below = d.below; is = fr_stays q d.below t ∙ d.is })) (T_dec (turns q))

  fr_self : Frozen fr p
  fr_self = fr_reached p (inl (record { below = h; is = dr })) here

  fr-held : (q : ℕ) → q ≡ p → holds_of fr q ≡ 1
  unfolding fr freeze_first holds_of
  fr-held q e = ap (λ (x : ℕ). get_or (set b.holds p 1) x 0) e ∙ get_or-set_same b.holds p 1 0 (subst (λ (x : ℕ). p < x) (sym z.holds) h)

  fr_holds : (q : ℕ) → q ≢ p → holds_of fr q ≡ holds_of b q
  unfolding fr freeze_first holds_of
  fr_holds q d = get_or-set_other b.holds p q 1 0 d

  fr_few : (q : ℕ) → holds_of b q ≤ 1000 → holds_of fr q ≤ 1000
  fr_few q l = go (ℕ_discrete q p)
    where
      go : Dec (q ≡ p) → holds_of fr q ≤ 1000
      go (yes e) = let a = fr-held q e in omega arith
      go (no d) = let a = fr_holds q d in omega arith

  fr-well : Wells fr
  unfolding fr freeze_first link_at
  fr-well q m = ⊎_elim (λ t. wfrozen (new· t)) (λ t. old t (g.wells q m)) (T_dec (turns q))
    where
      new· : T (turns q) → FrozenWell fr q
      new· t =
          let x = turned q m t in
          let w = draft_of b q (g.wells q m) x.0.is in
          record {
            is = fr_turns q m t;
            links =
                λ k i. ⊎_elim (λ y. inl y) (λ y. inr (fr_reached (link_at b q k) y
                (trans x.1 (chain (record { from = m; to = below y; place = k; inside = i; names = refl }) here)))) (w.links k i);
            holds = fr_few q (let y = w.holds in omega arith);
          }
        where
          below : {t : ℕ} → Live b t → t < b.n
          below (inl d) = d.below
          below (inr f) = f.below

      np : T (not (turns q)) → q ≢ p
      np t e = T_not (turns q) t (turn q (record { below = m; is = ap (state b) e ∙ dr }) (subst (Reaches b p) (sym e) here))

      old : T (not (turns q)) → Well b q → Well fr q
      old t (wfree w) = wfree (record { is = fr_stays q m t ∙ w.is; links = w.links; holds = fr_holds q (np t) ∙ w.holds })
      old t (wdraft w) =
          wdraft (record { is = fr_stays q m t ∙ w.is; links = λ k i. ⊎_elim (λ y. inl y) (λ y. inr (fr_live (link_at b q k) y)) (w.links k i); holds = fr_holds q (np t) ∙ w.holds })
      old t (wfrozen w) =
          wfrozen (record { is = fr_stays q m t ∙ w.is; links = λ k i. ⊎_elim (λ y. inl y) (λ y. inr (fr_frozen (link_at b q k) y)) (w.links k i); holds = fr_few q w.holds })

  pub fr_good : Good fr
  unfolding fr freeze_first link_at
  fr_good = record { wells = fr-well; kept = λ q f. go q f (T_dec (turns q)) }
    where
      from_p : (q : ℕ) → Reaches b p q → Kept fr q
      from_p q r = record { root = p; is = inr (fr_self, let a = fr-held p refl in omega arith); reached = r }

      root : (q r : ℕ) → Reaches b r q → Root b r → Kept fr q
      root q r x (inl d) =
          ⊎_elim (λ t. from_p q (trans (turned r d.below t).1 x)) (λ t.
          record { root = r; is = inl (record { below = d.below; is = fr_stays r d.below t ∙ d.is }); reached = x }) (T_dec (turns r))
      root q r x (inr d) = record { root = r; is = inr (fr_frozen r d.0, few (ℕ_discrete r p)); reached = x }
        where
          few : Dec (r ≡ p) → 0 < holds_of fr r
          few (yes e) = let a = fr-held r e in omega arith
          few (no e) = let a = fr_holds r e in let c = d.1 in omega arith

      go : (q : ℕ) → Frozen fr q → T (turns q) ⊎ T (not (turns q)) → Kept fr q
      go q f (inl t) = from_p q (turned q f.below t).1
      go q f (inr t) = let k = g.kept q (record { below = f.below; is = sym (fr_stays q f.below t) ∙ f.is }) in root q k.root k.reached k.is

pub freeze_first_good : (b : Base) → SizedBase b → Good b → (p : ℕ) → p < b.n → state b p ≡ 1 → Good (freeze_first b p)
unfolding fr
freeze_first_good b z g p h dr = fr_good b z g p h dr
