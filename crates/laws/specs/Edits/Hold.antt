-- One hold more or less keeps the pieces well.
use Rattle.std.specs.Prelude.{◌≡◌, ◌⊎◌, ◌≢◌, ℕ, ◌≤◌, ◌<◌, set}
use Rattle.std.proofs.Common.{sym, ◌∙◌, ⊎_elim}
use Rattle.std.proofs.Math.Path.{ap, subst}
use Rattle.std.proofs.Math.Logic.{inl, inr}
use Rattle.std.proofs.Math.Decide.{ℕ_discrete}
use Rattle.std.proofs.Math.ListN.{get_or}
use Rattle.std.proofs.Math.Seq.{get_or-set_same, get_or-set_other}
use Rattle.rules.specs.Limits.{none}
use Rattle.rules.specs.Tables.{Base, state, link_at, holds_of}
use Rattle.rules.specs.Words.{Draft, Frozen, Live, Root, Well, wfree, wdraft, wfrozen, SizedBase}
use Rattle.laws.specs.Sound.{Good}
use Rattle.rules.specs.Commands.{with_holds}
use Rattle.laws.specs.Passes.{Wells, frozen_of}

-- ---- one hold more or less

module _ (b : Base) (z : SizedBase b) (ws : Wells b) (p v : ℕ) (h : p < b.n) (fz : state b p ≡ 2) (v≤ : v ≤ 1000) where
  unfoldable pub hold_base : Base
  hold_base = with_holds b (set b.holds p v)

  hold_at : (q : ℕ) → q ≡ p → holds_of hold_base q ≡ v
  unfolding hold_base with_holds holds_of
  hold_at q e = ap (λ (x : ℕ). get_or (set b.holds p v) x 0) e ∙ get_or-set_same b.holds p v 0 (subst (λ (x : ℕ). p < x) (sym z.holds) h)

  hold_off : (q : ℕ) → q ≢ p → holds_of hold_base q ≡ holds_of b q
  unfolding hold_base with_holds holds_of
  hold_off q d = get_or-set_other b.holds p q v 0 d

  hold_draft : (q : ℕ) → Draft b q → Draft hold_base q
  unfolding hold_base with_holds state
  hold_draft q d = record { below = d.below; is = d.is }

  hold_frozen : (q : ℕ) → Frozen b q → Frozen hold_base q
  unfolding hold_base with_holds state
  hold_frozen q d = record { below = d.below; is = d.is }

  hold_back : (q : ℕ) → Frozen hold_base q → Frozen b q
  unfolding hold_base with_holds state
  hold_back q d = record { below = d.below; is = d.is }

  hold_flinks : (q k : ℕ) → (link_at b q k ≡ none) ⊎ Frozen b (link_at b q k) → (link_at b q k ≡ none) ⊎ Frozen hold_base (link_at b q k)
  hold_flinks q k = ⊎_elim (λ x. inl x) (λ x. inr (hold_frozen (link_at b q k) x))

  hold_dlinks : (q k : ℕ) → (link_at b q k ≡ none) ⊎ Live b (link_at b q k) → (link_at b q k ≡ none) ⊎ Live hold_base (link_at b q k)
  hold_dlinks q k = ⊎_elim (λ x. inl x) (λ x. inr (⊎_elim (λ y. inl (hold_draft (link_at b q k) y)) (λ y. inr (hold_frozen (link_at b q k) y)) x))

  pub hold_well : Wells hold_base
  unfolding hold_base with_holds state link_at
  hold_well q m = go (ℕ_discrete q p) (ws q m)
    where
      go : Dec (q ≡ p) → Well b q → Well hold_base q
      go (yes e) w =
          let f = frozen_of b q w (ap (state b) e ∙ fz) in
          wfrozen (record { is = f.is; links = λ k i. hold_flinks q k (f.links k i); holds = subst (λ (x : ℕ). x ≤ 1000) (sym (hold_at q e)) v≤ })
      go (no d) (wfree w) = wfree (record { is = w.is; links = w.links; holds = hold_off q d ∙ w.holds })
      go (no d) (wdraft w) = wdraft (record { is = w.is; links = λ k i. hold_dlinks q k (w.links k i); holds = hold_off q d ∙ w.holds })
      go (no d) (wfrozen w) = wfrozen (record { is = w.is; links = λ k i. hold_flinks q k (w.links k i); holds = subst (λ (x : ℕ). x ≤ 1000) (sym (hold_off q d)) w.holds })

  pub hold_good : Good b → 0 < v → Good hold_base
  unfolding hold_base with_holds state link_at
  hold_good g pos =
      record { wells = hold_well; kept = λ q f. let k = g.kept q (hold_back q f) in record { root = k.root; is = root k.root (ℕ_discrete k.root p) k.is; reached = k.reached } }
    where
      root : (r : ℕ) → Dec (r ≡ p) → Root b r → Root hold_base r
      root r e (inl d) = inl (hold_draft r d)
      root r (yes e) (inr d) = inr (hold_frozen r d.0, subst (λ (x : ℕ). 0 < x) (sym (hold_at r e)) pos)
      root r (no e) (inr d) = inr (hold_frozen r d.0, subst (λ (x : ℕ). 0 < x) (sym (hold_off r e)) d.1)
