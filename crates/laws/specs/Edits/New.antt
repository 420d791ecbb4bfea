-- New keeps the pieces well and the frozen ones kept.
use Rattle.std.specs.Prelude.{◌≡◌, ◌≢◌, ℕ, suc, ◌<◌, set}
use Rattle.std.proofs.Common.{sym, ◌∙◌, subst, arith}
use Rattle.std.proofs.Math.Path.{ap}
use Rattle.std.proofs.Math.Logic.{inl, inr, ⊎_elim}
use Rattle.std.proofs.Math.Decide.{ℕ_discrete}
use Rattle.std.proofs.Math.ListN.{get_or}
use Rattle.std.proofs.Math.Seq.{get_or-set_same, get_or-set_other}
use Rattle.rules.specs.Tables.{Base, state, link_at, holds_of}
use Rattle.rules.specs.Words.{Draft, Frozen, Root, Kept, Well, wfree, wdraft, wfrozen, SizedBase}
use Rattle.laws.specs.Sound.{Good}
use Rattle.rules.specs.Commands.{with_states}
use Rattle.laws.specs.Passes.{Wells, free_of}

-- ---- new

module _ (b : Base) (z : SizedBase b) (g : Good b) (p : ℕ) (h : p < b.n) (fr : state b p ≡ 0) where
  unfoldable pub new_base : Base
  new_base = with_states b (set b.states p 1)

  new_at : (q : ℕ) → q ≡ p → state new_base q ≡ 1
  unfolding new_base with_states state
  new_at q e = ap (λ (x : ℕ). get_or (set b.states p 1) x 0) e ∙ get_or-set_same b.states p 1 0 (subst (λ (x : ℕ). p < x) (sym z.states) h)

  new_off : (q : ℕ) → q ≢ p → state new_base q ≡ state b q
  unfolding new_base with_states state
  new_off q d = get_or-set_other b.states p q 1 0 d

  off : (q k : ℕ) → state b q ≡ suc k → q ≢ p
  off q k e d = let a : state b q ≡ state b p = ap (state b) d in absurd (let c = fr in let f = e in omega arith)

  new_draft : (q : ℕ) → Draft b q → Draft new_base q
  unfolding new_base with_states
  new_draft q d = record { below = d.below; is = new_off q (off q 0 d.is) ∙ d.is }

  new_frozen : (q : ℕ) → Frozen b q → Frozen new_base q
  unfolding new_base with_states
  new_frozen q d = record { below = d.below; is = new_off q (off q 1 d.is) ∙ d.is }

  new_well : Wells new_base
  unfolding new_base with_states link_at holds_of
  new_well q i = go (ℕ_discrete q p) (g.wells q i)
    where
      go : Dec (q ≡ p) → Well b q → Well new_base q
      go (yes e) w = let f = free_of b q w (ap (state b) e ∙ fr) in wdraft (record { is = new_at q e; links = λ k j. inl (f.links k j); holds = f.holds })
      go (no d) (wfree w) = wfree (record { is = new_off q d ∙ w.is; links = w.links; holds = w.holds })
      go (no d) (wdraft w) =
          wdraft (record {
            is = new_off q d ∙ w.is;
            links = λ k j. ⊎_elim (λ x. inl x)
                (λ l. inr (⊎_elim (λ x. inl (new_draft (link_at b q k) x)) (λ x. inr (new_frozen (link_at b q k) x)) l)) (w.links k j);
            holds = w.holds;
          })
      go (no d) (wfrozen w) = wfrozen (record { is = new_off q d ∙ w.is; links = λ k j. ⊎_elim (λ x. inl x) (λ x. inr (new_frozen (link_at b q k) x)) (w.links k j); holds = w.holds })

  pub new_good : Good new_base
  unfolding new_base with_states link_at holds_of
  new_good = record { wells = new_well; kept = λ q f. go q f (ℕ_discrete q p) }
    where
      root : (r : ℕ) → Root b r → Root new_base r
      root r (inl d) = inl (new_draft r d)
      root r (inr d) = inr (new_frozen r d.0, d.1)

      go : (q : ℕ) → Frozen new_base q → Dec (q ≡ p) → Kept new_base q
      go q f (yes e) = absurd (let a = new_at q e in let c = f.is in omega arith)
      go q f (no d) =
          let k = g.kept q (record { below = f.below; is = sym (new_off q d) ∙ f.is }) in
          record { root = k.root; is = root k.root k.is; reached = k.reached }
