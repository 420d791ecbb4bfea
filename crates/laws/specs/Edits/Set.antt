-- Set keeps the pieces well.
use Rattle.std.specs.Prelude.{◌≡◌, ◌⊎◌, ◌≢◌, ℕ, ◌+◌, ◌*◌, ◌<◌, set}
use Rattle.std.proofs.Common.{sym, ap, ◌∙◌, ⊎_elim, arith}
use Rattle.std.proofs.Math.Path.{subst}
use Rattle.std.proofs.Math.Logic.{inl, inr}
use Rattle.std.proofs.Math.Decide.{ℕ_discrete}
use Rattle.std.proofs.Math.Seq.{get_or-set_same, get_or-set_other}
use Rattle.rules.specs.Limits.{none}
use Rattle.rules.specs.Tables.{Base, state, link_at, holds_of}
use Rattle.rules.specs.Words.{Frozen, Live, DraftWell, Well, wfree, wdraft, wfrozen, SizedBase}
use Rattle.rules.specs.Commands.{with_links}
use Rattle.laws.specs.Passes.{Wells, draft_of}

-- ---- set

module _ (b : Base) (z : SizedBase b) (ws : Wells b) (p k t : ℕ) (h : p < b.n) (i : k < 4) (dr : state b p ≡ 1) (ok : (t ≡ none) ⊎ Live b t) where
  unfoldable pub set_base : Base
  set_base = with_links b (set b.links (4 * p + k) t)

  set_at : link_at set_base p k ≡ t
  unfolding set_base with_links link_at
  set_at = let y = z.links in get_or-set_same b.links (4 * p + k) t 0 (omega arith)

  set_off : (q j : ℕ) → j < 4 → (q ≢ p) ⊎ (j ≢ k) → link_at set_base q j ≡ link_at b q j
  unfolding set_base with_links link_at
  set_off q j m (inl d) = get_or-set_other b.links (4 * p + k) (4 * q + j) t 0 (λ e. d (omega arith))
  set_off q j m (inr d) = get_or-set_other b.links (4 * p + k) (4 * q + j) t 0 (λ e. d (omega arith))

  set_live : (q : ℕ) → Live b q → Live set_base q
  unfolding set_base with_links state
  set_live q (inl d) = inl (record { below = d.below; is = d.is })
  set_live q (inr d) = inr (record { below = d.below; is = d.is })

  set_frozen : (q : ℕ) → Frozen b q → Frozen set_base q
  unfolding set_base with_links state
  set_frozen q d = record { below = d.below; is = d.is }

  pub set-well : Wells set_base
  unfolding set_base with_links state holds_of
  set-well q m = go (ℕ_discrete q p) (ws q m)
    where
      other : (w : Well b q) → q ≢ p → Well set_base q
      other (wfree w) d = wfree (record { is = w.is; links = λ j n. set_off q j n (inl d) ∙ w.links j n; holds = w.holds })
      other (wdraft w) d =
          wdraft (record {
            is = w.is;
            links = λ j n. subst (λ (x : ℕ). (x ≡ none) ⊎ Live set_base x) (sym (set_off q j n (inl d)))
                (⊎_elim (λ x. inl x) (λ x. inr (set_live (link_at b q j) x)) (w.links j n));
            holds = w.holds;
          })
      other (wfrozen w) d =
          wfrozen (record {
            is = w.is;
            links = λ j n. subst (λ (x : ℕ). (x ≡ none) ⊎ Frozen set_base x) (sym (set_off q j n (inl d)))
                (⊎_elim (λ x. inl x) (λ x. inr (set_frozen (link_at b q j) x)) (w.links j n));
            holds = w.holds;
          })

      at : (j : ℕ) → j < 4 → DraftWell b p → Dec (j ≡ k) → (link_at set_base p j ≡ none) ⊎ Live set_base (link_at set_base p j)
      at j n w (yes e) = subst (λ (x : ℕ). (x ≡ none) ⊎ Live set_base x) (sym (ap (link_at set_base p) e ∙ set_at)) (⊎_elim (λ x. inl x) (λ x. inr (set_live t x)) ok)
      at j n w (no d) = subst (λ (x : ℕ). (x ≡ none) ⊎ Live set_base x) (sym (set_off p j n (inr d))) (⊎_elim (λ x. inl x) (λ x. inr (set_live (link_at b p j) x)) (w.links j n))

      go : Dec (q ≡ p) → Well b q → Well set_base q
      go (yes e) w =
          let f = draft_of b p (subst (Well b) e w) dr in
          subst (Well set_base) (sym e) (wdraft (record { is = dr; links = λ j n. at j n f (ℕ_discrete j k); holds = f.holds }))
      go (no d) w = other w d
