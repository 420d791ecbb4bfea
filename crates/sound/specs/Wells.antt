-- A piece is well exactly if its holds and its four links are.
use Rattle.std.specs.Prelude.{◌≡◌, Bool, ◌⊎◌, List, ℕ, ◌+◌, ◌*◌, ◌≤◌, ◌<◌}
use Rattle.std.proofs.Math.Path.{subst}
use Rattle.std.proofs.Math.Logic.{inl, inr, ⊎_elim}
use Rattle.std.proofs.Common.{arith}
use Rattle.rules.specs.Limits.{most_holds, none}
use Rattle.rules.specs.Tables.{Base, state, link_at, holds_of}
use Rattle.rules.specs.Words.{Frozen, Live, Well, wfree, wdraft, wfrozen}
use Rattle.rules.specs.Lists.{◌!◌}
use Rattle.laws.specs.Numbers.{eq_or}
use Rattle.sound.specs.Truthful.{Truthful, Below, tells_same}

-- a draft's link may name a live piece, a frozen piece's a frozen one, and any link none
abbrev pub LinkWell : ℕ → List ℕ → ℕ → ℕ → Type 0
LinkWell n states s t = (t ≡ none) ⊎ ((t < n) × (((s ≡ 1) × ((states ! t ≡ 1) ⊎ (states ! t ≡ 2))) ⊎ ((s ≡ 2) × (states ! t ≡ 2))))

-- 0 holds unless frozen, and at most 1,000
abbrev pub HoldsWell : ℕ → ℕ → Type 0
HoldsWell s h = ((s < 2) × (h ≡ 0)) ⊎ ((s ≡ 2) × (h ≤ most_holds))

-- r is the most that a piece of this state may have
abbrev pub MostHolds : ℕ → ℕ → Type 0
MostHolds s r = ((s ≡ 2) × (r ≡ most_holds)) ⊎ ((s ≡ 2 → ⊥) × (r ≡ 0))

-- the state and the holds of p are well
abbrev pub HeldWell : List ℕ → List ℕ → ℕ → Type 0
HeldWell states holds p = HoldsWell (states ! p) (holds ! p)

-- the four links of p are well
abbrev pub Linked : ℕ → List ℕ → List ℕ → ℕ → Type 0
Linked n states links p = Below (λ j. LinkWell n states (states ! p) (links ! (4 * p + j))) 4

-- ---- what each return of the tests says

module _ {n : ℕ} (states : List ℕ) {s t : ℕ} where
  pub link_live : t < n → 0 < s → s ≤ 2 → states ! t ≤ 2 → s ≤ states ! t → LinkWell n states s t
  link_live h l m u x =
      inr (
        h,
        ⊎_elim
            (λ e. inl (e, ⊎_elim inl (λ d. inr (omega (arith, d))) (eq_or (states ! t) 1)))
            (λ d. inr (omega (arith, d), omega (arith, d)))
            (eq_or s 1),
      )

-- ---- the words of the rulebook

module _ (b : Base) where
  draft_link : (t : ℕ) → LinkWell b.n b.states 1 t → (t ≡ none) ⊎ Live b t
  unfolding state
  draft_link t (inl e) = inl e
  draft_link t (inr w) =
      inr (⊎_elim
      (λ d. ⊎_elim (λ x. inl (record { below = w.0; is = x })) (λ x. inr (record { below = w.0; is = x })) d.1)
      (λ f. absurd (let z = f.0 in omega arith))
      w.1)

  frozen_link : (t : ℕ) → LinkWell b.n b.states 2 t → (t ≡ none) ⊎ Frozen b t
  unfolding state
  frozen_link t (inl e) = inl e
  frozen_link t (inr w) = inr (⊎_elim (λ d. absurd (let z = d.0 in omega arith)) (λ f. record { below = w.0; is = f.1 }) w.1)

  free_link : (t : ℕ) → LinkWell b.n b.states 0 t → t ≡ none
  free_link t (inl e) = e
  free_link t (inr w) = absurd (⊎_elim (λ d. let z = d.0 in omega arith) (λ f. let z = f.0 in omega arith) w.1)

  pub well-of : (p : ℕ) → HoldsWell (b.states ! p) (b.holds ! p) → Linked b.n b.states b.links p → Well b p
  unfolding state link_at holds_of
  well-of p (inl h) ls =
      ⊎_elim
      (λ e. wfree (record { is = e; links = λ k l. free_link (link_at b p k) (at e k l); holds = h.1 }))
      (λ d.
      let e : state b p ≡ 1 = omega (arith, h.0, d) in
      wdraft (record { is = e; links = λ k l. draft_link (link_at b p k) (at e k l); holds = h.1 }))
      (eq_or (state b p) 0)
    where
      at : {s : ℕ} → state b p ≡ s → (k : ℕ) → k < 4 → LinkWell b.n b.states s (link_at b p k)
      at e k l = subst (λ (s : ℕ). LinkWell b.n b.states s (link_at b p k)) e (ls k l)
  well-of p (inr h) ls =
      wfrozen (record {
        is = h.0;
        links = λ k l. frozen_link (link_at b p k) (subst (λ (s : ℕ). LinkWell b.n b.states s (link_at b p k)) h.0 (ls k l));
        holds = h.1;
      })

  pub holds_of_lem : (p : ℕ) → Well b p → HoldsWell (b.states ! p) (b.holds ! p)
  unfolding state holds_of
  holds_of_lem p (wfree w) = inl (omega (arith, w.is), w.holds)
  holds_of_lem p (wdraft w) = inl (omega (arith, w.is), w.holds)
  holds_of_lem p (wfrozen w) = inr (w.is, w.holds)

  pub links_of : (p : ℕ) → Well b p → Linked b.n b.states b.links p
  unfolding state link_at
  links_of p (wfree w) k l = inl (w.links k l)
  links_of p (wdraft w) k l =
      ⊎_elim
      (λ e. inl e)
      (λ v. inr (⊎_elim (λ d. (d.below, inl (w.is, inl d.is))) (λ f. (f.below, inl (w.is, inr f.is))) v))
      (w.links k l)
  links_of p (wfrozen w) k l = ⊎_elim (λ e. inl e) (λ f. inr (f.below, inr (w.is, f.is))) (w.links k l)

  -- where the holds are well, all is well exactly if the links are
  pub well_linked : Below (HeldWell b.states b.holds) b.n → {r : Bool} → Truthful (Below (Linked b.n b.states b.links) b.n) r
      → Truthful (Below (Well b) b.n) r
  well_linked held = tells_same (λ f p h. well-of p (held p h) (f p h)) (λ f p h. links_of p (f p h))
