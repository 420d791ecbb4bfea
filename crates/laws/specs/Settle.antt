-- Freeing every frozen piece that is no longer kept leaves a good base.
use Rattle.std.specs.Prelude.{◌≡◌, refl, ◌⊎◌, Bool, ℕ, ◌+◌, ◌*◌, ◌/◌, ◌≤◌, ◌<◌, T, get_or}
use Rattle.std.proofs.Common.{sym, ◌∙◌, subst, inl, inr}
use Rattle.std.proofs.Math.Path.{ap}
use Rattle.std.proofs.Math.Logic.{⊎_elim}
use Rattle.std.proofs.Math.Bool.{not}
use native.Mathlib.Omega.{arith}
use Rattle.std.proofs.Math.Dec.{T_not, not_T}
use Rattle.rules.specs.Tests.{◌&◌, pick}
use Rattle.laws.specs.Tests.{and_both, and_right}
use Rattle.rules.specs.Limits.{none}
use Rattle.laws.specs.Below.{T_dec, pick_true, pick-false, get_or-table}
use Rattle.rules.specs.Reach.{Reach, here, chain, Link}
use Rattle.rules.specs.Tables.{Base, state, is_frozen, link_at, holds_of, is_kept}
use Rattle.rules.specs.Words.{Draft, Frozen, Live, Root, Kept, FreeWell, Well, wfree, wdraft, wfrozen}
use Rattle.laws.specs.Words.{trans, →is_frozen, is_kept→, →is_kept}
use Rattle.laws.specs.Sound.{Good}
use Rattle.rules.specs.Commands.{free_all, gone}

-- a chain is carried over, link by link, with a fact P that holds along it
pub carry : {n m : ℕ} {at bt : ℕ → ℕ → ℕ} (P : ℕ → Type 0) → ((p q : ℕ) → P p → Link n at p q → Link m bt p q × P q) → {p q : ℕ} → P p → Reach n at p q
    → Reach m bt p q
carry P f x here = here
carry P f {p = p} x (chain {q = q} l r) = let y = f p q x l in chain y.0 (carry P f y.1 r)

-- ---- what freeing leaves

module _ (e : Base) (f : ℕ → Bool) where
  pub state-free_all : (p : ℕ) → p < e.n → state (free_all e f) p ≡ pick (f p) 0 (state e p)
  unfolding free_all state
  state-free_all p h = get_or-table (λ q. pick (f q) 0 (state e q)) e.n p 0 h

  pub holds_free_all : (p : ℕ) → p < e.n → holds_of (free_all e f) p ≡ pick (f p) 0 (holds_of e p)
  unfolding free_all holds_of
  holds_free_all p h = get_or-table (λ q. pick (f q) 0 (holds_of e q)) e.n p 0 h

  pub link_free_all : (p k : ℕ) → p < e.n → k < 4 → link_at (free_all e f) p k ≡ pick (f p) none (link_at e p k)
  unfolding free_all link_at
  link_free_all p k h i =
      let d : (4 * p + k) / 4 ≡ p = omega arith in
      get_or-table (λ j. pick (f (j / 4)) none (get_or e.links j 0)) (4 * e.n) (4 * p + k) 0 (omega arith)
      ∙ ap (λ (x : ℕ). pick (f x) none (get_or e.links (4 * p + k) 0)) d

  -- a piece that is not freed is as it was
  pub state_kept : (p : ℕ) → p < e.n → T (not (f p)) → state (free_all e f) p ≡ state e p
  state_kept p h t = state-free_all p h ∙ pick-false (f p) 0 (state e p) t

  pub holds_kept : (p : ℕ) → p < e.n → T (not (f p)) → holds_of (free_all e f) p ≡ holds_of e p
  holds_kept p h t = holds_free_all p h ∙ pick-false (f p) 0 (holds_of e p) t

  pub link_kept : (p k : ℕ) → p < e.n → k < 4 → T (not (f p)) → link_at (free_all e f) p k ≡ link_at e p k
  link_kept p k h i t = link_free_all p k h i ∙ pick-false (f p) none (link_at e p k) t

  pub draft_kept : (p : ℕ) → T (not (f p)) → Draft e p → Draft (free_all e f) p
  unfolding free_all
  draft_kept p t d = record { below = d.below; is = state_kept p d.below t ∙ d.is }

  pub frozen_kept : (p : ℕ) → T (not (f p)) → Frozen e p → Frozen (free_all e f) p
  unfolding free_all
  frozen_kept p t d = record { below = d.below; is = state_kept p d.below t ∙ d.is }

  -- a freed one is free
  pub freed_well : (p : ℕ) → p < e.n → T (f p) → FreeWell (free_all e f) p
  freed_well p h t = record {
    is = state-free_all p h ∙ pick_true (f p) 0 (state e p) t;
    links = λ k i. link_free_all p k h i ∙ pick_true (f p) none (link_at e p k) t;
    holds = holds_free_all p h ∙ pick_true (f p) 0 (holds_of e p) t;
  }

  -- one that is not freed is well, if no piece that it names is freed
  pub kept_well : (p : ℕ) → p < e.n → T (not (f p)) → ((k : ℕ) → k < 4 → Live e (link_at e p k) → T (not (f (link_at e p k)))) → Well e p → Well (free_all e f) p
  kept_well p h t n (wfree w) = wfree (record {
    is = state_kept p h t ∙ w.is;
    links = λ k i. link_kept p k h i t ∙ w.links k i;
    holds = holds_kept p h t ∙ w.holds;
  })
  kept_well p h t n (wdraft w) = wdraft (record {
    is = state_kept p h t ∙ w.is;
    links = λ k i. subst (λ (x : ℕ). (x ≡ none) ⊎ Live (free_all e f) x) (sym (link_kept p k h i t)) (go k i (w.links k i));
    holds = holds_kept p h t ∙ w.holds;
  })
    where
      go : (k : ℕ) → k < 4 → (link_at e p k ≡ none) ⊎ Live e (link_at e p k) → (link_at e p k ≡ none) ⊎ Live (free_all e f) (link_at e p k)
      go k i (inl x) = inl x
      go k i (inr (inl d)) = inr (inl (draft_kept (link_at e p k) (n k i (inl d)) d))
      go k i (inr (inr d)) = inr (inr (frozen_kept (link_at e p k) (n k i (inr d)) d))
  kept_well p h t n (wfrozen w) = wfrozen (record {
    is = state_kept p h t ∙ w.is;
    links =
        λ k i. subst (λ (x : ℕ). (x ≡ none) ⊎ Frozen (free_all e f) x) (sym (link_kept p k h i t))
        (⊎_elim (λ x. inl x) (λ d. inr (frozen_kept (link_at e p k) (n k i (inr d)) d)) (w.links k i));
    holds = subst (λ (x : ℕ). x ≤ 1000) (sym (holds_kept p h t)) w.holds;
  })

-- ---- settling

module _ (e : Base) (most : e.n ≤ 1024) (wells : (p : ℕ) → p < e.n → Well e p) where
  not-gone : (p : ℕ) → Kept e p → T (not (gone e p))
  unfolding gone
  not-gone p k = not_T (is_frozen e p & not (is_kept e p)) (λ t. T_not (is_kept e p) (and_right (is_frozen e p) (not (is_kept e p)) t) (→is_kept e p k))

  draft_stays : (p : ℕ) → Draft e p → T (not (gone e p))
  draft_stays p d = not-gone p (record { root = p; is = inl d; reached = here })

  frozen_left : (p : ℕ) → p < e.n → T (is_frozen e p) → T (not (gone e p)) → Kept e p
  unfolding gone
  frozen_left p h t g =
      ⊎_elim (λ k. is_kept→ e p k) (λ nk. absurd (T_not (is_frozen e p & not (is_kept e p)) g (and_both (is_frozen e p) (not (is_kept e p)) t nk))) (T_dec (is_kept e p))

  link_on : (p q : ℕ) → Kept e p → Link e.n (link_at e) p q → Kept e q
  link_on p q k l = record { root = k.root; is = k.is; reached = trans k.reached (chain l here) }

  settled_kept : (p : ℕ) → Kept e p → Kept (free_all e (gone e)) p
  unfolding free_all
  settled_kept p k = record { root = k.root; is = root k.is; reached = carry (Kept e) on self k.reached }
    where
      self : Kept e k.root
      self = record { root = k.root; is = k.is; reached = here }

      root : Root e k.root → Root (free_all e (gone e)) k.root
      root (inl d) = inl (draft_kept e (gone e) k.root (not-gone k.root self) d)
      root (inr g) =
          inr (frozen_kept e (gone e) k.root (not-gone k.root self) g.0, subst (λ (x : ℕ). 0 < x) (sym (holds_kept e (gone e) k.root g.0.below (not-gone k.root self))) g.1)

      on : (a b : ℕ) → Kept e a → Link e.n (link_at e) a b → Link (free_all e (gone e)).n (link_at (free_all e (gone e))) a b × Kept e b
      on a b ka l = (
        record { from = l.from; to = l.to; place = l.place; inside = l.inside; names = link_kept e (gone e) a l.place l.from l.inside (not-gone a ka) ∙ l.names },
        link_on a b ka l,
      )

  names_stay : (p : ℕ) → p < e.n → T (not (gone e p)) → Well e p → (k : ℕ) → k < 4 → Live e (link_at e p k) → T (not (gone e (link_at e p k)))
  names_stay p h g w k i (inl d) = draft_stays (link_at e p k) d
  names_stay p h g w k i (inr d) = not-gone (link_at e p k) (link_on p (link_at e p k) (kept w) (record { from = h; to = d.below; place = k; inside = i; names = refl }))
    where
      kept : Well e p → Kept e p
      kept (wfree x) = absurd (let a = x.links k i in let c = d.below in omega arith)
      kept (wdraft x) = record { root = p; is = inl (record { below = h; is = x.is }); reached = here }
      kept (wfrozen x) = frozen_left p h (→is_frozen e p x.is) g

  pub settled_good : Good (free_all e (gone e))
  unfolding free_all
  settled_good = record {
    wells = λ p h. ⊎_elim (λ g. wfree (freed_well e (gone e) p h g)) (λ g. kept_well e (gone e) p h g (names_stay p h g (wells p h)) (wells p h)) (T_dec (gone e p));
    kept =
        λ p f. ⊎_elim (λ g. absurd (let a = (freed_well e (gone e) p f.below g).is in let c = f.is in omega arith))
        (λ g. settled_kept p (frozen_left p f.below (→is_frozen e p (sym (state_kept e (gone e) p f.below g) ∙ f.is)) g)) (T_dec (gone e p));
  }
