-- The four places of a piece are emptied, and the links into each draft follow.
use Rattle.std.specs.Prelude.{◌≡◌, List, ℕ, zero, suc, ◌+◌, ◌*◌, ◌/◌, ◌≤◌, ◌<◌, length, set}
use Rattle.std.proofs.Math.Path.{refl}
use Rattle.std.proofs.Common.{sym, ap, ◌∙◌, subst, ⊎_elim, arith, length-set, get_or-set_other}
use Rattle.rules.specs.Lists.{◌!◌}
use Rattle.rules.specs.Limits.{none}
use Rattle.laws.specs.Numbers.{set_cases}
use Rattle.into.specs.Into.{Into}
use Rattle.into.specs.Moves.{Takable, Less, Followable, Followed, more_past, more_takable, follows}

-- the links with the first k places of p emptied
unfoldable pub emptied : List ℕ → ℕ → ℕ → List ℕ
emptied links p zero = links
emptied links p (suc k) = set (emptied links p k) (4 * p + k) none

-- the areas in their lengths
pub record Forgetting (n : ℕ) (states links into : List ℕ) (p : ℕ) : Type 0 where
  pub small : n ≤ 1024
  pub states_n : length states ≡ n
  pub links_n : length links ≡ 4 * n
  pub below : p < n
  pub counted : Into n states links into

-- the first k places are forgotten
pub record Forgotten (n : ℕ) (states links into : List ℕ) (p k : ℕ) (into' : List ℕ) : Type 0 where
  pub counted : Into n states (emptied links p k) into'
  pub own : into' ! p ≡ into ! p

emptied-n : (links : List ℕ) (p k : ℕ) → length (emptied links p k) ≡ length links
unfolding emptied
emptied-n links p zero = refl
emptied-n links p (suc k) = length-set (emptied links p k) (4 * p + k) none ∙ emptied-n links p k

-- later places are as they were
emptied_off : (links : List ℕ) (p k i : ℕ) → 4 * p + k ≤ i → emptied links p k ! i ≡ links ! i
unfolding emptied
emptied_off links p zero i h = refl
emptied_off links p (suc k) i h = get_or-set_other (emptied links p k) (4 * p + k) i none 0 (λ e. omega arith) ∙ emptied_off links p k i (omega arith)

pub emptied_other : (links : List ℕ) (p k i : ℕ) → (i / 4 ≡ p → ⊥) → k ≤ 4 → emptied links p k ! i ≡ links ! i
unfolding emptied
emptied_other links p zero i f h = refl
emptied_other links p (suc k) i f h = get_or-set_other (emptied links p k) (4 * p + k) i none 0 (λ e. f (omega arith)) ∙ emptied_other links p k i f (omega arith)

pub emptied_in : (links : List ℕ) (p k i : ℕ) → 4 * p ≤ i → i < 4 * p + k → 4 * p + k ≤ length links → emptied links p k ! i ≡ none
unfolding emptied
emptied_in links p zero i l h m = absurd (omega arith)
emptied_in links p (suc k) i l h m =
    ⊎_elim
    (λ w. w.1)
    (λ w. w.1 ∙ emptied_in links p k i l (let d = w.0 in omega arith) (omega arith))
    (set_cases (emptied links p k) (4 * p + k) none i 0 (omega (arith, emptied-n links p k)))

module _ {n : ℕ} {states links into : List ℕ} {p : ℕ} (g : Forgetting n states links into p) where
  pub forgotten_none : Forgotten n states links into p 0 into
  unfolding emptied
  forgotten_none = record { counted = g.counted; own = refl }

  module _ {k : ℕ} {into₁ : List ℕ} (h : k < 4) (a : Forgotten n states links into p k into₁) where
    place : Followable n states into₁ p (links ! (4 * p + k))
    place = record {
      small = g.small;
      states_n = g.states_n;
      links = emptied links p k;
      counted = a.counted;
      place = 4 * p + k;
      inside = omega (arith, g.below);
      of = omega arith;
      names = emptied_off links p k (4 * p + k) (omega arith);
    }

    pub forgetting_place : Takable n states into₁ p (links ! (4 * p + k))
    forgetting_place = more_takable place {t = none} (more_past (omega (arith, g.small)))

    pub forgotten_more : {into₂ : List ℕ} → Less n states p (links ! (4 * p + k)) into₁ into₂ → Forgotten n states links into p (k + 1) into₂
    forgotten_more {into₂} l =
        let f : Followed n states p (links ! (4 * p + k)) none into₁ into₂ = follows place {t = none} (more_past (omega (arith, g.small))) l in
        record {
          counted =
              let e : suc k ≡ k + 1 = omega arith in
              subst (λ (j : ℕ). Into n states (emptied links p j) into₂) e
              (unfold emptied in (f.on a.counted (omega (arith, g.below)) (omega (arith, g.below, emptied-n links p k, g.links_n)) (omega arith)
              (emptied_off links p k (4 * p + k) (omega arith))));
          own = f.own p refl g.below ∙ a.own;
        }

-- a draft that nobody else names goes, and its places are empty
pub into_gone : {n : ℕ} {states links into : List ℕ} {p : ℕ} → Into n states links into → p < length states → into ! p ≡ 0 → Into n (set states p 0) links into
into_gone {states = states} {into = into} {p = p} x h z = record {
  size = x.size;
  drafts = λ q k d. ⊎_elim (λ w. absurd (let y = w.1 in omega arith)) (λ w. x.drafts q k (sym w.1 ∙ d)) (set_cases states p 0 q 0 h);
  others = λ q k f. ⊎_elim
      (λ w. ap (λ (y : ℕ). into ! y) w.0 ∙ z)
      (λ w. x.others q k (λ d. f (w.1 ∙ d)))
      (set_cases states p 0 q 0 h);
}
