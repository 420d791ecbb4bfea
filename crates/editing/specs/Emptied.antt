-- The four places of a piece without a label are emptied, one by one, and the counts match after each.
use Rattle.std.specs.Prelude.{◌≡◌, refl, ◌⊎◌, List, ℕ, ◌+◌, ◌*◌, ◌/◌, ◌≤◌, ◌<◌, length}
use Rattle.std.proofs.Common.{sym, ap, ◌∙◌, subst, inl, inr, ⊎_elim, arith, length-set}
use Rattle.rules.specs.Limits.{none}
use Rattle.laws.specs.Numbers.{set_cases}
use Rattle.rules.specs.Lists.{◌!◌}
use Rattle.tallies.specs.Tally.{label, CountsMatch}
use Rattle.tallies.specs.Moves.{tally-most}
use Rattle.tallies.specs.Adding.{Labelled}
use Rattle.editing.specs.Relink.{Relinking, Relinked}

-- the places of p, which has no label, are to be emptied
pub record Emptying (n : ℕ) (links leaders counts : List ℕ) (p : ℕ) : Type 0 where
  pub labelled : Labelled n leaders counts
  pub links_n : length links ≡ 4 * n
  pub below : p < n
  pub bare : label leaders p ≡ none
  pub holds : List ℕ
  pub most : (q : ℕ) → q < n → holds ! q ≤ 1000
  pub matches : CountsMatch n links holds leaders counts

-- the first j are
pub record Emptied (n : ℕ) (links leaders counts : List ℕ) (p j : ℕ) (links' counts' : List ℕ) : Type 0 where
  pub most : j ≤ 4
  pub links_size : length links' ≡ length links
  pub counts_size : length counts' ≡ length counts
  pub at : (i : ℕ) → 4 * p ≤ i → i < 4 * p + j → links' ! i ≡ none
  pub off : (i : ℕ) → (i < 4 * p) ⊎ (4 * p + j ≤ i) → links' ! i ≡ links ! i
  pub matches : (holds : List ℕ) → CountsMatch n links holds leaders counts → CountsMatch n links' holds leaders counts'

module _ {n : ℕ} {links leaders counts : List ℕ} {p : ℕ} where
  pub emptied-none : Emptied n links leaders counts p 0 links counts
  emptied-none = record {
    most = omega arith;
    links_size = refl;
    counts_size = refl;
    at = λ i a b. absurd (omega arith);
    off = λ i _. refl;
    matches = λ holds m. m;
  }

  module _ {j : ℕ} {links₁ counts₁ : List ℕ} (a : Emptied n links leaders counts p j links₁ counts₁) where
    -- all four are
    pub emptied-all : 4 ≤ j → Emptied n links leaders counts p 4 links₁ counts₁
    emptied-all h = let m = a.most in subst (λ (x : ℕ). Emptied n links leaders counts p x links₁ counts₁) (omega arith) a

    module _ (h : j < 4) (z : Emptying n links leaders counts p) where
      place_in : 4 * p + j < 4 * n
      place_in = omega (arith, z.below)

      pub emptying_place : Relinking n links₁ leaders counts₁ (4 * p + j) none
      emptying_place =
          let quarter : (4 * p + j) / 4 ≡ p = omega arith in
          let m = a.matches z.holds z.matches in
          record {
            labelled = record {
              small = z.labelled.small;
              leaders_n = z.labelled.leaders_n;
              counts_n = omega (arith, z.labelled.counts_n, a.counts_size);
            };
            links_n = a.links_size ∙ z.links_n;
            inside = place_in;
            bare = ap (label leaders) quarter ∙ z.bare;
            few = λ L k. omega (arith, m L k, tally-most n links₁ z.holds leaders L z.labelled.small z.most);
            holds = z.holds;
            matches = m;
          }

      pub emptied-more : {links₂ counts₂ : List ℕ} {old : ℕ} → Relinked n links₁ leaders counts₁ (4 * p + j) none links₂ counts₂ old
          → Emptied n links leaders counts p (j + 1) links₂ counts₂
      emptied-more {links₂} r = record {
        most = omega arith;
        links_size = ap length r.place ∙ length-set links₁ (4 * p + j) none ∙ a.links_size;
        counts_size = r.size ∙ a.counts_size;
        at = λ i u v. ⊎_elim (λ w. w.1) (λ w. w.1 ∙ a.at i u (let d = w.0 in omega arith)) (go i);
        off = λ i o.
            ⊎_elim
            (λ w. absurd (let x = w.0 in ⊎_elim (λ y. omega arith) (λ y. omega arith) o))
            (λ w. w.1 ∙ a.off i (⊎_elim (λ y. inl y) (λ y. inr (omega arith)) o))
            (go i);
        matches = λ holds m. r.matches holds (a.matches holds m);
      }
        where
          Goes : ℕ → List ℕ → Type 0
          Goes i l = ((i ≡ 4 * p + j) × (l ! i ≡ none)) ⊎ ((i ≡ 4 * p + j → ⊥) × (l ! i ≡ links₁ ! i))

          go : (i : ℕ) → Goes i links₂
          go i =
              subst (Goes i) (sym r.place)
              (set_cases links₁ (4 * p + j) none i 0 (omega (arith, place_in, a.links_size, z.links_n)))
