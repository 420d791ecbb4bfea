-- The queue of the drafts that p reaches, as far as it has come.
use Rattle.std.specs.Prelude.{◌≡◌, refl, ◌⊎◌, Bool, true, false, List, ℕ, ◌+◌, ◌*◌, ◌≤◌, ◌<◌, length, set}
use Rattle.std.proofs.Common.{sym, ap, ap₂, ◌∙◌, subst, inl, inr, ⊎_elim, arith, length-set, get_or-set_same, get_or-set_other, eq-eqb, ne_eqb, lt-ltb, le-ltb}
use Rattle.std.proofs.Math.Dec.{eqb, ltb}
use Rattle.rules.specs.Lists.{◌!◌}
use Rattle.rules.specs.Tests.{◌&◌, only_if}
use Rattle.rules.specs.Limits.{none}
use Rattle.rules.specs.Below.{sum}
use Rattle.rules.specs.Reach.{Reach}
use Rattle.laws.specs.Below.{sum_change}
use Rattle.laws.specs.Counts.{sum-most}
use Rattle.laws.specs.Numbers.{eq_or, set_cases}
use Rattle.paths.specs.Ground.{link_in, OneWay, ground}
use Rattle.tallies.specs.Sums.{sum_room, sum-zero, only_if-true, only_if-false, only_if-most}
use Rattle.gathering.specs.Put.{Ungathered, Putting}

-- what the walk begins with: the areas in their lengths, p a draft, no draft with a leader, and no way from what is no draft to a draft
pub record Gathering (n : ℕ) (states links leaders entries : List ℕ) (p : ℕ) : Type 0 where
  pub small : n ≤ 1024
  pub states_n : length states ≡ n
  pub links_n : length links ≡ 4 * n
  pub leaders_n : length leaders ≡ n
  pub entries_n : n ≤ length entries
  pub below : p < n
  pub is : states ! p ≡ 1
  pub bare : (q : ℕ) → q < n → states ! q ≡ 1 → leaders ! q ≡ none
  pub closed : OneWay (ground n states links 1)

-- 1 where q is a draft that stands in the queue
unfoldable pub stands_at : ℕ → List ℕ → List ℕ → ℕ → ℕ
stands_at n states leaders q = only_if (eqb (states ! q) 1 & ltb (leaders ! q) n) 1

-- q is a draft that p reaches, and it is marked
pub record Mine (n : ℕ) (states links : List ℕ) (p : ℕ) (leaders : List ℕ) (q : ℕ) : Type 0 where
  pub below : q < n
  pub draft : states ! q ≡ 1
  pub reached : Reach n (link_in links) p q
  pub marked : leaders ! q < n

-- the queue so far
pub record Queue (n : ℕ) (states links leaders₀ entries₀ : List ℕ) (p : ℕ) (leaders entries : List ℕ) (tail : ℕ) : Type 0 where
  pub leaders_n : length leaders ≡ length leaders₀
  pub entries_n : length entries ≡ length entries₀
  pub each : (j : ℕ) → j < tail → Mine n states links p leaders (entries ! j)
  pub all : (q : ℕ) → q < n → states ! q ≡ 1 → leaders ! q < n → (j : ℕ) × (j < tail) × (entries ! j ≡ q)
  pub apart : (i j : ℕ) → i < j → j < tail → entries ! i ≡ entries ! j → ⊥
  pub either : (q : ℕ) → q < n → states ! q ≡ 1 → (leaders ! q < n) ⊎ (leaders ! q ≡ none)
  pub left : (q : ℕ) → (states ! q ≡ 1 → ⊥) → leaders ! q ≡ leaders₀ ! q
  pub behind : (i : ℕ) → tail ≤ i → entries ! i ≡ entries₀ ! i
  pub many : tail ≡ sum (stands_at n states leaders) n

module _ {n : ℕ} {states links leaders₀ entries₀ : List ℕ} {p : ℕ} (g : Gathering n states links leaders₀ entries₀ p) where
  off : (b : Bool) → (b & false) ≡ false
  off true = refl
  off false = refl

  stands_not : (leaders : List ℕ) (q : ℕ) → leaders ! q ≡ none → stands_at n states leaders q ≡ 0
  unfolding stands_at
  stands_not leaders q e =
      only_if-false _ 1 (ap (λ (b : Bool). eqb (states ! q) 1 & b) (le-ltb (leaders ! q) n (omega (arith, g.small))) ∙ off (eqb (states ! q) 1))

  stands_other : (leaders : List ℕ) (q : ℕ) → (states ! q ≡ 1 → ⊥) → stands_at n states leaders q ≡ 0
  unfolding stands_at
  stands_other leaders q f = only_if-false _ 1 (ap (λ (b : Bool). b & ltb (leaders ! q) n) (ne_eqb (states ! q) 1 f))

  stands_on : (leaders : List ℕ) (q : ℕ) → states ! q ≡ 1 → leaders ! q < n → stands_at n states leaders q ≡ 1
  unfolding stands_at
  stands_on leaders q d h = only_if-true _ 1 (ap₂ (λ (a b : Bool). a & b) (eq-eqb (states ! q) 1 d) (lt-ltb (leaders ! q) n h))

  stands_most : (leaders : List ℕ) (q : ℕ) → stands_at n states leaders q ≤ 1
  unfolding stands_at
  stands_most leaders q = only_if-most (eqb (states ! q) 1 & ltb (leaders ! q) n) 1 1 (omega arith)

  -- nothing stands there at first
  pub queue_none : Queue n states links leaders₀ entries₀ p leaders₀ entries₀ 0
  queue_none = record {
    leaders_n = refl;
    entries_n = refl;
    each = λ j h. absurd (omega arith);
    all = λ q h d m. absurd (let x = g.bare q h d in omega (arith, g.small));
    apart = λ i j h l. absurd (omega arith);
    either = λ q h d. inr (g.bare q h d);
    left = λ q d. refl;
    behind = λ i h. refl;
    many = sym (sum-zero (stands_at n states leaders₀) n (λ q h. ⊎_elim (λ d. stands_not leaders₀ q (g.bare q h d)) (λ f. stands_other leaders₀ q f) (eq_or (states ! q) 1)));
  }

  module _ {leaders entries : List ℕ} {tail : ℕ} (a : Queue n states links leaders₀ entries₀ p leaders entries tail) where
    pub queue_most : tail ≤ n
    queue_most = omega (arith, a.many, sum-most (stands_at n states leaders) 1 n (λ q _. stands_most leaders q))

    pub putting : {t : ℕ} → Putting n states leaders entries t tail
    putting {t} = record {
      small = g.small;
      states_n = g.states_n;
      leaders_n = a.leaders_n ∙ g.leaders_n;
      entries_n = omega (arith, a.entries_n, g.entries_n);
      room = λ f. omega (arith, a.many, sum_room (stands_at n states leaders) n t f.below (λ q _. stands_most leaders q) (stands_not leaders t f.bare));
    }

    -- a draft that p reaches is put at its tail
    module _ {t : ℕ} (f : Ungathered n states leaders t) (r : Reach n (link_in links) p t) where
      abbrev leaders₁ : List ℕ
      leaders₁ = set leaders t t

      abbrev entries₁ : List ℕ
      entries₁ = set entries tail t

      tail_lt : tail < n
      tail_lt = (putting {t = t}).room f

      leaders_at : (q : ℕ) → ((q ≡ t) × (leaders₁ ! q ≡ t)) ⊎ ((q ≡ t → ⊥) × (leaders₁ ! q ≡ leaders ! q))
      leaders_at q = set_cases leaders t t q 0 (omega (arith, f.below, a.leaders_n, g.leaders_n))

      entries_at : (i : ℕ) → ((i ≡ tail) × (entries₁ ! i ≡ t)) ⊎ ((i ≡ tail → ⊥) × (entries₁ ! i ≡ entries ! i))
      entries_at i = set_cases entries tail t i 0 (omega (arith, tail_lt, a.entries_n, g.entries_n))

      at_tail : entries₁ ! tail ≡ t
      at_tail = get_or-set_same entries tail t 0 (omega (arith, tail_lt, a.entries_n, g.entries_n))

      before : (j : ℕ) → j < tail → entries₁ ! j ≡ entries ! j
      before j h = get_or-set_other entries tail j t 0 (λ e. omega arith)

      still : (q : ℕ) → leaders ! q < n → leaders₁ ! q < n
      still q h = ⊎_elim (λ w. let x = w.1 in let y = f.below in omega arith) (λ w. let x = w.1 in omega arith) (leaders_at q)

      other : (q : ℕ) → leaders ! q < n → q ≡ t → ⊥
      other q h e = let x : leaders ! q ≡ leaders ! t = ap (λ (y : ℕ). leaders ! y) e in let y = f.bare in omega (arith, g.small)

      mine : (q : ℕ) → Mine n states links p leaders q → Mine n states links p leaders₁ q
      mine q m = record { below = m.below; draft = m.draft; reached = m.reached; marked = still q m.marked }

      pub queue_put : Queue n states links leaders₀ entries₀ p leaders₁ entries₁ (tail + 1)
      queue_put = record {
        leaders_n = length-set leaders t t ∙ a.leaders_n;
        entries_n = length-set entries tail t ∙ a.entries_n;
        each = λ j h. ⊎_elim
            (λ e. subst (Mine n states links p leaders₁) (sym (ap (λ (x : ℕ). entries₁ ! x) e ∙ at_tail))
            (record { below = f.below; draft = f.draft; reached = r; marked = ⊎_elim (λ w. let x = w.1 in let y = f.below in omega arith) (λ w. absurd (w.0 refl)) (leaders_at t) }))
            (λ d. let l : j < tail = omega arith in subst (Mine n states links p leaders₁) (sym (before j l)) (mine (entries ! j) (a.each j l)))
            (eq_or j tail);
        all = λ q h d m. ⊎_elim
            (λ w. (tail, omega arith, at_tail ∙ sym w.0))
            (λ w. let x = a.all q h d (let y = w.1 in omega arith) in let l = x.1 in (x.0, omega arith, before x.0 l ∙ x.2))
            (leaders_at q);
        apart = λ i j h l e. ⊎_elim
            (λ y. other (entries ! i) (a.each i (omega arith)).marked (sym (before i (omega arith)) ∙ e ∙ ap (λ (x : ℕ). entries₁ ! x) y ∙ at_tail))
            (λ y. let k : j < tail = omega arith in a.apart i j h k (sym (before i (omega arith)) ∙ e ∙ before j k))
            (eq_or j tail);
        either = λ q h d. ⊎_elim
            (λ w. inl (let x = w.1 in let y = f.below in omega arith))
            (λ w. ⊎_elim (λ x. inl (let y = w.1 in omega arith)) (λ x. inr (w.1 ∙ x)) (a.either q h d))
            (leaders_at q);
        left = λ q d. ⊎_elim (λ w. absurd (d (ap (λ (x : ℕ). states ! x) w.0 ∙ f.draft))) (λ w. w.1 ∙ a.left q d) (leaders_at q);
        behind = λ i h. ⊎_elim (λ w. absurd (let x = w.0 in omega arith)) (λ w. w.1 ∙ a.behind i (omega arith)) (entries_at i);
        many = omega (
          arith,
          a.many,
          sum_change (stands_at n states leaders₁) (stands_at n states leaders) n t f.below
              (λ q _ d. unfold stands_at in (ap (λ (x : ℕ). only_if (eqb (states ! q) 1 & ltb x n) 1) (get_or-set_other leaders t q t 0 d))),
          stands_not leaders t f.bare,
          stands_on leaders₁ t f.draft (⊎_elim (λ w. let x = w.1 in let y = f.below in omega arith) (λ w. absurd (w.0 refl)) (leaders_at t)),
        );
      }
