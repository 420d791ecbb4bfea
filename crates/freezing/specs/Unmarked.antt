-- What stands in the queue is marked as unseen, for the search.
use Rattle.std.specs.Prelude.{◌≡◌, ◌⊎◌, List, ℕ, ◌+◌, ◌*◌, ◌≤◌, ◌<◌, length, set}
use Rattle.std.proofs.Common.{ap, ◌∙◌, inl, inr, ⊎_elim, arith, length-set, get_or-set_other}
use Rattle.rules.specs.Lists.{◌!◌}
use Rattle.laws.specs.Numbers.{eq_or, set_cases}

-- pieces stand in the queue
pub record Unmarkable (n : ℕ) (work queue : List ℕ) : Type 0 where
  pub small : n ≤ 1024
  pub work_n : 6 * n ≤ length work
  pub each : (j : ℕ) → j < length queue → queue ! j < n

-- the marks and the next places of the first j are 0
pub record Unmarked (n : ℕ) (work queue : List ℕ) (j : ℕ) (work' : List ℕ) : Type 0 where
  pub size : length work' ≡ length work
  pub zeros : (i : ℕ) → i < j → (work' ! (queue ! i) ≡ 0) × (work' ! (n + queue ! i) ≡ 0)
  pub same : (i : ℕ) → 2 * n ≤ i → work' ! i ≡ work ! i

module _ {n : ℕ} {work queue : List ℕ} (g : Unmarkable n work queue) {j : ℕ} {work₁ : List ℕ} (a : Unmarked n work queue j work₁) (more : j < length queue) where
  abbrev q : ℕ
  q = queue ! j

  -- what an entry is after both writes
  after : (i : ℕ) → i < 2 * n → ((i ≡ q) ⊎ (i ≡ n + q)) ⊎ (work₁ ! i ≡ 0) → set (set work₁ q 0) (n + q) 0 ! i ≡ 0
  after i h o = ⊎_elim
      (λ w. w.1)
      (λ w. w.1 ∙ ⊎_elim
      (λ v. v.1)
      (λ v. v.1 ∙ ⊎_elim (λ x. absurd (⊎_elim v.0 w.0 x)) (λ x. x) o)
      (set_cases work₁ q 0 i 0 (let y = g.each j more in omega (arith, a.size, g.work_n))))
      (set_cases (set work₁ q 0) (n + q) 0 i 0 (let y = g.each j more in omega (arith, a.size, g.work_n, length-set work₁ q 0)))

  pub unmarked_more : Unmarked n work queue (j + 1) (set (set work₁ (queue ! j) 0) (n + queue ! j) 0)
  unmarked_more = record {
    size = length-set (set work₁ q 0) (n + q) 0 ∙ length-set work₁ q 0 ∙ a.size;
    zeros = λ i h.
        ⊎_elim
        (λ e. let x : queue ! i ≡ q = ap (λ (y : ℕ). queue ! y) e in
        (after (queue ! i) (let y = g.each j more in omega arith) (inl (inl x)), after (n + queue ! i) (let y = g.each j more in omega arith) (inl (inr (ap (λ (y : ℕ). n + y) x)))))
        (λ d. let l : i < j = omega arith in
        let z = a.zeros i l in
        let y = g.each i (omega arith) in
        (after (queue ! i) (omega arith) (inr z.0), after (n + queue ! i) (omega arith) (inr z.1)))
        (eq_or i j);
    same = λ i h.
        let y = g.each j more in
        get_or-set_other (set work₁ q 0) (n + q) i 0 0 (λ e. absurd (omega arith)) ∙ get_or-set_other work₁ q i 0 0 (λ e. absurd (omega arith)) ∙ a.same i h;
  }
