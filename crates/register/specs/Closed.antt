-- The lines move one up, block by block, until one is unused or to the last, which becomes unused.
use Rattle.register.specs.Removed.{removed-one}
use Rattle.register.specs.Moved.{Sunk}
use Rattle.register.specs.Written.{rest-zero, line, line_size, line_other, line_first, line_second, line_third}
use Rattle.std.specs.Prelude.{◌≡◌, refl, ◌⊎◌, List, ℕ, ◌+◌, ◌*◌, ◌≤◌, ◌<◌, length, get_or}
use Rattle.std.proofs.Common.{sym, ap, ◌∙◌, subst, inl, inr, ⊎_elim, arith}
use Rattle.rules.specs.Limits.{lines, entries}
use Rattle.rules.specs.Register.{number_at, Ordered, removed}
use Rattle.laws.specs.Numbers.{eq_or, lt_or}

-- m is l, with the entries from line i on to j as they were three further on
pub record Closed (l : List ℕ) (i j : ℕ) (m : List ℕ) : Type 0 where
  pub size : length m ≡ entries
  pub inside : 3 * i ≤ j
  pub front : (k : ℕ) → k < 3 * i → get_or m k 0 ≡ get_or l k 0
  pub done : (k : ℕ) → 3 * i ≤ k → k < j → get_or m k 0 ≡ get_or l (k + 3) 0
  pub rest : (k : ℕ) → j ≤ k → get_or m k 0 ≡ get_or l k 0

pub closed_start : {l : List ℕ} {i : ℕ} → length l ≡ entries → Closed l i (3 * i) l
closed_start z = record { size = z; inside = omega arith; front = λ k g. refl; done = λ k g b. absurd (omega arith); rest = λ k g. refl }

pub closed_more : {l : List ℕ} {i from to : ℕ} {m r : List ℕ} → Closed l i from m → from ≤ to → Sunk m from to r → Closed l i to r
closed_more {l} {i} {from} {to} {m} {r} v h w = record {
  size = w.size ∙ v.size;
  inside = omega (arith, v.inside);
  front = λ k g. w.low k (omega (arith, v.inside)) ∙ v.front k g;
  done = λ k g b. ⊎_elim (λ x. w.low k x ∙ v.done k g x) (λ x. w.mid k x b ∙ v.rest (k + 3) (omega arith)) (lt_or k from);
  rest = λ k g. w.high k g ∙ v.rest k (omega arith);
}

-- one block of 32 lines more
pub closed_block : {l : List ℕ} {i : ℕ} (q : ℕ) {m r : List ℕ} → Closed l i (3 * q) m → Sunk m (3 * q) (3 * q + 96) r → Closed l i (3 * (q + 32)) r
closed_block {l} {i} q {m} {r} v w =
    let e : 3 * q + 96 ≡ 3 * (q + 32) = omega arith in
    subst (λ (j : ℕ). Closed l i j r) e (closed_more v (omega arith) w)

-- line q is unused: all behind it is 0 already
pub closed_unused : {l : List ℕ} {i : ℕ} (q : ℕ) {m : List ℕ} → Ordered l → i < lines → q ≤ lines → Closed l i (3 * q) m → get_or m (3 * q + 2) 0 ≡ 0 → m ≡ removed l i
unfolding number_at
closed_unused {l} {i} q {m} o h g v e =
    removed-one l o.size i h m v.size v.front
    (λ k b c. ⊎_elim (λ x. v.done k b x) (λ x. v.rest k x ∙ zero k x ∙ sym (zero (k + 3) (omega arith))) (lt_or k (3 * q)))
    (λ k b c. ⊎_elim (λ x. v.done k (omega (arith, v.inside)) x ∙ zero (k + 3) (omega arith)) (λ x. v.rest k x ∙ zero k x) (lt_or k (3 * q)))
  where
    zero : (k : ℕ) → 3 * q ≤ k → get_or l k 0 ≡ 0
    zero k b = rest-zero l o q (sym (v.rest (3 * q + 2) (omega arith)) ∙ e) k b

-- the three entries of the last line become 0
module _ (m : List ℕ) (a : ℕ) (h : a + 2 < length m) where
  line-zero : (k : ℕ) → a ≤ k → k < a + 3 → get_or (line m a 0 0 0) k 0 ≡ 0
  line-zero k b c = go (eq_or k a) (eq_or k (a + 1))
    where
      at : (q : ℕ) → k ≡ q → get_or (line m a 0 0 0) q 0 ≡ 0 → get_or (line m a 0 0 0) k 0 ≡ 0
      at q e x = ap (λ (t : ℕ). get_or (line m a 0 0 0) t 0) e ∙ x

      go : (k ≡ a) ⊎ (k ≡ a → ⊥) → (k ≡ a + 1) ⊎ (k ≡ a + 1 → ⊥) → get_or (line m a 0 0 0) k 0 ≡ 0
      go (inl e) y = at a e (line_first m a 0 0 0 h)
      go (inr d) (inl e) = at (a + 1) e (line_second m a 0 0 0 h)
      go (inr d) (inr f) = at (a + 2) (omega (arith, d, f)) (line_third m a 0 0 0 h)

  line_low : (k : ℕ) → k < a → get_or (line m a 0 0 0) k 0 ≡ get_or m k 0
  line_low k b = line_other m a 0 0 0 k (λ y. omega arith) (λ y. omega arith) (λ y. omega arith)

pub closed_end : {l : List ℕ} {i : ℕ} {m : List ℕ} → length l ≡ entries → i < lines → Closed l i 3069 m → line m 3069 0 0 0 ≡ removed l i
closed_end {l} {i} {m} z h v =
    let inside : 3069 + 2 < length m = omega (arith, v.size) in
    removed-one l z i h (line m 3069 0 0 0) (line_size m 3069 0 0 0 ∙ v.size)
    (λ k b. line_low m 3069 inside k (omega arith) ∙ v.front k b)
    (λ k b c. line_low m 3069 inside k c ∙ v.done k b c)
    (λ k b c. line-zero m 3069 inside k b (omega arith))
