-- Entries that move by one line, further or up, by a loop.
use Rattle.std.specs.Prelude.{◌≡◌, refl, List, ℕ, ◌+◌, ◌≤◌, ◌<◌, length, get_or, set}
use Rattle.std.proofs.Common.{sym, ◌∙◌, subst, ⊎_elim, arith, length-set, get_or-set_same, get_or-set_other}
use Rattle.rules.specs.Limits.{entries}
use Rattle.laws.specs.Numbers.{eq_or}

-- there are so many entries from `from` on, and three behind them
pub record Movable (l : List ℕ) (from many : ℕ) : Type 0 where
  pub size : length l ≡ entries
  pub most : from + many ≤ 3069

-- m is l, with the entries from `from` up to `to` three further
pub record Lifted (l : List ℕ) (from to : ℕ) (m : List ℕ) : Type 0 where
  pub size : length m ≡ length l
  pub low : (k : ℕ) → k < from + 3 → get_or m k 0 ≡ get_or l k 0
  pub mid : (k : ℕ) → from ≤ k → k < to → get_or m (k + 3) 0 ≡ get_or l k 0
  pub high : (k : ℕ) → to + 3 ≤ k → get_or m k 0 ≡ get_or l k 0

pub lifted_none : {l : List ℕ} {to : ℕ} → Lifted l to to l
lifted_none = record { size = refl; low = λ k h. refl; mid = λ k h g. absurd (omega arith); high = λ k h. refl }

pub lifted_at : {l : List ℕ} {from from' to to' : ℕ} {m : List ℕ} → from ≡ from' → to ≡ to' → Lifted l from to m → Lifted l from' to' m
lifted_at {l} {from} {from'} {to} {to'} {m} e f v = subst (λ (x : ℕ). Lifted l from' x m) f (subst (λ (x : ℕ). Lifted l x to m) e v)

pub lifted_more : {l : List ℕ} {j to : ℕ} {m : List ℕ} → length l ≡ entries → to ≤ 3069 → j < to → Lifted l (j + 1) to m → Lifted l j to (set m (j + 3) (get_or m j 0))
lifted_more {l} {j} {to} {m} z t g v = record {
  size = length-set m (j + 3) (get_or m j 0) ∙ v.size;
  low = λ k b. get_or-set_other m (j + 3) k (get_or m j 0) 0 (λ e. omega arith) ∙ v.low k (omega arith);
  mid = λ k b c. ⊎_elim (λ e. new k e) (λ d. old k c (omega (arith, d))) (eq_or k j);
  high = λ k b. get_or-set_other m (j + 3) k (get_or m j 0) 0 (λ e. omega arith) ∙ v.high k b;
}
  where
    new : (k : ℕ) → k ≡ j → get_or (set m (j + 3) (get_or m j 0)) (k + 3) 0 ≡ get_or l k 0
    new k e =
        subst (λ (a : ℕ). get_or (set m (j + 3) (get_or m j 0)) (a + 3) 0 ≡ get_or l a 0) (sym e)
        (get_or-set_same m (j + 3) (get_or m j 0) 0 (omega (arith, v.size)) ∙ v.low j (omega arith))

    old : (k : ℕ) → k < to → j + 1 ≤ k → get_or (set m (j + 3) (get_or m j 0)) (k + 3) 0 ≡ get_or l k 0
    old k b c = get_or-set_other m (j + 3) (k + 3) (get_or m j 0) 0 (λ e. omega arith) ∙ v.mid k c b

-- m is l, with the entries from `from` up to `to` as they were three further on
pub record Sunk (l : List ℕ) (from to : ℕ) (m : List ℕ) : Type 0 where
  pub size : length m ≡ length l
  pub low : (k : ℕ) → k < from → get_or m k 0 ≡ get_or l k 0
  pub mid : (k : ℕ) → from ≤ k → k < to → get_or m k 0 ≡ get_or l (k + 3) 0
  pub high : (k : ℕ) → to ≤ k → get_or m k 0 ≡ get_or l k 0

pub sunk_none : {l : List ℕ} {from : ℕ} → Sunk l from from l
sunk_none = record { size = refl; low = λ k h. refl; mid = λ k h g. absurd (omega arith); high = λ k h. refl }

pub sunk_at : {l : List ℕ} {from to to' : ℕ} {m : List ℕ} → to ≡ to' → Sunk l from to m → Sunk l from to' m
sunk_at {l} {from} {to} {to'} {m} e v = subst (λ (x : ℕ). Sunk l from x m) e v

pub sunk_more : {l : List ℕ} {from j : ℕ} {m : List ℕ} → length l ≡ entries → j < 3069 → from ≤ j → Sunk l from j m → Sunk l from (j + 1) (set m j (get_or m (j + 3) 0))
sunk_more {l} {from} {j} {m} z g h v = record {
  size = length-set m j (get_or m (j + 3) 0) ∙ v.size;
  low = λ k b. get_or-set_other m j k (get_or m (j + 3) 0) 0 (λ e. omega arith) ∙ v.low k b;
  mid = λ k b c. ⊎_elim (λ e. new k e) (λ d. get_or-set_other m j k (get_or m (j + 3) 0) 0 d ∙ v.mid k b (omega (arith, d))) (eq_or k j);
  high = λ k b. get_or-set_other m j k (get_or m (j + 3) 0) 0 (λ e. omega arith) ∙ v.high k (omega arith);
}
  where
    new : (k : ℕ) → k ≡ j → get_or (set m j (get_or m (j + 3) 0)) k 0 ≡ get_or l (k + 3) 0
    new k e =
        subst (λ (a : ℕ). get_or (set m j (get_or m (j + 3) 0)) a 0 ≡ get_or l (a + 3) 0) (sym e)
        (get_or-set_same m j (get_or m (j + 3) 0) 0 (omega (arith, v.size)) ∙ v.high (j + 3) (omega arith))
