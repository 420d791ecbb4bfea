-- Counting up: what the tables are, what is counted, and what is added on the way.
use Rattle.std.specs.Prelude.{◌≡◌, refl, List, ℕ, ◌+◌, ◌-◌, ◌≤◌, ◌<◌, length, set, drop}
use Rattle.std.proofs.Common.{sym, ap, ◌∙◌, ⊎_elim, arith, length-set, drop-set-lt, drop-drop, get_or-drop}
use Rattle.rules.specs.Lists.{◌!◌}
use Rattle.rules.specs.Limits.{none}
use Rattle.laws.specs.Numbers.{set_cases}
use Rattle.tallies.specs.Sums.{get_or_any}
use Rattle.tallies.specs.Tally.{label, CountsMatch}

-- each piece has a label, and each label a count
pub record Labelled (n : ℕ) (leaders counts : List ℕ) : Type 0 where
  pub small : n ≤ 1024
  pub leaders_n : length leaders ≡ n
  pub counts_n : n ≤ length counts

-- the label of a piece is its entry
pub label_at : {n : ℕ} {leaders counts : List ℕ} → Labelled n leaders counts → (q : ℕ) → q < n → label leaders q ≡ leaders ! q
label_at {leaders = leaders} z q h = get_or_any leaders q none 0 (omega (arith, z.leaders_n))

-- the counts of all labels; later entries are as they were
pub record Tallied (n : ℕ) (links holds leaders counts₀ counts : List ℕ) : Type 0 where
  pub size : length counts ≡ length counts₀
  pub matches : CountsMatch n links holds leaders counts
  pub later : drop n counts ≡ drop n counts₀

-- the entries from n on are as they were
pub record LaterSame (n : ℕ) (c c' : List ℕ) : Type 0 where
  pub size : length c' ≡ length c
  pub later : drop n c' ≡ drop n c

pub later_none : {n : ℕ} {c : List ℕ} → LaterSame n c c
later_none = record { size = refl; later = refl }

pub later_then : {n : ℕ} {a b c : List ℕ} → LaterSame n a b → LaterSame n b c → LaterSame n a c
later_then x y = record { size = y.size ∙ x.size; later = y.later ∙ x.later }

-- so are those from any later entry on
pub later_on : {n : ℕ} (m : ℕ) {c c' : List ℕ} → n ≤ m → LaterSame n c c' → LaterSame m c c'
later_on {n} m {c} {c'} h x = record { size = x.size; later = behind c' ∙ ap (drop (m - n)) x.later ∙ sym (behind c) }
  where
    behind : (l : List ℕ) → drop m l ≡ drop (m - n) (drop n l)
    behind l = let e : m ≡ n + (m - n) = omega arith in ap (λ (k : ℕ). drop k l) e ∙ sym (drop-drop (m - n) n l)

-- an entry behind them is the same
pub later_at : {n : ℕ} {c c' : List ℕ} → LaterSame n c c' → (i : ℕ) → c' ! (n + i) ≡ c ! (n + i)
later_at {n} {c} {c'} x i = sym (get_or-drop n c' i 0) ∙ ap (λ (l : List ℕ). l ! i) x.later ∙ get_or-drop n c i 0

-- each count below n has f of its label more
pub record Added (n : ℕ) (f : ℕ → ℕ) (c c' : List ℕ) : Type 0 where
  pub size : length c' ≡ length c
  pub sums : (l : ℕ) → l < n → c' ! l ≡ c ! l + f l
  pub later : drop n c' ≡ drop n c

pub added_none : {n : ℕ} {f : ℕ → ℕ} {c : List ℕ} → ((l : ℕ) → l < n → f l ≡ 0) → Added n f c c
added_none h = record { size = refl; sums = λ l u. omega (arith, h l u); later = refl }

pub added-one : {n : ℕ} {f : ℕ → ℕ} {c : List ℕ} (l m : ℕ) → l < n → n ≤ length c → f l ≡ m → ((j : ℕ) → j < n → (j ≡ l → ⊥) → f j ≡ 0)
    → Added n f c (set c l (c ! l + m))
added-one {n} {f} {c} l m h z e g = record {
  size = length-set c l (c ! l + m);
  sums = λ j u.
      ⊎_elim
      (λ w. omega (arith, w.1, ap (λ (y : ℕ). c ! y) w.0, ap f w.0))
      (λ w. omega (arith, w.1, g j u w.0))
      (set_cases c l (c ! l + m) j 0 (omega arith));
  later = drop-set-lt n c l (c ! l + m) h;
}

pub added_then : {n : ℕ} {f g : ℕ → ℕ} {a b c : List ℕ} → Added n f a b → Added n g b c → Added n (λ l. f l + g l) a c
added_then x y = record { size = y.size ∙ x.size; sums = λ l h. omega (arith, x.sums l h, y.sums l h); later = y.later ∙ x.later }

pub added_same : {n : ℕ} {f g : ℕ → ℕ} {a b : List ℕ} → ((l : ℕ) → l < n → f l ≡ g l) → Added n f a b → Added n g a b
added_same e x = record { size = x.size; sums = λ l h. omega (arith, x.sums l h, e l h); later = x.later }

pub added_later : {n : ℕ} {f : ℕ → ℕ} {a b : List ℕ} → Added n f a b → LaterSame n a b
added_later x = record { size = x.size; later = x.later }

-- the counts keep their labels
pub still : {n : ℕ} {f : ℕ → ℕ} {leaders c c' : List ℕ} → Labelled n leaders c → Added n f c c' → Labelled n leaders c'
still z a = record { small = z.small; leaders_n = z.leaders_n; counts_n = omega (arith, z.counts_n, a.size) }
