-- The totals of the last line, and the last line of every store with these states and leaders.
use Rattle.std.specs.Prelude.{◌≡◌, List, ℕ, ◌+◌, ◌≤◌, eqb, get_or}
use Rattle.std.proofs.Math.Path.{refl}
use Rattle.std.proofs.Common.{sym, ap₂, ◌∙◌, subst, arith}
use Rattle.rules.specs.Tests.{◌&◌, only_if}
use Rattle.rules.specs.Below.{sum}
use Rattle.rules.specs.Tables.{Tables, Store, state, is_draft, is_frozen}
use Rattle.rules.specs.Trace.{end_line, how_many, leads}
use Rattle.laws.specs.Below.{sum-next}
use Rattle.obeying.specs.Obeyed.{Stands}
use Rattle.answers.specs.Wrote.{Wrote, closing_line}
use Rattle.answers.specs.Replies.{end_line_lem}

-- how many of the first k pieces are drafts, are frozen, lead a group
pub record Totalled (states leaders : List ℕ) (k drafts frozen groups : ℕ) : Type 0 where
  pub drafts_are : drafts ≡ sum (λ p. only_if (eqb (get_or states p 0) 1) 1) k
  pub frozen_are : frozen ≡ sum (λ p. only_if (eqb (get_or states p 0) 2) 1) k
  pub groups_are : groups ≡ sum (λ p. only_if (eqb (get_or states p 0) 2 & eqb (get_or leaders p 0) p) 1) k
  pub few : (drafts ≤ k) × (frozen ≤ k) × (groups ≤ k)

-- the last line is written: that of every store of capacity n with these states and leaders
pub record LastLine (n : ℕ) (states leaders out : List ℕ) (at : ℕ) (out' : List ℕ) (next : ℕ) : Type 0 where
  pub wrote : (s : Tables) → s.base.n ≡ n → s.base.states ≡ states → s.leaders ≡ leaders → Wrote out at (end_line s) out' next
  pub few : next ≤ at + 64

-- ---- laws

pub total-none : {states leaders : List ℕ} → Totalled states leaders 0 0 0 0
unfolding sum
total-none = record { drafts_are = refl; frozen_are = refl; groups_are = refl; few = (omega arith, omega arith, omega arith) }

-- one piece more
pub total-more : {states leaders : List ℕ} {k d f g x y z : ℕ} → Totalled states leaders k d f g
    → (x ≡ only_if (eqb (get_or states k 0) 1) 1) × (x ≤ 1) → (y ≡ only_if (eqb (get_or states k 0) 2) 1) × (y ≤ 1)
    → (z ≡ only_if (eqb (get_or states k 0) 2 & eqb (get_or leaders k 0) k) 1) × (z ≤ 1) → Totalled states leaders (k + 1) (d + x) (f + y) (g + z)
total-more {states} {leaders} {k} t a b c = record {
  drafts_are = ap₂ (λ (u v : ℕ). u + v) t.drafts_are a.0 ∙ sym (sum-next (λ p. only_if (eqb (get_or states p 0) 1) 1) k);
  frozen_are = ap₂ (λ (u v : ℕ). u + v) t.frozen_are b.0 ∙ sym (sum-next (λ p. only_if (eqb (get_or states p 0) 2) 1) k);
  groups_are = ap₂ (λ (u v : ℕ). u + v) t.groups_are c.0
      ∙ sym (sum-next (λ p. only_if (eqb (get_or states p 0) 2 & eqb (get_or leaders p 0) p) 1) k);
  few = (omega (arith, t.few.0, a.1), omega (arith, t.few.1, b.1), omega (arith, t.few.2, c.1));
}

-- the totals of a store are those of its last line
store_line : (s : Tables) {d f g : ℕ} → Totalled s.base.states s.leaders s.base.n d f g → closing_line d f g ≡ end_line s
store_line s t = ap₃ (t.drafts_are ∙ drafts) (t.frozen_are ∙ frozen) (t.groups_are ∙ groups) ∙ sym (end_line_lem s)
  where
    n : ℕ
    n = s.base.n

    drafts : sum (λ p. only_if (eqb (get_or s.base.states p 0) 1) 1) n ≡ how_many (is_draft s.base) n
    drafts = unfold how_many is_draft state in refl

    frozen : sum (λ p. only_if (eqb (get_or s.base.states p 0) 2) 1) n ≡ how_many (is_frozen s.base) n
    frozen = unfold how_many is_frozen state in refl

    groups : sum (λ p. only_if (eqb (get_or s.base.states p 0) 2 & eqb (get_or s.leaders p 0) p) 1) n ≡ how_many (leads s) n
    groups = unfold how_many leads is_frozen state in refl

    ap₃ : {a b c x y z : ℕ} → a ≡ x → b ≡ y → c ≡ z → closing_line a b c ≡ closing_line x y z
    ap₃ p q r = λ i. closing_line (p i) (q i) (r i)

pub closing : {n : ℕ} {states leaders out out' : List ℕ} {d f g at next : ℕ} → Totalled states leaders n d f g
    → Wrote out at (closing_line d f g) out' next → next ≤ at + 64 → LastLine n states leaders out at out' next
closing {out = out} {out'} {d} {f} {g} {at} {next} t wrote few = record {
  wrote = λ s n-is states_are leaders_are.
      subst (λ (bytes : List ℕ). Wrote out at bytes out' next)
      (store_line s (rw (n-is, states_are, leaders_are) t)) wrote;
  few = few;
}

-- of a store that stands, its own last line
pub last_line_lem : {n : ℕ} {s : Store} {l w out out' : List ℕ} {at next from : ℕ} → Stands n s l w from
    → LastLine s.tables.base.n s.tables.base.states s.tables.leaders out at out' next → Wrote out at (end_line s.tables) out' next
last_line_lem {s = s} stands f = f.wrote s.tables refl refl refl
