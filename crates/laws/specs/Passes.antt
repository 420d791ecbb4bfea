-- An accepted command passes each row of its refusals by the tables, and what the rows say of the piece that it names.
use Rattle.std.specs.Prelude.{◌≡◌, ◌⊎◌, Bool, true, false, not, List, [], ◌∷◌, ℕ, zero, suc, ◌<◌, T, eqb, length}
use Rattle.std.proofs.Common.{inl, inr, arith, T_not}
use Rattle.std.proofs.Math.Dec.{not_T}
use Rattle.rules.specs.Tests.{◌or◌, pick}
use Rattle.rules.specs.Below.{every, any}
use Rattle.laws.specs.Below.{T_dec, →every, some→, →some}
use Rattle.rules.specs.Tables.{Base, state, is_free, is_draft, is_frozen}
use Rattle.rules.specs.Words.{Live, FreeWell, DraftWell, FrozenWell, Well, wfree, wdraft, wfrozen}
use Rattle.laws.specs.Words.{eqb_of, →is_draft, →is_frozen}
use Rattle.rules.specs.Commands.{Verdict, accepted, first_of, table_refusals}
use Rattle.rules.specs.Calls.{number_of}
use Rattle.rules.specs.declared.Refusal.{Refusal}
use Rattle.rules.specs.declared.Command.{Command}

-- ---- rows of refusals

-- whether the row for r applies
unfoldable pub applies : Refusal → List (Bool × Refusal) → Bool
applies r [] = false
applies r (row ∷ rows) = pick (eqb (number_of r) (number_of row.1)) row.0 (applies r rows)

-- none of the first i rows applies
abbrev pub Passed : ℕ → List (Bool × Refusal) → Type 0
Passed zero rows = Unit {0}
Passed (suc i) [] = Unit {0}
Passed (suc i) (row ∷ rows) = T (not row.0) × Passed i rows

pub first_accepted : (t : Bool) (r : Refusal) (rs : List (Bool × Refusal)) → first_of ((t, r) ∷ rs) ≡ accepted → T (not t) × (first_of rs ≡ accepted)
unfolding first_of
first_accepted true r rs e = absurd (let z : ◌≡◌ {A = ℕ} 0 1 = cc e in omega arith)
first_accepted false r rs e = (tt, e)

-- where none is given, none applies
pub passed_all : (rows : List (Bool × Refusal)) → first_of rows ≡ accepted → Passed (length rows) rows
passed_all [] e = tt
passed_all (row ∷ rows) e = let x = first_accepted row.0 row.1 rows e in (x.0, passed_all rows x.1)

none-applies : (rows : List (Bool × Refusal)) → Passed (length rows) rows → (r : Refusal) → T (not (applies r rows))
unfolding applies
none-applies [] p r = tt
none-applies (row ∷ rows) p r = go (eqb (number_of r) (number_of row.1)) row.0 (applies r rows) p.0 (none-applies rows p.1 r)
  where
    go : (b x y : Bool) → T (not x) → T (not y) → T (not (pick b x y))
    go true x y h k = h
    go false x y h k = k

-- ---- an accepted command

-- no refusal by the tables applies to the command
pub record Passes (b : Base) (c : Command) : Type 0 where
  pub rows : Passed (length (table_refusals b c)) (table_refusals b c)

pub not_by : {b : Base} {c : Command} → Passes b c → (r : Refusal) → T (not (applies r (table_refusals b c)))
not_by {b} {c} p r = none-applies (table_refusals b c) p.rows r

-- the verdict by the tables alone
unfoldable pub table_verdict : Base → Command → Verdict
table_verdict b c = first_of (table_refusals b c)

pub passes : (b : Base) (c : Command) → table_verdict b c ≡ accepted → Passes b c
unfolding table_verdict
passes b c e = record { rows = passed_all (table_refusals b c) e }

-- ---- small helpers on tests

pub not_or_left : (x y : Bool) → T (not (x or y)) → T (not x)
not_or_left true y t = t
not_or_left false y t = tt

pub not_or_right : (x y : Bool) → T (not (x or y)) → T (not y)
not_or_right true y t = absurd t
not_or_right false y t = t

pub not-not : (x : Bool) → T (not (not x)) → T x
not-not true u = tt
not-not false u = u

pub some_not : (f : ℕ → Bool) (k : ℕ) → T (not (every (λ p. not (f p)) k)) → (p : ℕ) × (p < k) × T (f p)
some_not f k t = go (T_dec (any f k))
  where
    go : T (any f k) ⊎ T (not (any f k)) → (p : ℕ) × (p < k) × T (f p)
    go (inl u) = some→ f k u
    go (inr u) = absurd (T_not (every (λ p. not (f p)) k) t (→every (λ p. not (f p)) k (λ p h. not_T (f p) (λ v. T_not (any f k) u (→some f k p h v)))))

abbrev pub Wells : Base → Type 0
Wells b = (p : ℕ) → p < b.n → Well b p

pub free_of : (b : Base) (p : ℕ) → Well b p → state b p ≡ 0 → FreeWell b p
free_of b p (wfree w) e = w
free_of b p (wdraft w) e = absurd (let a = w.is in omega arith)
free_of b p (wfrozen w) e = absurd (let a = w.is in omega arith)

pub draft_of : (b : Base) (p : ℕ) → Well b p → state b p ≡ 1 → DraftWell b p
draft_of b p (wfree w) e = absurd (let a = w.is in omega arith)
draft_of b p (wdraft w) e = w
draft_of b p (wfrozen w) e = absurd (let a = w.is in omega arith)

pub frozen_of : (b : Base) (p : ℕ) → Well b p → state b p ≡ 2 → FrozenWell b p
frozen_of b p (wfree w) e = absurd (let a = w.is in omega arith)
frozen_of b p (wdraft w) e = absurd (let a = w.is in omega arith)
frozen_of b p (wfrozen w) e = w

-- a piece that is neither free nor frozen is a draft, and one that is neither free nor a draft is frozen
pub live_draft : (b : Base) (p : ℕ) → Well b p → T (not (is_free b p)) → T (not (is_frozen b p)) → state b p ≡ 1
unfolding is_free
live_draft b p (wfree w) f g = absurd (T_not (eqb (state b p) 0) f (eqb_of w.is))
live_draft b p (wdraft w) f g = w.is
live_draft b p (wfrozen w) f g = absurd (T_not (is_frozen b p) g (→is_frozen b p w.is))

pub live_frozen : (b : Base) (p : ℕ) → Well b p → T (not (is_free b p)) → T (not (is_draft b p)) → state b p ≡ 2
unfolding is_free
live_frozen b p (wfree w) f g = absurd (T_not (eqb (state b p) 0) f (eqb_of w.is))
live_frozen b p (wdraft w) f g = absurd (T_not (is_draft b p) g (→is_draft b p w.is))
live_frozen b p (wfrozen w) f g = w.is

pub live : (b : Base) (p : ℕ) → p < b.n → Well b p → T (not (is_free b p)) → Live b p
unfolding is_free
live b p h (wfree w) f = absurd (T_not (eqb (state b p) 0) f (eqb_of w.is))
live b p h (wdraft w) f = inl (record { below = h; is = w.is })
live b p h (wfrozen w) f = inr (record { below = h; is = w.is })
