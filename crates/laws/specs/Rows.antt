-- Rows of refusals: the refusal of the first row that applies is given, and none otherwise; rows one behind the other.
use Rattle.std.specs.Prelude.{◌≡◌, Bool, true, not, List, [], ◌∷◌, ◌++◌, ℕ, zero, suc, T, length}
use Rattle.std.proofs.Math.Path.{refl}
use Rattle.std.proofs.Common.{ap, ◌∙◌, arith}
use Rattle.std.proofs.Math.Bool.{false}
use Rattle.rules.specs.Tests.{pick}
use Rattle.rules.specs.Commands.{Verdict, accepted, refused, first_of}
use Rattle.rules.specs.declared.Refusal.{Refusal}
use Rattle.laws.specs.Passes.{Passed}

-- row i is for r, and applies
abbrev pub Applies : ℕ → List (Bool × Refusal) → Refusal → Type 0
Applies i [] r = ⊥
Applies zero (row ∷ rows) r = T row.0 × (row.1 ≡ r)
Applies (suc i) (row ∷ rows) r = Applies i rows r

miss : (t : Bool) (r : Refusal) (rows : List (Bool × Refusal)) (v : Verdict) → T (not t) → first_of rows ≡ v → first_of ((t, r) ∷ rows) ≡ v
unfolding first_of
miss true r rows v h e = absurd h
miss false r rows v h e = e

-- the first that applies is given
pub first-at : (i : ℕ) (rows : List (Bool × Refusal)) (r : Refusal) → Passed i rows → Applies i rows r → first_of rows ≡ refused r
first-at i [] r c a = absurd a
first-at zero (row ∷ rows) r c a = hit row.0 a.0 ∙ ap refused a.1
  where
    hit : (t : Bool) → T t → first_of ((t, row.1) ∷ rows) ≡ refused row.1
    hit true h = unfold first_of in refl
    hit false h = absurd h
first-at (suc i) (row ∷ rows) r c a = miss row.0 row.1 rows (refused r) c.0 (first-at i rows r c.1 a)

-- and none is given otherwise
pub first-none : (rows : List (Bool × Refusal)) → Passed (length rows) rows → first_of rows ≡ accepted
first-none [] c = unfold first_of in refl
first-none (row ∷ rows) c = miss row.0 row.1 rows accepted c.0 (first-none rows c.1)

-- ---- rows behind other rows

-- are reached where the first ones accept
unfoldable pub and_then : Verdict → Verdict → Verdict
and_then accepted v = v
and_then (refused r) v = refused r

pub first_append : (rows later : List (Bool × Refusal)) → first_of (rows ++ later) ≡ and_then (first_of rows) (first_of later)
unfolding first_of and_then
first_append [] later = refl
first_append (row ∷ rows) later = go row.0 (first_append rows later)
  where
    go : (b : Bool) → first_of (rows ++ later) ≡ and_then (first_of rows) (first_of later)
        → pick b (refused row.1) (first_of (rows ++ later)) ≡ and_then (pick b (refused row.1) (first_of rows)) (first_of later)
    go true e = refl
    go false e = e

-- nothing comes behind
pub then_accepted : (v : Verdict) → and_then v accepted ≡ v
unfolding and_then
then_accepted accepted = refl
then_accepted (refused r) = refl

-- all accept
pub both_accepted : (v w : Verdict) → and_then v w ≡ accepted → (v ≡ accepted) × (w ≡ accepted)
unfolding and_then
both_accepted accepted w e = (refl, e)
both_accepted (refused r) w e = absurd (let z : ◌≡◌ {A = ℕ} 0 1 = cc e in omega arith)
