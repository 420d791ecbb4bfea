-- The commands that ask for a piece's state: their rows behind those for names.
use Rattle.std.specs.Prelude.{◌≡◌, Bool, List, [], ◌∷◌, ℕ, eqb, length}
use Rattle.std.proofs.Math.Path.{refl}
use Rattle.std.proofs.Common.{◌∙◌}
use Rattle.rules.specs.Lists.{◌!◌}
use Rattle.rules.specs.Tables.{Base, Tables, state, is_free, is_draft, is_frozen}
use Rattle.rules.specs.Commands.{accepted, first_of, table_refusals, at_limit, not_held, is_linked}
use Rattle.rules.specs.Calls.{refused_by}
use Rattle.rules.specs.declared.Refusal.{Refusal}
use Rattle.rules.specs.declared.Refusal.TheVariants.{State, Limit, NotHeld, Linked}
use Rattle.rules.specs.declared.Command.{Command}
use Rattle.rules.specs.declared.Command.TheVariants.{Set, Acquire, Release, Bin}
use Rattle.laws.specs.Words.{eqb_of, neqb_of}
use Rattle.laws.specs.Passes.{Passed, Passes, passes}
use Rattle.laws.specs.Rows.{Applies, first-at, first-none}
use Rattle.laws.specs.ByTables.{DidTables, tables_effect, did_refused}
use Rattle.naming.specs.Rows.{beyond, piece_rows, link_rows}
use Rattle.naming.specs.Names.{Names, names_passed}

-- the row for p's state, which is not to be k, and then its own
abbrev pub state_rows : Base → ℕ → ℕ → List (Bool × Refusal) → List (Bool × Refusal)
state_rows b p k own = (eqb (state b p) k, State) ∷ own

-- c is not for a piece p whose state is k: these rows stand behind those for names
pub record NotFor (b : Base) (c : Command) (names : List (Bool × Refusal)) (p k : ℕ) (own : List (Bool × Refusal)) : Type 0 where
  pub first : Names b c names (state_rows b p k own)

module _ {b : Base} {p : ℕ} where
  pub set-names : {k t : ℕ} → NotFor b (Set p k t) (link_rows b.n b.states p k t) p 2 []
  unfolding table_refusals is_free is_frozen state link_rows beyond
  set-names = record { first = record { rows = refl } }

  pub acquire_names : {i : ℕ} → NotFor b (Acquire p i) (piece_rows b.n b.states p) p 1 ((at_limit b p, Limit) ∷ [])
  unfolding table_refusals is_free is_draft state piece_rows
  acquire_names = record { first = record { rows = refl } }

  pub release_names : {i : ℕ} → NotFor b (Release p i) (piece_rows b.n b.states p) p 1 ((not_held b p, NotHeld) ∷ [])
  unfolding table_refusals is_free is_draft state piece_rows
  release_names = record { first = record { rows = refl } }

  pub bin_names : NotFor b (Bin p) (piece_rows b.n b.states p) p 2 ((is_linked b p, Linked) ∷ [])
  unfolding table_refusals is_free is_frozen state piece_rows
  bin_names = record { first = record { rows = refl } }

-- ---- right names, and another state: its own rows are left

pub names_pass : {b : Base} {c : Command} {names own : List (Bool × Refusal)} {p k : ℕ} → NotFor b c names p k own → first_of names ≡ accepted
    → (b.states ! p ≡ k → ⊥) → Passed (length own) own → Passes b c
unfolding state
names_pass {b} {c} {names} {own} {p} {k} m right other rest =
    passes b c (names_passed m.first right ∙ first-none (state_rows b p k own) (neqb_of {m = b.states ! p} {n = k} other, rest))

-- ---- the refusals behind right names

module _ {s : Tables} {c : Command} {l : List ℕ} {names own : List (Bool × Refusal)} {p k : ℕ} (m : NotFor s.base c names p k own)
    (right : first_of names ≡ accepted) where
  pub state_refused : s.base.states ! p ≡ k → DidTables c s l (tables_effect (refused_by State c) s l)
  unfolding state
  state_refused e = did_refused c s l State (names_passed m.first right ∙ first-at 0 (state_rows s.base p k own) State tt (eqb_of {m = s.base.states ! p} {n = k} e, refl))

  -- by the first of its own rows
  pub own_refused : (r : Refusal) → (s.base.states ! p ≡ k → ⊥) → Applies 0 own r → DidTables c s l (tables_effect (refused_by r c) s l)
  unfolding state
  own_refused r other t = did_refused c s l r (names_passed m.first right ∙ first-at 1 (state_rows s.base p k own) r (neqb_of {m = s.base.states ! p} {n = k} other, tt) t)
