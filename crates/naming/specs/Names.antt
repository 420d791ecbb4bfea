-- A command whose rows for names stand first: wrong names refuse it, and right ones leave it to its own rows.
use Rattle.std.specs.Prelude.{◌≡◌, refl, Bool, List, ◌++◌, ℕ}
use Rattle.std.proofs.Math.Path.{ap}
use Rattle.std.proofs.Common.{◌∙◌}
use Rattle.rules.specs.Tables.{Base, Tables}
use Rattle.rules.specs.Commands.{Verdict, accepted, refused, first_of, table_refusals}
use Rattle.rules.specs.Calls.{refused_by}
use Rattle.rules.specs.declared.Refusal.{Refusal}
use Rattle.rules.specs.declared.Command.{Command}
use Rattle.laws.specs.Passes.{table_verdict}
use Rattle.laws.specs.Rows.{and_then, first_append}
use Rattle.laws.specs.ByTables.{DidTables, tables_effect, did_refused}

-- the rows of c are those for its names, then its own
pub record Names (b : Base) (c : Command) (names own : List (Bool × Refusal)) : Type 0 where
  pub rows : table_refusals b c ≡ names ++ own

module _ {b : Base} {c : Command} {names own : List (Bool × Refusal)} (m : Names b c names own) where
  -- the first that refuses is given
  names_then : table_verdict b c ≡ and_then (first_of names) (first_of own)
  unfolding table_verdict
  names_then = ap first_of m.rows ∙ first_append names own

  -- right names: its own rows decide
  pub names_passed : first_of names ≡ accepted → table_verdict b c ≡ first_of own
  names_passed e = names_then ∙ ap (λ (v : Verdict). and_then v (first_of own)) e ∙ (unfold and_then in refl)

  -- wrong names
  pub names_refused : {r : Refusal} → first_of names ≡ refused r → table_verdict b c ≡ refused r
  names_refused e = names_then ∙ ap (λ (v : Verdict). and_then v (first_of own)) e ∙ (unfold and_then in refl)

-- what a command whose names are wrong did
pub wrong_did : {s : Tables} {l : List ℕ} {c : Command} {names own : List (Bool × Refusal)} {q : Refusal} → Names s.base c names own → first_of names ≡ refused q
    → DidTables c s l (tables_effect (refused_by q c) s l)
wrong_did {s} {l} {c} {q = q} m e = did_refused c s l q (names_refused m e)
