-- A command by the tables alone, as the rooms below the register do it: the verdict, what it answers, and what it leaves in the tables and in the list.
use Rattle.std.specs.Prelude.{◌≡◌, List, ℕ}
use Rattle.std.proofs.Common.{sym, ap}
use Rattle.rules.specs.Tables.{Base, Tables}
use Rattle.rules.specs.Commands.{Verdict, accepted, refused, table_refusals, freed_by, next_tables}
use Rattle.rules.specs.Calls.{Reply, refused_by, accepted_by, listing}
use Rattle.rules.specs.declared.Refusal.{Refusal}
use Rattle.rules.specs.declared.Command.{Command}
use Rattle.laws.specs.Passes.{Passed, Passes, table_verdict}
use Rattle.laws.specs.Rows.{Applies, first-at, first-none}

pub record TablesEffect : Type 0 where
  pub reply : Reply
  pub tables : Tables
  pub list : List ℕ

abbrev pub tables_effect : Reply → Tables → List ℕ → TablesEffect
tables_effect r t l = record { reply = r; tables = t; list = l }

-- a refused command leaves the tables and the list unchanged
unfoldable pub tables_effected : Tables → List ℕ → Command → Verdict → TablesEffect
tables_effected t l c accepted = tables_effect (accepted_by t c) (next_tables t c) (listing (freed_by t.base c) l)
tables_effected t l c (refused r) = tables_effect (refused_by r c) t l

-- the command's reply, and the tables and the list on return, are what the rules give by the tables alone; the seat is not looked at
pub record DidTables (c : Command) (t : Tables) (l : List ℕ) (after : TablesEffect) : Type 0 where
  pub exact : after ≡ tables_effected t l c (table_verdict t.base c)

-- ---- the verdict

-- a command that no row refuses is accepted, and one that a row is the first to refuse is refused by it
pub accepts : {b : Base} {c : Command} → Passes b c → table_verdict b c ≡ accepted
unfolding table_verdict
accepts {b} {c} p = first-none (table_refusals b c) p.rows

pub refuses : (i : ℕ) (b : Base) (c : Command) (r : Refusal) → Passed i (table_refusals b c) → Applies i (table_refusals b c) r → table_verdict b c ≡ refused r
unfolding table_verdict
refuses i b c r p a = first-at i (table_refusals b c) r p a

-- ---- what a command did

pub did_refused : (c : Command) (t : Tables) (l : List ℕ) (r : Refusal) → table_verdict t.base c ≡ refused r → DidTables c t l (tables_effect (refused_by r c) t l)
unfolding tables_effected
did_refused c t l r e = record { exact = ap (tables_effected t l c) (sym e) }

pub did_accepted : (c : Command) (t : Tables) (l : List ℕ) → table_verdict t.base c ≡ accepted
    → DidTables c t l (tables_effect (accepted_by t c) (next_tables t c) (listing (freed_by t.base c) l))
unfolding tables_effected
did_accepted c t l e = record { exact = ap (tables_effected t l c) (sym e) }
