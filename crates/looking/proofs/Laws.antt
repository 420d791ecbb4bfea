-- Look on sound tables: its rows, and what it answers.
use Rattle.std.specs.Prelude.{[], ℕ}
use Rattle.std.proofs.Math.Path.{◌≡◌, refl, ◌∙◌}
use Rattle.std.proofs.Math.ListN.{get_or}
use Rattle.rules.specs.Tables.{Base, Tables, state, is_free, holds_of}
use Rattle.rules.specs.Commands.{table_refusals, edit, settles, freed_by, after, next_tables}
use Rattle.rules.specs.Calls.{Ready, saw, seen_at, accepted_by, listing}
use Rattle.rules.specs.declared.Command.TheVariants.{Look}
use Rattle.laws.specs.Sound.{determined}
use Rattle.laws.specs.Rows.{first-none}
use Rattle.laws.specs.ByTables.{DidTables, tables_effect, did_accepted}
use Rattle.naming.specs.Rows.{piece_rows}
use Rattle.naming.specs.Told.{NamedPiece}
use Rattle.naming.specs.Names.{Names, names_passed}
use Rattle.rules.specs.Replies.{piece_seen}

-- look has no rows but those for its name
pub look_names : {b : Base} {p : ℕ} → Names b (Look p) (piece_rows b.n b.states p) []
unfolding table_refusals is_free state piece_rows
look_names = record { rows = refl }

-- the state, the leader, its count and the holds
pub look_did : {s : Tables} {p c : ℕ} → Ready s → NamedPiece s.base.n s.base.states p → c ≡ get_or s.counts (get_or s.leaders p 0) 0
    → DidTables (Look p) s [] (tables_effect (saw (piece_seen (get_or s.base.states p 0) (get_or s.leaders p 0) c (get_or s.base.holds p 0))) s [])
unfolding accepted_by seen_at state holds_of next_tables after settles edit listing freed_by
look_did {s} {p} {c} ready named e = record {
  exact =
      (λ i. record {
        reply = saw (piece_seen (get_or s.base.states p 0) (get_or s.leaders p 0) (e i) (get_or s.base.holds p 0));
        tables = determined s ready.sized ready.sound i;
        list = [];
      })
      ∙ (did_accepted (Look p) s [] (names_passed look_names named.right ∙ first-none [] tt)).exact;
}
