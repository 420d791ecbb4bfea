-- What answering a line does to a store and to the output.
use Rattle.std.specs.Prelude.{◌≡◌, refl, List, ℕ, ◌+◌, ◌≤◌, Some, None}
use Rattle.std.proofs.Common.{sym, subst, arith}
use Rattle.rules.specs.Tables.{Store}
use Rattle.rules.specs.Calls.{Reply, Effect}
use Rattle.rules.specs.Trace.{answer_to, store_after, bad_line}
use Rattle.rules.specs.declared.Command.{Command}
use Rattle.answers.specs.Wrote.{longest, Wrote}
use Rattle.answers.specs.Replies.{reply_line, reply_line_lem}
use Rattle.obeying.specs.Obeyed.{Obeys}
use Rattle.obeying.specs.Arms.{store_after_lem}
use Rattle.rules.specs.Replies.{Line}
pub use Rattle.obeying.specs.Obeyed.{Stands}

-- the store and the output after a line, and that the store stands again
pub record Answered (n : ℕ) (s : Store) (line : Line) (out : List ℕ) (at : ℕ) (s' : Store) (l' w' out' : List ℕ) (next from : ℕ) : Type 0 where
  pub store : s' ≡ store_after s line
  pub stands : Stands n s' l' w' from
  pub wrote : Wrote out at (answer_to s line) out' next
  pub few : next ≤ at + longest

-- ---- laws

-- a line that says a command
pub does_answered : {c : Command} {s s' : Store} {l l' w w' out out' : List ℕ} {a : Reply} {at next from : ℕ}
    → Obeys c s l w a s' l' w' from → Wrote out at (reply_line a l') out' next → next ≤ at + longest
    → Answered s.tables.base.n s (Some c) out at s' l' w' out' next from
unfolding store_after
does_answered {c} {s} {l = l} {l'} {out = out} {out'} {a} {at} {next} o wrote few = record {
  store = store_after_lem o.did;
  stands = o.stands;
  wrote = subst (λ (bytes : List ℕ). Wrote out at bytes out' next) line_is wrote;
  few = few;
}
  where
    line_is : reply_line a l' ≡ answer_to s (Some c)
    line_is = subst (λ (e : Effect). reply_line e.reply e.list ≡ answer_to s (Some c)) (sym o.did.exact) (reply_line_lem s l c)

-- a bad line changes nothing
pub bad_answered : {n : ℕ} {s : Store} {l w out out' : List ℕ} {at next from : ℕ}
    → Stands n s l w from → Wrote out at bad_line out' next → Answered n s None out at s l w out' next from
unfolding store_after answer_to
bad_answered stands wrote = record { store = refl; stands = stands; wrote = wrote; few = let place = wrote.place in omega arith }

-- of a capacity that is equal
pub answered_as : {n m : ℕ} {s s' : Store} {line : Line} {l' w' out out' : List ℕ} {at next from : ℕ}
    → n ≡ m → Answered n s line out at s' l' w' out' next from → Answered m s line out at s' l' w' out' next from
answered_as {s = s} {s'} {line} {l'} {w'} {out} {out'} {at} {next} {from} e a = subst (λ (k : ℕ). Answered k s line out at s' l' w' out' next from) e a
