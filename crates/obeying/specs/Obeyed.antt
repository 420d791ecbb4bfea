-- What obeying a command means: what stands before it and again after it, and the number below which nothing is then free.
use Rattle.std.specs.Prelude.{List, ℕ, ◌+◌, ◌*◌, ◌≤◌, ◌<◌, T, length, get_or, Ok, Err}
use Rattle.rules.specs.Tables.{Store}
use Rattle.rules.specs.Calls.{Reply, answered, saw, effect, ReadyStore, Did}
use Rattle.rules.specs.History.{is_accepted, freed_in}
use Rattle.rules.specs.declared.Command.{Command}
use Rattle.areas.specs.Lowest.{NoneFree}
use Rattle.obeying.specs.declared.Reply as code
use Rattle.obeying.specs.declared.Reply.TheVariants.{Answered, Saw}
use Rattle.rules.specs.Replies.{Answer}

abbrev pub reply_of : code.Reply → Reply
reply_of (Answered a) = answered a
reply_of (Saw s) = saw s

-- a sound store of capacity n, room for the list and for the work, and a number below which nothing is free
pub record Stands (n : ℕ) (s : Store) (l w : List ℕ) (from : ℕ) : Type 0 where
  pub ready : ReadyStore s
  pub room : n ≤ length l
  pub wide : 8 * n ≤ length w
  pub small : from ≤ n
  pub none : NoneFree s.tables.base.states from

-- the reply, the store and the list are what the rules give, and the store stands again
pub record Obeys (c : Command) (s : Store) (l w : List ℕ) (r : Reply) (s' : Store) (l' w' : List ℕ) (from : ℕ) : Type 0 where
  pub did : Did c s l (effect r s' l')
  pub stands : Stands s.tables.base.n s' l' w' from

-- above the number that new gave out; `from` where it was refused
abbrev pub above_of : Answer → ℕ → ℕ
above_of (Ok d) from = d.value + 1
above_of (Err r) from = from

-- r is at most `from` and the first of the numbers freed
pub record Lower (a : Answer) (list : List ℕ) (from r : ℕ) : Type 0 where
  pub most : r ≤ from
  pub first : 0 < freed_in (answered a) → r ≤ get_or list 0 0

-- and at most p, where bin of p is accepted
pub record LowerBin (p : ℕ) (a : Answer) (list : List ℕ) (from r : ℕ) : Type 0 where
  pub lower : Lower a list from r
  pub binned : T (is_accepted (answered a)) → r ≤ p
