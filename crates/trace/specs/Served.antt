-- The lines of a text are answered and written, as much at a time as out holds.
use Rattle.std.proofs.Common.{subst, arith, drop_of_length-le}
use Rattle.std.specs.Prelude.{Result, Ok, Err, List, [], ◌++◌, ℕ, ◌-◌, ◌≤◌, ◌<◌, length, take, drop}
use Rattle.rules.specs.Tables.{Store}
use Rattle.rules.specs.Calls.{ReadyStore}
use Rattle.chunks.specs.Says.{Says, says_none, says-more}
use Rattle.answers.specs.Wrote.{longest}
use Rattle.obeying.specs.Standing.{Standing}
use Rattle.reader.specs.Answered.{Stands}
use Rattle.reader.specs.Fed.{Feeding, Stopped, fed_on}
use Rattle.trace.specs.declared.Failure.{Failure}

-- the first `at` bytes of a text are answered by what was written
pub record Serving (s : Store) (text : List ℕ) (s' : Store) (at : ℕ) : Type 0 where
  pub inside : at ≤ length text
  pub said : List ℕ
  pub says : Says s text said s' (drop at text)

-- a text is answered by what was written
pub record Answers (s : Store) (text : List ℕ) (s' : Store) : Type 0 where
  pub said : List ℕ
  pub says : Says s text said s' []

-- where all was written, the store stands and is what the rules give for the text; else it is sound all the same
abbrev pub Serves : Store → List ℕ → Standing → Result (Unit {0}) Failure → Type 0
Serves s text a (Ok _) = Stands a.store.tables.base.n a.store a.list a.work a.from × Answers s text a.store
Serves s text a (Err _) = ReadyStore a.store

pub record Served (s : Store) (text : List ℕ) (a : Standing) (r : Result (Unit {0}) Failure) : Type 0 where
  pub is : Serves s text a r

-- ---- laws

pub serving_none : {s : Store} {text : List ℕ} → Serving s text s 0
serving_none = record { inside = omega arith; said = []; says = says_none }

module _ {s : Store} {text : List ℕ} {s₁ : Store} {at : ℕ} (v : Serving s text s₁ at) where
  module _ {n : ℕ} {s' : Store} {l' w' out : List ℕ} {next written from' : ℕ} (f : Feeding n s₁ text at s' l' w' out next written from') where
    -- some of what is left is taken
    pub serving_less : at < length text → longest ≤ length out → Stopped text out next written → length text - next < length text - at
    serving_less less room stop = omega (arith, f.inside, fed_on f less room stop)

    -- and answered
    pub serving_more : Serving s text s' next
    serving_more = record { inside = f.inside; said = v.said ++ take written out; says = says-more v.says (record { exact = f.exact }) }

    -- not all was written
    pub serving_stop : {x : Failure} → Served s text (record { store = s'; list = l'; work = w'; from = from' }) (Err x)
    serving_stop = record { is = f.stands.ready }

  -- all of it is taken
  pub serving_all : {l w : List ℕ} {from : ℕ} → length text ≤ at → Stands s₁.tables.base.n s₁ l w from
      → Served s text (record { store = s₁; list = l; work = w; from = from }) (Ok (tt {0}))
  serving_all h stands = record {
    is = (stands, record { said = v.said; says = subst (Says s text v.said s₁) (drop_of_length-le text {i = at} h) v.says });
  }
