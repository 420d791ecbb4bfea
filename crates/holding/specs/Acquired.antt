-- Acquire, over the areas that it touches: what it asks, and what it did in every sound store that has these areas.
use Rattle.std.specs.Prelude.{◌≡◌, refl, Bool, true, false, not, List, [], ℕ, ◌+◌, ◌≤◌, ◌<◌, T, eqb, length, set, Err}
use Rattle.std.proofs.Common.{◌∙◌, subst, ⊎_elim, arith}
use Rattle.rules.specs.Tests.{◌&◌}
use Rattle.rules.specs.Lists.{◌!◌}
use Rattle.rules.specs.Register.{Right, held_by, is_full, one_more_by}
use Rattle.rules.specs.Tables.{Store, tables_of, store_by}
use Rattle.rules.specs.Commands.{no_line, with_holds}
use Rattle.rules.specs.Calls.{answered, effect, fresh, ReadyStore, Did}
use Rattle.rules.specs.declared.Refusal.TheVariants.{Limit, Register}
use Rattle.rules.specs.declared.Command.TheVariants.{Acquire}
use Rattle.laws.specs.Numbers.{lt_or}
use Rattle.laws.specs.Calls.{ready_tables}
use Rattle.laws.specs.Seated.{acquire_adds, acquire_itself, any_acquire, refused_tables, refused_line, done_more}
use Rattle.naming.specs.Told.{NamedPiece}
use Rattle.register.specs.Room.{Room}
use Rattle.register.specs.Kept.{right_ranged}
use Rattle.editing.specs.Holds.{leader_in, acquire_limit, acquire_accepted, acquired}
use Rattle.rules.specs.Replies.{Answer}

-- the areas have their lengths, a frozen piece's leader has a count with room for one more, and the register is right
pub record Acquiring (n : ℕ) (states leaders holds counts register : List ℕ) : Type 0 where
  pub small : n ≤ 1024
  pub states_n : length states ≡ n
  pub leaders_n : length leaders ≡ n
  pub holds_n : length holds ≡ n
  pub counts_n : length counts ≡ n
  pub led : (p : ℕ) → NamedPiece n states p → (states ! p ≡ 1 → ⊥) → (leaders ! p < n) × (counts ! (leaders ! p) < 1028097)
  pub right : Right n register

-- a sound store's areas do
pub acquiring_of : {s : Store} → ReadyStore s
    → Acquiring s.tables.base.n s.tables.base.states s.tables.leaders s.tables.base.holds s.tables.counts s.register
acquiring_of o = record {
  small = o.sized.tables.base.most;
  states_n = o.sized.tables.base.states;
  leaders_n = o.sized.tables.leaders;
  holds_n = o.sized.tables.base.holds;
  counts_n = o.sized.tables.counts;
  led = λ p named other. let r = leader_in (ready_tables o) named other in (r.1, r.3);
  right = o.sound.register;
}

-- a line's number is small
pub few_held : {n : ℕ} {l : List ℕ} → Right n l → (i p : ℕ) → held_by l i p < 65535
few_held {n} {l} r i p = ⊎_elim (λ h. omega (arith, (right_ranged n l r i p h).2)) (λ h. omega arith) (lt_or 0 (held_by l i p))

-- p's hold, and its leader's count, can be one more
pub record OneMore (n : ℕ) (leaders holds counts : List ℕ) (p : ℕ) : Type 0 where
  pub small : n ≤ 1024
  pub below : p < n
  pub leaders_n : length leaders ≡ n
  pub holds_n : length holds ≡ n
  pub counts_n : length counts ≡ n
  pub few : holds ! p < 1000
  pub led : leaders ! p < n
  pub fits : counts ! (leaders ! p) < 1028097

pub one_more_lem : {n p : ℕ} {states leaders holds counts register : List ℕ} → Acquiring n states leaders holds counts register → NamedPiece n states p → (states ! p ≡ 1 → ⊥)
    → holds ! p < 1000 → OneMore n leaders holds counts p
one_more_lem {n} {p} given named other few =
    let led = given.led p named other in
    record {
      small = given.small;
      below = named.below;
      leaders_n = given.leaders_n;
      holds_n = given.holds_n;
      counts_n = given.counts_n;
      few = few;
      led = led.0;
      fits = led.1;
    }

-- the answer r and the areas left are what acquire gives, whatever the links are
pub record Acquired (n : ℕ) (states leaders holds counts register : List ℕ) (p seat : ℕ) (r : Answer) (holds' counts' register' : List ℕ) : Type 0 where
  pub did : {links : List ℕ} → ReadyStore (store_by (tables_of n states links leaders holds counts) register)
      → Did (Acquire p seat) (store_by (tables_of n states links leaders holds counts) register) []
      (effect (answered r) (store_by (tables_of n states links leaders holds' counts') register') [])

-- ---- what the register's test tells: there is room for a line, or not

pub none_said : (r b : Bool) → not r ≡ true → r ≡ not b → false ≡ not b
none_said true b e f = absurd (let z : ◌≡◌ {A = ℕ} 0 1 = cc e in omega arith)
none_said false b e f = f

pub room_said : (r b : Bool) → not r ≡ false → r ≡ not b → true ≡ not b
room_said true b e f = f
room_said false b e f = absurd (let z : ◌≡◌ {A = ℕ} 0 1 = cc e in omega arith)

pub room_told : (l : List ℕ) (i p : ℕ) {r : Bool} → not r ≡ false → r ≡ not (eqb (held_by l i p) 0 & is_full l) → Room l i p
room_told l i p {r} e f = subst T (room_said r (eqb (held_by l i p) 0 & is_full l) e f) tt

-- ---- one hold more is acquire

module _ {n p seat : ℕ} {states links leaders holds counts register : List ℕ} (ready : ReadyStore (store_by (tables_of n states links leaders holds counts) register))
    (sits : seat < 32) (named : NamedPiece n states p) (other : states ! p ≡ 1 → ⊥) where
  -- it has 1,000 holds
  pub limited : 1000 ≤ holds ! p → Did (Acquire p seat) (store_by (tables_of n states links leaders holds counts) register) []
      (effect (answered (Err Limit)) (store_by (tables_of n states links leaders holds counts) register) [])
  limited full = refused_tables acquire_adds.seat acquire_itself sits (any_acquire (acquire_limit (ready_tables ready) named other full))

  -- no line is free
  pub crowded : {r : Bool} → holds ! p < 1000 → not r ≡ true → r ≡ not (eqb (held_by register seat p) 0 & is_full register)
      → Did (Acquire p seat) (store_by (tables_of n states links leaders holds counts) register) []
      (effect (answered (Err Register)) (store_by (tables_of n states links leaders holds counts) register) [])
  unfolding no_line
  crowded {r} few none said =
      refused_line acquire_adds acquire_itself sits (acquire_accepted (ready_tables ready) named other few seat) (none_said r (no_line register seat p) none said)

  pub acquired_did : {r : Bool} {holds' counts' register' : List ℕ} {a : Answer} → holds ! p < 1000
      → not r ≡ false → r ≡ not (eqb (held_by register seat p) 0 & is_full register)
      → (holds' ≡ set holds p (holds ! p + 1)) × (counts' ≡ set counts (leaders ! p) (counts ! (leaders ! p) + 1)) → register' ≡ one_more_by register seat p → a ≡ fresh
      → Did (Acquire p seat) (store_by (tables_of n states links leaders holds counts) register) []
      (effect (answered a) (store_by (tables_of n states links leaders holds' counts') register') [])
  unfolding with_holds no_line
  acquired_did {r} few room said both more is = record {
    exact =
        (λ k. effect (answered (is k)) (store_by (tables_of n states links leaders (both.0 k) (both.1 k)) (more k)) [])
        ∙ (done_more acquire_adds acquire_itself sits (room_said r (no_line register seat p) room said) (any_acquire (acquired (ready_tables ready) named other few refl)) refl).exact;
  }
