-- How a call begins and ends: the sizes, then the soundness; on the way out work is cleared, unless a size is wrong.
use Rattle.std.specs.Prelude.{◌≡◌, ◌⊎◌, Bool, not, List, ◌++◌, ℕ, ◌*◌, ◌≤◌, T, length, replicate, Result, Ok, Err}
use Rattle.std.proofs.Common.{ap, ◌∙◌, subst, arith}
use Rattle.std.proofs.Math.Dec.{leb, leb→le}
use Rattle.rules.specs.Tests.{◌&◌}
use Rattle.rules.specs.Tables.{Store, store_by, is_sound_store}
use Rattle.rules.specs.Words.{SizedStore}
use Rattle.rules.specs.Calls.{is_sized_store, clear, Ready, ReadyStore}
use Rattle.laws.specs.Tests.{and_left, and_right}
use Rattle.laws.specs.Calls.{sized_store→, ready_tables}
use Rattle.tallies.specs.Adding.{LaterSame}
use Rattle.into.specs.Stores.{IntoBase, into_ready, ready_by}
use Rattle.demands.specs.Sound.{sound_store→}
use Rattle.rules.specs.declared.Refusal.{Refusal}
use Rattle.rules.specs.declared.Refusal.TheVariants.{Size, Unsound}

-- every size is right, with `room` entries of list
unfoldable pub fits : Store → ℕ → List ℕ → Bool
fits s room work = is_sized_store s & leb s.tables.base.n room & leb (8 * s.tables.base.n) (length work)

-- a size is wrong, and work is unchanged
abbrev pub Short : Store → ℕ → List ℕ → List ℕ → Type 0
Short s room work work' = T (not (fits s room work)) × (work' ≡ work)

-- the store is not sound, and work is cleared
abbrev pub Flawed : Store → ℕ → List ℕ → List ℕ → Type 0
Flawed s room work work' = T (fits s room work) × T (not (is_sound_store s)) × (work' ≡ clear s.tables.base.n work)

-- the store is sound, and the first 8N entries of work may hold anything
abbrev pub Sound : Store → ℕ → List ℕ → List ℕ → Type 0
Sound s room work work' = T (fits s room work) × T (is_sound_store s) × LaterSame (8 * s.tables.base.n) work work'

abbrev pub Began : Store → ℕ → List ℕ → Result (Unit {0}) Refusal → List ℕ → Type 0
Began s room work (Ok _) work' = Sound s room work work'
Began s room work (Err q) work' = ((q ≡ Size) × Short s room work work') ⊎ ((q ≡ Unsound) × Flawed s room work work')

pub record Entered (s : Store) (room : ℕ) (work : List ℕ) (r : Result (Unit {0}) Refusal) (work' : List ℕ) : Type 0 where
  pub began : Began s room work r work'

-- what it tells, by its case
pub began_by : {s : Store} {room : ℕ} {work work' : List ℕ} {r q : Result (Unit {0}) Refusal} → Entered s room work r work' → r ≡ q → Began s room work q work'
began_by {s} {room} {work} {work'} x is = (subst (λ (y : Result (Unit {0}) Refusal). Entered s room work y work') is x).began

-- ---- sizes

-- what right sizes say
pub record Fitted (s : Store) (room : ℕ) (work : List ℕ) : Type 0 where
  pub least : 1 ≤ s.tables.base.n
  pub sized : SizedStore s
  pub listed : s.tables.base.n ≤ room
  pub worked : 8 * s.tables.base.n ≤ length work

module _ {s : Store} {room : ℕ} {work : List ℕ} where
  pub fits→ : T (fits s room work) → Fitted s room work
  unfolding fits
  fits→ t =
      let n = s.tables.base.n in
      let z = sized_store→ s (and_left (is_sized_store s) _ t) in
      let r = and_right (is_sized_store s) (leb n room & leb (8 * n) (length work)) t in
      record {
        least = z.0;
        sized = z.1;
        listed = leb→le n room (and_left (leb n room) _ r);
        worked = leb→le (8 * n) (length work) (and_right (leb n room) _ r);
      }

-- what `leave` asks
abbrev pub Leaving : ℕ → List ℕ → Type 0
Leaving n work = (n ≤ 1024) × (8 * n ≤ length work)

-- ---- what the inner door asks: a sound store, with N entries of list or with 8N of work

module _ {s : Store} {room : ℕ} {work work' : List ℕ} {r : Result (Unit {0}) Refusal} (x : Entered s room work r work') (is : r ≡ Ok tt) where
  pub entered_ready : ReadyStore s
  entered_ready =
      let b = began_by x is in
      let z = fits→ b.0 in
      record { least = z.least; sized = z.sized; sound = sound_store→ s z.sized b.1 }

  entered-listed : ReadyStore s × (s.tables.base.n ≤ room)
  entered-listed = (entered_ready, (fits→ (began_by x is).0).listed)

  pub entered_wide : ReadyStore s × (8 * s.tables.base.n ≤ length work')
  entered_wide = let b = began_by x is in (entered_ready, omega (arith, (fits→ b.0).worked, b.2.size))

  -- the rooms below the register ask it of the tables
  pub entered_tables : Ready s.tables
  entered_tables = ready_tables entered_ready

  -- and those that keep the links into each draft ask it of these too
  pub entered_tables_listed : Ready s.tables × IntoBase s.tables.base s.into × (s.tables.base.n ≤ room)
  entered_tables_listed = (entered_tables, into_ready entered_ready, entered-listed.1)

  -- the rooms that leave them ask it of the store that follows from its tables and its register
  pub entered_by : ReadyStore (store_by s.tables s.register)
  entered_by = ready_by entered_ready

  pub entered_by_listed : ReadyStore (store_by s.tables s.register) × (s.tables.base.n ≤ room)
  entered_by_listed = (entered_by, entered-listed.1)

  -- on the way out what the walks left in work is cleared away
  pub sound_leaving : Leaving s.tables.base.n work'
  sound_leaving = let b = entered_wide in (b.0.sized.tables.base.most, b.1)

-- what the inner door and the way out ask, from how a call began
pub ruleset entered_laws = (entered_wide, entered_tables, entered_tables_listed, entered_by_listed, sound_leaving)

-- whatever they left there
pub left_clear : (n : ℕ) {work work' work₁ : List ℕ} → LaterSame (8 * n) work work' → work₁ ≡ clear n work' → work₁ ≡ clear n work
unfolding clear
left_clear n k e = e ∙ ap (λ (l : List ℕ). replicate (8 * n) 0 ++ l) k.later
