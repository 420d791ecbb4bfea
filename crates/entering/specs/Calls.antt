-- From how a call began to its promise: one law for each arm.
use Rattle.std.specs.Prelude.{◌≡◌, Bool, true, false, not, List, [], ℕ, ◌*◌, T, leb, length, Result, Ok, Err}
use Rattle.std.proofs.Math.Path.{refl}
use Rattle.std.proofs.Common.{sym, ap, ◌∙◌, ⊎_elim, arith, le_refl, le-leb}
use Rattle.rules.specs.Tests.{◌&◌, ◌or◌, pick}
use Rattle.rules.specs.Tables.{Tables, Store, store_on, store_by, is_sound_store}
use Rattle.rules.specs.Commands.{names_seat, accepted, first_of, settles}
use Rattle.rules.specs.Calls.{Call, does, check, number_of, Areas, areas_of, Reply, checked, outcome, effect, Promise, Did}
use Rattle.rules.specs.Calls.{takes_list, takes_work, is_sized_store, is_lent, later_refusals, call_refusals, judge, refused_by, refused_call, accepted_call, clear, cleared}
use Rattle.rules.specs.declared.Refusal.{Refusal}
use Rattle.rules.specs.declared.Refusal.TheVariants.{Size, Unsound}
use Rattle.rules.specs.declared.Command.{Command}
use Rattle.laws.specs.Below.{pick_true, pick-false}
use Rattle.laws.specs.Calls.{double_not, accepted_outcome, through, flawed, short}
use Rattle.laws.specs.ByTables.{DidTables, tables_effect}
use Rattle.laws.specs.Verdicts.{bare_did, any-list}
use Rattle.into.specs.Stores.{IntoBase, with_into, leaves_into, into_ready, still_into}
use Rattle.entering.specs.Entered.{fits, Short, Flawed, Entered, began_by, entered_ready, left_clear}
use Rattle.rules.specs.Replies.{Checked}

-- ---- the arms of a call that takes work

-- what `enter` is told: the entries of list, or N for a call that takes no list
abbrev pub room_of : Call → Store → List ℕ → ℕ
room_of c s l = pick (takes_list c) (length l) s.tables.base.n

lent_is : (c : Call) → takes_work c ≡ true → (s : Store) (l w : List ℕ) → is_lent (areas_of s l w) c ≡ fits s (room_of c s l) w
unfolding is_lent fits
lent_is c works s l w = rw works (go (takes_list c))
  where
    go : (t : Bool) → (is_sized_store s & (not t or leb s.tables.base.n (length l)) & leb (8 * s.tables.base.n) (length w))
        ≡ (is_sized_store s & leb s.tables.base.n (pick t (length l) s.tables.base.n) & leb (8 * s.tables.base.n) (length w))
    go true = refl
    go false = ap (λ (b : Bool). is_sized_store s & b & leb (8 * s.tables.base.n) (length w)) (sym (le-leb s.tables.base.n s.tables.base.n (le_refl s.tables.base.n)))

command_lent : (c : Command) (s : Store) (l w : List ℕ) → is_lent (areas_of s l w) (does c) ≡ fits s (room_of (does c) s l) w
command_lent c s l w = lent_is (does c) (unfold takes_work in refl) s l w

module _ {s : Store} {l w w' : List ℕ} where
  -- refused by SIZE
  short_arm : {c : Call} {a : Reply} → takes_work c ≡ true → a ≡ refused_call Size c → Short s (room_of c s l) w w' → Promise c (areas_of s l w) (outcome a (areas_of s l w'))
  short_arm {c} works said b = rw (said, b.1) (short (areas_of s l w) c (rw (lent_is c works s l w) b.0))

  -- refused by UNSOUND
  flawed_arm : {c : Command} {a : Reply} → a ≡ refused_by Unsound c → Flawed s (room_of (does c) s l) w w' → Promise (does c) (areas_of s l w) (outcome a (areas_of s l w'))
  flawed_arm {c} said b = rw (said, b.2) (flawed (areas_of s l w) c (rw (command_lent c s l w) b.0) b.1)

module _ {s : Store} {l w w' : List ℕ} {r : Result (Unit {0}) Refusal} where
  module _ {c : Command} where
    -- refused by one of them
    pub refused_arm : {q : Refusal} {a : Reply} → a ≡ refused_by q c → Entered s (room_of (does c) s l) w r w' → r ≡ Err q
        → Promise (does c) (areas_of s l w) (outcome a (areas_of s l w'))
    refused_arm {q} {a} said x is = ⊎_elim short_one flawed_one (began_by x is)
      where
        short_one : (q ≡ Size) × Short s (room_of (does c) s l) w w' → Promise (does c) (areas_of s l w) (outcome a (areas_of s l w'))
        short_one b = short_arm (unfold takes_work in refl) (unfold refused_call in (said ∙ ap (λ (y : Refusal). refused_by y c) b.0)) b.1

        flawed_one : (q ≡ Unsound) × Flawed s (room_of (does c) s l) w w' → Promise (does c) (areas_of s l w) (outcome a (areas_of s l w'))
        flawed_one b = flawed_arm (said ∙ ap (λ (y : Refusal). refused_by y c) b.0) b.1

    -- the command has done its work, and work is cleared
    pub sound_arm : {a : Reply} {s' : Store} {l' w'' : List ℕ} → Entered s (room_of (does c) s l) w r w' → r ≡ Ok tt
        → Did c s l (effect a s' l') → w'' ≡ clear s.tables.base.n w' → Promise (does c) (areas_of s l w) (outcome a (areas_of s' l' w''))
    sound_arm {a} {s'} {l'} x is d left =
        let b = began_by x is in
        rw (left_clear s.tables.base.n b.2 left) (through (areas_of s l w) c (effect a s' l') (rw (command_lent c s l w) b.0) b.1 d)

    -- one that settles nothing does not look at the list
    pub unlisted_arm : {a : Reply} {s' : Store} {w'' : List ℕ} → settles c ≡ false → Entered s (room_of (does c) s l) w r w' → r ≡ Ok tt
        → Did c s [] (effect a s' []) → w'' ≡ clear s.tables.base.n w' → Promise (does c) (areas_of s l w) (outcome a (areas_of s' l w''))
    unlisted_arm off x is d left = sound_arm x is (any-list off d) left

-- a command that names no seat has done its work on the tables, and left the register as it was
module _ {t : Tables} {register into l w w' : List ℕ} {r : Result (Unit {0}) Refusal} {c : Command}
    (x : Entered (store_on t register into) (room_of (does c) (store_on t register into) l) w r w') (is : r ≡ Ok tt) where
  -- it kept the links into each draft right
  pub tables_arm : {a : Reply} {t' : Tables} {into' l' w'' : List ℕ} → names_seat c ≡ false
      → DidTables c t l (tables_effect a t' l') × IntoBase t'.base into' → w'' ≡ clear t.base.n w'
      → Promise (does c) (areas_of (store_on t register into) l w) (outcome a (areas_of (store_on t' register into') l' w''))
  tables_arm bare d left = sound_arm x is (with_into (into_ready (entered_ready x is)) d.1 (bare_did bare d.0)) left

  -- or left them
  pub still_arm : {a : Reply} {t' : Tables} {register' l' w'' : List ℕ} → leaves_into c ≡ true → Did c (store_by t register) l (effect a (store_by t' register') l')
      → w'' ≡ clear t.base.n w'
      → Promise (does c) (areas_of (store_on t register into) l w) (outcome a (areas_of (store_on t' register' into) l' w''))
  still_arm leaves d left = sound_arm x is (still_into leaves (entered_ready x is) d) left

  pub still_unlisted_arm : {a : Reply} {t' : Tables} {register' w'' : List ℕ} → leaves_into c ≡ true → settles c ≡ false
      → Did c (store_by t register) [] (effect a (store_by t' register') []) → w'' ≡ clear t.base.n w'
      → Promise (does c) (areas_of (store_on t register into) l w) (outcome a (areas_of (store_on t' register' into) l w''))
  still_unlisted_arm leaves off d left = still_arm leaves (any-list off d) left

-- ---- check; it and start are refused by SIZE alone

pub lent_accepted : (a : Areas) (c : Call) → later_refusals a.store c ≡ [] → T (is_lent a c) → judge a c ≡ accepted
unfolding judge call_refusals first_of
lent_accepted a c last t = rw last (pick-false (not (is_lent a c)) _ _ (double_not (is_lent a c) t))

-- check answers whether the store is sound
check_said : (s : Store) (l w : List ℕ) (r : Checked) → T (fits s (room_of check s l) w) → r ≡ pick (is_sound_store s) (Ok true) (Ok false)
    → Promise check (areas_of s l w) (outcome (checked r) (areas_of s l (clear s.tables.base.n w)))
unfolding accepted_call cleared takes_work
check_said s l w r t e = record {
  exact =
      ap (λ (x : Checked). outcome (checked x) (areas_of s l (clear s.tables.base.n w))) e
      ∙ sym (accepted_outcome (areas_of s l w) check (lent_accepted _ check (unfold later_refusals in refl) (rw (lent_is check refl s l w) t)));
}

module _ {s : Store} {l w w' : List ℕ} {r : Result (Unit {0}) Refusal} (x : Entered s (room_of check s l) w r w') where
  pub check_no : r ≡ Err Unsound → Promise check (areas_of s l w) (outcome (checked (Ok false)) (areas_of s l w'))
  check_no is = ⊎_elim short_one flawed_one (began_by x is)
    where
      short_one : (Unsound ≡ Size) × Short s (room_of check s l) w w' → Promise check (areas_of s l w) (outcome (checked (Ok false)) (areas_of s l w'))
      short_one b = absurd (let z : number_of Unsound ≡ number_of Size = ap number_of b.0 in omega arith)

      flawed_one : (Unsound ≡ Unsound) × Flawed s (room_of check s l) w w' → Promise check (areas_of s l w) (outcome (checked (Ok false)) (areas_of s l w'))
      flawed_one b = rw b.1.2 (check_said s l w (Ok false) b.1.0 (sym (pick-false (is_sound_store s) (Ok true) (Ok false) b.1.1)))

  pub check_refused : {q : Refusal} → r ≡ Err q → (q ≡ Unsound → ⊥) → Promise check (areas_of s l w) (outcome (checked (Err q)) (areas_of s l w'))
  check_refused {q} is other = ⊎_elim short_one flawed_one (began_by x is)
    where
      short_one : (q ≡ Size) × Short s (room_of check s l) w w' → Promise check (areas_of s l w) (outcome (checked (Err q)) (areas_of s l w'))
      short_one b = short_arm {c = check} (unfold takes_work in refl) (unfold refused_call in ap (λ (y : Refusal). checked (Err y)) b.0) b.1

      flawed_one : (q ≡ Unsound) × Flawed s (room_of check s l) w w' → Promise check (areas_of s l w) (outcome (checked (Err q)) (areas_of s l w'))
      flawed_one b = absurd (other b.0)

  pub check_yes : {w'' : List ℕ} → r ≡ Ok tt → w'' ≡ clear s.tables.base.n w' → Promise check (areas_of s l w) (outcome (checked (Ok true)) (areas_of s l w''))
  check_yes is left =
      let b = began_by x is in
      rw (left_clear s.tables.base.n b.2 left) (check_said s l w (Ok true) b.0 (sym (pick_true (is_sound_store s) (Ok true) (Ok false) b.1)))
