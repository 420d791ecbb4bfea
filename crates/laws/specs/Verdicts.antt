-- The verdict on a command of the store: the seat's, then the tables', then the register's; and what the command then did.
use Rattle.std.proofs.Math.Path.{◌≡◌, refl, ap}
use Rattle.std.proofs.Common.{sym, ◌∙◌, arith}
use Rattle.std.specs.Prelude.{Bool, true, false, ℕ, T, ltb, length}
use mathlib.Core.List.{List, [], ◌∷◌, ◌++◌}
use Rattle.std.proofs.Math.Dec.{not_T}
use Rattle.std.proofs.Math.ListN.{drop}
use Rattle.rules.specs.Tests.{◌or◌, ◌&◌, pick}
use Rattle.rules.specs.Register.{held_by}
use Rattle.rules.specs.Tables.{Base, Tables, Store, store_by, is_frozen}
use Rattle.rules.specs.Commands.{is_freeze, is_acquire, is_release, piece_of, seat_of, names_seat, is_again, meant}
use Rattle.rules.specs.Commands.{Verdict, accepted, refused, first_of, seat_refusals, table_refusals, register_refusals, refusals, verdict}
use Rattle.rules.specs.Commands.{edit, settles, freed_by, gone_list, noted, next_tables, next_store}
use Rattle.rules.specs.Calls.{Reply, Effect, effect, effected, effect_of, refused_by, accepted_by, listing, Did}
use Rattle.rules.specs.declared.Refusal.{Refusal}
use Rattle.rules.specs.declared.Refusal.TheVariants.{Seat, Number, Place, Target, Free, FreeTarget, State, Limit, Register, NotHeld, NotYours, Linked, Full}
use Rattle.rules.specs.declared.Command.{Command}
use Rattle.rules.specs.declared.Command.TheVariants.{New, Set, Freeze, Acquire, Release, Bin, Look}
use Rattle.laws.specs.Passes.{applies, table_verdict}
use Rattle.laws.specs.Below.{pick-false}
use Rattle.laws.specs.Rows.{and_then, first_append, then_accepted, both_accepted}
use Rattle.laws.specs.ByTables.{TablesEffect, tables_effect, tables_effected, DidTables}

-- ---- the three verdicts

-- by the seat alone
unfoldable pub seat_verdict : Command → Verdict
seat_verdict c = first_of (seat_refusals c)

-- by the register alone
unfoldable pub register_verdict : List ℕ → Command → Verdict
register_verdict l c = first_of (register_refusals l c)

-- the first that refuses is given
pub verdict_is : (s : Store) (c : Command)
    → verdict s c ≡ and_then (seat_verdict c) (and_then (table_verdict s.tables.base (meant s c)) (register_verdict s.register (meant s c)))
unfolding verdict refusals seat_verdict table_verdict register_verdict
verdict_is s c =
    first_append (seat_refusals c) (table_refusals s.tables.base (meant s c) ++ register_refusals s.register (meant s c))
    ∙ ap (and_then (first_of (seat_refusals c))) (first_append (table_refusals s.tables.base (meant s c)) (register_refusals s.register (meant s c)))

-- a command that is no second hand-in comes to itself
pub record Itself (s : Store) (c : Command) : Type 0 where
  pub is : meant s c ≡ c

pub own_verdict : {s : Store} {c : Command} → Itself s c
    → verdict s c ≡ and_then (seat_verdict c) (and_then (table_verdict s.tables.base c) (register_verdict s.register c))
own_verdict {s} {c} same =
    verdict_is s c ∙ ap (λ (d : Command). and_then (seat_verdict c) (and_then (table_verdict s.tables.base d) (register_verdict s.register d))) same.is

-- an accepted command is accepted by all three
pub record AllAccept (s : Store) (c : Command) : Type 0 where
  pub seat : seat_verdict c ≡ accepted
  pub tables : table_verdict s.tables.base (meant s c) ≡ accepted
  pub register : register_verdict s.register (meant s c) ≡ accepted

pub all_accept : {s : Store} {c : Command} → verdict s c ≡ accepted → AllAccept s c
all_accept {s} {c} e =
    let x = both_accepted (seat_verdict c) _ (sym (verdict_is s c) ∙ e) in
    let y = both_accepted (table_verdict s.tables.base (meant s c)) (register_verdict s.register (meant s c)) x.1 in
    record { seat = x.0; tables = y.0; register = y.1 }

-- ---- which commands are themselves

pub itself_by : (s : Store) (c : Command) → (T (is_again s c) → ⊥) → Itself s c
unfolding meant
itself_by s c never = record { is = pick-false (is_again s c) (Look (piece_of c)) c (not_T (is_again s c) never) }

-- all but freeze
pub not_again : (s : Store) (c : Command) → is_freeze c ≡ false → Itself s c
unfolding meant is_again
not_again s c e = record {
  is = ap (λ (b : Bool). pick (b & (is_frozen s.tables.base (piece_of c) & ltb 0 (held_by s.register (seat_of c) (piece_of c)))) (Look (piece_of c)) c) e;
}

-- ---- a command that names no seat

bare_itself : (s : Store) (c : Command) → names_seat c ≡ false → Itself s c
bare_itself s c e = not_again s c (first (is_freeze c) (is_acquire c or is_release c) e)
  where
    first : (a b : Bool) → (a or b) ≡ false → a ≡ false
    first true b e = e
    first false b e = refl

-- is judged by the tables alone
pub bare_verdict : (s : Store) (c : Command) → names_seat c ≡ false → verdict s c ≡ table_verdict s.tables.base c
bare_verdict s c e = own_verdict (bare_itself s c e) ∙ go c e
  where
    after : (c : Command) → seat_verdict c ≡ accepted → register_verdict s.register c ≡ accepted
        → and_then (seat_verdict c) (and_then (table_verdict s.tables.base c) (register_verdict s.register c)) ≡ table_verdict s.tables.base c
    after c a r =
        (λ i. and_then (a i) (and_then (table_verdict s.tables.base c) (r i)))
        ∙ (unfold and_then in (then_accepted (table_verdict s.tables.base c)))

    go : (c : Command) → names_seat c ≡ false
        → and_then (seat_verdict c) (and_then (table_verdict s.tables.base c) (register_verdict s.register c)) ≡ table_verdict s.tables.base c
    go New e = after New (unfold seat_verdict seat_refusals first_of in refl) (unfold register_verdict register_refusals first_of in refl)
    go (Set p k t) e = after (Set p k t) (unfold seat_verdict seat_refusals first_of in refl) (unfold register_verdict register_refusals first_of in refl)
    go (Freeze p i) e = absurd (let z : ◌≡◌ {A = ℕ} 0 1 = cc e in omega arith)
    go (Acquire p i) e = absurd (let z : ◌≡◌ {A = ℕ} 0 1 = cc e in omega arith)
    go (Release p i) e = absurd (let z : ◌≡◌ {A = ℕ} 0 1 = cc e in omega arith)
    go (Bin p) e = after (Bin p) (unfold seat_verdict seat_refusals first_of in refl) (unfold register_verdict register_refusals first_of in refl)
    go (Look p) e = after (Look p) (unfold seat_verdict seat_refusals first_of in refl) (unfold register_verdict register_refusals first_of in refl)

-- and leaves the register as it is
pub bare_noted : (l : List ℕ) (c : Command) → names_seat c ≡ false → noted l c ≡ l
unfolding noted
bare_noted l New e = refl
bare_noted l (Set p k t) e = refl
bare_noted l (Freeze p i) e = absurd (let z : ◌≡◌ {A = ℕ} 0 1 = cc e in omega arith)
bare_noted l (Acquire p i) e = absurd (let z : ◌≡◌ {A = ℕ} 0 1 = cc e in omega arith)
bare_noted l (Release p i) e = absurd (let z : ◌≡◌ {A = ℕ} 0 1 = cc e in omega arith)
bare_noted l (Bin p) e = refl
bare_noted l (Look p) e = refl

-- so what it did to the tables is what it did to the store
pub bare_did : {c : Command} {t t' : Tables} {l l' register : List ℕ} {a : Reply} → names_seat c ≡ false → DidTables c t l (tables_effect a t' l')
    → Did c (store_by t register) l (effect a (store_by t' register) l')
unfolding effect_of
bare_did {c} {t} {t'} {l} {l'} {register} {a} e d = record {
  exact =
      ap (λ (x : TablesEffect). effect x.reply (store_by x.tables register) x.list) d.exact
      ∙ go (table_verdict t.base c)
      ∙ ap (effected (store_by t register) l c) (sym (bare_verdict (store_by t register) c e));
}
  where
    go : (v : Verdict) → effect (tables_effected t l c v).reply (store_by (tables_effected t l c v).tables register) (tables_effected t l c v).list
        ≡ effected (store_by t register) l c v
    go accepted = unfold tables_effected effected next_store in
        (ap (λ (x : List ℕ). effect (accepted_by t c) (store_by (next_tables t c) x) (listing (freed_by t.base c) l)) (sym (bare_noted register c e))
        ∙ ap (λ (d : Command). effect (accepted_by t c) (store_by (next_tables t d) (noted register d)) (listing (freed_by t.base c) l)) (sym (bare_itself (store_by t register) c e).is))
    go (refused r) = unfold tables_effected effected in refl

-- ---- a command that names a seat

pub did_refused_by : (c : Command) (s : Store) (l : List ℕ) (r : Refusal) → verdict s c ≡ refused r → Did c s l (effect (refused_by r c) s l)
unfolding effect_of effected
did_refused_by c s l r e = record { exact = ap (effected s l c) (sym e) }

module _ {c : Command} {t : Tables} {l register : List ℕ} where
  -- it is refused by the seat
  pub seat_refused : {r : Refusal} → seat_verdict c ≡ refused r → Did c (store_by t register) l (effect (refused_by r c) (store_by t register) l)
  seat_refused {r} e =
      did_refused_by c (store_by t register) l r
      (verdict_is (store_by t register) c
      ∙ ap (λ (v : Verdict). and_then v (and_then (table_verdict t.base (meant (store_by t register) c)) (register_verdict register (meant (store_by t register) c)))) e
      ∙ (unfold and_then in refl))

  module _ (same : Itself (store_by t register) c) (seat : seat_verdict c ≡ accepted) where
    -- by the tables
    pub tables_refused : {r : Refusal} → table_verdict t.base c ≡ refused r → Did c (store_by t register) l (effect (refused_by r c) (store_by t register) l)
    tables_refused {r} e =
        did_refused_by c (store_by t register) l r
        (own_verdict same ∙ (λ i. and_then (seat i) (and_then (e i) (register_verdict register c))) ∙ (unfold and_then in refl))

    module _ (tables : table_verdict t.base c ≡ accepted) where
      -- by the register
      pub register_refused : {r : Refusal} → register_verdict register c ≡ refused r → Did c (store_by t register) l (effect (refused_by r c) (store_by t register) l)
      register_refused {r} e =
          did_refused_by c (store_by t register) l r
          (own_verdict same ∙ (λ i. and_then (seat i) (and_then (tables i) (e i))) ∙ (unfold and_then in refl))

      -- or by none of them
      pub all_did : register_verdict register c ≡ accepted
          → Did c (store_by t register) l (effect (accepted_by t c) (store_by (next_tables t c) (noted register c)) (listing (freed_by t.base c) l))
      unfolding effect_of
      all_did e = record {
        exact =
            done
            ∙ ap (effected (store_by t register) l c)
            (sym (own_verdict same ∙ (λ i. and_then (seat i) (and_then (tables i) (e i))) ∙ (unfold and_then in refl)));
      }
        where
          done : effect (accepted_by t c) (store_by (next_tables t c) (noted register c)) (listing (freed_by t.base c) l) ≡ effected (store_by t register) l c accepted
          done = unfold effected next_store in
              (ap (λ (d : Command). effect (accepted_by t c) (store_by (next_tables t d) (noted register d)) (listing (freed_by t.base c) l)) (sym same.is))

-- ---- the table's order

-- the rows of refusals rs, in their order, for what applies by rows
unfoldable pub in_order : List Refusal → List (Bool × Refusal) → List (Bool × Refusal)
in_order [] rows = []
in_order (r ∷ rs) rows = (applies r rows, r) ∷ in_order rs rows

-- the refusals after UNSOUND, in the table's order
abbrev pub table : List Refusal
table = Seat ∷ Number ∷ Place ∷ Target ∷ Free ∷ FreeTarget ∷ State ∷ Limit ∷ Register ∷ NotHeld ∷ NotYours ∷ Linked ∷ Full ∷ []

-- the refusals of every command follow the table's order: going down the table gives the same verdict
pub by_table : (s : Store) (c : Command) → verdict s c ≡ first_of (in_order table (refusals s c))
unfolding verdict first_of refusals seat_refusals table_refusals register_refusals in_order applies meant is_again
by_table s New = refl
by_table s (Set p k t) = refl
by_table s (Freeze p i) = go (is_frozen s.tables.base p & ltb 0 (held_by s.register i p))
  where
    go : (b : Bool) → first_of (seat_refusals (Freeze p i) ++ (table_refusals s.tables.base (pick b (Look p) (Freeze p i)) ++ register_refusals s.register (pick b (Look p) (Freeze p i))))
        ≡ first_of (in_order table (seat_refusals (Freeze p i) ++ (table_refusals s.tables.base (pick b (Look p) (Freeze p i)) ++ register_refusals s.register (pick b (Look p) (Freeze p i)))))
    go true = refl
    go false = refl
by_table s (Acquire p i) = refl
by_table s (Release p i) = refl
by_table s (Bin p) = refl
by_table s (Look p) = refl

-- a command that settles nothing does the same whatever list is lent
pub any-list : {c : Command} {s s' : Store} {l : List ℕ} {r : Reply} → settles c ≡ false → Did c s [] (effect r s' []) → Did c s l (effect r s' l)
unfolding effect_of
any-list {c} {s} {s'} {l} {r} off d = record { exact = ap (λ (e : Effect). effect e.reply e.store l) d.exact ∙ go (verdict s c) }
  where
    b : Base
    b = s.tables.base

    nothing : freed_by b c ≡ []
    nothing = unfold freed_by in (ap (λ (x : Bool). pick x (gone_list (edit b c)) []) off)

    listed : l ≡ listing (freed_by b c) l
    listed = unfold listing in (ap (λ (f : List ℕ). f ++ drop (length f) l) (sym nothing))

    go : (v : Verdict) → effect (effected s [] c v).reply (effected s [] c v).store l ≡ effected s l c v
    go accepted = unfold effected in (ap (effect (accepted_by s.tables c) (next_store s c)) listed)
    go (refused r) = unfold effected in refl
