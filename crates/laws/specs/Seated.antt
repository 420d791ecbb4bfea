-- From what a command that names a seat did by the tables alone to what it did to the store: the seat's row before, the register's behind.
use Rattle.std.proofs.Math.Path.{◌≡◌, refl, sym}
use Rattle.std.proofs.Common.{ap, ◌∙◌, subst, T_not, lt→ltb}
use Rattle.std.specs.Prelude.{Bool, List, [], ◌∷◌, ℕ, ◌≤◌, ◌<◌, ltb, Err}
use Rattle.std.proofs.Math.Bool.{true, false, not}
use native.Mathlib.Omega.{arith}
use Rattle.std.proofs.Math.Dec.{T, not_T, ltb→lt}
use Rattle.rules.specs.Register.{held_by, one_more_by, one_less_by}
use Rattle.rules.specs.Tables.{Base, Tables, Store, store_by}
use Rattle.rules.specs.Commands.{names_seat, Verdict, accepted, refused, first_of, no_seat, no_line, not_yours, seat_refusals, table_refusals, register_refusals}
use Rattle.rules.specs.Commands.{edit, settles, freed_by, after, value_of, noted, next_tables}
use Rattle.rules.specs.Calls.{Reply, answered, effect, refused_by, accepted_by, done_by, listing, Did}
use Rattle.rules.specs.declared.Refusal.{Refusal}
use Rattle.rules.specs.declared.Refusal.TheVariants.{Seat, Register, NotYours}
use Rattle.rules.specs.declared.Command.{Command}
use Rattle.rules.specs.declared.Command.TheVariants.{New, Set, Freeze, Acquire, Release, Bin, Look}
use Rattle.laws.specs.Words.{eqb_of, neqb_of}
use Rattle.laws.specs.Passes.{table_verdict}
use Rattle.laws.specs.Rows.{first-at, first-none}
use Rattle.laws.specs.ByTables.{TablesEffect, tables_effect, tables_effected, DidTables}
use Rattle.laws.specs.Verdicts.{seat_verdict, register_verdict, seat_refused, tables_refused, register_refused, all_did, Itself, not_again}
use Rattle.rules.specs.Replies.{done}

-- ---- by the tables every seat is alike

-- two commands that the tables cannot tell apart
record Alike (c d : Command) : Type 0 where
  rows : (b : Base) → table_refusals b c ≡ table_refusals b d
  accepts : (t : Tables) → accepted_by t c ≡ accepted_by t d
  refuses : (r : Refusal) → refused_by r c ≡ refused_by r d
  frees : (b : Base) → freed_by b c ≡ freed_by b d
  leaves : (t : Tables) → next_tables t c ≡ next_tables t d

alike_did : {c d : Command} {t : Tables} {l : List ℕ} {e : TablesEffect} → Alike c d → DidTables c t l e → DidTables d t l e
alike_did {c} {d} {t} {l} {e} a x = record { exact = x.exact ∙ go (table_verdict t.base c) ∙ ap (tables_effected t l d) (unfold table_verdict in (ap first_of (a.rows t.base))) }
  where
    go : (v : Verdict) → tables_effected t l c v ≡ tables_effected t l d v
    go accepted = unfold tables_effected in (λ i. tables_effect (a.accepts t i) (a.leaves t i) (listing (a.frees t.base i) l))
    go (refused r) = unfold tables_effected in (ap (λ (x : Reply). tables_effect x t l) (a.refuses r))

module _ {p i j : ℕ} {t : Tables} {l : List ℕ} {e : TablesEffect} where
  pub any_freeze : DidTables (Freeze p i) t l e → DidTables (Freeze p j) t l e
  unfolding table_refusals accepted_by done_by value_of refused_by freed_by settles next_tables after edit
  any_freeze = alike_did (record { rows = λ b. refl; accepts = λ t. refl; refuses = λ r. refl; frees = λ b. refl; leaves = λ t. refl })

  pub any_acquire : DidTables (Acquire p i) t l e → DidTables (Acquire p j) t l e
  unfolding table_refusals accepted_by done_by value_of refused_by freed_by settles next_tables after edit
  any_acquire = alike_did (record { rows = λ b. refl; accepts = λ t. refl; refuses = λ r. refl; frees = λ b. refl; leaves = λ t. refl })

  pub any_release : DidTables (Release p i) t l e → DidTables (Release p j) t l e
  unfolding table_refusals accepted_by done_by value_of refused_by freed_by settles next_tables after edit
  any_release = alike_did (record { rows = λ b. refl; accepts = λ t. refl; refuses = λ r. refl; frees = λ b. refl; leaves = λ t. refl })

-- ---- what the answer tells of the verdict by the tables

refused_says : (c : Command) → names_seat c ≡ true → (r : Refusal) → refused_by r c ≡ answered (Err r)
unfolding refused_by
refused_says New e r = refl
refused_says (Set p k t) e r = refl
refused_says (Freeze p i) e r = refl
refused_says (Acquire p i) e r = refl
refused_says (Release p i) e r = refl
refused_says (Bin p) e r = refl
refused_says (Look p) e r = absurd (let z : ◌≡◌ {A = ℕ} 0 1 = cc e in omega arith)

accepted_says : (c : Command) → names_seat c ≡ true → (t : Tables) → accepted_by t c ≡ answered (done_by t.base c)
unfolding accepted_by
accepted_says New e t = refl
accepted_says (Set p k x) e t = refl
accepted_says (Freeze p i) e t = refl
accepted_says (Acquire p i) e t = refl
accepted_says (Release p i) e t = refl
accepted_says (Bin p) e t = refl
accepted_says (Look p) e t = absurd (let z : ◌≡◌ {A = ℕ} 0 1 = cc e in omega arith)

module _ (c : Command) (names : names_seat c ≡ true) (t : Tables) (l : List ℕ) where
  -- a refusal is the tables' own
  told_refused : {r : Refusal} {t' : Tables} {l' : List ℕ} → DidTables c t l (tables_effect (answered (Err r)) t' l') → table_verdict t.base c ≡ refused r
  unfolding done_by tables_effected
  told_refused {r} {t'} {l'} d = go (table_verdict t.base c) (ap (λ (e : TablesEffect). e.reply) d.exact)
    where
      other : answered (Err r) ≡ answered (done_by t.base c) → ⊥
      other e = let z : ◌≡◌ {A = ℕ} 0 1 = cc e in omega arith

      same : {q : Refusal} → answered (Err r) ≡ answered (Err q) → refused q ≡ refused r
      same e = cc e

      go : (v : Verdict) → answered (Err r) ≡ (tables_effected t l c v).reply → v ≡ refused r
      go accepted e = absurd (other (e ∙ accepted_says c names t))
      go (refused q) e = same (e ∙ refused_says c names q)

  -- an answer of work done is an acceptance
  told_accepted : {v f : ℕ} {t' : Tables} {l' : List ℕ} → DidTables c t l (tables_effect (answered (done v f)) t' l') → table_verdict t.base c ≡ accepted
  unfolding tables_effected
  told_accepted {v} {f} {t'} {l'} d = go (table_verdict t.base c) (ap (λ (e : TablesEffect). e.reply) d.exact)
    where
      other : {q : Refusal} → answered (done v f) ≡ answered (Err q) → ⊥
      other e = let z : ◌≡◌ {A = ℕ} 0 1 = cc e in omega arith

      go : (w : Verdict) → answered (done v f) ≡ (tables_effected t l c w).reply → w ≡ accepted
      go accepted e = refl
      go (refused q) e = absurd (other (e ∙ refused_says c names q))

-- ---- the rows, one of them for each of the three

row-given : (b : Bool) (r : Refusal) → T b → first_of ((b, r) ∷ []) ≡ refused r
row-given b r t = first-at 0 ((b, r) ∷ []) r tt (t, refl)

row_passed : (b : Bool) (r : Refusal) → T (not b) → first_of ((b, r) ∷ []) ≡ accepted
row_passed b r t = first-none ((b, r) ∷ []) (t, tt)

-- c is a command of seat i
pub record BySeat (c : Command) (i : ℕ) : Type 0 where
  pub names : names_seat c ≡ true
  pub row : seat_refusals c ≡ (no_seat i, Seat) ∷ []

-- that gives it one hold more on p
pub record Adds (c : Command) (i p : ℕ) : Type 0 where
  pub seat : BySeat c i
  pub row : (l : List ℕ) → register_refusals l c ≡ (no_line l i p, Register) ∷ []
  pub notes : (l : List ℕ) → noted l c ≡ one_more_by l i p

-- that takes one of its holds on p
pub record Takes (c : Command) (i p : ℕ) : Type 0 where
  pub seat : BySeat c i
  pub row : (l : List ℕ) → register_refusals l c ≡ (not_yours l i p, NotYours) ∷ []
  pub notes : (l : List ℕ) → noted l c ≡ one_less_by l i p

module _ {p i : ℕ} where
  pub freeze_adds : Adds (Freeze p i) i p
  unfolding seat_refusals register_refusals noted
  freeze_adds = record { seat = record { names = refl; row = refl }; row = λ l. refl; notes = λ l. refl }

  pub acquire_adds : Adds (Acquire p i) i p
  unfolding seat_refusals register_refusals noted
  acquire_adds = record { seat = record { names = refl; row = refl }; row = λ l. refl; notes = λ l. refl }

  pub release_takes : Takes (Release p i) i p
  unfolding seat_refusals register_refusals noted
  release_takes = record { seat = record { names = refl; row = refl }; row = λ l. refl; notes = λ l. refl }

-- acquire and release are themselves
pub acquire_itself : {s : Store} {p i : ℕ} → Itself s (Acquire p i)
acquire_itself {s} {p} {i} = not_again s (Acquire p i) refl

pub release_itself : {s : Store} {p i : ℕ} → Itself s (Release p i)
release_itself {s} {p} {i} = not_again s (Release p i) refl

-- ---- what such a command did to the store

passed_seat : {c : Command} {i : ℕ} → BySeat c i → i < 32 → seat_verdict c ≡ accepted
unfolding seat_verdict
passed_seat {c} {i} m h = ap first_of m.row ∙ row_passed (no_seat i) Seat (not_T (no_seat i) (λ t. T_not (ltb i 32) t (lt→ltb i 32 h)))

module _ {c : Command} {i : ℕ} {t : Tables} {l register : List ℕ} (m : BySeat c i) where
  answered_so : {r : Refusal} → Did c (store_by t register) l (effect (refused_by r c) (store_by t register) l)
      → Did c (store_by t register) l (effect (answered (Err r)) (store_by t register) l)
  answered_so {r} d = subst (λ (a : Reply). Did c (store_by t register) l (effect a (store_by t register) l)) (refused_says c m.names r) d

  -- refused by the seat
  pub refused_seat : 32 ≤ i → Did c (store_by t register) l (effect (answered (Err Seat)) (store_by t register) l)
  refused_seat h = answered_so (seat_refused (unfold seat_verdict in (ap first_of m.row ∙ row-given (no_seat i) Seat (not_T (ltb i 32) (λ t. omega (arith, ltb→lt i 32 t))))))

  module _ (same : Itself (store_by t register) c) (h : i < 32) where
    -- by the tables
    pub refused_tables : {r : Refusal} → DidTables c t l (tables_effect (answered (Err r)) t l)
        → Did c (store_by t register) l (effect (answered (Err r)) (store_by t register) l)
    refused_tables d = answered_so (tables_refused same (passed_seat m h) (told_refused c m.names t l d))

    -- by the register
    refused_last : {r : Refusal} → table_verdict t.base c ≡ accepted → register_verdict register c ≡ refused r
        → Did c (store_by t register) l (effect (answered (Err r)) (store_by t register) l)
    refused_last tables e = answered_so (register_refused same (passed_seat m h) tables e)

    -- by none of them
    done_seated : {v f : ℕ} {t' : Tables} {l' register' : List ℕ} → register_verdict register c ≡ accepted
        → DidTables c t l (tables_effect (answered (done v f)) t' l') → register' ≡ noted register c
        → Did c (store_by t register) l (effect (answered (done v f)) (store_by t' register') l')
    done_seated {v} {f} {t'} {l'} {register'} last d e = record { exact = both ∙ (all_did same (passed_seat m h) tables last).exact }
      where
        tables : table_verdict t.base c ≡ accepted
        tables = told_accepted c m.names t l d

        opened : tables_effected t l c accepted ≡ tables_effect (accepted_by t c) (next_tables t c) (listing (freed_by t.base c) l)
        opened = unfold tables_effected in refl

        work : tables_effect (answered (done v f)) t' l' ≡ tables_effect (accepted_by t c) (next_tables t c) (listing (freed_by t.base c) l)
        work = d.exact ∙ ap (tables_effected t l c) tables ∙ opened

        both : effect (answered (done v f)) (store_by t' register') l'
            ≡ effect (accepted_by t c) (store_by (next_tables t c) (noted register c)) (listing (freed_by t.base c) l)
        both = λ k. effect (work k).reply (store_by (work k).tables (e k)) (work k).list

-- one hold more: where a line is needed and none is free, the register refuses
module _ {c : Command} {i p : ℕ} {t : Tables} {l register : List ℕ} (m : Adds c i p) (same : Itself (store_by t register) c) (h : i < 32) where
  pub refused_line : table_verdict t.base c ≡ accepted → false ≡ not (no_line register i p)
      → Did c (store_by t register) l (effect (answered (Err Register)) (store_by t register) l)
  refused_line tables e =
      refused_last m.seat same h tables (unfold register_verdict in (ap first_of (m.row register) ∙ row-given (no_line register i p) Register (go (no_line register i p) e)))
    where
      go : (b : Bool) → false ≡ not b → T b
      go true e = tt
      go false e = absurd (let z : ◌≡◌ {A = ℕ} 0 1 = cc e in omega arith)

  pub done_more : {v f : ℕ} {t' : Tables} {l' register' : List ℕ} → true ≡ not (no_line register i p)
      → DidTables c t l (tables_effect (answered (done v f)) t' l') → register' ≡ one_more_by register i p
      → Did c (store_by t register) l (effect (answered (done v f)) (store_by t' register') l')
  done_more e d new =
      done_seated m.seat same h (unfold register_verdict in (ap first_of (m.row register) ∙ row_passed (no_line register i p) Register (subst T e tt)))
      d (new ∙ sym (m.notes register))

-- one hold less: where the seat has none, the register refuses
module _ {c : Command} {i p : ℕ} {t : Tables} {l register : List ℕ} (m : Takes c i p) (same : Itself (store_by t register) c) (h : i < 32) where
  pub refused_yours : table_verdict t.base c ≡ accepted → held_by register i p ≡ 0
      → Did c (store_by t register) l (effect (answered (Err NotYours)) (store_by t register) l)
  refused_yours tables e =
      refused_last m.seat same h tables
      (unfold register_verdict in (ap first_of (m.row register) ∙ row-given (not_yours register i p) NotYours (unfold not_yours in (eqb_of e))))

  pub done_less : {v f : ℕ} {t' : Tables} {l' register' : List ℕ} → (held_by register i p ≡ 0 → ⊥)
      → DidTables c t l (tables_effect (answered (done v f)) t' l') → register' ≡ one_less_by register i p
      → Did c (store_by t register) l (effect (answered (done v f)) (store_by t' register') l')
  done_less some d new =
      done_seated m.seat same h
      (unfold register_verdict in (ap first_of (m.row register) ∙ row_passed (not_yours register i p) NotYours (unfold not_yours in (neqb_of some))))
      d (new ∙ sym (m.notes register))
