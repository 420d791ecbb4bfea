-- Freeze and its refusals: of a piece that is no draft, freeze does what acquire does.
use Rattle.std.specs.Prelude.{◌≡◌, Bool, true, false, not, ℕ, ◌<◌, T, eqb, leb, Err}
use Rattle.std.proofs.Math.Path.{refl, ap}
use Rattle.std.proofs.Common.{sym, ◌∙◌, subst, arith}
use mathlib.Core.List.{List, [], ◌∷◌}
use Rattle.rules.specs.Tests.{◌&◌}
use Rattle.rules.specs.Limits.{most_holds}
use Rattle.rules.specs.Tables.{Base, Tables, tables_of, store_by, state, is_free, is_draft, is_frozen, holds_of, finish}
use Rattle.rules.specs.Commands.{Verdict, accepted, refused, first_of, seat_refusals, table_refusals, register_refusals, no_piece, at_limit, no_line, verdict}
use Rattle.rules.specs.Commands.{one_more, freeze_first, edit, settles, after, freed_by, value_of, noted, next_tables, next_store}
use Rattle.rules.specs.Calls.{Ready, ReadyStore, answered, refused_by, accepted_by, done_by, listing, fresh, Effect, effect, effected, effect_of, Did}
use Rattle.rules.specs.Register.{held_by, is_full, one_more_by}
use Rattle.rules.specs.declared.Refusal.{Refusal}
use Rattle.rules.specs.declared.Refusal.TheVariants.{Number, Free, State, Limit, Register}
use Rattle.rules.specs.declared.Command.{Command}
use Rattle.rules.specs.declared.Command.TheVariants.{Freeze, Acquire}
use Rattle.rules.specs.Lists.{◌!◌}
use Rattle.laws.specs.ByTables.{DidTables, tables_effect}
use Rattle.laws.specs.Below.{pick_true}
use Rattle.laws.specs.Words.{neqb_of, is_draft→, →is_frozen}
use Rattle.laws.specs.Passes.{applies, Passes, not_by, passes, live_frozen, table_verdict}
use Rattle.laws.specs.ByTables.{did_accepted}
use Rattle.laws.specs.Rows.{and_then, first-none}
use Rattle.laws.specs.Verdicts.{seat_verdict, register_verdict, own_verdict, all_accept, Itself}
use Rattle.laws.specs.Seated.{freeze_adds, acquire_itself, any_freeze, refused_line, done_more}
use Rattle.laws.specs.Calls.{ready_tables}
use Rattle.laws.specs.Tests.{same_test}
use Rattle.tallies.specs.Stores.{wells_of}
use Rattle.naming.specs.Rows.{piece_rows}
use Rattle.naming.specs.Told.{NamedPiece}
use Rattle.naming.specs.Names.{Names, names_passed}
use Rattle.holding.specs.Acquired.{none_said, room_said}
use Rattle.freezing.specs.Twice.{first_itself, draft_itself}
use Rattle.rules.specs.Replies.{Answer}

and_off : (x y : Bool) → T (not x) → T (not (x & y))
and_off true y t = absurd t
and_off false y t = tt

-- behind the rows for its name freeze has LIMIT alone
pub freeze_names : {b : Base} {p i : ℕ} → Names b (Freeze p i) (piece_rows b.n b.states p) ((at_limit b p, Limit) ∷ [])
unfolding table_refusals is_free state piece_rows
freeze_names = record { rows = refl }

module _ {s : Tables} (ready : Ready s) {p : ℕ} (named : NamedPiece s.base.n s.base.states p) where
  abbrev b : Base
  b = s.base

  -- ---- a draft

  module _ (e : s.base.states ! p ≡ 1) where
    -- no seat is refused by the tables
    draft_accepted : (i : ℕ) → table_verdict b (Freeze p i) ≡ accepted
    unfolding at_limit is_frozen state
    draft_accepted i =
        names_passed freeze_names named.right
        ∙ first-none ((at_limit b p, Limit) ∷ [])
        (and_off (eqb (b.states ! p) 2) (leb most_holds (holds_of b p)) (neqb_of {m = b.states ! p} {n = 2} (λ x. omega arith)), tt)

    -- it is frozen
    draft_did : {s' : Tables} → s' ≡ next_tables s (Freeze p 0) → DidTables (Freeze p 0) s [] (tables_effect (answered fresh) s' [])
    draft_did {s'} same = record { exact = all ∙ (did_accepted (Freeze p 0) s [] (draft_accepted 0)).exact }
      where
        reply : answered fresh ≡ accepted_by s (Freeze p 0)
        reply = unfold accepted_by done_by value_of freed_by settles in refl

        nothing : [] ≡ listing (freed_by b (Freeze p 0)) []
        nothing = unfold listing freed_by settles in refl

        all : tables_effect (answered fresh) s' [] ≡ tables_effect (accepted_by s (Freeze p 0)) (next_tables s (Freeze p 0)) (listing (freed_by b (Freeze p 0)) [])
        all = λ i. record { reply = reply i; tables = same i; list = nothing i }

  -- ---- a piece that is no draft: freeze does what acquire does

  module _ (d : s.base.states ! p ≡ 1 → ⊥) (i : ℕ) (l : List ℕ) (itself : Itself (store_by s l) (Freeze p i)) where
    no_draft : false ≡ is_draft b p
    no_draft = same_test false (is_draft b p) (λ t. absurd t) (λ t. absurd (d (unfold state in (is_draft→ b p named.below t).is)))

    rows : Bool → List (Bool × Refusal)
    rows t = (no_piece b p, Number) ∷ (is_free b p, Free) ∷ (t, State) ∷ (at_limit b p, Limit) ∷ []

    same_by_tables : table_verdict b (Freeze p i) ≡ table_verdict b (Acquire p i)
    same_by_tables = freezes ∙ ap (λ (t : Bool). first_of (rows t)) no_draft ∙ sym acquires
      where
        freezes : table_verdict b (Freeze p i) ≡ first_of (rows false)
        freezes = unfold table_verdict table_refusals first_of rows in refl

        acquires : table_verdict b (Acquire p i) ≡ first_of (rows (is_draft b p))
        acquires = unfold table_verdict table_refusals first_of rows in refl

    same_verdict : verdict (store_by s l) (Freeze p i) ≡ verdict (store_by s l) (Acquire p i)
    same_verdict =
        own_verdict itself
        ∙ ap (λ (v : Verdict). and_then (seat_verdict (Freeze p i)) (and_then v (register_verdict l (Freeze p i)))) same_by_tables
        ∙ (λ k. and_then (seat k) (and_then (table_verdict b (Acquire p i)) (line k)))
        ∙ sym (own_verdict acquire_itself)
      where
        seat : seat_verdict (Freeze p i) ≡ seat_verdict (Acquire p i)
        seat = unfold seat_verdict seat_refusals in refl

        line : register_verdict l (Freeze p i) ≡ register_verdict l (Acquire p i)
        line = unfold register_verdict register_refusals in refl

    -- the store after either
    next_of : (c : Command) → Itself (store_by s l) c → next_store (store_by s l) c ≡ store_by (next_tables s c) (noted l c)
    unfolding next_store
    next_of c x = ap (λ (e : Command). store_by (next_tables s e) (noted l e)) x.is

    same_effect : (v : Verdict) → verdict (store_by s l) (Acquire p i) ≡ v → effected (store_by s l) [] (Acquire p i) v ≡ effected (store_by s l) [] (Freeze p i) v
    same_effect (refused r) e = unfold effected refused_by in refl
    same_effect accepted e = unfold effected in (λ k. effect (reply k) (store k) (nothing k))
      where
        ps : Passes b (Acquire p i)
        ps = passes b (Acquire p i) (subst (λ (c : Command). table_verdict b c ≡ accepted) (acquire_itself {s = store_by s l}).is (all_accept e).tables)

        frozen : T (is_frozen b p)
        frozen = →is_frozen b p (live_frozen b p (wells_of s ready p named.below) (unfold table_refusals applies in (not_by ps Free)) (unfold table_refusals applies in (not_by ps State)))

        reply : accepted_by s (Acquire p i) ≡ accepted_by s (Freeze p i)
        reply = unfold accepted_by done_by value_of freed_by settles in refl

        tables : next_tables s (Acquire p i) ≡ next_tables s (Freeze p i)
        tables = unfold next_tables after settles edit in (ap finish (sym (pick_true (is_frozen b p) (one_more b p) (freeze_first b p) frozen)))

        line : noted l (Acquire p i) ≡ noted l (Freeze p i)
        line = unfold noted in refl

        store : next_store (store_by s l) (Acquire p i) ≡ next_store (store_by s l) (Freeze p i)
        store = next_of (Acquire p i) acquire_itself ∙ (λ k. store_by (tables k) (line k)) ∙ sym (next_of (Freeze p i) itself)

        nothing : listing (freed_by b (Acquire p i)) [] ≡ listing (freed_by b (Freeze p i)) []
        nothing = unfold freed_by settles in refl

-- ---- the arms of freeze

module _ {n p seat : ℕ} {states links leaders holds counts register : List ℕ} (ready : ReadyStore (store_by (tables_of n states links leaders holds counts) register))
    (sits : seat < 32) (named : NamedPiece n states p) where
  -- a draft, and no line is free
  pub freeze_crowded : {r : Bool} → states ! p ≡ 1 → not r ≡ true → r ≡ not (eqb (held_by register seat p) 0 & is_full register)
      → Did (Freeze p seat) (store_by (tables_of n states links leaders holds counts) register) []
      (effect (answered (Err Register)) (store_by (tables_of n states links leaders holds counts) register) [])
  unfolding no_line
  freeze_crowded {r} is none said =
      refused_line freeze_adds (draft_itself ready is) sits (draft_accepted (ready_tables ready) named is seat) (none_said r (no_line register seat p) none said)

  -- a draft that is frozen
  pub freeze_did : {r : Bool} {states' leaders' holds' counts' register' : List ℕ} {a : Answer} → states ! p ≡ 1
      → not r ≡ false → r ≡ not (eqb (held_by register seat p) 0 & is_full register)
      → tables_of n states' links leaders' holds' counts' ≡ next_tables (tables_of n states links leaders holds counts) (Freeze p 0)
      → register' ≡ one_more_by register seat p → a ≡ fresh
      → Did (Freeze p seat) (store_by (tables_of n states links leaders holds counts) register) []
      (effect (answered a) (store_by (tables_of n states' links leaders' holds' counts') register') [])
  unfolding no_line
  freeze_did {r} {states'} {leaders'} {holds'} {counts'} is room said same more answers = record {
    exact =
        (λ k. effect (answered (answers k)) (store_by (tables_of n states' links leaders' holds' counts') (more k)) [])
        ∙ (done_more freeze_adds (draft_itself ready is) sits (room_said r (no_line register seat p) room said) (any_freeze (draft_did (ready_tables ready) named is same)) refl).exact;
  }

  -- any other piece, which the seat does not hold
  pub acquire_did : {o : Effect} → (states ! p ≡ 1 → ⊥) → held_by register seat p ≡ 0
      → Did (Acquire p seat) (store_by (tables_of n states links leaders holds counts) register) [] o
      → Did (Freeze p seat) (store_by (tables_of n states links leaders holds counts) register) [] o
  unfolding effect_of
  acquire_did d none x = record {
    exact =
        x.exact
        ∙ same_effect (ready_tables ready) named d seat register (first_itself ready none) (verdict (store_by (tables_of n states links leaders holds counts) register) (Acquire p seat)) refl
        ∙ ap (effected (store_by (tables_of n states links leaders holds counts) register) [] (Freeze p seat))
        (sym (same_verdict (ready_tables ready) named d seat register (first_itself ready none)));
  }
