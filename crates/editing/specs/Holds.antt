-- One hold more or less on p: acquire and release, on sound tables.
use Rattle.std.specs.Prelude.{◌≡◌, ℕ, ◌+◌, ◌-◌, ◌≤◌, ◌<◌, length, set, Err}
use Rattle.std.proofs.Math.Path.{refl, sym, subst}
use Rattle.std.proofs.Common.{◌∙◌, arith, le→leb, get_or-set_other}
use mathlib.Core.List.{List, [], ◌∷◌}
use Rattle.std.proofs.Math.Dec.{not_T, leb, leb→le}
use Rattle.std.proofs.Math.ListN.{length-set}
use Rattle.rules.specs.Tests.{◌&◌}
use Rattle.rules.specs.Limits.{none}
use Rattle.rules.specs.Tables.{tables_on, Base, Tables, state, is_free, is_draft, is_frozen, link_at, holds_of}
use Rattle.rules.specs.Words.{Frozen, Well}
use Rattle.rules.specs.Lists.{first, ◌!◌}
use Rattle.rules.specs.Commands.{accepted, table_refusals, at_limit, not_held, edit, with_holds, one_more, one_less, after, settles, freed_by, value_of, next_tables}
use Rattle.rules.specs.Calls.{answered, refused_by, accepted_by, done_by, listing, fresh, Ready}
use Rattle.rules.specs.declared.Refusal.TheVariants.{Limit, NotHeld}
use Rattle.rules.specs.declared.Command.TheVariants.{Acquire, Release}
use Rattle.laws.specs.ByTables.{DidTables, tables_effect}
use Rattle.laws.specs.Tests.{and_both, and_right}
use Rattle.laws.specs.Words.{eqb_of, neqb_of, →is_frozen}
use Rattle.laws.specs.Passes.{Passes, live_frozen, table_verdict}
use Rattle.laws.specs.Commands.{edit-well}
use Rattle.laws.specs.ByTables.{accepts, did_accepted}
use Rattle.tallies.specs.Sums.{get_or_any}
use Rattle.tallies.specs.Tally.{label, CountsMatch}
use Rattle.tallies.specs.Moves.{match_hold, hold_counts}
use Rattle.tallies.specs.Exact.{Exact, label_below}
use Rattle.tallies.specs.Finished.{finished}
use Rattle.tallies.specs.Stores.{good_of, wells_of, exact_of, match_of, counted_of_lem, counts_most}
use Rattle.naming.specs.Told.{NamedPiece}
use Rattle.falling.specs.Queue.{lengths_kept}
use Rattle.falling.specs.Fall.{Begin, OthersCounted}
use Rattle.editing.specs.Started.{lengths_of, exact_kept, Edited}
use Rattle.editing.specs.Names.{acquire_names, release_names, names_pass, own_refused}
use Rattle.rules.specs.Replies.{Answer}

-- ---- the leader of a frozen piece, and its count

-- the leader of p
abbrev leads : Tables → ℕ → ℕ
leads s p = s.leaders ! p

-- the store where p has h holds and its leader the count c
abbrev with_hold : Tables → ℕ → ℕ → ℕ → Tables
with_hold s p h c =
    tables_on (with_holds s.base (set s.base.holds p h)) s.leaders (set s.counts (leads s p) c)

module _ {s : Tables} {p : ℕ} (o : Ready s) (named : NamedPiece s.base.n s.base.states p) (other : s.base.states ! p ≡ 1 → ⊥) where
  abbrev b : Base
  b = s.base

  abbrev l : ℕ
  l = leads s p

  p_frozen : Frozen b p
  unfolding state is_free is_draft
  p_frozen = record {
    below = named.below;
    is = live_frozen b p (wells_of s o p named.below) (neqb_of {m = b.states ! p} {n = 0} named.live) (neqb_of {m = b.states ! p} {n = 1} other);
  }

  label_p : label s.leaders p ≡ l
  label_p = get_or_any s.leaders p none 0 (omega (arith, o.sized.leaders, named.below))

  l-n : l < b.n
  l-n = subst (λ (x : ℕ). x < b.n) label_p (label_below b s.leaders (exact_of s o) p p_frozen)

  -- the count of p's leader can be read, and one more fits
  pub leader_in : (b.n ≤ 1024) × (l < b.n) × (l < length s.counts) × (s.counts ! l < 1028097)
  leader_in = (o.sized.base.most, l-n, omega (arith, o.sized.counts, l-n), counts_most s o l l-n)

  -- ---- the holds of p become h

  module _ (h : ℕ) (wells : (q : ℕ) → q < b.n → Well (with_holds b (set b.holds p h)) q) where
    abbrev e : Base
    e = with_holds b (set b.holds p h)

    exact_e : Exact e s.leaders
    unfolding with_holds state link_at
    exact_e = exact_kept o refl (λ q. refl) wells (λ q j _ _. refl)

    match_e : (x : ℕ) → x + b.holds ! p ≡ s.counts ! l + h
        → CountsMatch b.n b.links (set b.holds p h) s.leaders (set s.counts l x)
    match_e x q =
        match_hold b.n b.links b.holds s.leaders s.counts o.sized.counts (match_of s o) p h x l named.below
        (omega (arith, o.sized.base.holds, named.below)) label_p l-n q

  -- ---- acquire

  pub acquire_limit : 1000 ≤ b.holds ! p → DidTables (Acquire p 0) s [] (tables_effect (answered (Err Limit)) s [])
  unfolding at_limit holds_of refused_by
  acquire_limit h =
      own_refused acquire_names named.right Limit other
      (and_both (is_frozen b p) (leb 1000 (b.holds ! p)) (→is_frozen b p p_frozen.is) (le→leb 1000 (b.holds ! p) h), refl)

  module _ (few : b.holds ! p < 1000) where
    acquire_passes : Passes b (Acquire p 0)
    unfolding at_limit holds_of
    acquire_passes =
        names_pass acquire_names named.right other (
          not_T (is_frozen b p & leb 1000 (b.holds ! p))
              (λ t. omega (arith, leb→le 1000 (b.holds ! p) (and_right (is_frozen b p) (leb 1000 (b.holds ! p)) t))),
          tt,
        )

    -- no seat is refused by the tables
    pub acquire_accepted : (i : ℕ) → table_verdict b (Acquire p i) ≡ accepted
    unfolding table_verdict table_refusals
    acquire_accepted i = accepts acquire_passes

    edit-more : edit b (Acquire p 0) ≡ with_holds b (set b.holds p (b.holds ! p + 1))
    unfolding edit one_more holds_of
    edit-more = refl

    wells_more : (q : ℕ) → q < b.n → Well (with_holds b (set b.holds p (b.holds ! p + 1))) q
    unfolding with_holds
    wells_more = subst (λ (x : Base). (q : ℕ) → q < x.n → Well x q) edit-more (edit-well b o.sized.base (good_of s o) (Acquire p 0) acquire_passes)

    abbrev s' : Tables
    s' = with_hold s p (b.holds ! p + 1) (s.counts ! l + 1)

    next_is : s' ≡ next_tables s (Acquire p 0)
    unfolding next_tables after settles edit one_more holds_of with_holds
    next_is =
        finished s'.base s.leaders (exact_e (b.holds ! p + 1) wells_more) wells_more s'.counts
        (length-set s.counts l (s.counts ! l + 1) ∙ o.sized.counts) (match_e (b.holds ! p + 1) wells_more (s.counts ! l + 1) (omega arith))

    pub acquired : {r : Answer} → r ≡ fresh → DidTables (Acquire p 0) s [] (tables_effect (answered r) s' [])
    unfolding accepted_by done_by value_of freed_by settles listing
    acquired is = record {
      exact = (λ i. record { reply = answered (is i); tables = next_is i; list = [] }) ∙ (did_accepted (Acquire p 0) s [] (accepts acquire_passes)).exact;
    }

-- ---- release

module _ {s : Tables} {list : List ℕ} {p : ℕ} (named : NamedPiece s.base.n s.base.states p) (other : s.base.states ! p ≡ 1 → ⊥) where
  pub release_held : s.base.holds ! p ≡ 0 → DidTables (Release p 0) s list (tables_effect (answered (Err NotHeld)) s list)
  unfolding not_held holds_of refused_by
  release_held h = own_refused release_names named.right NotHeld other (eqb_of {m = s.base.holds ! p} {n = 0} h, refl)

-- a release that is accepted, on sound tables, with room for the list
pub record Releasing (s : Tables) (list : List ℕ) (p : ℕ) : Type 0 where
  pub ready : Ready s
  pub room : s.base.n ≤ length list
  pub named : NamedPiece s.base.n s.base.states p
  pub other : s.base.states ! p ≡ 1 → ⊥
  pub some : s.base.holds ! p ≡ 0 → ⊥

module _ {s : Tables} {list : List ℕ} {p : ℕ} (g : Releasing s list p) where
  abbrev led : (leads s p < s.base.n) × (label s.leaders p ≡ leads s p)
  led = (l-n g.ready g.named g.other, label_p g.ready g.named g.other)

  l_counted : 0 < s.counts ! leads s p
  l_counted =
      omega (
        arith,
        g.some,
        hold_counts s.base.n s.base.links s.base.holds s.leaders p (leads s p) g.named.below led.1,
        match_of s g.ready (leads s p) led.0,
      )

  -- the count of p's leader can be read, and one less is a count
  pub released_in : (s.base.n ≤ 1024) × (leads s p < s.base.n) × (leads s p < length s.counts) × (0 < s.counts ! leads s p)
  released_in = (g.ready.sized.base.most, led.0, omega (arith, g.ready.sized.counts, led.0), l_counted)

  release_passes : Passes s.base (Release p 0)
  unfolding not_held holds_of
  release_passes = names_pass release_names g.named.right g.other (neqb_of {m = s.base.holds ! p} {n = 0} g.some, tt)

  pub release_accepted : (i : ℕ) → table_verdict s.base (Release p i) ≡ accepted
  unfolding table_verdict table_refusals
  release_accepted i = accepts release_passes

  abbrev s₁ : Tables
  s₁ = with_hold s p (s.base.holds ! p - 1) (s.counts ! leads s p - 1)

  edit_less : s₁.base ≡ edit s.base (Release p 0)
  unfolding edit one_less holds_of
  edit_less = refl

  wells_less : (q : ℕ) → q < s.base.n → Well s₁.base q
  unfolding with_holds
  wells_less =
      subst (λ (x : Base). (q : ℕ) → q < x.n → Well x q) (sym edit_less)
      (edit-well s.base g.ready.sized.base (good_of s g.ready) (Release p 0) release_passes)

  begin_release : Begin s₁.base s.leaders s₁.counts list
  unfolding with_holds
  begin_release = record {
    known = record { exact = exact_e g.ready g.named g.other (s.base.holds ! p - 1) wells_less; wells = wells_less };
    matches =
        match_e g.ready g.named g.other (s.base.holds ! p - 1) wells_less (s.counts ! leads s p - 1)
        (omega (arith, g.some, l_counted));
    lengths = lengths_kept (lengths_of g.ready list g.room) refl refl (length-set s.counts (leads s p) (s.counts ! leads s p - 1)) refl;
  }

  -- no group but that of p has lost its count
  counted_release : OthersCounted s₁.base s.leaders s₁.base.states s₁.counts (p ∷ [])
  unfolding with_holds
  counted_release L h own _ off =
      let d : L ≡ leads s p → ⊥ = λ x. off p (first refl) (led.1 ∙ sym x) in
      subst (λ (x : ℕ). 0 < x) (sym (get_or-set_other s.counts (leads s p) L (s.counts ! leads s p - 1) 0 d)) (counted_of_lem s g.ready L h own)

  pub release_edited : Edited (Release p 0) s list s₁.base s₁.counts (p ∷ [])
  unfolding settles accepted_by done_by value_of with_holds
  release_edited = record {
    passes = release_passes;
    on = refl;
    says = refl;
    is = edit_less;
    holds_n = length-set s.base.holds p (s.base.holds ! p - 1) ∙ g.ready.sized.base.holds;
    begin = begin_release;
    counted = counted_release;
  }
