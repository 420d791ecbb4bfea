-- Demand 3: after any history, each accepted call lists exactly the frozen pieces that no chain of links reaches any more from a draft or from a held piece.
use Rattle.std.proofs.Math.Path.{◌≡◌, refl, ap, subst}
use Rattle.std.proofs.Common.{sym, ◌∙◌}
use Rattle.std.specs.Prelude.{◌⊎◌, ◌↔◌, Bool, true, ℕ, ◌+◌, ◌≤◌, ◌<◌, T, length}
use Rattle.std.proofs.Math.Logic.{inl, inr, ⊎_elim}
use Rattle.std.proofs.Math.Bool.{false}
use mathlib.Core.List.{List, [], ◌∷◌, ◌++◌}
use native.Mathlib.Omega.{arith}
use Rattle.std.proofs.Math.ListN.{drop}
use Rattle.std.proofs.lemmas.List.{get_or-replicate}
use Rattle.std.proofs.Math.Seq.{take-append_seam}
use Rattle.rules.specs.Tests.{pick}
use Rattle.rules.specs.Limits.{most}
use Rattle.rules.specs.Lists.{Among, Ascending, nil}
use Rattle.rules.specs.Tables.{Base, Store, state, holds_of, finish, empty_tables}
use Rattle.rules.specs.Words.{Draft, Frozen, Live, Root, Kept, SizedBase, Well, wfree, wdraft, wfrozen}
use Rattle.rules.specs.Commands.{accepted, meant, gone, gone_list, edit, settles, freed_by, after, next_tables, next_store}
use Rattle.rules.specs.Calls.{Call, start, does, check, Areas, Outcome, done_by, accepted_by, listing}
use Rattle.rules.specs.Calls.{cleared, accepted_call, judge, outcome_of, Promise}
use Rattle.rules.specs.History.{Event, event, is_accepted, History, accepting, added, taken, Held, freed_in, listed, Reached, changed, Listing}
use Rattle.rules.specs.declared.Command.{Command}
use Rattle.rules.specs.declared.Command.TheVariants.{New, Set, Freeze, Acquire, Release, Bin, Look}
use Rattle.laws.specs.Below.{among_nil, ascending_list}
use Rattle.laws.specs.Sound.{Good, sound→entries}
use Rattle.laws.specs.Passes.{Passes, passes}
use Rattle.laws.specs.Commands.{edit-n, edit-well, freed↔}
use Rattle.laws.specs.Verdicts.{all_accept}
use Rattle.laws.specs.Calls.{accepted_judged, accepted_outcome, judged}
use Rattle.laws.specs.Held.{after_same}
use Rattle.demands.specs.Meant.{freed_meant, bin_meant, meant_bin}
use Rattle.demands.specs.History.{Follows, follows}
use Rattle.laws.specs.Freed.{alone}

-- ---- kept by the table of holds, and reached by the history's

module _ (h : List Event) (b : Base) (wells : (p : ℕ) → p < b.n → Well b p) (held : (p : ℕ) → p < b.n → holds_of b p + taken p h ≡ added p h) where
  pub kept→reached : (p : ℕ) → Kept b p → Reached h b p
  kept→reached p k = record { root = k.root; is = go k.is; reached = k.reached }
    where
      go : Root b k.root → Draft b k.root ⊎ ((k.root < b.n) × Held h k.root)
      go (inl d) = inl d
      go (inr f) = inr (f.0.below, let x = held k.root f.0.below in let y = f.1 in omega arith)

  pub reached→kept : (p : ℕ) → Reached h b p → Kept b p
  reached→kept p k = record { root = k.root; is = go k.is; reached = k.reached }
    where
      frozen : (r : ℕ) → r < b.n → 0 < holds_of b r → Well b r → Frozen b r
      frozen r l x (wfree w) = absurd (let y = w.holds in omega arith)
      frozen r l x (wdraft w) = absurd (let y = w.holds in omega arith)
      frozen r l x (wfrozen w) = record { below = l; is = w.is }

      go : Draft b k.root ⊎ ((k.root < b.n) × Held h k.root) → Root b k.root
      go (inl d) = inl d
      go (inr f) = let x : 0 < holds_of b k.root = (let y = held k.root f.0 in let z = f.1 in omega arith) in inr (frozen k.root f.0 x (wells k.root f.0), x)

-- ---- what is listed

-- the list of an accepted command begins with what it frees
listed_command : (a : Areas) (c : Command) → listed (accepted_call a (does c)) ≡ freed_by a.store.tables.base c
unfolding listed accepted_call accepted_by freed_in done_by listing
listed_command a New = take-append_seam (freed_by a.store.tables.base New) _
listed_command a (Set p k t) = take-append_seam (freed_by a.store.tables.base (Set p k t)) _
listed_command a (Freeze p seat) = take-append_seam (freed_by a.store.tables.base (Freeze p seat)) _
listed_command a (Acquire p seat) = take-append_seam (freed_by a.store.tables.base (Acquire p seat)) _
listed_command a (Release p seat) = take-append_seam (freed_by a.store.tables.base (Release p seat)) _
listed_command a (Bin p) = take-append_seam (freed_by a.store.tables.base (Bin p)) _
listed_command a (Look p) = unfold freed_by settles in refl

-- so does that of an outcome that keeps the promise
pub listed_is : (a : Areas) (o : Outcome) (c : Command) → Promise (does c) a o → judge a (does c) ≡ accepted → listed o ≡ freed_by a.store.tables.base c
listed_is a o c p j = ap listed (p.exact ∙ accepted_outcome a (does c) j) ∙ listed_command (cleared a (does c)) c ∙ (unfold cleared in refl)

pub ascending_freed : (b : Base) (c : Command) → Ascending (freed_by b c)
unfolding freed_by
ascending_freed b c = go (settles c)
  where
    go : (x : Bool) → Ascending (pick x (gone_list (edit b c)) [])
    go true = unfold gone_list in (ascending_list (gone (edit b c)) (edit b c).n)
    go false = nil

-- ---- the three kinds of call

start_listing : (h : List Event) (a : Areas) → Listing h start a (accepted_call (cleared a start) start)
unfolding accepted_call cleared listed freed_in changed
start_listing h a = record {
  exact = λ p. (λ m. absurd (among_nil m), λ f. absurd (empty_free p f.0));
  ascending = nil;
  rest = refl;
  alone = λ d p. absurd (d refl);
}
  where
    empty_free : (p : ℕ) → Frozen (empty_tables a.store.tables.base.n).base p → ⊥
    empty_free p f =
        let x : state (empty_tables a.store.tables.base.n).base p ≡ 0 = unfold empty_tables state in (get_or-replicate a.store.tables.base.n p 0 0 f.below) in
        let y = f.is in
        omega arith

module _ (n : ℕ) (h : List Event) (a : Areas) (st : Follows n h a.store) (o : Outcome) where
  base_good : Good a.store.tables.base
  base_good = (sound→entries a.store.tables st.ok.sound.tables).good

  command_listing : (c : Command) → Passes a.store.tables.base (meant a.store c) → Follows n (event (does c) o ∷ h) o.areas.store
      → listed o ≡ freed_by a.store.tables.base (meant a.store c) → o.areas.store.tables.base ≡ after a.store.tables.base (meant a.store c)
      → o.areas.list ≡ listing (freed_by a.store.tables.base (meant a.store c)) a.list → Listing h (does c) a o
  unfolding changed
  command_listing c ps st' ls bs li = record {
    exact = λ p. subst (λ (l : List ℕ). Among p l ↔ (Frozen e p × (¬ Reached h' e p))) (sym ls)
        (λ m. let x = (freed p).0 m in (x.0, λ r. x.1 (reached→kept h' e wells held p r)), λ x. (freed p).1 (x.0, λ k. x.1 (kept→reached h' e wells held p k)));
    ascending = subst Ascending (sym ls) (ascending_freed b d);
    rest = li ∙ (unfold listing in (ap (λ (l : List ℕ). l ++ drop (length l) a.list) (sym ls)));
    alone = λ no p. let x = alone b z base_good d ps p in (
      λ y. ⊎_elim (λ m. inl (subst (Among p) (sym ls) m)) (λ m. inr (ap does (bin_meant a.store c m))) (x.0 (y.0, ap (λ (q : Base). state q p) (sym bs) ∙ y.1)),
      ⊎_elim (λ m. back (x.1 (inl (subst (Among p) ls m)))) (λ m. back (x.1 (inr (meant_bin a.store (bin_of m))))),
    );
  }
    where
      d : Command
      d = meant a.store c

      z : SizedBase a.store.tables.base
      z = st.ok.sized.tables.base

      b : Base
      b = a.store.tables.base

      e : Base
      e = edit b d

      h' : List Event
      h' = event (does c) o ∷ h

      freed : (p : ℕ) → Among p (freed_by b d) ↔ (Frozen e p × (¬ Kept e p))
      freed p = freed↔ b st.ok.sized.tables.base base_good d ps p

      wells : (p : ℕ) → p < e.n → Well e p
      wells = edit-well b z base_good d ps

      held : (p : ℕ) → p < e.n → holds_of e p + taken p h' ≡ added p h'
      held p l =
          let m : p < b.n = subst (λ (x : ℕ). p < x) (edit-n b z base_good d) l in
          let i : p < n = subst (λ (x : ℕ). p < x) st.size m in
          let x = st'.held p i in
          let y : holds_of o.areas.store.tables.base p ≡ holds_of (after b d) p = ap (λ (q : Base). holds_of q p) bs in
          let w = after_same b z base_good d p m in
          omega arith

      back : {p : ℕ} → Live b p × (state (after b d) p ≡ 0) → Live b p × (state o.areas.store.tables.base p ≡ 0)
      back {p} y = (y.0, ap (λ (q : Base). state q p) bs ∙ y.1)

      bin_of : {p : ℕ} → does c ≡ does (Bin p) → c ≡ Bin p
      bin_of m = cc m

  check_listing : o ≡ accepted_call (cleared a check) check → Follows n (event check o ∷ h) o.areas.store → Listing h check a o
  unfolding accepted_call cleared changed listed freed_in
  check_listing e st' = record {
    exact = λ p. subst (λ (l : List ℕ). Among p l ↔ (Frozen b p × (¬ Reached h' b p))) (sym nothing)
        (λ m. absurd (among_nil m), λ x. absurd (x.1 (kept→reached h' b base_good.wells held p (base_good.kept p x.0))));
    ascending = subst Ascending (sym nothing) nil;
    rest = ap (λ (y : Outcome). y.areas.list) e ∙ ap (λ (l : List ℕ). l ++ drop (length l) a.list) (sym nothing);
    alone = λ d p. (λ y. absurd (live_not_free p y), ⊎_elim (λ m. absurd (among_nil (subst (Among p) nothing m))) (λ m. absurd (let w : ◌≡◌ {A = ℕ} 0 1 = cc m in omega arith)));
  }
    where
      b : Base
      b = a.store.tables.base

      h' : List Event
      h' = event check o ∷ h

      nothing : listed o ≡ []
      nothing = ap listed e

      same : o.areas.store ≡ a.store
      same = ap (λ (y : Outcome). y.areas.store) e

      held : (p : ℕ) → p < b.n → holds_of b p + taken p h' ≡ added p h'
      held p l =
          let i : p < n = subst (λ (x : ℕ). p < x) st.size l in
          let y : holds_of o.areas.store.tables.base p ≡ holds_of b p = ap (λ (q : Store). holds_of q.tables.base p) same in
          let x = st'.held p i in
          omega arith

      live_not_free : (p : ℕ) → Live b p × (state o.areas.store.tables.base p ≡ 0) → ⊥
      live_not_free p y =
          let x : state o.areas.store.tables.base p ≡ state b p = ap (λ (q : Store). state q.tables.base p) same in
          let w = y.1 in
          ⊎_elim (λ d. let v = d.is in omega arith) (λ d. let v = d.is in omega arith) y.0

-- Demand 3
pub demand3 : (n : ℕ) → n ≤ most → (h : List Event) (c : Call) (a : Areas) (o : Outcome) → History n h a.store → Promise c a o → T (is_accepted o.reply) → Listing h c a o
unfolding accepted_call cleared next_store next_tables finish
demand3 n m h c a o r p t = go c (accepted_judged a c (subst (λ (x : Outcome). T (is_accepted x.reply)) p.exact t)) p.exact (follows n m (accepting c a o r p t))
  where
    st : Follows n h a.store
    st = follows n m r

    go : (c : Call) → judge a c ≡ accepted → o ≡ outcome_of a c → Follows n (event c o ∷ h) o.areas.store → Listing h c a o
    go start j e st' = subst (Listing h start a) (sym (e ∙ accepted_outcome a start j)) (start_listing h a)
    go (does c) j e st' =
        let x : o ≡ accepted_call (cleared a (does c)) (does c) = e ∙ accepted_outcome a (does c) j in
        let f : freed_by a.store.tables.base c ≡ freed_by a.store.tables.base (meant a.store c) = sym (freed_meant a.store c a.store.tables.base) in
        let ls : listed o ≡ freed_by a.store.tables.base (meant a.store c) = ap listed x ∙ listed_command (cleared a (does c)) c ∙ f in
        let bs : o.areas.store.tables.base ≡ after a.store.tables.base (meant a.store c) = ap (λ (y : Outcome). y.areas.store.tables.base) x in
        let li : o.areas.list ≡ listing (freed_by a.store.tables.base (meant a.store c)) a.list =
        ap (λ (y : Outcome). y.areas.list) x ∙ ap (λ (l : List ℕ). listing l a.list) f in
        command_listing n h a st o c (passes a.store.tables.base (meant a.store c) (all_accept (judged a c j).verdict).tables) st' ls bs li
    go check j e st' = check_listing n h a st o (e ∙ accepted_outcome a check j) st'
