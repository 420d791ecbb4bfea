-- Demand 3 over the tables that a caller sees: before and after the call, with no word of what stands between.
use Rattle.std.specs.Prelude.{◌≡◌, refl, ◌⊎◌, ◌↔◌, List, ◌∷◌, ℕ, ◌+◌, ◌≤◌, ◌<◌, T, eqb}
use Rattle.std.proofs.Math.Path.{sym}
use Rattle.std.proofs.Common.{◌∙◌, subst, inl, inr, arith, T_not}
use Rattle.std.proofs.Math.Logic.{⊎_elim}
use Rattle.rules.specs.Limits.{most}
use Rattle.rules.specs.Lists.{Among}
use Rattle.rules.specs.Reach.{here, chain, Link}
use Rattle.rules.specs.Tables.{Base, state, is_frozen, link_at, holds_of}
use Rattle.rules.specs.Words.{Frozen, Live, Reaches, Root, Kept, SizedBase, Well, wfree, wdraft, wfrozen}
use Rattle.rules.specs.Commands.{table_refusals, with_links, with_holds, one_less, free_all, edit, settles, freed_by}
use Rattle.rules.specs.Calls.{Call, start, does, check, Areas, Outcome, judge, Promise}
use Rattle.rules.specs.Commands.{accepted, meant}
use Rattle.rules.specs.History.{Event, event, is_accepted, History, accepting, added, taken, listed, Reached, changed, Listing}
use Rattle.rules.specs.declared.Refusal.TheVariants.{State}
use Rattle.rules.specs.declared.Command.{Command}
use Rattle.rules.specs.declared.Command.TheVariants.{New, Set, Freeze, Acquire, Release, Bin, Look}
use Rattle.laws.specs.Below.{T_dec, pick_true, pick-false, among_nil}
use Rattle.laws.specs.Words.{→is_frozen}
use Rattle.laws.specs.Sound.{Good, sound→entries}
use Rattle.laws.specs.Settle.{state-free_all}
use Rattle.laws.specs.Passes.{applies, Passes, not_by, passes}
use Rattle.laws.specs.Commands.{freed↔}
use Rattle.laws.specs.Verdicts.{all_accept}
use Rattle.laws.specs.Calls.{accepted_judged, judged}
use Rattle.demands.specs.Meant.{freed_meant, accepts_other}
use Rattle.demands.specs.History.{Follows, follows}
use Rattle.demands.specs.Demand3.{demand3, kept→reached, reached→kept, listed_is}

-- in tables whose pieces are well, what a live piece reaches is live
module _ (b : Base) (small : b.n ≤ 1024) (wells : (p : ℕ) → p < b.n → Well b p) where
  link_live : (r q : ℕ) → Live b r → Link b.n (link_at b) r q → Live b q
  link_live r q l k = go l (wells r k.from)
    where
      named : (link_at b r k.place ≡ 65535) ⊎ Live b (link_at b r k.place) → Live b q
      named (inl e) = absurd (let x = k.names in let y = k.to in omega arith)
      named (inr x) = subst (Live b) k.names x

      go : Live b r → Well b r → Live b q
      go (inl d) (wfree w) = absurd (let x = d.is in let y = w.is in omega arith)
      go (inr f) (wfree w) = absurd (let x = f.is in let y = w.is in omega arith)
      go l (wdraft w) = named (w.links k.place k.inside)
      go l (wfrozen w) = named (⊎_elim (λ e. inl e) (λ f. inr (inr f)) (w.links k.place k.inside))

  reach_live : {r p : ℕ} → Live b r → Reaches b r p → Live b p
  reach_live l here = l
  reach_live {r} l (chain {q = q} k x) = reach_live (link_live r q l k) x

  kept_live : (p : ℕ) → Kept b p → Live b p
  kept_live p k = reach_live (go k.is) k.reached
    where
      go : Root b k.root → Live b k.root
      go (inl d) = inl d
      go (inr f) = inr f.0

-- a frozen piece is not binned
not_frozen_bin : (b : Base) (p : ℕ) → Passes b (Bin p) → Frozen b p → ⊥
unfolding table_refusals applies
not_frozen_bin b p ps f = T_not (is_frozen b p) (not_by ps State) (→is_frozen b p f.is)

-- what a command frees was frozen before
module _ (b : Base) (z : SizedBase b) (g : Good b) where
  binned : (q p : ℕ) → Frozen (edit b (Bin q)) p → Frozen b p
  unfolding edit
  binned q p f =
      let h : p < b.n = unfold free_all in f.below in
      let x = state-free_all b (eqb q) p h in
      let y : state (free_all b (eqb q)) p ≡ 2 = f.is in
      ⊎_elim (λ t. absurd (let w = x ∙ pick_true (eqb q p) 0 (state b p) t in omega arith))
      (λ t. record { below = h; is = sym (x ∙ pick-false (eqb q p) 0 (state b p) t) ∙ y }) (T_dec (eqb q p))

  freed_frozen : (c : Command) → Passes b c → (p : ℕ) → Among p (freed_by b c) → Frozen b p
  unfolding freed_by settles
  freed_frozen New ps p m = absurd (among_nil m)
  freed_frozen (Set q k t) ps p m = let f = ((freed↔ b z g (Set q k t) ps p).0 m).0 in record { below = unfold edit with_links in f.below; is = unfold edit with_links state in f.is }
  freed_frozen (Freeze q seat) ps p m = absurd (among_nil m)
  freed_frozen (Acquire q seat) ps p m = absurd (among_nil m)
  freed_frozen (Release q seat) ps p m =
      let f = ((freed↔ b z g (Release q seat) ps p).0 m).0 in record { below = unfold edit one_less with_holds in f.below; is = unfold edit one_less with_holds state in f.is }
  freed_frozen (Bin q) ps p m = binned q p ((freed↔ b z g (Bin q) ps p).0 m).0
  freed_frozen (Look q) ps p m = absurd (among_nil m)

-- Demand 3, over what is seen: listed are exactly the pieces that were frozen before the call and that, in the tables after it, no chain of links reaches from a draft or from a held piece
pub demand3_seen : (n : ℕ) → n ≤ most → (h : List Event) (c : Call) (a : Areas) (o : Outcome) → History n h a.store → Promise c a o → T (is_accepted o.reply)
    → (c ≡ start → ⊥)
    → (p : ℕ) → Among p (listed o) ↔ (Frozen a.store.tables.base p × (¬ Reached (event c o ∷ h) o.areas.store.tables.base p))
demand3_seen n m h c a o r q t d p = (to, from)
  where
    b : Base
    b = a.store.tables.base

    b' : Base
    b' = o.areas.store.tables.base

    h' : List Event
    h' = event c o ∷ h

    all : Listing h c a o
    all = demand3 n m h c a o r q t

    st : Follows n h a.store
    st = follows n m r

    st' : Follows n h' o.areas.store
    st' = follows n m (accepting c a o r q t)

    good : Good b
    good = (sound→entries a.store.tables st.ok.sound.tables).good

    good' : Good b'
    good' = (sound→entries o.areas.store.tables st'.ok.sound.tables).good

    held : (x : ℕ) → x < b'.n → holds_of b' x + taken x h' ≡ added x h'
    held x l = st'.held x (subst (λ (y : ℕ). x < y) st'.size l)

    j : judge a c ≡ accepted
    j = accepted_judged a c (subst (λ (x : Outcome). T (is_accepted x.reply)) q.exact t)

    was : (k : Call) → c ≡ k → Among p (listed o) → Frozen b p
    was start e x = absurd (d e)
    was (does k) e x =
        let y : judge a (does k) ≡ accepted = subst (λ (v : Call). judge a v ≡ accepted) e j in
        freed_frozen b st.ok.sized.tables.base good (meant a.store k) (passes b (meant a.store k) (all_accept (judged a k y).verdict).tables) p
        (subst (Among p) (listed_is a o k (subst (λ (v : Call). Promise v a o) e q) y ∙ sym (freed_meant a.store k b)) x)
    was check e x = unfold changed in (subst (λ (v : Call). Frozen (changed a.store v) p) e ((all.exact p).0 x).0)

    to : Among p (listed o) → Frozen b p × (¬ Reached h' b' p)
    to x = (was c refl x, λ y. gone (kept_live b' st'.ok.sized.tables.base.most good'.wells p (reached→kept h' b' good'.wells held p y)))
      where
        gone : Live b' p → ⊥
        gone l = let w = ((all.alone d p).1 (inl x)).1 in ⊎_elim (λ y. let v = y.is in omega arith) (λ y. let v = y.is in omega arith) l

    from : Frozen b p × (¬ Reached h' b' p) → Among p (listed o)
    from x = go (good'.wells p l)
      where
        l : p < b'.n
        l = subst (λ (y : ℕ). p < y) (st.size ∙ sym st'.size) x.0.below

        binned : c ≡ does (Bin p) → Among p (listed o)
        binned e =
            let y : judge a (does (Bin p)) ≡ accepted = subst (λ (v : Call). judge a v ≡ accepted) e j in
            absurd (not_frozen_bin b p (passes b (Bin p) (accepts_other {s = a.store} refl (judged a (Bin p) y).verdict).tables) x.0)

        go : Well b' p → Among p (listed o)
        go (wfree w) = ⊎_elim (λ y. y) binned ((all.alone d p).0 (inr x.0, w.is))
        go (wdraft w) = absurd (x.1 (record { root = p; is = inl (record { below = l; is = w.is }); reached = here }))
        go (wfrozen w) = absurd (x.1 (kept→reached h' b' good'.wells held p (good'.kept p (record { below = l; is = w.is }))))
