-- Freeze of a draft: what the search finished, turned, is what the rules freeze, with the leaders and counts of the finished store.
use Rattle.std.specs.Prelude.{◌≡◌, not, ℕ, ◌<◌, T, set}
use Rattle.std.proofs.Math.Path.{sym, ap, subst}
use Rattle.std.proofs.Common.{◌∙◌, arith}
use mathlib.Core.List.{List}
use Rattle.std.proofs.Math.Logic.{⊎_elim}
use Rattle.std.proofs.Math.Dec.{T_not}
use Rattle.std.proofs.Math.ListN.{length, get_or}
use Rattle.std.proofs.Math.Seq.{ext_get_or}
use Rattle.rules.specs.Tests.{◌&◌, pick}
use Rattle.rules.specs.Limits.{none}
use Rattle.rules.specs.Below.{table}
use Rattle.rules.specs.Tables.{tables_on, Base, Tables, state, is_draft, is_frozen, link_at, reaches, finish, tables_of}
use Rattle.rules.specs.Words.{Frozen, Reaches, Leader}
use Rattle.rules.specs.Commands.{one_more, freeze_first, edit, settles, after, next_tables}
use Rattle.rules.specs.declared.Command.TheVariants.{Freeze}
use Rattle.rules.specs.Lists.{◌!◌}
use Rattle.laws.specs.Tests.{and_both, and_left, and_right}
use Rattle.laws.specs.Below.{T_dec, pick_true, pick-false, length-table, get_or-table}
use Rattle.laws.specs.Words.{end_below, is_draft→, →is_draft, not_frozen, reaches→, →reaches}
use Rattle.laws.specs.Sound.{Good}
use Rattle.laws.specs.Edits.Freeze.{freeze_first_good}
use Rattle.paths.specs.Classes.{frozen_stays, lead_leader}
use Rattle.tallies.specs.Sums.{get_or_any}
use Rattle.tallies.specs.Tally.{label, CountsMatch}
use Rattle.tallies.specs.Exact.{Exact}
use Rattle.tallies.specs.Stores.{good_of, exact_of}
use Rattle.tallies.specs.Finished.{finished}
use Rattle.recounting.specs.Standing.{Standing}
use Rattle.recounting.specs.Taken.{MadeFrozen}
use Rattle.freezing.specs.Freezable.{Freezable}
use Rattle.freezing.specs.Assembled.{Assembled}

module _ {s : Tables} {work : List ℕ} {p : ℕ} (d : Freezable s work p) where
  abbrev b : Base
  b = s.base

  abbrev n : ℕ
  n = b.n

  -- the base after the freeze
  b' : Base
  b' = freeze_first b p

  good : Good b
  good = good_of s d.ready

  good' : Good b'
  unfolding b' state
  good' = freeze_first_good b d.ready.sized.base good p d.below d.is

  module _ {leaders₁ found queue : List ℕ} {states' leaders' : List ℕ}
      (m : Assembled s.base.n s.base.states s.base.links s.leaders p leaders₁ found queue)
      (t : MadeFrozen s.base.n s.base.states leaders₁ found queue states' leaders') where
    finds : (q : ℕ) → q < n → T (is_draft b q & reaches b p q) → Standing queue q
    unfolding link_at state
    finds q h u = m.all q h ((is_draft→ b q h (and_left (is_draft b q) (reaches b p q) u)).is, reaches→ b p q (and_right (is_draft b q) (reaches b p q) u))

    turns : (q : ℕ) → q < n → Standing queue q → T (is_draft b q & reaches b p q)
    unfolding link_at state
    turns q h e = let r = m.«only» q h e in and_both (is_draft b q) (reaches b p q) (→is_draft b q r.0) (→reaches b p q h r.1)

    state-at : (q : ℕ) → q < n → states' ! q ≡ pick (is_draft b q & reaches b p q) 2 (state b q)
    unfolding state
    state-at q h = ⊎_elim
        (λ u. (t.on q h (finds q h u)).0 ∙ sym (pick_true (is_draft b q & reaches b p q) 2 (b.states ! q) u))
        (λ u. (t.off q (λ e. T_not (is_draft b q & reaches b p q) u (turns q h e))).0 ∙ sym (pick-false (is_draft b q & reaches b p q) 2 (b.states ! q) u))
        (T_dec (is_draft b q & reaches b p q))

    states_are : states' ≡ b'.states
    unfolding b' freeze_first
    states_are =
        ext_get_or 0 states' (table (λ q. pick (is_draft b q & reaches b p q) 2 (state b q)) n) (states_n ∙ sym (length-table _ n))
        (λ q h. let k : q < n = subst (λ (x : ℕ). q < x) states_n h in state-at q k ∙ sym (get_or-table (λ q. pick (is_draft b q & reaches b p q) 2 (state b q)) n q 0 k))
      where
        states_n : length states' ≡ n
        states_n = t.states_n ∙ d.ready.sized.base.states

    state_is : (q : ℕ) → state b' q ≡ states' ! q
    unfolding state
    state_is q = ap (λ (l : List ℕ). get_or l q 0) (sym states_are)

    old : Exact b s.leaders
    old = exact_of s d.ready

    leaders_size : length leaders' ≡ n
    leaders_size = t.leaders_n ∙ m.leaders_n ∙ d.ready.sized.leaders

    label_at : (q : ℕ) → q < n → label leaders' q ≡ leaders' ! q
    label_at q h = get_or_any leaders' q none 0 (omega (arith, leaders_size))

    old_at : (q : ℕ) → q < n → label s.leaders q ≡ s.leaders ! q
    old_at q h = get_or_any s.leaders q none 0 (omega (arith, old.size))

    -- in the frozen store all that a frozen piece reaches is frozen
    frozen_all : (q r : ℕ) → Frozen b' q → Reaches b' q r → r < n → Frozen b' r
    unfolding b' freeze_first
    frozen_all q r f c h = record { below = h; is = frozen_stays b' d.ready.sized.base.most good'.wells f.is c }

    exact' : Exact b' leaders'
    unfolding b' freeze_first
    exact' = record {
      size = leaders_size;
      most = d.ready.sized.base.most;
      leads = λ q f. ⊎_elim (λ u. fresh q f u) (λ u. stays q f u) (T_dec (is_draft b q & reaches b p q));
      others = λ q h nf. rest q h nf;
    }
      where
        reach_below : (q r : ℕ) → q < n → Reaches b' q r → r < n
        reach_below q r h c = end_below h c

        fresh : (q : ℕ) → Frozen b' q → T (is_draft b q & reaches b p q) → Leader b' q (label leaders' q)
        fresh q f u =
            let e = finds q f.below u in
            let l = m.leads q f.below (m.«only» q f.below e) in
            subst (Leader b' q) (sym (label_at q f.below ∙ (t.on q f.below e).1))
            (lead_leader (λ r x y. frozen_all q r f x (reach_below q r f.below x)) l)

        was_frozen : (q : ℕ) → Frozen b' q → T (not (is_draft b q & reaches b p q)) → state b q ≡ 2
        was_frozen q f u = sym (state-at q f.below ∙ pick-false (is_draft b q & reaches b p q) 2 (state b q) u) ∙ sym (state_is q) ∙ f.is

        not_marked : (q : ℕ) → q < n → T (not (is_draft b q & reaches b p q)) → leaders' ! q ≡ s.leaders ! q
        not_marked q h u = (t.off q (λ e. T_not (is_draft b q & reaches b p q) u (turns q h e))).1 ∙ m.left q h (λ e. T_not (is_draft b q & reaches b p q) u (turns q h e))

        stays : (q : ℕ) → Frozen b' q → T (not (is_draft b q & reaches b p q)) → Leader b' q (label leaders' q)
        stays q f u =
            let w = was_frozen q f u in
            let x = old.leads q (record { below = f.below; is = w }) in
            subst (Leader b' q) (sym (label_at q f.below ∙ not_marked q f.below u ∙ sym (old_at q f.below)))
            (record {
              member = record {
                frozen = frozen_all q (label s.leaders q) f (linked x.member.there) x.member.frozen.below;
                there = linked x.member.there;
                back = linked x.member.back;
              };
              lowest = λ r g. x.lowest r (record {
                frozen = record { below = g.frozen.below; is = frozen_stays b d.ready.sized.base.most good.wells w (unlinked g.there) };
                there = unlinked g.there;
                back = unlinked g.back;
              });
            })
          where
            linked : {x y : ℕ} → Reaches b x y → Reaches b' x y
            linked c = unfold link_at in c

            unlinked : {x y : ℕ} → Reaches b' x y → Reaches b x y
            unlinked c = unfold link_at in c

        rest : (q : ℕ) → q < n → (state b' q ≡ 2 → ⊥) → label leaders' q ≡ none
        rest q h nf = ⊎_elim
            (λ u. absurd (nf (state_is q ∙ (t.on q h (finds q h u)).0)))
            (λ u. label_at q h ∙ not_marked q h u ∙ sym (old_at q h)
            ∙ old.others q h (λ e. nf (state_is q ∙ state-at q h ∙ pick-false (is_draft b q & reaches b p q) 2 (state b q) u ∙ e)))
            (T_dec (is_draft b q & reaches b p q))

    -- ---- the whole freeze

    pub frozen : {counts' : List ℕ} → length counts' ≡ s.base.n → CountsMatch s.base.n s.base.links (set s.base.holds p 1) leaders' counts'
        → tables_of s.base.n states' s.base.links leaders' (set s.base.holds p 1) counts' ≡ next_tables s (Freeze p 0)
    unfolding next_tables b' freeze_first
    frozen {counts'} z c = tables ∙ finished b' leaders' exact' good'.wells counts' z c ∙ ap finish (sym after_is)
      where
        tables : tables_of n states' b.links leaders' (set b.holds p 1) counts' ≡ tables_on b' leaders' counts'
        tables = ap (λ (x : List ℕ). tables_of n x b.links leaders' (set b.holds p 1) counts') states_are

        after_is : after b (Freeze p 0) ≡ freeze_first b p
        after_is = unfold after settles edit in (pick-false (is_frozen b p) (one_more b p) (freeze_first b p) (not_frozen b p 1 (unfold state in d.is) tt))
