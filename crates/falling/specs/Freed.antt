-- The whole of a letting go: the tables on return are those of the rulebook after the freeing, and the list gives what was freed.
use Rattle.std.specs.Prelude.{◌≡◌, refl, ℕ, ◌+◌, ◌*◌, ◌≤◌, ◌<◌}
use Rattle.std.proofs.Math.Path.{sym, ap, ap₂}
use Rattle.std.proofs.Common.{◌∙◌, subst, arith, length-drop, ext_get_or, get_or-drop}
use mathlib.Core.List.{List, [], ◌∷◌, ◌++◌}
use Rattle.std.proofs.Math.ListN.{length, drop}
use Rattle.rules.specs.Below.{list}
use Rattle.rules.specs.Tables.{Base, finish}
use Rattle.rules.specs.Commands.{free_all, gone, gone_list}
use Rattle.rules.specs.Calls.{listing}
use Rattle.rules.specs.Lists.{◌!◌}
use Rattle.laws.specs.Tests.{same_test}
use Rattle.falling.specs.Queue.{Known, Marked, Inv, is_marked}
use Rattle.falling.specs.Marking.{is_marked→, →is_marked}
use Rattle.falling.specs.Steps.{of_capacity, Stepped}
use Rattle.falling.specs.End.{marked_test, test_marked, states_are, links_are, holds_are}
use Rattle.falling.specs.Final.{leaders_are, counts_are}
use Rattle.falling.specs.Listing.{list_cong, list_many, Swept}

-- what the rules leave where every frozen piece of e that is not kept becomes free
pub record Settled (e : Base) (queue states' links' leaders' counts' queue' : List ℕ) (r : ℕ) : Type 0 where
  pub states : states' ≡ (free_all e (gone e)).states
  pub links : links' ≡ (free_all e (gone e)).links
  pub holds : e.holds ≡ (free_all e (gone e)).holds
  pub leaders : leaders' ≡ (finish (free_all e (gone e))).leaders
  pub counts : counts' ≡ (finish (free_all e (gone e))).counts
  pub listed : queue' ≡ listing (gone_list e) queue
  pub many : r ≡ length (gone_list e)

drop_same : (a b : List ℕ) (r : ℕ) → length a ≡ length b → ((i : ℕ) → r ≤ i → a ! i ≡ b ! i) → drop r a ≡ drop r b
drop_same a b r l h =
    ext_get_or 0 (drop r a) (drop r b) (omega (arith, length-drop r a, length-drop r b))
    (λ i _. get_or-drop r a i 0 ∙ h (r + i) (omega arith) ∙ sym (get_or-drop r b i 0))

module _ {e : Base} {leaders states links counts queue : List ℕ} {tail : ℕ} (k : Known e leaders)
    (v : Inv e leaders states links counts queue (4 * tail) tail) where
  tests : (p : ℕ) → p < e.n → is_marked e.n leaders states p ≡ gone e p
  tests p h =
      same_test (is_marked e.n leaders states p) (gone e p) (λ t. marked_test k v p (is_marked→ leaders states h t))
      (λ t. →is_marked (test_marked k v p h t))

  lists : list (is_marked e.n leaders states) e.n ≡ gone_list e
  unfolding gone_list
  lists = list_cong (is_marked e.n leaders states) (gone e) e.n tests

  -- the list was queue₀ before the letting go
  settled : {queue₀ leaders' queue' : List ℕ} {r : ℕ} → length e.holds ≡ e.n → length queue ≡ length queue₀
      → ((i : ℕ) → tail ≤ i → queue ! i ≡ queue₀ ! i) → Swept e.n states leaders queue leaders' queue' r
      → Settled e queue₀ states links leaders' counts queue' r
  unfolding listing
  settled {queue₀} {leaders'} {queue'} {r} holds_n same rest w =
      let all_listed : r ≡ tail = w.many ∙ list_many (is_marked e.n leaders states) e.n ∙ sym v.core.queued.many in
      record {
        states = states_are k v;
        links = links_are k v;
        holds = holds_are k v holds_n;
        leaders = leaders_are k v w.cleared;
        counts = counts_are k v w.cleared holds_n;
        listed =
            w.listed ∙ ap₂ (λ (x y : List ℕ). x ++ y) lists (drop_same queue queue₀ r same (λ i h. rest i (omega arith)))
            ∙ ap (λ (x : ℕ). gone_list e ++ drop x queue₀) (w.many ∙ ap length lists);
        many = w.many ∙ ap length lists;
      }

-- nothing fell: nothing is left to list
none_swept : {e : Base} {leaders states links counts queue : List ℕ} → Inv e leaders states links counts queue 0 0
    → Swept e.n states leaders queue leaders queue 0
none_swept {e} {leaders} {states} {links} {counts} {queue} v =
    let none_marked : (p : ℕ) → Marked e.n leaders states p → ⊥ = λ p g. omega (arith, (v.core.queued.listed p g).1) in
    let xs : List ℕ = list (is_marked e.n leaders states) e.n in
    let many : 0 ≡ length xs = v.core.queued.many ∙ sym (list_many (is_marked e.n leaders states) e.n) in
    record {
      cleared = record { size = v.core.lengths.leaders_n; off = λ p _ g. absurd (none_marked p g); on = λ p _ _. refl };
      listed = ap (λ (l : List ℕ). l ++ queue) (empty xs many);
      many = many;
    }
  where
    empty : (l : List ℕ) → 0 ≡ length l → [] ≡ l
    empty [] h = refl
    empty (x ∷ l) h = absurd (omega arith)

-- what a letting go leaves, whatever it began with
pub record Freed (n : ℕ) (states links leaders counts queue : List ℕ) (first : ℕ) (states' links' leaders' counts' queue' : List ℕ) (r : ℕ) : Type 0 where
  pub all : (began : Base) {queue₀ : List ℕ} → length began.holds ≡ n → Known (of_capacity n began) leaders
      → Inv (of_capacity n began) leaders states links counts queue 0 first → length queue ≡ length queue₀
      → ((i : ℕ) → first ≤ i → queue ! i ≡ queue₀ ! i) → Settled (of_capacity n began) queue₀ states' links' leaders' counts' queue' r

module _ {n : ℕ} {states links leaders counts queue : List ℕ} {first : ℕ} where
  -- no group fell: nothing changes
  pub none_freed : first ≡ 0 → Freed n states links leaders counts queue first states links leaders counts queue 0
  none_freed z = record {
    all = λ b holds_n k v same rest.
        let w : Inv (of_capacity n b) leaders states links counts queue 0 0 =
        subst (λ (x : ℕ). Inv (of_capacity n b) leaders states links counts queue 0 x) z v in
        settled k w holds_n same (λ i _. rest i (omega arith)) (none_swept w);
  }

  -- the places of the queue are erased and the marked pieces listed
  pub all_freed : {states' links' counts' queue₁ leaders' queue' : List ℕ} {tail r : ℕ}
      → Stepped n leaders states links counts queue 0 first states' links' counts' queue₁ (4 * tail) tail → length queue₁ ≡ length queue
      → Swept n states' leaders queue₁ leaders' queue' r
      → Freed n states links leaders counts queue first states' links' leaders' counts' queue' r
  all_freed d same w = record {
    all = λ b holds_n k v same₀ rest.
        settled k (d.inv b k v) holds_n (same ∙ same₀) (λ i u. d.rest i u ∙ rest i (omega (arith, d.grows))) w;
  }
