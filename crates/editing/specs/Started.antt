-- From an edited base to its freeing: the groups that may have fallen are put into the queue, and the letting go leaves what the rules say.
use Rattle.std.specs.Prelude.{◌≡◌, true, List, [], ◌∷◌, ℕ, suc, ◌+◌, ◌≤◌, ◌<◌, length, drop}
use Rattle.std.proofs.Common.{sym, ◌∙◌, subst, add-one, arith, drop-cons}
use Rattle.std.proofs.lemmas.List.{drop_all}
use Rattle.rules.specs.Limits.{none}
use Rattle.rules.specs.Tables.{Base, Tables, state, link_at}
use Rattle.rules.specs.Words.{Frozen, Well}
use Rattle.rules.specs.Commands.{edit, settles, freed_by}
use Rattle.rules.specs.Calls.{answered, accepted_by, Ready}
use Rattle.rules.specs.declared.Command.{Command}
use Rattle.laws.specs.Passes.{Passes}
use Rattle.rules.specs.Lists.{◌!◌}
use Rattle.tallies.specs.Exact.{Exact}
use Rattle.tallies.specs.Adding.{Labelled}
use Rattle.tallies.specs.Stores.{exact_moves, wells_of, exact_of}
use Rattle.falling.specs.Queue.{Lengths, Known}
use Rattle.falling.specs.Steps.{of_capacity, Going}
use Rattle.falling.specs.Fall.{Begin, OthersCounted, Falling, fall_start, Tipping, Tipped, fallen}
use Rattle.falling.specs.Freed.{Freed, none_freed}
use Rattle.editing.specs.Verdicts.{Worked, freed_from, settled_did}
use Rattle.rules.specs.Replies.{done}

-- ---- sound tables

module _ {s : Tables} (o : Ready s) where
  -- each has its length, and the list has room
  pub lengths_of : (list : List ℕ) → s.base.n ≤ length list → Lengths s.base.n s.leaders s.base.states s.base.links s.counts list
  lengths_of list room = record {
    small = o.sized.base.most;
    leaders_n = o.sized.leaders;
    states_n = o.sized.base.states;
    links_n = o.sized.base.links;
    counts_n = o.sized.counts;
    queue_n = room;
  }

  -- each piece has a label, and each label a count
  pub labelled_of : Labelled s.base.n s.leaders s.counts
  labelled_of = record { small = o.sized.base.most; leaders_n = o.sized.leaders; counts_n = omega (arith, o.sized.counts) }

  -- the labels stay where the states do and the frozen pieces keep their links
  pub exact_kept : {e : Base} → e.n ≡ s.base.n → ((q : ℕ) → state e q ≡ state s.base q) → ((q : ℕ) → q < e.n → Well e q)
      → ((q j : ℕ) → Frozen s.base q → j < 4 → link_at s.base q j ≡ link_at e q j) → Exact e s.leaders
  exact_kept {e} size states wells links =
      exact_moves s.base e s.leaders (wells_of s o) wells
      (record { size = sym size; most = o.sized.base.most; frozen = on; links = links })
      (record {
        size = size;
        most = subst (λ (n : ℕ). n ≤ 1024) (sym size) o.sized.base.most;
        frozen = back;
        links = λ q j f h. sym (links q j (back q f) h);
      })
      (exact_of s o)
    where
      on : (q : ℕ) → Frozen s.base q → Frozen e q
      on q f = record { below = subst (λ (n : ℕ). q < n) (sym size) f.below; is = states q ∙ f.is }

      back : (q : ℕ) → Frozen e q → Frozen s.base q
      back q f = record { below = subst (λ (n : ℕ). q < n) size f.below; is = sym (states q) ∙ f.is }

-- ---- several groups may have fallen

-- those of the pieces xs are put into the queue, one by one
pub record Tippings (n : ℕ) (states leaders counts list : List ℕ) (tail : ℕ) (xs : List ℕ) : Type 0 where
  pub began : Base
  pub known : Known (of_capacity n began) leaders
  pub falling : Falling (of_capacity n began) leaders states counts list tail xs

-- none of them is left
pub record Tumbled (n : ℕ) (states leaders counts list : List ℕ) (tail : ℕ) (xs states' list' : List ℕ) (tail' : ℕ) : Type 0 where
  pub falling : (began : Base) → Known (of_capacity n began) leaders → Falling (of_capacity n began) leaders states counts list tail xs
      → Falling (of_capacity n began) leaders states' counts list' tail' []
  pub grows : tail ≤ tail'
  pub rest : (i : ℕ) → tail' ≤ i → list' ! i ≡ list ! i

-- the first k of the pieces xs are put into the queue
pub record Tumbling (n : ℕ) (states leaders counts list xs : List ℕ) (k : ℕ) (states' list' : List ℕ) (tail' : ℕ) : Type 0 where
  pub falling : (began : Base) → Known (of_capacity n began) leaders → Falling (of_capacity n began) leaders states counts list 0 xs
      → Falling (of_capacity n began) leaders states' counts list' tail' (drop k xs)
  pub rest : (i : ℕ) → tail' ≤ i → list' ! i ≡ list ! i

module _ {n : ℕ} {states leaders counts list xs : List ℕ} {k : ℕ} {states₁ list₁ : List ℕ} {tail₁ : ℕ}
    (a : Tumbling n states leaders counts list xs k states₁ list₁ tail₁) where
  module _ (more : k < length xs) where
    -- the next of them may be put there
    pub tumbling_first : Tippings n states leaders counts list 0 xs → Tipping n states₁ leaders counts list₁ (xs ! k) tail₁
    tumbling_first z = record {
      began = z.began;
      xs = drop (suc k) xs;
      known = z.known;
      falling = rw (drop-cons xs k 0 more) at a.falling z.began z.known z.falling;
    }

    pub tumbling_next : {states₂ list₂ : List ℕ} {tail₂ : ℕ} → Tipped n states₁ leaders counts list₁ (xs ! k) tail₁ states₂ list₂ tail₂
        → Tumbling n states leaders counts list xs (k + 1) states₂ list₂ tail₂
    tumbling_next p = record {
      falling = λ e h f. rw add-one (p.falling e h (rw (drop-cons xs k 0 more) at a.falling e h f));
      rest = λ i u. p.rest i u ∙ a.rest i (omega (arith, p.grows));
    }

  -- all are
  pub tumbled_all : length xs ≤ k → Tumbled n states leaders counts list 0 xs states₁ list₁ tail₁
  tumbled_all end = record {
    falling = λ e h f. rw (drop_all k xs end) at a.falling e h f;
    grows = omega arith;
    rest = a.rest;
  }

-- one group may have
module _ {n : ℕ} {states leaders counts list : List ℕ} {tail t : ℕ} where
  pub tippings_first : {xs : List ℕ} → Tippings n states leaders counts list tail (t ∷ xs) → Tipping n states leaders counts list t tail
  tippings_first {xs} z = record { began = z.began; xs = xs; known = z.known; falling = z.falling }

  pub tumbled_one : {states' list' : List ℕ} {tail' : ℕ} → Tipped n states leaders counts list t tail states' list' tail'
      → Tumbled n states leaders counts list tail (t ∷ []) states' list' tail'
  tumbled_one p = record { falling = λ e k f. p.falling e k f; grows = p.grows; rest = p.rest }

-- ---- the edited base

-- the tables after the edit of command c: they match the edited base e, and at most the groups of the pieces xs have lost their counts
pub record Edited (c : Command) (s : Tables) (list : List ℕ) (e : Base) (counts xs : List ℕ) : Type 0 where
  pub passes : Passes s.base c
  pub on : settles c ≡ true
  pub says : accepted_by s c ≡ answered (done none (length (freed_by s.base c)))
  pub is : e ≡ edit s.base c
  pub holds_n : length e.holds ≡ e.n
  pub begin : Begin e s.leaders counts list
  pub counted : OthersCounted e s.leaders e.states counts xs

module _ {c : Command} {s : Tables} {list : List ℕ} {e : Base} {counts xs : List ℕ} (d : Edited c s list e counts xs) where
  pub edited_tippings : Tippings e.n e.states s.leaders counts list 0 xs
  edited_tippings = record { began = e; known = d.begin.known; falling = fall_start d.begin d.counted }

  -- every group that fell is in the queue
  module _ {states₁ list₁ : List ℕ} {first : ℕ} (f : Tumbled e.n e.states s.leaders counts list 0 xs states₁ list₁ first) where
    all_fallen : Falling e s.leaders states₁ counts list₁ first []
    all_fallen = f.falling e d.begin.known (fall_start d.begin d.counted)

    pub edited_going : Going e.n s.leaders states₁ e.links counts list₁ 0 first
    edited_going = record { began = e; known = d.begin.known; inv = fallen all_fallen }

    pub edited_done : {states' links' leaders' counts' list' : List ℕ} {r : ℕ} → length list₁ ≡ length list
        → Freed e.n states₁ e.links s.leaders counts list₁ first states' links' leaders' counts' list' r
        → Worked c s list (freed_from e states' links' leaders' counts') list' r
    edited_done same z =
        settled_did d.is d.on d.passes d.says d.begin.lengths.small
        (z.all e d.holds_n d.begin.known (fallen all_fallen) same f.rest)

    -- no group fell
    pub edited_none : first ≡ 0 → length list₁ ≡ length list → Worked c s list (freed_from e states₁ e.links s.leaders counts) list₁ 0
    edited_none none same = edited_done same (none_freed none)
