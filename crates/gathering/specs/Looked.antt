-- One piece of the queue: its places are looked at, one by one, and what they name stands in the queue.
use Rattle.std.specs.Prelude.{◌≡◌, refl, List, ℕ, ◌+◌, ◌*◌, ◌≤◌, ◌<◌, length}
use Rattle.std.proofs.Common.{sym, ap, ◌∙◌, subst, ⊎_elim, le_refl, arith, get_or-set_same, get_or-set_other}
use Rattle.rules.specs.Lists.{◌!◌}
use Rattle.rules.specs.Reach.{Reach}
use Rattle.laws.specs.Numbers.{eq_or}
use Rattle.laws.specs.Words.{trans}
use Rattle.paths.specs.Ground.{link_in, one_step}
use Rattle.gathering.specs.Put.{Putting, Put, stayed, put}
use Rattle.gathering.specs.Queue.{Gathering, Mine, Queue, queue_put, putting}

-- t, if it is a draft, stands in the queue
abbrev Seen : ℕ → List ℕ → List ℕ → ℕ → Type 0
Seen n states leaders t = t < n → states ! t ≡ 1 → leaders ! t < n

-- the queue has grown: what stood there stands at its place
record Grown (n : ℕ) (leaders entries : List ℕ) (tail : ℕ) (leaders' entries' : List ℕ) (tail' : ℕ) : Type 0 where
  pub least : tail ≤ tail'
  pub still : (q : ℕ) → leaders ! q < n → leaders' ! q < n
  pub before : (j : ℕ) → j < tail → entries' ! j ≡ entries ! j

-- the first j pieces of the queue are passed
pub record Walked (n : ℕ) (states links leaders₀ entries₀ : List ℕ) (p : ℕ) (leaders entries : List ℕ) (j tail : ℕ) : Type 0 where
  pub queue : Queue n states links leaders₀ entries₀ p leaders entries tail
  pub first : (0 < tail) × (entries ! 0 ≡ p)
  pub most : j ≤ tail
  pub closed : (i k : ℕ) → i < j → k < 4 → links ! (4 * (entries ! i) + k) < n → states ! (links ! (4 * (entries ! i) + k)) ≡ 1
      → leaders ! (links ! (4 * (entries ! i) + k)) < n

-- of piece j the first k places are
pub record Looked (n : ℕ) (states links leaders₀ entries₀ : List ℕ) (p q j k tail : ℕ) (leaders entries : List ℕ) : Type 0 where
  pub walked : Walked n states links leaders₀ entries₀ p leaders entries j tail
  pub more : j < tail
  pub at : entries ! j ≡ q
  pub seen : (m : ℕ) → m < k → links ! (4 * q + m) < n → states ! (links ! (4 * q + m)) ≡ 1 → leaders ! (links ! (4 * q + m)) < n

module _ {n : ℕ} {states links leaders₀ entries₀ : List ℕ} {p : ℕ} (g : Gathering n states links leaders₀ entries₀ p) where
  pub looked_start : {leaders entries : List ℕ} {j tail : ℕ} → Walked n states links leaders₀ entries₀ p leaders entries j tail → j < tail
      → Looked n states links leaders₀ entries₀ p (entries ! j) j 0 tail leaders entries
  looked_start w h = record { walked = w; more = h; at = refl; seen = λ m l. absurd (omega arith) }

  module _ {leaders entries : List ℕ} {q j k tail : ℕ} (a : Looked n states links leaders₀ entries₀ p q j k tail leaders entries) where
    mine : Mine n states links p leaders q
    mine = subst (Mine n states links p leaders) a.at (a.walked.queue.each j a.more)

    -- place k is looked at
    looked-more : {leaders' entries' : List ℕ} {tail' : ℕ} → Queue n states links leaders₀ entries₀ p leaders' entries' tail' → Grown n leaders entries tail leaders' entries' tail'
        → Seen n states leaders' (links ! (4 * q + k)) → Looked n states links leaders₀ entries₀ p q j (k + 1) tail' leaders' entries'
    looked-more {leaders'} {entries'} {tail'} c w s = record {
      walked = record {
        queue = c;
        first = (omega (arith, w.least, a.walked.first.0), w.before 0 a.walked.first.0 ∙ a.walked.first.1);
        most = omega (arith, w.least, a.walked.most);
        closed = λ i m h l u d.
            let e = w.before i (omega (arith, a.more)) in
            subst (λ (x : ℕ). links ! (4 * x + m) < n → states ! (links ! (4 * x + m)) ≡ 1 → leaders' ! (links ! (4 * x + m)) < n) (sym e)
            (λ v f. w.still _ (a.walked.closed i m h l v f)) u d;
      };
      more = omega (arith, w.least, a.more);
      at = w.before j a.more ∙ a.at;
      seen = λ m l u d. ⊎_elim
          (λ e. subst (λ (x : ℕ). links ! (4 * q + x) < n → states ! (links ! (4 * q + x)) ≡ 1 → leaders' ! (links ! (4 * q + x)) < n) (sym e) s u d)
          (λ f. w.still _ (a.seen m (omega arith) u d))
          (eq_or m k);
    }

    pub looked-next : k < 4 → {leaders' entries' : List ℕ} {tail' : ℕ} → Put n states leaders entries (links ! (4 * q + k)) tail leaders' entries' tail'
        → Looked n states links leaders₀ entries₀ p q j (k + 1) tail' leaders' entries'
    looked-next h (stayed f) =
        looked-more a.walked.queue (record { least = le_refl tail; still = λ r x. x; before = λ i _. refl })
        (λ u d. ⊎_elim (λ x. x) (λ e. absurd (f (record { below = u; draft = d; bare = e }))) (a.walked.queue.either (links ! (4 * q + k)) u d))
    looked-next h (put f) =
        looked-more (queue_put g a.walked.queue f way)
        (record {
          least = omega arith;
          still = λ r x. subst (λ (y : ℕ). y < n) (sym (get_or-set_other leaders (links ! (4 * q + k)) r (links ! (4 * q + k)) 0 (apart r x))) x;
          before = λ i l. get_or-set_other entries tail i (links ! (4 * q + k)) 0 (λ e. omega arith);
        })
        (λ u d. subst (λ (y : ℕ). y < n) (sym (get_or-set_same leaders (links ! (4 * q + k)) (links ! (4 * q + k)) 0 inside)) u)
      where
        t : ℕ
        t = links ! (4 * q + k)

        inside : links ! (4 * q + k) < length leaders
        inside = omega (arith, f.below, a.walked.queue.leaders_n, g.leaders_n)

        apart : (r : ℕ) → leaders ! r < n → r ≡ links ! (4 * q + k) → ⊥
        apart r x e = let y : leaders ! r ≡ leaders ! (links ! (4 * q + k)) = ap (λ (z : ℕ). leaders ! z) e in let z = f.bare in omega (arith, g.small)

        way : Reach n (link_in links) p (links ! (4 * q + k))
        way = trans mine.reached (one_step (record { from = mine.below; to = f.below; place = k; inside = h; names = refl }))

  -- all four are
  pub looked-all : {leaders entries : List ℕ} {q j tail : ℕ} → Looked n states links leaders₀ entries₀ p q j 4 tail leaders entries
      → Walked n states links leaders₀ entries₀ p leaders entries (j + 1) tail
  looked-all {leaders} {entries} {q} {j} a = record {
    queue = a.walked.queue;
    first = a.walked.first;
    most = omega (arith, a.more);
    closed = λ i k h l u d. ⊎_elim
        (λ e. subst (λ (x : ℕ). links ! (4 * x + k) < n → states ! (links ! (4 * x + k)) ≡ 1 → leaders ! (links ! (4 * x + k)) < n)
        (sym (ap (λ (x : ℕ). entries ! x) e ∙ a.at)) (a.seen k l) u d)
        (λ f. a.walked.closed i k (omega arith) l u d)
        (eq_or i j);
  }

-- ---- one piece of the queue

-- q stands in the queue, wherever it began
pub record Looking (n : ℕ) (states links leaders entries : List ℕ) (q tail : ℕ) : Type 0 where
  pub leaders₀ : List ℕ
  pub entries₀ : List ℕ
  pub p : ℕ
  pub j : ℕ
  pub begun : Gathering n states links leaders₀ entries₀ p
  pub looked : Looked n states links leaders₀ entries₀ p q j 0 tail leaders entries

-- wherever it began, the first k places of q are looked at
pub record LookedAt (n : ℕ) (states links : List ℕ) (q : ℕ) (leaders entries : List ℕ) (tail k : ℕ) (leaders' entries' : List ℕ) (tail' : ℕ) : Type 0 where
  pub on : {leaders₀ entries₀ : List ℕ} {p j : ℕ} → Gathering n states links leaders₀ entries₀ p → Looked n states links leaders₀ entries₀ p q j 0 tail leaders entries
      → Looked n states links leaders₀ entries₀ p q j k tail' leaders' entries'

module _ {n : ℕ} {states links : List ℕ} {q : ℕ} {leaders entries : List ℕ} {tail : ℕ} where
  pub at_next : {k : ℕ} {leaders₁ entries₁ : List ℕ} {tail₁ : ℕ} {leaders₂ entries₂ : List ℕ} {tail₂ : ℕ}
      → LookedAt n states links q leaders entries tail k leaders₁ entries₁ tail₁ → k < 4
      → Put n states leaders₁ entries₁ (links ! (4 * q + k)) tail₁ leaders₂ entries₂ tail₂ → LookedAt n states links q leaders entries tail (k + 1) leaders₂ entries₂ tail₂
  at_next a h x = record { on = λ g b. looked-next g (a.on g b) h x }

  -- what one more put asks
  pub at_putting : {k : ℕ} {leaders₁ entries₁ : List ℕ} {tail₁ t : ℕ} → Looking n states links leaders entries q tail
      → LookedAt n states links q leaders entries tail k leaders₁ entries₁ tail₁ → Putting n states leaders₁ entries₁ t tail₁
  at_putting z a = putting z.begun (a.on z.begun z.looked).walked.queue
