-- The walk over the queue: the places of the pieces before j are looked at, and what they name stands in the queue.
use Rattle.std.specs.Prelude.{◌≡◌, ◌⊎◌, List, ℕ, ◌+◌, ◌*◌, ◌≤◌, ◌<◌, length, set}
use Rattle.std.proofs.Common.{sym, ap, ◌∙◌, subst, inl, inr, ⊎_elim, arith, get_or-set_same}
use Rattle.std.proofs.Math.ListN.{get_or-eq_default}
use Rattle.rules.specs.Lists.{◌!◌}
use Rattle.rules.specs.Reach.{Reach, here, chain}
use Rattle.laws.specs.Numbers.{eq_or, lt_or}
use Rattle.paths.specs.Ground.{link_in}
use Rattle.gathering.specs.Queue.{Gathering, queue_none, queue_put, queue_most}
use Rattle.gathering.specs.Looked.{Walked, looked_start, looked-all, Looking, LookedAt}

-- all drafts that p reaches stand in the queue, each once, and none else; they alone have another leader
pub record Gathered (n : ℕ) (states links leaders entries : List ℕ) (p : ℕ) (leaders' entries' : List ℕ) (size : ℕ) : Type 0 where
  pub leaders_n : length leaders' ≡ length leaders
  pub entries_n : length entries' ≡ length entries
  pub some : 0 < size
  pub most : size ≤ n
  pub first : entries' ! 0 ≡ p
  pub each : (j : ℕ) → j < size → (entries' ! j < n) × (states ! (entries' ! j) ≡ 1) × Reach n (link_in links) p (entries' ! j)
  pub all : (q : ℕ) → q < n → states ! q ≡ 1 → Reach n (link_in links) p q → (j : ℕ) × (j < size) × (entries' ! j ≡ q)
  pub apart : (i j : ℕ) → i < j → j < size → entries' ! i ≡ entries' ! j → ⊥
  pub left : (q : ℕ) → (states ! q ≡ 1 → ⊥) ⊎ (Reach n (link_in links) p q → ⊥) → leaders' ! q ≡ leaders ! q
  pub behind : (i : ℕ) → size ≤ i → entries' ! i ≡ entries ! i

-- the walk begins with p alone
pub walked_start : {n : ℕ} {states links leaders entries : List ℕ} {p : ℕ} → Gathering n states links leaders entries p
    → Walked n states links leaders entries p (set leaders p p) (set entries 0 p) 0 1
walked_start {n} {states} {links} {leaders} {entries} {p} g = record {
  queue = queue_put g (queue_none g) (record { below = g.below; draft = g.is; bare = g.bare p g.below g.is }) here;
  first = (omega arith, get_or-set_same entries 0 p 0 (let x = g.below in omega (arith, g.entries_n)));
  most = omega arith;
  closed = λ i k h. absurd (omega arith);
}

-- one piece more
pub walked_more : {n : ℕ} {states links leaders₀ entries₀ : List ℕ} {p : ℕ} {leaders entries : List ℕ} {j tail : ℕ} {leaders' entries' : List ℕ} {tail' : ℕ}
    → Gathering n states links leaders₀ entries₀ p → Walked n states links leaders₀ entries₀ p leaders entries j tail → j < tail
    → LookedAt n states links (entries ! j) leaders entries tail 4 leaders' entries' tail' → Walked n states links leaders₀ entries₀ p leaders' entries' (j + 1) tail'
walked_more g a h x = looked-all g (x.on g (looked_start g a h))

pub walked_looking : {n : ℕ} {states links leaders₀ entries₀ : List ℕ} {p : ℕ} {leaders entries : List ℕ} {j tail : ℕ} → Gathering n states links leaders₀ entries₀ p
    → Walked n states links leaders₀ entries₀ p leaders entries j tail → j < tail → Looking n states links leaders entries (entries ! j) tail
walked_looking {leaders₀ = leaders₀} {entries₀} {p} {j = j} g a h = record { leaders₀ = leaders₀; entries₀ = entries₀; p = p; j = j; begun = g; looked = looked_start g a h }

-- whatever the walk began with, it has come from its start to piece j
pub record WalkedOn (n : ℕ) (states links : List ℕ) (p : ℕ) (leaders entries leaders' entries' : List ℕ) (j tail : ℕ) : Type 0 where
  pub on : {leaders₀ entries₀ : List ℕ} → Gathering n states links leaders₀ entries₀ p → Walked n states links leaders₀ entries₀ p leaders entries 0 1
      → Walked n states links leaders₀ entries₀ p leaders' entries' j tail
  pub leaders_n : length leaders' ≡ length leaders
  pub entries_n : length entries' ≡ length entries

module _ {n : ℕ} {states links leaders₀ entries₀ : List ℕ} {p : ℕ} (g : Gathering n states links leaders₀ entries₀ p) {leaders entries : List ℕ} {j tail : ℕ}
    (w : WalkedOn n states links p (set leaders₀ p p) (set entries₀ 0 p) leaders entries j tail) where
  pub now_walked : Walked n states links leaders₀ entries₀ p leaders entries j tail
  now_walked = w.on g (walked_start g)

  pub now_most : tail ≤ n
  now_most = queue_most g now_walked.queue

  pub now_more : j < tail → {leaders' entries' : List ℕ} {tail' : ℕ} → LookedAt n states links (entries ! j) leaders entries tail 4 leaders' entries' tail'
      → length leaders' ≡ length leaders → length entries' ≡ length entries
      → WalkedOn n states links p (set leaders₀ p p) (set entries₀ 0 p) leaders' entries' (j + 1) tail'
  now_more h x a b = record {
    on = λ f v. walked_more f (w.on f v) h x;
    leaders_n = a ∙ w.leaders_n;
    entries_n = b ∙ w.entries_n;
  }

module _ {n : ℕ} {states links leaders₀ entries₀ : List ℕ} {p : ℕ} (g : Gathering n states links leaders₀ entries₀ p) {leaders entries : List ℕ} {j tail : ℕ}
    (a : Walked n states links leaders₀ entries₀ p leaders entries j tail) (end : tail ≤ j) where
  -- a piece of the queue reaches no draft that does not stand there
  on : {x q : ℕ} → states ! x ≡ 1 → leaders ! x < n → Reach n (link_in links) x q → states ! q ≡ 1 → leaders ! q < n
  on d h here e = h
  on {x} {q} d h (chain {q = y} l r) e = ⊎_elim
      (λ f. on f (next (a.queue.all x l.from d h) f) r e)
      (λ f. absurd (g.closed.stays d l f e r))
      (eq_or (states ! y) 1)
    where
      next : (i : ℕ) × (i < tail) × (entries ! i ≡ x) → states ! y ≡ 1 → leaders ! y < n
      next w f =
          let names : links ! (4 * (entries ! w.0) + l.place) ≡ y = ap (λ (z : ℕ). links ! (4 * z + l.place)) w.2 ∙ l.names in
          subst (λ (z : ℕ). leaders ! z < n) names
          (a.closed w.0 l.place (let k = w.1 in omega arith) l.inside (subst (λ (z : ℕ). z < n) (sym names) l.to) (ap (λ (z : ℕ). states ! z) names ∙ f))

  p_marked : leaders ! p < n
  p_marked =
      subst (λ (x : ℕ). leaders ! x < n) a.first.1 (a.queue.each 0 a.first.0).marked

  pub gathered : Gathered n states links leaders₀ entries₀ p leaders entries tail
  gathered = record {
    leaders_n = a.queue.leaders_n;
    entries_n = a.queue.entries_n;
    some = a.first.0;
    most = queue_most g a.queue;
    first = a.first.1;
    each = λ i h. let m = a.queue.each i h in (m.below, m.draft, m.reached);
    all = λ q h d r. a.queue.all q h d (on g.is p_marked r d);
    apart = a.queue.apart;
    left = λ q f. ⊎_elim (λ d. draft_left q d f) (λ d. a.queue.left q d) (eq_or (states ! q) 1);
    behind = a.queue.behind;
  }
    where
      inside : (q : ℕ) → states ! q ≡ 1 → q < n
      inside q d = ⊎_elim (λ h. h) (λ h. absurd (let z = get_or-eq_default states 0 (subst (λ (m : ℕ). m ≤ q) (sym g.states_n) h) in omega arith)) (lt_or q n)

      draft_left : (q : ℕ) → states ! q ≡ 1 → (states ! q ≡ 1 → ⊥) ⊎ (Reach n (link_in links) p q → ⊥) → leaders ! q ≡ leaders₀ ! q
      draft_left q d (inl f) = absurd (f d)
      draft_left q d (inr f) = ⊎_elim
          (λ h. let w = a.queue.all q (inside q d) d h in absurd (f (subst (Reach n (link_in links) p) w.2 (a.queue.each w.0 w.1).reached)))
          (λ e. e ∙ sym (g.bare q (inside q d) d))
          (a.queue.either q (inside q d) d)
