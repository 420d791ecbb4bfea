-- The leaders of the drafts that p reaches: of p alone without a search.
use Rattle.std.specs.Prelude.{◌≡◌, List, ℕ, ◌+◌, ◌*◌, ◌<◌, length, set}
use Rattle.std.proofs.Common.{sym, ◌∙◌, subst, ⊎_elim, arith, length-set, get_or-set_same}
use Rattle.rules.specs.Reach.{Reach, here, chain}
use Rattle.rules.specs.Lists.{◌!◌}
use Rattle.laws.specs.Words.{trans}
use Rattle.laws.specs.Numbers.{eq_or}
use Rattle.paths.specs.Ground.{link_in, Lead, OneWay, ground}
use Rattle.groups.specs.Steps.{Lent}
use Rattle.groups.specs.Grouped.{Visitable, Led, ReachedFrom}
use Rattle.freezing.specs.Unmarked.{Unmarkable, Unmarked}

-- the drafts that p reaches stand in the queue
pub record Findable (n : ℕ) (states links work : List ℕ) (p : ℕ) (queue : List ℕ) : Type 0 where
  pub lent : Lent n states links work
  pub closed : OneWay (ground n states links 1)
  pub below : p < n
  pub is : states ! p ≡ 1
  pub each : (j : ℕ) → j < length queue → queue ! j < n
  pub all : (q : ℕ) → q < n → ReachedFrom n states links 1 p q → (j : ℕ) × (j < length queue) × (queue ! j ≡ q)
  pub alone : length queue ≡ 1 → (q : ℕ) → q < n → ReachedFrom n states links 1 p q → q ≡ p

-- each draft that p reaches has its leader in the third region
pub record Found (n : ℕ) (states links work : List ℕ) (p : ℕ) (work' : List ℕ) : Type 0 where
  pub leads : (q : ℕ) → q < n → ReachedFrom n states links 1 p q → Lead n (link_in links) q (work' ! (2 * n + q))
  pub size : length work' ≡ length work

-- by a search, once all that stands in the queue is unmarked
module _ {n : ℕ} {states links work : List ℕ} {p : ℕ} {queue : List ℕ} (s : Findable n states links work p queue) where
  pub unmarkable : Unmarkable n work queue
  unmarkable = record { small = s.lent.most; work_n = s.lent.work_n; each = s.each }

  module _ {work₁ : List ℕ} (u : Unmarked n work queue (length queue) work₁) where
    pub visitable : Visitable n states links 1 work₁ p
    visitable = record {
      lent = record { most = s.lent.most; states_n = s.lent.states_n; links_n = s.lent.links_n; work_n = omega (arith, u.size, s.lent.work_n) };
      closed = s.closed;
      root_lt = s.below;
      root_in = s.is;
      zeros = λ q h r.
          let w = s.all q h r in
          let z = u.zeros w.0 w.1 in
          (subst (λ (x : ℕ). work₁ ! x ≡ 0) w.2 z.0, subst (λ (x : ℕ). work₁ ! (n + x) ≡ 0) w.2 z.1);
    }

    pub found_search : {work' : List ℕ} → Led n links (ReachedFrom n states links 1 p) work₁ work' → Found n states links work p work'
    found_search m = record { leads = m.leads; size = m.size ∙ u.size }

-- p alone
module _ {n : ℕ} {states links work : List ℕ} {p : ℕ} {queue : List ℕ} (s : Findable n states links work p queue) (e : length queue ≡ 1) where
  -- what lies between two drafts is one
  between : {x r z : ℕ} → states ! x ≡ 1 → Reach n (link_in links) x r → Reach n (link_in links) r z → states ! z ≡ 1 → states ! r ≡ 1
  between d here w f = d
  between d (chain {q = q} l c) w f = ⊎_elim
      (λ y. between y c w f)
      (λ y. absurd (s.closed.stays d l y f (trans c w)))
      (eq_or (states ! q) 1)

  back_below : {x y : ℕ} → x < n → Reach n (link_in links) x y → y < n
  back_below h here = h
  back_below h (chain l c) = back_below l.to c

  own : Lead n (link_in links) p p
  own = record {
    there = here;
    back = here;
    lowest = λ q there back. let x = s.alone e q (back_below s.below there) (between s.is there back s.is, there) in omega arith;
  }

  pub found_alone : Found n states links work p (set work (2 * n + p) p)
  found_alone = record {
    leads = λ q h r.
        let x = s.alone e q h r in
        subst (λ (y : ℕ). Lead n (link_in links) y (set work (2 * n + p) p ! (2 * n + y))) (sym x)
        (subst (Lead n (link_in links) p) (sym (get_or-set_same work (2 * n + p) p 0 (let l = s.below in omega (arith, s.lent.work_n)))) own);
    size = length-set work (2 * n + p) p;
  }
