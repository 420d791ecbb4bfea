-- Under exact leaders and counts, every frozen piece is kept exactly if no group's count is 0.
use Rattle.std.specs.Prelude.{◌≡◌, refl, ◌⊎◌, ◌↔◌, Bool, true, false}
use Rattle.std.proofs.Common.{sym, ap, subst, inl, inr, ⊎_elim, not-suc-le-zero, T_not}
use Rattle.std.proofs.Math.Bool.{not}
use Prim.Native.Nat.{ℕ, zero, suc, ◌+◌, ◌≤◌, ◌<◌}
use Rattle.std.proofs.Math.Decide.{ℕ_discrete}
use native.Mathlib.Omega.{arith}
use Rattle.std.proofs.Math.Dec.{T, not_T}
use Rattle.rules.specs.Tests.{◌&◌, only_if}
use Rattle.rules.specs.Below.{sum}
use Rattle.rules.specs.Reach.{here, chain, Link}
use Rattle.rules.specs.Tables.{Base, is_live, is_draft, is_frozen, link_at, holds_of, in_group, leader_of, places, count_of}
use Rattle.rules.specs.Words.{Frozen, Live, Reaches, Group, Root, Kept}
use Rattle.laws.specs.Tests.{or_left, or_right, and_both}
use Rattle.laws.specs.Below.{T_dec}
use Rattle.laws.specs.Words.{→in_group, in_group→, →is_draft, →is_frozen}
use Rattle.laws.specs.Counts.{all_kept}

-- a term is at most its sum
pub sum_term : (f : ℕ → ℕ) (k p : ℕ) → p < k → f p ≤ sum f k
unfolding sum
sum_term f zero p h = absurd (not-suc-le-zero h)
sum_term f (suc k) p h = go (λ l. sum_term f k p l) (ℕ_discrete p k)
  where
    go : (p < k → f p ≤ sum f k) → Dec (p ≡ k) → f p ≤ sum f k + f k
    go ih (yes e) = let x : f p ≡ f k = ap f e in omega arith
    go ih (no d) = let x = ih (omega arith) in omega arith

only_if-true : (c : Bool) (x : ℕ) → T c → only_if c x ≡ x
only_if-true true x t = refl
only_if-true false x t = absurd t

module _ (b : Base) where
  live_test : (r : ℕ) → Live b r → T (is_live b r)
  unfolding is_live
  live_test r (inl d) = or_left (is_draft b r) (is_frozen b r) (→is_draft b r d.is)
  live_test r (inr f) = or_right (is_draft b r) (is_frozen b r) (→is_frozen b r f.is)

  -- a member with a hold makes the count at least 1
  pub held_counts : (p q : ℕ) → p < b.n → Group b p q → 0 < holds_of b q → 0 < count_of b p
  unfolding count_of
  held_counts p q h g pos =
      let f : ℕ → ℕ = λ r. only_if (in_group b p r) (holds_of b r) in
      let x = sum_term f b.n q g.frozen.below in
      let y : f q ≡ holds_of b q = only_if-true (in_group b p q) (holds_of b q) (→in_group b p q h g) in
      omega arith

  -- so does a link from a live piece outside
  pub linked_counts : (p r q : ℕ) → p < b.n → Live b r → (Group b p r → ⊥) → Group b p q → Link b.n (link_at b) r q → 0 < count_of b p
  unfolding count_of places
  linked_counts p r q h l out g k =
      let inner : ℕ → ℕ = λ j. only_if (in_group b p (link_at b r j)) 1 in
      let f : ℕ → ℕ = λ s. only_if (is_live b s & not (in_group b p s)) (sum (λ j. only_if (in_group b p (link_at b s j)) 1) 4) in
      let x = sum_term f b.n r k.from in
      let y : f r ≡ sum inner 4 = only_if-true (is_live b r & not (in_group b p r)) (sum inner 4)
      (and_both (is_live b r) (not (in_group b p r)) (live_test r l) (not_T (in_group b p r) (λ t. out (in_group→ b p r t)))) in
      let z = sum_term inner 4 k.place k.inside in
      let w : inner k.place ≡ 1 = only_if-true (in_group b p (link_at b r k.place)) 1 (subst (λ (t : ℕ). T (in_group b p t)) (sym k.names) (→in_group b p q h g)) in
      omega arith

  -- where live pieces link to live pieces alone
  module _ (on : (r q : ℕ) → Live b r → Link b.n (link_at b) r q → Live b q) where
    -- a chain to p comes into p's group by a link that counts, or starts in the group
    into : (p r : ℕ) → Frozen b p → Live b r → Reaches b r p → (0 < count_of b p) ⊎ Group b p r
    into p r f l here = inr (record { frozen = f; there = here; back = here })
    into p r f l (chain {q = q} k c) = go (into p q f (on r q l k) c) (T_dec (in_group b p r))
      where
        go : (0 < count_of b p) ⊎ Group b p q → T (in_group b p r) ⊎ T (not (in_group b p r)) → (0 < count_of b p) ⊎ Group b p r
        go (inl x) t = inl x
        go (inr g) (inl t) = inr (in_group→ b p r t)
        go (inr g) (inr t) = inl (linked_counts p r q f.below l (λ h. T_not (in_group b p r) t (→in_group b p r f.below h)) g k)

    kept_counts : (p : ℕ) → Frozen b p → Kept b p → 0 < count_of b p
    kept_counts p f k = go k.is
      where
        go : Root b k.root → 0 < count_of b p
        go (inl d) = ⊎_elim (λ x. x) (λ g. absurd (let x = d.is in let y = g.frozen.is in omega arith)) (into p k.root f (inl d) k.reached)
        go (inr h) = ⊎_elim (λ x. x) (λ g. held_counts p k.root f.below g h.1) (into p k.root f (inr h.0) k.reached)

    -- every frozen piece is kept exactly if no group's count is 0
    pub kept↔counts : ((p : ℕ) → Frozen b p → Kept b p) ↔ ((p : ℕ) → Frozen b p → leader_of b p ≡ p → 0 < count_of b p)
    kept↔counts = (λ k p f e. kept_counts p f (k p f), λ pos p f. all_kept b pos p f)
