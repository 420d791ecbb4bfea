-- The tests of `Defs` decide the statements of `Words`.
use Rattle.std.specs.Prelude.{◌≡◌, ◌⊎◌, ◌≢◌, not, ℕ, ◌<◌, eqb}
use Rattle.std.proofs.Common.{sym, le_antisymm, lt→ltb}
use Rattle.std.proofs.Math.Path.{subst}
use Rattle.std.proofs.Math.Logic.{inl, inr}
use Rattle.std.proofs.Math.Dec.{T, not_T, ltb, eqb→eq, eqb_refl, ltb→lt}
use Rattle.rules.specs.Tests.{◌&◌}
use Rattle.laws.specs.Tests.{or_left, or_right, or_cases, and_both, and_left, and_right}
use Rattle.rules.specs.Below.{lowest}
use Rattle.laws.specs.Below.{some→, →some, lowest_is}
use Rattle.rules.specs.Reach.{Reach, here, chain}
use Rattle.laws.specs.Reach.{reachb→Reach, Reach→reachb, reachb_below}
use Rattle.rules.specs.Tables.{Base, state, is_draft, is_frozen, link_at, holds_of, reaches, in_group, leader_of, is_root}
use Rattle.rules.specs.Tables.{is_kept}
use Rattle.rules.specs.Words.{Draft, Frozen, Reaches, Group, Leader, Root, Kept}

pub eqb_of : {m n : ℕ} → m ≡ n → T (eqb m n)
eqb_of {m} e = subst (λ (k : ℕ). T (eqb m k)) e (eqb_refl m)

pub neqb_of : {m n : ℕ} → (m ≢ n) → T (not (eqb m n))
neqb_of {m} {n} d = not_T (eqb m n) (λ t. d (eqb→eq m n t))

pub trans : {n : ℕ} {at : ℕ → ℕ → ℕ} {p q r : ℕ} → Reach n at p q → Reach n at q r → Reach n at p r
trans here y = y
trans (chain l x) y = chain l (trans x y)

-- a chain that starts below n ends below n, and one that ends below n starts below n
pub end_below : {n : ℕ} {at : ℕ → ℕ → ℕ} {p q : ℕ} → p < n → Reach n at p q → q < n
end_below h here = h
end_below h (chain l x) = end_below l.to x

module _ (b : Base) where
  pub is_draft→ : (p : ℕ) → p < b.n → T (is_draft b p) → Draft b p
  unfolding is_draft
  is_draft→ p h t = record { below = h; is = eqb→eq (state b p) 1 t }

  pub →is_draft : (p : ℕ) → state b p ≡ 1 → T (is_draft b p)
  unfolding is_draft
  →is_draft p e = eqb_of e

  pub is_frozen→ : (p : ℕ) → p < b.n → T (is_frozen b p) → Frozen b p
  unfolding is_frozen
  is_frozen→ p h t = record { below = h; is = eqb→eq (state b p) 2 t }

  pub →is_frozen : (p : ℕ) → state b p ≡ 2 → T (is_frozen b p)
  unfolding is_frozen
  →is_frozen p e = eqb_of e

  pub not_frozen : (p k : ℕ) → state b p ≡ k → T (not (eqb k 2)) → T (not (is_frozen b p))
  unfolding is_frozen
  not_frozen p k e t = subst (λ (x : ℕ). T (not (eqb x 2))) (sym e) t

  -- Reach
  pub reaches→ : (p q : ℕ) → T (reaches b p q) → Reaches b p q
  unfolding reaches
  reaches→ p q t = reachb→Reach b.n (link_at b) p q t

  pub →reaches : (p q : ℕ) → q < b.n → Reaches b p q → T (reaches b p q)
  unfolding reaches
  →reaches p q h r = Reach→reachb b.n (link_at b) p q h r

  -- Group
  pub in_group→ : (p q : ℕ) → T (in_group b p q) → Group b p q
  unfolding in_group reaches
  in_group→ p q t =
      let u = and_right (is_frozen b q) (reaches b p q & reaches b q p) t in
      let back = and_right (reaches b p q) (reaches b q p) u in
      record {
        frozen = is_frozen→ q (below back) (and_left (is_frozen b q) (reaches b p q & reaches b q p) t);
        there = reaches→ p q (and_left (reaches b p q) (reaches b q p) u);
        back = reaches→ q p back;
      }
    where
      below : T (reaches b q p) → q < b.n
      below r = reachb_below b.n (link_at b) q p r

  pub →in_group : (p q : ℕ) → p < b.n → Group b p q → T (in_group b p q)
  unfolding in_group
  →in_group p q h g =
      and_both (is_frozen b q) (reaches b p q & reaches b q p) (→is_frozen q g.frozen.is)
      (and_both (reaches b p q) (reaches b q p) (→reaches p q g.frozen.below g.there) (→reaches q p h g.back))

  -- Leader
  pub leader_of_is : (p : ℕ) → Frozen b p → Leader b p (leader_of b p)
  unfolding leader_of
  leader_of_is p f =
      let l = lowest_is (in_group b p) b.n p f.below (→in_group p p f.below (record { frozen = f; there = here; back = here })) in
      record { member = in_group→ p (lowest (in_group b p) b.n) l.is; lowest = λ q g. l.least q (→in_group p q f.below g) }

  pub leader-one : (p l m : ℕ) → Leader b p l → Leader b p m → l ≡ m
  leader-one p l m x y = le_antisymm (x.lowest m y.member) (y.lowest l x.member)

  -- Kept
  pub is_root→ : (r : ℕ) → r < b.n → T (is_root b r) → Root b r
  unfolding is_root
  is_root→ r h t = go (or_cases (is_draft b r) (is_frozen b r & ltb 0 (holds_of b r)) t)
    where
      go : T (is_draft b r) ⊎ T (is_frozen b r & ltb 0 (holds_of b r)) → Root b r
      go (inl u) = inl (is_draft→ r h u)
      go (inr u) = inr (is_frozen→ r h (and_left (is_frozen b r) (ltb 0 (holds_of b r)) u), ltb→lt 0 (holds_of b r) (and_right (is_frozen b r) (ltb 0 (holds_of b r)) u))

  pub →is_root : (r : ℕ) → Root b r → T (is_root b r)
  unfolding is_root
  →is_root r (inl d) = or_left (is_draft b r) (is_frozen b r & ltb 0 (holds_of b r)) (→is_draft r d.is)
  →is_root r (inr f) =
      or_right (is_draft b r) (is_frozen b r & ltb 0 (holds_of b r))
      (and_both (is_frozen b r) (ltb 0 (holds_of b r)) (→is_frozen r f.0.is) (lt→ltb 0 (holds_of b r) f.1))

  pub root_below : (r : ℕ) → Root b r → r < b.n
  root_below r (inl d) = d.below
  root_below r (inr f) = f.0.below

  pub is_kept→ : (p : ℕ) → T (is_kept b p) → Kept b p
  unfolding is_kept
  is_kept→ p t =
      let w = some→ (λ r. is_root b r & reaches b r p) b.n t in
      record {
        root = w.0;
        is = is_root→ w.0 w.1 (and_left (is_root b w.0) (reaches b w.0 p) w.2);
        reached = reaches→ w.0 p (and_right (is_root b w.0) (reaches b w.0 p) w.2);
      }

  pub kept_below : (p : ℕ) → Kept b p → p < b.n
  kept_below p k = end_below (root_below k.root k.is) k.reached

  pub →is_kept : (p : ℕ) → Kept b p → T (is_kept b p)
  unfolding is_kept
  →is_kept p k =
      →some (λ r. is_root b r & reaches b r p) b.n k.root (root_below k.root k.is)
      (and_both (is_root b k.root) (reaches b k.root p) (→is_root k.root k.is) (→reaches k.root p (kept_below p k) k.reached))
