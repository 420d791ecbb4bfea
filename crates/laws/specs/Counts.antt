-- Counts: a group with a count of at least 1 is held, or linked from outside; where every frozen piece's group has one, every frozen piece is kept.
use Rattle.std.specs.Prelude.{◌≡◌, Bool, true, false, not, ℕ, zero, suc, ◌+◌, ◌*◌, ◌≤◌, ◌<◌, T}
use Rattle.std.proofs.Math.Path.{refl}
use Rattle.std.proofs.Common.{subst, ⊎_elim, zero-le, le_refl, not-suc-le-zero, arith, T_not}
use Rattle.std.proofs.Math.Logic.{inl, inr}
use Rattle.std.proofs.Math.Decide.{ℕ_discrete}
use Rattle.std.proofs.Math.Dec.{not_T}
use Rattle.rules.specs.Tests.{◌&◌, only_if}
use Rattle.laws.specs.Tests.{or_cases, and_left, and_right}
use Rattle.rules.specs.Below.{sum}
use Rattle.rules.specs.Reach.{here, chain, Link}
use Rattle.rules.specs.Tables.{Base, is_draft, is_frozen, is_live, link_at, holds_of, reaches, in_group, leader_of, places, count_of}
use Rattle.rules.specs.Words.{Frozen, Live, Reaches, Group, Leader, Kept}
use Rattle.laws.specs.Words.{trans, reaches→, →reaches, in_group→, →in_group, is_draft→, is_frozen→, leader_of_is, leader-one}

-- ---- sums

only_if_pos : (c : Bool) (x : ℕ) → 0 < only_if c x → T c × (0 < x)
only_if_pos true x h = (tt, h)
only_if_pos false x h = absurd (not-suc-le-zero h)

pub sum_pos : (f : ℕ → ℕ) (k : ℕ) → 0 < sum f k → (p : ℕ) × (p < k) × (0 < f p)
unfolding sum
sum_pos f zero h = absurd (not-suc-le-zero h)
sum_pos f (suc k) h = go (λ l. sum_pos f k l) (f k) refl
  where
    go : (0 < sum f k → (p : ℕ) × (p < k) × (0 < f p)) → (x : ℕ) → f k ≡ x → (p : ℕ) × (p < suc k) × (0 < f p)
    go ih zero e = let r = ih (omega arith) in (r.0, let l = r.1 in omega arith, r.2)
    go ih (suc x) e = (k, le_refl (suc k), omega arith)

pub sum_mono : (f g : ℕ → ℕ) (k : ℕ) → ((p : ℕ) → p < k → f p ≤ g p) → sum f k ≤ sum g k
unfolding sum
sum_mono f g zero h = zero-le
sum_mono f g (suc k) h = let a = sum_mono f g k (λ p l. h p (omega arith)) in let c = h k (le_refl (suc k)) in omega arith

pub sum_less : (f g : ℕ → ℕ) (k q : ℕ) → ((p : ℕ) → p < k → f p ≤ g p) → q < k → f q < g q → sum f k < sum g k
unfolding sum
sum_less f g zero q h l s = absurd (not-suc-le-zero l)
sum_less f g (suc k) q h l s = go (λ m. sum_less f g k q (λ p x. h p (omega arith)) m s) (ℕ_discrete q k)
  where
    go : (q < k → sum f k < sum g k) → Dec (q ≡ k) → sum f k + f k < sum g k + g k
    go ih (yes e) = let a = sum_mono f g k (λ p x. h p (omega arith)) in let c = subst (λ (x : ℕ). f x < g x) e s in omega arith
    go ih (no d) = let a = ih (omega arith) in let c = h k (le_refl (suc k)) in omega arith

-- at most m each: at most k m
pub sum-most : (f : ℕ → ℕ) (m k : ℕ) → ((p : ℕ) → p < k → f p ≤ m) → sum f k ≤ k * m
unfolding sum
sum-most f m zero h = zero-le
sum-most f m (suc k) h = let a = sum-most f m k (λ p l. h p (omega arith)) in let c = h k (le_refl (suc k)) in omega arith

module _ (b : Base) where
  only_if_mono : (c d : Bool) → (T c → T d) → only_if c 1 ≤ only_if d 1
  only_if_mono true true h = le_refl 1
  only_if_mono true false h = absurd (h tt)
  only_if_mono false d h = zero-le

  only_if_less : (c d : Bool) → T (not c) → T d → only_if c 1 < only_if d 1
  only_if_less true d t u = absurd t
  only_if_less false true t u = le_refl 1
  only_if_less false false t u = absurd u

  -- how many pieces reach p
  pub reachers : ℕ → ℕ
  reachers p = sum (λ r. only_if (reaches b r p) 1) b.n

  pub fewer : (r p : ℕ) → r < b.n → p < b.n → Reaches b r p → (Reaches b p r → ⊥) → reachers r < reachers p
  unfolding reachers
  fewer r p m h x y =
      sum_less (λ q. only_if (reaches b q r) 1) (λ q. only_if (reaches b q p) 1) b.n p
      (λ q l. only_if_mono (reaches b q r) (reaches b q p) (λ t. →reaches b q p h (trans (reaches→ b q r t) x))) h
      (only_if_less (reaches b p r) (reaches b p p) (not_T (reaches b p r) (λ t. y (reaches→ b p r t))) (→reaches b p p h here))

  -- what a count of at least 1 says
  pub data Why (p : ℕ) : Type 0 where
    by_hold : (q : ℕ) → Group b p q → 0 < holds_of b q → Why p
    by_link : (r q : ℕ) → Live b r → (Group b p r → ⊥) → Group b p q → Link b.n (link_at b) r q → Why p

  pub why : (p : ℕ) → p < b.n → 0 < count_of b p → Why p
  unfolding count_of
  why p h c = go (sum (λ q. only_if (in_group b p q) (holds_of b q)) b.n) refl
    where
      held : 0 < sum (λ q. only_if (in_group b p q) (holds_of b q)) b.n → Why p
      held x =
          let r = sum_pos (λ q. only_if (in_group b p q) (holds_of b q)) b.n x in
          let y = only_if_pos (in_group b p r.0) (holds_of b r.0) r.2 in
          by_hold r.0 (in_group→ b p r.0 y.0) y.1

      named : (r : ℕ) → 0 < places b p r → (k : ℕ) × (k < 4) × T (in_group b p (link_at b r k))
      named r t = unfold places in (let w = sum_pos (λ k. only_if (in_group b p (link_at b r k)) 1) 4 t in (w.0, w.1, (only_if_pos (in_group b p (link_at b r w.0)) 1 w.2).0))

      lv : (r : ℕ) → r < b.n → T (is_live b r) → Live b r
      lv r l t = unfold is_live in (⊎_elim (λ x. inl (is_draft→ b r l x)) (λ x. inr (is_frozen→ b r l x)) (or_cases (is_draft b r) (is_frozen b r) t))

      linked : 0 < sum (λ r. only_if (is_live b r & not (in_group b p r)) (places b p r)) b.n → Why p
      linked x =
          let r = sum_pos (λ r. only_if (is_live b r & not (in_group b p r)) (places b p r)) b.n x in
          let y = only_if_pos (is_live b r.0 & not (in_group b p r.0)) (places b p r.0) r.2 in
          let k = named r.0 y.1 in
          let gq = in_group→ b p (link_at b r.0 k.0) k.2 in
          by_link r.0 (link_at b r.0 k.0) (lv r.0 r.1 (and_left (is_live b r.0) (not (in_group b p r.0)) y.0))
          (λ g. T_not (in_group b p r.0) (and_right (is_live b r.0) (not (in_group b p r.0)) y.0) (→in_group b p r.0 h g)) gq
          (record { from = r.1; to = gq.frozen.below; place = k.0; inside = k.1; names = refl })

      go : (x : ℕ) → sum (λ q. only_if (in_group b p q) (holds_of b q)) b.n ≡ x → Why p
      go zero e = linked (omega arith)
      go (suc x) e = held (omega arith)

  -- the leaders' counts are at least 1: every frozen piece is kept
  module _ (pos : (p : ℕ) → Frozen b p → leader_of b p ≡ p → 0 < count_of b p) where
    lead : (p : ℕ) → Frozen b p → Leader b p (leader_of b p)
    lead p f = leader_of_is b p f

    self_led : (p : ℕ) (f : Frozen b p) → leader_of b (leader_of b p) ≡ leader_of b p
    self_led p f =
        let x = lead p f in
        let l = leader_of b p in
        leader-one b l (leader_of b l) l (lead l x.member.frozen)
        (record {
          member = record { frozen = x.member.frozen; there = here; back = here };
          lowest = λ q g. x.lowest q (record { frozen = g.frozen; there = trans x.member.there g.there; back = trans g.back x.member.back });
        })

    kept_below : (m p : ℕ) → Frozen b p → reachers p < m → Kept b p
    kept_below zero p f h = absurd (not-suc-le-zero h)
    kept_below (suc m) p f h = go (λ r fr l. kept_below m r fr l) (why l lf.below (pos l lf (self_led p f)))
      where
        l : ℕ
        l = leader_of b p

        lf : Frozen b l
        lf = (lead p f).member.frozen

        lp : Reaches b l p
        lp = (lead p f).member.back

        go : ((r : ℕ) → Frozen b r → reachers r < m → Kept b r) → Why l → Kept b p
        go ih (by_hold q g x) = record { root = q; is = inr (g.frozen, x); reached = trans g.back lp }
        go ih (by_link r q (inl d) out g k) = record { root = r; is = inl d; reached = chain k (trans g.back lp) }
        go ih (by_link r q (inr fr) out g k) =
            let rp : Reaches b r p = chain k (trans g.back lp) in
            let no_way : Reaches b p r → ⊥ = λ x. out (record { frozen = fr; there = trans lp x; back = chain k g.back }) in
            let less = fewer r p fr.below f.below rp no_way in
            let kr = ih r fr (omega arith) in
            record { root = kr.root; is = kr.is; reached = trans kr.reached rp }

    pub all_kept : (p : ℕ) → Frozen b p → Kept b p
    all_kept p f = kept_below (suc (reachers p)) p f (le_refl (suc (reachers p)))

-- ---- the largest count: each piece adds its holds or its four places

only_if-most : (c : Bool) (x m : ℕ) → (T c → x ≤ m) → only_if c x ≤ m
only_if-most true x m h = h tt
only_if-most false x m h = zero-le

pub count_most : (b : Base) → b.n ≤ 1024 → ((q : ℕ) → Frozen b q → holds_of b q ≤ 1000) → (p : ℕ) → count_of b p < 1028097
unfolding count_of places
count_most b m hs p =
    let x = sum-most (λ q. only_if (in_group b p q) (holds_of b q)) 1000 b.n (λ q _. only_if-most (in_group b p q) (holds_of b q) 1000 (λ t. hs q (in_group→ b p q t).frozen)) in
    let y = sum-most (λ r. only_if (is_live b r & not (in_group b p r)) (sum (λ k. only_if (in_group b p (link_at b r k)) 1) 4)) 4 b.n
    (λ r _. only_if-most (is_live b r & not (in_group b p r)) (sum (λ k. only_if (in_group b p (link_at b r k)) 1) 4) 4
    (λ _. sum-most (λ k. only_if (in_group b p (link_at b r k)) 1) 1 4 (λ k _. only_if-most (in_group b p (link_at b r k)) 1 1 (λ _. le_refl 1)))) in
    omega arith
