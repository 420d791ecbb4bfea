-- Two ways to the same register: a hold more and less again, less and more again, two holds in either order.
use Rattle.register.specs.Order.{used_below}
use Rattle.register.specs.Found.{line_found}
use Rattle.register.specs.Has.{has_told, has_held, held_has}
use Rattle.register.specs.Removed.{removed_last}
use Rattle.register.specs.Same.{same_register}
use Rattle.register.specs.Room.{Room, room_by}
use Rattle.register.specs.Steps.{Stepped, more_steps, less_last, less_steps, held_by_more}
use Rattle.std.specs.Prelude.{◌≡◌, refl, List, ℕ, ◌<◌, get_or}
use Rattle.std.proofs.Common.{sym, subst, arith}
use Rattle.rules.specs.Register.{number_at, Ordered, pair, held_by, line_of, one_more_by, one_less_by}

-- the same hold more gives the same register
pub step_one : {l l' : List ℕ} {s p : ℕ} {m m' : List ℕ} → ((a b : ℕ) → held_by l a b ≡ held_by l' a b) → Stepped l s p m → Stepped l' s p m' → m ≡ m'
step_one {l} {l'} {s} {p} {m} {m'} e t u = same_register m m' t.to u.to (λ a b. omega (arith, t.sums (pair a b), u.sums (pair a b), e a b))

-- ... and the same hold less
pub back_one : {l l' : List ℕ} {s p : ℕ} {m m' : List ℕ} → ((a b : ℕ) → held_by m a b ≡ held_by m' a b) → Stepped l s p m → Stepped l' s p m' → l ≡ l'
back_one {l} {l'} {s} {p} {m} {m'} e t u = same_register l l' t.from u.from (λ a b. omega (arith, t.sums (pair a b), u.sums (pair a b), e a b))

-- a hold more and less again
pub more_less : (l : List ℕ) (s p : ℕ) → Ordered l → p < 65536 → Room l s p → one_less_by (one_more_by l s p) s p ≡ l
more_less l s p o w r =
    let t = more_steps l o s p w r in
    back_one (λ a b. refl) (less_steps (one_more_by l s p) t.to s p (omega (arith, held_by_more t))) t

-- after a hold less there is room for one more
pub less_room : (l : List ℕ) (s p : ℕ) → Ordered l → 0 < held_by l s p → Room (one_less_by l s p) s p
unfolding number_at
less_room l s p o h = room_by (one_less_by l s p) s p last
  where
    last : held_by (one_less_by l s p) s p ≡ 0 → get_or (one_less_by l s p) 3071 0 ≡ 0
    last z =
        let f = line_found l o s p in
        let e = held_has l o s p (line_of l s p) f h in
        let t = less_steps l o s p h in
        let k : number_at l (line_of l s p) ≡ 1 = omega (arith, held_by_more t, has_held l o s p (line_of l s p) f e) in
        subst (λ (m : List ℕ). get_or m 3071 0 ≡ 0) (sym (less_last l o s p k))
        (removed_last l o.size (line_of l s p) (used_below l o (line_of l s p) (has_told l (line_of l s p) s p e).0) 3071 (omega arith))

-- a hold less and more again
pub less_more : (l : List ℕ) (s p : ℕ) → Ordered l → p < 65536 → 0 < held_by l s p → one_more_by (one_less_by l s p) s p ≡ l
less_more l s p o w h =
    let t = less_steps l o s p h in
    step_one (λ a b. refl) (more_steps (one_less_by l s p) t.from s p w (less_room l s p o h)) t

-- two holds in either order
pub more_swap : (l : List ℕ) (s p a b : ℕ) → Ordered l → p < 65536 → b < 65536 → Room l s p → Room (one_more_by l s p) a b → Room l a b → Room (one_more_by l a b) s p
    → one_more_by (one_more_by l s p) a b ≡ one_more_by (one_more_by l a b) s p
more_swap l s p a b o w v r₁ r₂ r₃ r₄ =
    let t₁ = more_steps l o s p w r₁ in
    let t₂ = more_steps (one_more_by l s p) t₁.to a b v r₂ in
    let t₃ = more_steps l o a b v r₃ in
    let t₄ = more_steps (one_more_by l a b) t₃.to s p w r₄ in
    same_register (one_more_by (one_more_by l s p) a b) (one_more_by (one_more_by l a b) s p) t₂.to t₄.to
    (λ x y. omega (arith, t₁.sums (pair x y), t₂.sums (pair x y), t₃.sums (pair x y), t₄.sums (pair x y)))
