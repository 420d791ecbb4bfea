-- The lines move one further, block by block, and a line is written in the gap.
use Rattle.register.specs.Found.{Found, Used}
use Rattle.register.specs.Entries.{inserted-one}
use Rattle.register.specs.Moved.{Lifted}
use Rattle.register.specs.Written.{rest-zero, line, line_size, line_other, line_first, line_second, line_third}
use Rattle.std.specs.Prelude.{◌≡◌, refl, List, ℕ, ◌+◌, ◌-◌, ◌*◌, ◌≤◌, ◌<◌, length, get_or}
use Rattle.std.proofs.Common.{sym, ◌∙◌, subst, ⊎_elim, arith}
use Rattle.rules.specs.Limits.{lines, entries}
use Rattle.rules.specs.Register.{number_at, Ordered, inserted}
use Rattle.laws.specs.Numbers.{lt_or}

-- where a pair stands or would stand is not behind the used lines, and one more fits where the last line is unused
pub found_used : {l : List ℕ} {i s p u : ℕ} → Found l s p i → Used l u → i ≤ u
found_used {l} {i} {s} {p} {u} f w = ⊎_elim (λ h. absurd (omega (arith, (f.before u h).0, w.here))) (λ h. h) (lt_or u i)

pub used_few : {l : List ℕ} {u : ℕ} → Used l u → number_at l 1023 ≡ 0 → u ≤ 1023
used_few {l} {u} w e = ⊎_elim (λ h. absurd (omega (arith, w.before 1023 h))) (λ h. h) (lt_or 1023 u)

-- m is l, with the entries from j on three further
pub record Opened (l : List ℕ) (i j : ℕ) (m : List ℕ) : Type 0 where
  pub size : length m ≡ entries
  pub inside : 3 * i ≤ j
  pub most : j ≤ 3069
  pub low : (k : ℕ) → k < j + 3 → get_or m k 0 ≡ get_or l k 0
  pub high : (k : ℕ) → j ≤ k → k < 3069 → get_or m (k + 3) 0 ≡ get_or l k 0

pub opened_start : {l : List ℕ} {i u : ℕ} (j : ℕ) → Ordered l → Used l u → i ≤ u → 3 * u ≤ j → j ≤ 3069 → Opened l i j l
opened_start {l} {i} {u} j o w x g b = record {
  size = o.size;
  inside = omega arith;
  most = b;
  low = λ k h. refl;
  high = λ k h c. rest-zero l o u w.here (k + 3) (omega arith) ∙ sym (rest-zero l o u w.here k (omega arith));
}

pub opened_more : {l : List ℕ} {i from to : ℕ} {m r : List ℕ} → Opened l i to m → 3 * i ≤ from → from ≤ to → Lifted m from to r → Opened l i from r
opened_more {l} {i} {from} {to} {m} {r} v h g w = record {
  size = w.size ∙ v.size;
  inside = h;
  most = omega (arith, v.most);
  low = λ k b. w.low k b ∙ v.low k (omega arith);
  high = λ k b c. ⊎_elim (λ x. w.mid k b x ∙ v.low k (omega arith)) (λ x. w.high (k + 3) (omega arith) ∙ v.high k x c) (lt_or k to);
}

-- one block of 32 lines more
pub opened_block : {l : List ℕ} {i b : ℕ} {m r : List ℕ} → Opened l i (3 * i + 96 * b) m → 0 < b → Lifted m (3 * i + 96 * (b - 1)) (3 * i + 96 * (b - 1) + 96) r
    → Opened l i (3 * i + 96 * (b - 1)) r
opened_block {l} {i} {b} {m} {r} v h w =
    let e : 3 * i + 96 * b ≡ 3 * i + 96 * (b - 1) + 96 = omega arith in
    opened_more (subst (λ (j : ℕ). Opened l i j m) e v) (omega arith) (omega arith) w

pub opened_end : {l : List ℕ} {i j : ℕ} {m : List ℕ} (s p : ℕ) → length l ≡ entries → i < lines → Opened l i j m → j ≤ 3 * i → line m (3 * i) s p 1 ≡ inserted l i s p
opened_end {l} {i} {j} {m} s p z h v g =
    let e : 3 * i + 2 < length m = omega (arith, v.size) in
    let x : j ≡ 3 * i = omega (arith, v.inside) in
    inserted-one l z i h s p (line m (3 * i) s p 1) (line_size m (3 * i) s p 1 ∙ v.size)
    (λ k b. line_other m (3 * i) s p 1 k (λ y. omega arith) (λ y. omega arith) (λ y. omega arith) ∙ v.low k (omega arith))
    (line_first m (3 * i) s p 1 e)
    (line_second m (3 * i) s p 1 e)
    (line_third m (3 * i) s p 1 e)
    (λ k b c. line_other m (3 * i) s p 1 (k + 3) (λ y. omega arith) (λ y. omega arith) (λ y. omega arith) ∙ v.high k (omega arith) c)
