-- A test of all items of a list, which goes on to the end.
use Rattle.std.specs.Prelude.{◌≡◌, refl, Bool, true, List, ℕ, zero, suc, ◌+◌, ◌-◌, ◌≤◌, ◌<◌, T, eqb, length, get_or, take, drop}
use Rattle.std.specs.List.{fold, zip}
use Rattle.std.proofs.Common.{sym, ap, ap₂, ◌∙◌, subst, arith, length-drop, eqb→eq, le_refl}
use Rattle.std.proofs.Math.Seq.{take-suc, take-length}
use Rattle.std.proofs.lemmas.List.{get_or-drop}
use Rattle.std.proofs.lemmas.List.Sums.{fold_push}
use Rattle.std.proofs.lemmas.Slice.Zip.{length-zip, get_or-zip}
use Rattle.rules.specs.Tests.{◌&◌}
use Rattle.rules.specs.Lists.{◌!◌}
use Rattle.rules.specs.Below.{every}
use Rattle.rules.specs.Limits.{entries}
use Rattle.laws.specs.Below.{every→, →every}
use Rattle.register.specs.Decided.{eq→T}
use Rattle.register.specs.Zeros.{ZeroSaid}

module _ {A : Type 0} (f : A → Bool) (xs : List A) (d : A) where
  fold_every : (k : ℕ) → k ≤ length xs → fold (λ b x. b & f x) true (take k xs) ≡ every (λ p. f (get_or xs p d)) k
  unfolding every
  fold_every zero h = refl
  fold_every (suc k) h =
      ap (fold (λ b x. b & f x) true) (take-suc xs k d (omega arith))
      ∙ fold_push (λ b x. b & f x) true (take k xs) (get_or xs k d)
      ∙ ap (λ (b : Bool). b & f (get_or xs k d)) (fold_every k (omega arith))

  pub fold_all : fold (λ b x. b & f x) true xs ≡ every (λ p. f (get_or xs p d)) (length xs)
  fold_all = ap (fold (λ b x. b & f x) true) (sym (take-length xs)) ∙ fold_every (length xs) (omega arith)

pub every_same : (f g : ℕ → Bool) (k : ℕ) → ((p : ℕ) → p < k → f p ≡ g p) → every f k ≡ every g k
unfolding every
every_same f g zero e = refl
every_same f g (suc k) e = ap₂ (λ (a b : Bool). a & b) (every_same f g k (λ p h. e p (omega arith))) (e k (le_refl (suc k)))

every_at : (f g : ℕ → Bool) (k n : ℕ) → k ≡ n → ((p : ℕ) → p < n → f p ≡ g p) → every f k ≡ every g n
every_at f g k n e h = ap (every f) e ∙ every_same f g n h

-- whether all items are 0
abbrev pub all_zeros : List ℕ → Bool
all_zeros xs = fold (λ b x. b & eqb x 0) true xs

-- whether the items of two lists are the same, as far as both go
abbrev pub all_same : List ℕ → List ℕ → Bool
all_same xs ys = fold (λ b x. b & eqb x.0 x.1) true (zip xs ys)

pub same_every : (hs ss : List ℕ) {n : ℕ} → length hs ≡ n → n ≤ length ss → all_same hs ss ≡ every (λ p. eqb (hs ! p) (ss ! p)) n
same_every hs ss {n} e h =
    let k : length (zip hs ss) ≡ n = omega (arith, length-zip hs ss) in
    fold_all (λ (x : ℕ × ℕ). eqb x.0 x.1) (zip hs ss) (0, 0)
    ∙ every_at (λ p. eqb (get_or (zip hs ss) p (0, 0)).0 (get_or (zip hs ss) p (0, 0)).1) (λ p. eqb (hs ! p) (ss ! p)) (length (zip hs ss)) n k
    (λ p g. ap (λ (x : ℕ × ℕ). eqb x.0 x.1) (get_or-zip hs ss p (0, 0) (omega arith) (omega arith)))

-- ---- the entries from a on

abbrev zero_at : List ℕ → ℕ → Bool
zero_at xs p = eqb (get_or xs p 0) 0

zeros_every : (xs : List ℕ) → all_zeros xs ≡ every (zero_at xs) (length xs)
zeros_every xs = fold_all (λ x. eqb x 0) xs 0

module _ (l : List ℕ) (z : length l ≡ entries) (a : ℕ) where
  zeros_from : T (all_zeros (drop a l)) → (k : ℕ) → a ≤ k → k < entries → get_or l k 0 ≡ 0
  zeros_from t k h g =
      let u = every→ (zero_at (drop a l)) (length (drop a l)) (subst (λ (b : Bool). T b) (zeros_every (drop a l)) t) (k - a) (omega (arith, length-drop a l)) in
      let x : a + (k - a) ≡ k = omega arith in
      ap (λ (j : ℕ). get_or l j 0) (sym x) ∙ sym (get_or-drop a l (k - a) 0) ∙ eqb→eq (get_or (drop a l) (k - a) 0) 0 u

  from_zeros : ((k : ℕ) → a ≤ k → k < entries → get_or l k 0 ≡ 0) → T (all_zeros (drop a l))
  from_zeros zs = subst (λ (b : Bool). T b) (sym (zeros_every (drop a l))) (→every (zero_at (drop a l)) (length (drop a l)) (λ p g.
      eq→T (get_or (drop a l) p 0) 0 (get_or-drop a l p 0 ∙ zs (a + p) (omega arith) (omega (arith, length-drop a l)))))

  pub zeros_said : {r : Bool} → r ≡ all_zeros (drop a l) → ZeroSaid l a r
  zeros_said {r} e = record {
    yes = λ t. zeros_from (subst (λ (b : Bool). T b) (sym t ∙ e) tt);
    no = λ t zs. subst (λ (b : Bool). T b) (sym e ∙ t) (from_zeros zs);
  }
