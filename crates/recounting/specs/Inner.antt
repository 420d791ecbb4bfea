-- The places of one piece that name another of its group are taken off the group's count.
use Rattle.std.specs.Prelude.{◌≡◌, refl, Bool, not, List, ℕ, zero, suc, ◌+◌, ◌-◌, ◌*◌, ◌/◌, ◌≤◌, ◌<◌, eqb, length, set}
use Rattle.std.specs.Int.{from_bool}
use Rattle.std.specs.List.{slice_range}
use Rattle.std.proofs.Common.{sym, ◌∙◌, subst, ⊎_elim, le_refl, arith, length-set, eq-eqb, ne_eqb}
use Rattle.std.proofs.lemmas.List.Edits.{get_or-between}
use Rattle.std.proofs.Math.Path.{ap}
use Rattle.rules.specs.Lists.{◌!◌}
use Rattle.rules.specs.Limits.{none}
use Rattle.rules.specs.Below.{sum}
use Rattle.laws.specs.Below.{sum-next}
use Rattle.laws.specs.Numbers.{eq_or, set_cases}
use Rattle.tallies.specs.Sums.{get_or_any}
use Rattle.tallies.specs.Tally.{label}
use Rattle.tallies.specs.Exact.{label_past}
use Rattle.recounting.specs.Merged.{inner, within, inner_off, inner_out, inner_own, inner_on}

-- the places of q within label L, the first j
abbrev pub within_of : List ℕ → List ℕ → ℕ → ℕ → ℕ → ℕ
within_of links labels L q j = sum (λ k. within links labels L (4 * q + k)) j

-- fewer terms add up to no more
sum_front : (f : ℕ → ℕ) (k m : ℕ) → sum f k ≤ sum f (k + m)
unfolding sum
sum_front f k zero = let e : k + 0 ≡ k = omega arith in subst (λ (j : ℕ). sum f k ≤ sum f j) (sym e) (le_refl (sum f k))
sum_front f k (suc m) =
    let e : suc (k + m) ≡ k + suc m = omega arith in
    subst (λ (j : ℕ). sum f k ≤ sum f j) e (let x = sum_front f k m in omega arith)

-- the areas in their lengths; q has a label, whose count has room to fall
pub record Uncounting (n : ℕ) (links leaders counts : List ℕ) (q : ℕ) : Type 0 where
  pub small : n ≤ 1024
  pub links_n : length links ≡ 4 * n
  pub leaders_n : length leaders ≡ n
  pub counts_n : length counts ≡ n
  pub below : q < n
  pub led : leaders ! q < n
  pub room : within_of links leaders (leaders ! q) q 4 ≤ counts ! (leaders ! q)

-- the first j places are taken off
pub record Uncounted (n : ℕ) (links leaders counts : List ℕ) (q j : ℕ) (counts' : List ℕ) : Type 0 where
  pub size : length counts' ≡ length counts
  pub sums : (L : ℕ) → L < n → counts' ! L + within_of links leaders L q j ≡ counts ! L

pub uncounted_none : {n : ℕ} {links leaders counts : List ℕ} {q : ℕ} → Uncounted n links leaders counts q 0 counts
unfolding sum
uncounted_none = record { size = refl; sums = λ L h. omega arith }

module _ {n : ℕ} {links leaders counts : List ℕ} {q : ℕ} (g : Uncounting n links leaders counts q) {counts' : List ℕ} {j : ℕ}
    (x : Uncounted n links leaders counts q j counts') (more : j < 4) where
  abbrev i : ℕ
  i = 4 * q + j

  -- what the place names
  abbrev t : ℕ
  t = slice_range links (4 * q) (4 * q + 4) ! j

  quarter : i / 4 ≡ q
  quarter = omega arith

  label_own : label leaders (i / 4) ≡ leaders ! q
  label_own = ap (label leaders) quarter ∙ get_or_any leaders q none 0 (omega (arith, g.below, g.leaders_n))

  -- the sum with one place more
  next-sum : (L : ℕ) → within_of links leaders L q (j + 1) ≡ within_of links leaders L q j + inner leaders L i t
  unfolding within
  next-sum L =
      sum-next (λ k. within links leaders L (4 * q + k)) j
      ∙ ap (λ (y : ℕ). within_of links leaders L q j + inner leaders L i y) (sym (get_or-between links (4 * q) (4 * q + 4) j 0 (omega arith)))

  -- nothing is taken off
  same : {counts'' : List ℕ} → counts'' ≡ counts' → ((L : ℕ) → L < n → inner leaders L i t ≡ 0) → Uncounted n links leaders counts q (j + 1) counts''
  same e z = record { size = ap length e ∙ x.size; sums = λ L h. omega (arith, ap (λ (l : List ℕ). l ! L) e, x.sums L h, next-sum L, z L h) }

  -- nothing is named
  pub place_past : {counts'' : List ℕ} → n ≤ slice_range links (4 * q) (4 * q + 4) ! j → counts'' ≡ counts' → Uncounted n links leaders counts q (j + 1) counts''
  place_past f e = same e (λ L h. inner_off leaders L i t (λ y. omega (arith, label_past n leaders t g.leaders_n f, g.small)))

  module _ (below : slice_range links (4 * q) (4 * q + 4) ! j < n) where
    label-t : label leaders t ≡ leaders ! t
    label-t = get_or_any leaders t none 0 (omega (arith, g.leaders_n))

    -- another group is named, or none
    pub place_other : {counts'' : List ℕ} → (leaders ! (slice_range links (4 * q) (4 * q + 4) ! j) ≡ leaders ! q → ⊥) → counts'' ≡ counts'
        → Uncounted n links leaders counts q (j + 1) counts''
    place_other f e = same e (λ L h.
        ⊎_elim
        (λ y. inner_off leaders L i t (λ z. f (sym label-t ∙ z ∙ sym y ∙ label_own)))
        (λ y. inner_out leaders L i t y)
        (eq_or (label leaders (i / 4)) L))

    -- the same group: one is taken off, unless the place names its own piece
    module _ (led : leaders ! (slice_range links (4 * q) (4 * q + 4) ! j) ≡ leaders ! q) {r : ℕ}
        (off : r ≡ from_bool (not (eqb (slice_range links (4 * q) (4 * q + 4) ! j) q))) where
      hit : inner leaders (leaders ! q) i t ≡ r
      hit = ⊎_elim
          (λ e. inner_own leaders (leaders ! q) i t (quarter ∙ sym e) ∙ sym (off ∙ ap (λ (b : Bool). from_bool (not b)) (eq-eqb t q e)))
          (λ d.
          inner_on leaders (leaders ! q) i t (label-t ∙ led) label_own (λ y. d (sym y ∙ quarter))
          ∙ sym (off ∙ ap (λ (b : Bool). from_bool (not b)) (ne_eqb t q d)))
          (eq_or t q)

      all_four_lem : within_of links leaders (leaders ! q) q (j + 1) ≤ within_of links leaders (leaders ! q) q 4
      all_four_lem = go (4 - (j + 1)) (omega arith)
        where
          go : (m : ℕ) → j + 1 + m ≡ 4 → within_of links leaders (leaders ! q) q (j + 1) ≤ within_of links leaders (leaders ! q) q 4
          go m e =
              subst (λ (k : ℕ). within_of links leaders (leaders ! q) q (j + 1) ≤ within_of links leaders (leaders ! q) q k) e
              (sum_front (λ k. within links leaders (leaders ! q) (4 * q + k)) (j + 1) m)

      -- the count has room to fall
      pub place_room : r ≤ counts' ! (leaders ! q)
      place_room = omega (arith, x.sums (leaders ! q) g.led, next-sum (leaders ! q), hit, all_four_lem, g.room)

      pub place_led : {counts'' : List ℕ} → counts'' ≡ set counts' (leaders ! q) (counts' ! (leaders ! q) - r) → Uncounted n links leaders counts q (j + 1) counts''
      place_led {counts''} e = record {
        size = ap length e ∙ length-set counts' (leaders ! q) (counts' ! (leaders ! q) - r) ∙ x.size;
        sums = λ L h.
            let c : counts'' ! L ≡ set counts' (leaders ! q) (counts' ! (leaders ! q) - r) ! L = ap (λ (l : List ℕ). l ! L) e in
            ⊎_elim
            (λ w.
            omega (
              arith,
              c,
              w.1,
              place_room,
              x.sums L h,
              next-sum L,
              ap (λ (y : ℕ). inner leaders y i t) w.0 ∙ hit,
              ap (λ (y : ℕ). counts' ! y) w.0,
            ))
            (λ w. omega (arith, c, w.1, x.sums L h, next-sum L, inner_out leaders L i t (λ y. w.0 (sym y ∙ label_own))))
            (set_cases counts' (leaders ! q) (counts' ! (leaders ! q) - r) L 0 (omega (arith, g.led, x.size, g.counts_n)));
      }
