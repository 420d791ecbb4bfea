-- One link place goes to another target, and the links into each draft follow.
use Rattle.std.specs.Prelude.{◌≡◌, refl, Bool, true, false, List, ℕ, ◌+◌, ◌-◌, ◌*◌, ◌/◌, ◌≤◌, ◌<◌, length, set}
use Rattle.std.proofs.Common.{sym, ap, ap₂, ◌∙◌, subst, ⊎_elim, arith, length-set}
use Rattle.rules.specs.Lists.{◌!◌}
use Rattle.laws.specs.Numbers.{eq_or, set_cases}
use Rattle.into.specs.Named.{hit, hit_on, hit_off, hit_own, named_moves}
use Rattle.into.specs.Into.{Into, into_most, into_some}

-- the areas in their lengths, and no entry is at its end
pub record Reckoned (n : ℕ) (states into : List ℕ) : Type 0 where
  pub small : n ≤ 1024
  pub states_n : length states ≡ n
  pub into_n : length into ≡ n
  pub few : (q : ℕ) → q < n → into ! q ≤ 4096

-- and where t is another draft than r, it has an entry to take from
pub record Takable (n : ℕ) (states into : List ℕ) (r t : ℕ) : Type 0 where
  pub small : n ≤ 1024
  pub states_n : length states ≡ n
  pub into_n : length into ≡ n
  pub some : t < n → states ! t ≡ 1 → (t ≡ r → ⊥) → 0 < into ! t

-- piece r names t once more
pub record More (n : ℕ) (states : List ℕ) (r t : ℕ) (into into' : List ℕ) : Type 0 where
  pub size : length into' ≡ length into
  pub drafts : (q : ℕ) → q < n → states ! q ≡ 1 → into' ! q ≡ into ! q + hit q r t
  pub others : (q : ℕ) → q < n → (states ! q ≡ 1 → ⊥) → into' ! q ≡ into ! q

-- once less
pub record Less (n : ℕ) (states : List ℕ) (r t : ℕ) (into into' : List ℕ) : Type 0 where
  pub size : length into' ≡ length into
  pub drafts : (q : ℕ) → q < n → states ! q ≡ 1 → into' ! q + hit q r t ≡ into ! q
  pub others : (q : ℕ) → q < n → (states ! q ≡ 1 → ⊥) → into' ! q ≡ into ! q

-- t is another draft than r
abbrev pub OtherDraft : ℕ → List ℕ → ℕ → ℕ → Type 0
OtherDraft n states r t = (t < n) × (t ≡ r → ⊥) × (states ! t ≡ 1)

-- b says whether it is
pub record Counting (n : ℕ) (states : List ℕ) (r t : ℕ) (b : Bool) : Type 0 where
  pub yes : b ≡ true → OtherDraft n states r t
  pub no : b ≡ false → OtherDraft n states r t → ⊥

-- else nothing is counted
misses : {n r t : ℕ} (states : List ℕ) → (OtherDraft n states r t → ⊥) → (q : ℕ) → q < n → states ! q ≡ 1 → hit q r t ≡ 0
misses {n} {r} {t} states f q l d =
    ⊎_elim
    (λ e. ⊎_elim (λ o. hit_own q r t (sym o ∙ e)) (λ o. absurd (f (subst (λ (x : ℕ). x < n) (sym e) l, o, ap (λ (x : ℕ). states ! x) e ∙ d))) (eq_or t r))
    (λ g. hit_off q r t g)
    (eq_or t q)

module _ {n : ℕ} {states into : List ℕ} {r t : ℕ} where
  more_off : (OtherDraft n states r t → ⊥) → More n states r t into into
  more_off f = record { size = refl; drafts = λ q l d. omega (arith, misses states f q l d); others = λ q l g. refl }

  pub more-none : Counting n states r t false → More n states r t into into
  more-none v = more_off (v.no refl)

  pub less_none : Counting n states r t false → Less n states r t into into
  less_none v = record { size = refl; drafts = λ q l d. omega (arith, misses states (v.no refl) q l d); others = λ q l g. refl }

  pub more_past : n ≤ t → More n states r t into into
  more_past h = more_off (λ o. omega (arith, o.0))

  module _ (z : length into ≡ n) (o : OtherDraft n states r t) where
    more_at : More n states r t into (set into t (into ! t + 1))
    more_at = record {
      size = length-set into t (into ! t + 1);
      drafts = λ q l _.
          ⊎_elim
          (λ w. omega (arith, w.1, ap (λ (x : ℕ). into ! x) w.0, hit_on q r t (sym w.0) (λ y. o.1 (sym w.0 ∙ sym y))))
          (λ w. omega (arith, w.1, hit_off q r t (λ y. w.0 (sym y))))
          (set_cases into t (into ! t + 1) q 0 (omega (arith, o.0)));
      others = λ q l g. ⊎_elim (λ w. absurd (g (ap (λ (x : ℕ). states ! x) w.0 ∙ o.2))) (λ w. w.1) (set_cases into t (into ! t + 1) q 0 (omega (arith, o.0)));
    }

    less_at : 0 < into ! t → Less n states r t into (set into t (into ! t - 1))
    less_at k = record {
      size = length-set into t (into ! t - 1);
      drafts = λ q l _.
          ⊎_elim
          (λ w. omega (arith, w.1, ap (λ (x : ℕ). into ! x) w.0, hit_on q r t (sym w.0) (λ y. o.1 (sym w.0 ∙ sym y))))
          (λ w. omega (arith, w.1, hit_off q r t (λ y. w.0 (sym y))))
          (set_cases into t (into ! t - 1) q 0 (omega (arith, o.0)));
      others = λ q l g. ⊎_elim (λ w. absurd (g (ap (λ (x : ℕ). states ! x) w.0 ∙ o.2))) (λ w. w.1) (set_cases into t (into ! t - 1) q 0 (omega (arith, o.0)));
    }

  pub more-one : Reckoned n states into → Counting n states r t true → More n states r t into (set into t (into ! t + 1))
  more-one g v = more_at g.into_n (v.yes refl)

  pub less_one : Takable n states into r t → Counting n states r t true → Less n states r t into (set into t (into ! t - 1))
  less_one g v = let o = v.yes refl in less_at g.into_n o (g.some o.0 o.2 o.1)

-- ---- a place of piece r goes from one target to another

-- the place, and the links that it stands in
pub record Followable (n : ℕ) (states into : List ℕ) (r was : ℕ) : Type 0 where
  pub small : n ≤ 1024
  pub states_n : length states ≡ n
  pub links : List ℕ
  pub counted : Into n states links into
  pub place : ℕ
  pub inside : place < 4 * n
  pub of : place / 4 ≡ r
  pub names : links ! place ≡ was

-- whatever the links were, with the place set to t the entries are right again
pub record Followed (n : ℕ) (states : List ℕ) (r was t : ℕ) (into into' : List ℕ) : Type 0 where
  pub size : length into' ≡ length into
  pub own : (q : ℕ) → q ≡ r → q < n → into' ! q ≡ into ! q
  pub on : {links : List ℕ} {i : ℕ} → Into n states links into → i < 4 * n → i < length links → i / 4 ≡ r → links ! i ≡ was → Into n states (set links i t) into'

module _ {n : ℕ} {states into : List ℕ} {r was : ℕ} (g : Followable n states into r was) where
  pub followable_reckoned : Reckoned n states into
  followable_reckoned = record {
    small = g.small;
    states_n = g.states_n;
    into_n = g.counted.size;
    few = λ q h. omega (arith, into_most g.counted q h, g.small);
  }

  module _ {t : ℕ} {into₁ : List ℕ} (m : More n states r t into into₁) where
    -- the former target still has an entry to take from
    pub more_takable : Takable n states into₁ r was
    more_takable = record {
      small = g.small;
      states_n = g.states_n;
      into_n = m.size ∙ g.counted.size;
      some = λ h d f. omega (arith, m.drafts was h d, some h d f);
    }
      where
        some : was < n → states ! was ≡ 1 → (was ≡ r → ⊥) → 0 < into ! was
        some h d f =
            let e = g.names in
            subst (λ (x : ℕ). 0 < into ! x) e
            (into_some g.counted g.inside (subst (λ (x : ℕ). x < n) (sym e) h) (ap (λ (x : ℕ). states ! x) e ∙ d) (λ y. f (sym e ∙ sym y ∙ g.of)))

    pub follows : {into₂ : List ℕ} → Less n states r was into₁ into₂ → Followed n states r was t into into₂
    follows {into₂} l = record {
      size = l.size ∙ m.size;
      own = λ q e h.
          ⊎_elim
          (λ d. omega (arith, m.drafts q h d, l.drafts q h d, hit_own q r t (sym e), hit_own q r was (sym e)))
          (λ f. l.others q h f ∙ m.others q h f)
          (eq_or (states ! q) 1);
      on = λ {links} {i} x k len of names. record {
        size = l.size ∙ m.size ∙ x.size;
        drafts = λ q h d.
            let a : hit q (i / 4) (links ! i) ≡ hit q r was = ap₂ (hit q) of names in
            let c : hit q (i / 4) t ≡ hit q r t = ap (λ (y : ℕ). hit q y t) of in
            omega (arith, m.drafts q h d, l.drafts q h d, x.drafts q h d, named_moves n links i t q k len);
        others = λ q h f. l.others q h f ∙ m.others q h f ∙ x.others q h f;
      };
    }
