-- The drafts that p reaches, assembled: they stand in the queue, each once, with their leaders found.
use Rattle.std.specs.Prelude.{◌≡◌, List, ℕ, ◌*◌, ◌≤◌, ◌<◌, length, take}
use Rattle.std.specs.List.{slice_range}
use Rattle.std.proofs.Common.{sym, ap, ◌∙◌, subst, inl, inr, ⊎_elim, arith}
use Rattle.std.proofs.lemmas.List.{get_or-take, length-take-le}
use Rattle.std.proofs.lemmas.List.Edits.{get_or-between}
use Rattle.rules.specs.Lists.{◌!◌}
use Rattle.laws.specs.Numbers.{eq_or}
use Rattle.paths.specs.Ground.{link_in, Lead}
use Rattle.groups.specs.Grouped.{ReachedFrom}
use Rattle.gathering.specs.Walked.{Gathered}
use Rattle.recounting.specs.Standing.{Standing}
use Rattle.recounting.specs.Taken.{Queued}
use Rattle.freezing.specs.Found.{Found}

pub record Assembled (n : ℕ) (states links leaders : List ℕ) (p : ℕ) (leaders' found queue : List ℕ) : Type 0 where
  pub all : (q : ℕ) → q < n → ReachedFrom n states links 1 p q → Standing queue q
  pub «only» : (q : ℕ) → q < n → Standing queue q → ReachedFrom n states links 1 p q
  pub leads : (q : ℕ) → q < n → ReachedFrom n states links 1 p q → Lead n (link_in links) q (found ! q)
  pub left : (q : ℕ) → q < n → (Standing queue q → ⊥) → leaders' ! q ≡ leaders ! q
  pub leaders_n : length leaders' ≡ length leaders
  pub queued : Queued n queue

-- the third region, in which the leaders stand
abbrev pub third : ℕ → List ℕ → List ℕ
third n regions = slice_range regions (2 * n) (3 * n)

module _ {n : ℕ} {states links leaders entries : List ℕ} {p : ℕ} {leaders₁ entries₁ : List ℕ} {size : ℕ}
    (g : Gathered n states links leaders entries p leaders₁ entries₁ size) (wide : n ≤ length entries) where
  front_n : length (take size entries₁) ≡ size
  front_n = length-take-le size entries₁ (omega (arith, g.entries_n, g.most))

  front_at : (j : ℕ) → j < size → take size entries₁ ! j ≡ entries₁ ! j
  front_at j h = get_or-take size entries₁ j 0 h

  pub gathered_each : (j : ℕ) → j < length (take size entries₁) → (take size entries₁ ! j < n) × ReachedFrom n states links 1 p (take size entries₁ ! j)
  gathered_each j h =
      let l : j < size = omega (arith, front_n) in
      let w = g.each j l in
      subst (λ (x : ℕ). (x < n) × ReachedFrom n states links 1 p x) (sym (front_at j l)) (w.0, (w.1, w.2))

  pub gathered_all : (q : ℕ) → q < n → ReachedFrom n states links 1 p q → Standing (take size entries₁) q
  gathered_all q h r = let w = g.all q h r.0 r.1 in record { at = w.0; below = omega (arith, w.1, front_n); is = front_at w.0 w.1 ∙ w.2 }

  -- where p stands there alone, it reaches no other draft
  pub gathered_alone : length (take size entries₁) ≡ 1 → (q : ℕ) → q < n → ReachedFrom n states links 1 p q → q ≡ p
  gathered_alone e q h r =
      let w = g.all q h r.0 r.1 in
      let z : w.0 ≡ 0 = (let l = w.1 in omega (arith, front_n)) in
      sym w.2 ∙ ap (λ (x : ℕ). entries₁ ! x) z ∙ g.first

  pub assembled : {regions regions' : List ℕ} → Found n states links regions p regions' → Assembled n states links leaders p leaders₁ (third n regions') (take size entries₁)
  assembled {regions} {regions'} f = record {
    all = gathered_all;
    «only» = λ q h s. subst (ReachedFrom n states links 1 p) s.is (gathered_each s.at s.below).1;
    leads = λ q h r. subst (Lead n (link_in links) q) (sym (get_or-between regions' (2 * n) (3 * n) q 0 (omega arith))) (f.leads q h r);
    left = λ q h d. g.left q (⊎_elim
        (λ e. inr (λ r. d (gathered_all q h (e, r))))
        (λ e. inl e)
        (eq_or (states ! q) 1));
    leaders_n = g.leaders_n;
    queued = record {
      each = λ j h. (gathered_each j h).0;
      apart = λ i j h l e. let k : j < size = omega (arith, front_n) in g.apart i j h k (sym (front_at i (omega arith)) ∙ e ∙ front_at j k);
      most = omega (arith, front_n, g.most);
    };
  }
