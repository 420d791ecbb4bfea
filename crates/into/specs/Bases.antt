-- What the commands do to the links into each draft, over the base.
use Rattle.std.specs.Prelude.{◌≡◌, Bool, not, List, ℕ, ◌+◌, ◌*◌, ◌/◌, ◌%◌, ◌≤◌, ◌<◌, T, length, set}
use Rattle.std.proofs.Math.Path.{sym}
use Rattle.std.proofs.Common.{ap, ◌∙◌, arith}
use Rattle.std.proofs.Math.Logic.{⊎_elim}
use Rattle.rules.specs.Lists.{◌!◌}
use Rattle.rules.specs.Limits.{none}
use Rattle.rules.specs.Tables.{Base, state, is_frozen, is_kept, link_at}
use Rattle.rules.specs.Words.{Well, wfree, wdraft, wfrozen}
use Rattle.rules.specs.Commands.{free_all, gone}
use Rattle.laws.specs.Tests.{and_left}
use Rattle.laws.specs.Below.{T_dec}
use Rattle.laws.specs.Words.{is_frozen→}
use Rattle.laws.specs.Numbers.{set_cases}
use Rattle.laws.specs.Settle.{state_kept, link_kept, freed_well}
use Rattle.into.specs.Named.{hit, hit_off, named_same, named_none}
use Rattle.into.specs.Into.{Into}

-- the same drafts, and the same of them named
pub into_same : {n : ℕ} {states links states' links' into : List ℕ} → Into n states links into
    → ((p : ℕ) → p < n → states' ! p ≡ 1 → states ! p ≡ 1) → ((p : ℕ) → p < n → states ! p ≡ 1 → states' ! p ≡ 1)
    → ((p i : ℕ) → p < n → states ! p ≡ 1 → i < 4 * n → hit p (i / 4) (links' ! i) ≡ hit p (i / 4) (links ! i)) → Into n states' links' into
into_same {n} {links = links} {links' = links'} x back on h = record {
  size = x.size;
  drafts = λ p k d. x.drafts p k (back p k d) ∙ sym (named_same n links links' p (λ i l. h p i k (back p k d) l));
  others = λ p k f. x.others p k (λ d. f (on p k d));
}

-- a free number becomes a draft that nobody names
pub into_given : {n : ℕ} {states links into : List ℕ} {q : ℕ} → Into n states links into → q < length states → states ! q ≡ 0
    → ((i : ℕ) → i < 4 * n → links ! i ≡ q → ⊥) → Into n (set states q 1) links into
into_given {n} {states} {links} {into} {q} x h free nobody = record {
  size = x.size;
  drafts = λ p k d. ⊎_elim
      (λ w. x.others p k (λ e. let z : states ! p ≡ states ! q = ap (λ (y : ℕ). states ! y) w.0 in omega arith)
      ∙ sym (named_none n links p (λ i l e. nobody i l (e ∙ w.0))))
      (λ w. x.drafts p k (sym w.1 ∙ d))
      (set_cases states q 1 p 0 h);
  others = λ p k f. ⊎_elim (λ w. absurd (f w.1)) (λ w. x.others p k (λ e. f (w.1 ∙ e))) (set_cases states q 1 p 0 h);
}

-- frozen pieces become free
module _ (b : Base) (small : b.n ≤ 1024) (wells : (p : ℕ) → p < b.n → Well b p) (f : ℕ → Bool) (frozen : (p : ℕ) → p < b.n → T (f p) → state b p ≡ 2) where
  place_freed : (p i : ℕ) → p < b.n → state b p ≡ 1 → i < 4 * b.n → hit p (i / 4) ((free_all b f).links ! i) ≡ hit p (i / 4) (b.links ! i)
  place_freed p i h d l = ⊎_elim freed kept (T_dec (f (i / 4)))
    where
      r : ℕ
      r = i / 4

      k : ℕ
      k = i % 4

      whole : 4 * (i / 4) + i % 4 ≡ i
      whole = omega arith

      at : (c : Base) → link_at c (i / 4) (i % 4) ≡ c.links ! i
      at c = unfold link_at in (ap (λ (j : ℕ). c.links ! j) whole)

      no_draft : Well b (i / 4) → state b (i / 4) ≡ 2 → b.links ! i ≡ p → ⊥
      no_draft (wfree w) e y = let z = w.is in omega arith
      no_draft (wdraft w) e y = let z = w.is in omega arith
      no_draft (wfrozen w) e y = ⊎_elim
          (λ z. omega (arith, at b))
          (λ z. let v : state b (link_at b (i / 4) (i % 4)) ≡ state b p = ap (state b) (at b ∙ y) in let u = z.is in omega arith)
          (w.links (i % 4) (omega arith))

      freed : T (f (i / 4)) → hit p (i / 4) ((free_all b f).links ! i) ≡ hit p (i / 4) (b.links ! i)
      freed t =
          let e : (free_all b f).links ! i ≡ none = sym (at (free_all b f)) ∙ (freed_well b f (i / 4) (omega arith) t).links (i % 4) (omega arith) in
          hit_off p (i / 4) ((free_all b f).links ! i) (λ y. omega arith)
          ∙ sym (hit_off p (i / 4) (b.links ! i) (no_draft (wells (i / 4) (omega arith)) (frozen (i / 4) (omega arith) t)))

      kept : T (not (f (i / 4))) → hit p (i / 4) ((free_all b f).links ! i) ≡ hit p (i / 4) (b.links ! i)
      kept t = ap (hit p (i / 4)) (sym (at (free_all b f)) ∙ link_kept b f (i / 4) (i % 4) (omega arith) (omega arith) t ∙ at b)

  pub into_freed : {into : List ℕ} → Into b.n b.states b.links into → Into (free_all b f).n (free_all b f).states (free_all b f).links into
  unfolding state
  into_freed x = unfold free_all in (into_same x back on place_freed)
    where
      back : (p : ℕ) → p < b.n → (free_all b f).states ! p ≡ 1 → b.states ! p ≡ 1
      back p h e = ⊎_elim
          (λ t. absurd (let z = (freed_well b f p h t).is in omega arith))
          (λ t. sym (state_kept b f p h t) ∙ e)
          (T_dec (f p))

      on : (p : ℕ) → p < b.n → b.states ! p ≡ 1 → (free_all b f).states ! p ≡ 1
      on p h e = ⊎_elim
          (λ t. absurd (let z = frozen p h t in omega arith))
          (λ t. state_kept b f p h t ∙ e)
          (T_dec (f p))

-- what is no longer kept becomes free
pub into_settled : (b : Base) → b.n ≤ 1024 → ((p : ℕ) → p < b.n → Well b p) → {into : List ℕ} → Into b.n b.states b.links into
    → Into (free_all b (gone b)).n (free_all b (gone b)).states (free_all b (gone b)).links into
into_settled b small wells x = into_freed b small wells (gone b) (λ p h t. (is_frozen→ b p h (and_left (is_frozen b p) (not (is_kept b p)) (unfold gone in t))).is) x
