-- Where every piece is well: what leaves the frozen pieces, or the drafts, does not come back; and a lead among frozen pieces is the rulebook's leader.
use Rattle.std.proofs.Math.Path.{◌≡◌, sym}
use Rattle.std.proofs.Common.{◌∙◌, subst, inl, inr, arith}
use Rattle.std.specs.Prelude.{◌⊎◌, ℕ, ◌≤◌, ◌<◌}
use Rattle.std.proofs.Math.Logic.{⊎_elim}
use Rattle.rules.specs.Limits.{most, none}
use Rattle.rules.specs.Reach.{Link, here, chain}
use Rattle.rules.specs.Tables.{Base, state, link_at}
use Rattle.rules.specs.Words.{Frozen, Reaches, Leader, Well, wfree, wdraft, wfrozen}
use Rattle.laws.specs.Words.{end_below}
use Rattle.paths.specs.Ground.{ground, OneWay, Lead, link_in}

module _ (b : Base) (small : b.n ≤ most) (wells : (p : ℕ) → p < b.n → Well b p) where
  no_link : {p q : ℕ} → Link b.n (link_at b) p q → (t : ℕ) → t ≡ q → t ≡ none → ⊥
  no_link l t d e = omega (arith, l.to)

  frozen_next : {p q : ℕ} → state b p ≡ 2 → Link b.n (link_at b) p q → Well b p → state b q ≡ 2
  frozen_next {p} {q} e l (wfree w) = absurd (omega (arith, e, w.is))
  frozen_next {p} {q} e l (wdraft w) = absurd (omega (arith, e, w.is))
  frozen_next {p} {q} e l (wfrozen w) =
      ⊎_elim
      (λ z. absurd (no_link l (link_at b p l.place) l.names z))
      (λ f. subst (λ (x : ℕ). state b x ≡ 2) l.names f.is)
      (w.links l.place l.inside)

  -- all that a frozen piece links to is frozen
  pub frozen_stays : {p q : ℕ} → state b p ≡ 2 → Reaches b p q → state b q ≡ 2
  frozen_stays e here = e
  frozen_stays e (chain {p = p} l r) = frozen_stays (frozen_next e l (wells p l.from)) r

  draft_next : {p q : ℕ} → state b p ≡ 1 → Link b.n (link_at b) p q → Well b p → (state b q ≡ 1) ⊎ (state b q ≡ 2)
  draft_next {p} {q} e l (wfree w) = absurd (omega (arith, e, w.is))
  draft_next {p} {q} e l (wfrozen w) = absurd (omega (arith, e, w.is))
  draft_next {p} {q} e l (wdraft w) =
      ⊎_elim
      (λ z. absurd (no_link l (link_at b p l.place) l.names z))
      (λ v. ⊎_elim
      (λ d. inl (subst (λ (x : ℕ). state b x ≡ 1) l.names d.is))
      (λ f. inr (subst (λ (x : ℕ). state b x ≡ 2) l.names f.is))
      v)
      (w.links l.place l.inside)

  -- the class of freeze: a draft's links are none or live, and what is frozen names no draft
  pub drafts_closed : OneWay (ground b.n b.states b.links 1)
  unfolding state link_at
  drafts_closed = record {
    stays = λ e l out d way.
        ⊎_elim
        (λ x. out x)
        (λ x. let f = frozen_stays x way in let z : ◌≡◌ {A = ℕ} 1 2 = sym d ∙ f in omega arith)
        (draft_next e l (wells _ l.from));
  }

  -- the class of check: a frozen piece's links are none or frozen
  pub frozen_closed : OneWay (ground b.n b.states b.links 2)
  unfolding state link_at
  frozen_closed = record { stays = λ e l out d way. out (frozen_next e l (wells _ l.from)) }

-- where all that x reaches and that reach x are frozen, its lead is its leader
pub lead_leader : {b : Base} {p l : ℕ} → ((q : ℕ) → Reaches b p q → Reaches b q p → Frozen b q) → Lead b.n (link_in b.links) p l → Leader b p l
unfolding link_at
lead_leader {l = l} frozen L = record {
  member = record { frozen = frozen l L.there L.back; there = L.there; back = L.back };
  lowest = λ q m. L.lowest q m.there m.back;
}

-- a frozen piece's lead is its leader
pub frozen_leader : {b : Base} → b.n ≤ most → ((p : ℕ) → p < b.n → Well b p) → {p l : ℕ} → Frozen b p → Lead b.n (link_in b.links) p l → Leader b p l
frozen_leader {b} small wells f L = lead_leader (λ q r s. record { below = end_below f.below r; is = frozen_stays b small wells f.is r }) L
