-- Where the frozen pieces and their links stay, their groups stay.
use Rattle.std.specs.Prelude.{◌≡◌, ℕ, ◌≤◌, ◌<◌}
use Rattle.std.proofs.Common.{sym, ◌∙◌, subst, ⊎_elim, arith}
use Rattle.rules.specs.Reach.{here, chain, Link}
use Rattle.rules.specs.Tables.{Base, link_at}
use Rattle.rules.specs.Words.{Frozen, Reaches, Group, Well}
use Rattle.laws.specs.Passes.{frozen_of}

-- a and b have the same frozen pieces, with the same links
pub record SameFrozen (a b : Base) : Type 0 where
  pub size : a.n ≡ b.n
  pub most : a.n ≤ 1024
  pub frozen : (p : ℕ) → Frozen a p → Frozen b p
  pub links : (p k : ℕ) → Frozen a p → k < 4 → link_at a p k ≡ link_at b p k

module _ (a b : Base) (ws : (p : ℕ) → p < a.n → Well a p) (e : SameFrozen a b) where
  frozen_on : (p q : ℕ) → Frozen a p → Link a.n (link_at a) p q → Frozen a q
  frozen_on p q f l =
      ⊎_elim (λ x. absurd (let y = l.names in let z = l.to in let m = e.most in omega arith)) (λ x. subst (Frozen a) l.names x)
      ((frozen_of a p (ws p f.below) f.is).links l.place l.inside)

  -- a chain from a frozen piece stays
  pub reach_stays : {p q : ℕ} → Frozen a p → Reaches a p q → Reaches b p q
  reach_stays f here = here
  reach_stays {p = p} f (chain {q = q} l r) =
      let g = frozen_on p q f l in
      chain (record { from = (e.frozen p f).below; to = (e.frozen q g).below; place = l.place; inside = l.inside; names = sym (e.links p l.place f l.inside) ∙ l.names }) (reach_stays g r)

  pub group_stays : {p q : ℕ} → Frozen a p → Group a p q → Group b p q
  group_stays f g = record { frozen = e.frozen _ g.frozen; there = reach_stays f g.there; back = reach_stays g.frozen g.back }
