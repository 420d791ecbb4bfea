-- The paper's rule: two frozen pieces share a leader exactly if each reaches the other. Kept, by counts.
use Rattle.std.specs.Prelude.{◌≡◌, ◌↔◌, ℕ}
use Rattle.std.proofs.Common.{sym, subst}
use Rattle.rules.specs.Tables.{Base, leader_of}
use Rattle.rules.specs.Words.{Frozen, Reaches, Group, Leader}
use Rattle.laws.specs.Words.{trans, leader_of_is, leader-one}

module _ (b : Base) where
  -- two pieces of one group have the same group
  pub group_turn : {p q r : ℕ} → Group b p q → Group b p r → Group b q r
  group_turn g h = record { frozen = h.frozen; there = trans g.back h.there; back = trans h.back g.there }

  pub group_back : {p q : ℕ} → Frozen b p → Group b p q → Group b q p
  group_back f g = record { frozen = f; there = g.back; back = g.there }

  pub leader_shared : {p q l : ℕ} → Frozen b p → Group b p q → Leader b p l → Leader b q l
  leader_shared f g x = record { member = group_turn g x.member; lowest = λ r h. x.lowest r (group_turn (group_back f g) h) }

  -- two frozen pieces share a leader exactly if each reaches the other
  pub share_leader : (p q : ℕ) → Frozen b p → Frozen b q → (leader_of b p ≡ leader_of b q) ↔ (Reaches b p q × Reaches b q p)
  share_leader p q f g = (to, from)
    where
      x : Leader b p (leader_of b p)
      x = leader_of_is b p f

      y : Leader b q (leader_of b q)
      y = leader_of_is b q g

      to : leader_of b p ≡ leader_of b q → Reaches b p q × Reaches b q p
      to e = (trans x.member.there (subst (λ (l : ℕ). Reaches b l q) (sym e) y.member.back), trans y.member.there (subst (λ (l : ℕ). Reaches b l p) e x.member.back))

      from : Reaches b p q × Reaches b q p → leader_of b p ≡ leader_of b q
      from r = leader-one b q (leader_of b p) (leader_of b q) (leader_shared f (record { frozen = g; there = r.0; back = r.1 }) x) y
