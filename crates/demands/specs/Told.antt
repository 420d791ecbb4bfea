-- What is told decides the rest: sound stores of one capacity with the same states, links and register are the same store.
use Rattle.std.specs.Prelude.{◌≡◌, ℕ, ◌<◌}
use Rattle.std.proofs.Math.Path.{sym, ap, subst}
use Rattle.std.proofs.Common.{◌∙◌}
use mathlib.Core.List.{List}
use Rattle.std.proofs.Math.Seq.{ext_get_or}
use Rattle.rules.specs.Register.{held_in}
use Rattle.rules.specs.Tables.{Store, base_of, store_by, holds_of, finish}
use Rattle.laws.specs.Sound.{determined}
use Rattle.into.specs.Into.{store_follows}
use Rattle.demands.specs.Sound.{OkStore}

-- two stores that were told the same
pub record SameTold (s s' : Store) : Type 0 where
  pub capacity : s.tables.base.n ≡ s'.tables.base.n
  pub states : s.tables.base.states ≡ s'.tables.base.states
  pub links : s.tables.base.links ≡ s'.tables.base.links
  pub register : s.register ≡ s'.register

module _ {s s' : Store} (o : OkStore s) (o' : OkStore s') (e : SameTold s s') where
  -- holds are the sums over the register
  told_holds : s.tables.base.holds ≡ s'.tables.base.holds
  unfolding holds_of
  told_holds = ext_get_or 0 s.tables.base.holds s'.tables.base.holds (o.sized.tables.base.holds ∙ e.capacity ∙ sym o'.sized.tables.base.holds) (λ p h.
      let l : p < s.tables.base.n = subst (λ (x : ℕ). p < x) o.sized.tables.base.holds h in
      o.sound.sums p l ∙ ap (λ (r : List ℕ). held_in r p) e.register ∙ sym (o'.sound.sums p (subst (λ (x : ℕ). p < x) e.capacity l)))

  -- leaders and counts follow from states, links and holds
  pub told_decides : s ≡ s'
  told_decides =
      store_follows o.sized o.sound
      ∙ (λ i. store_by (determined s.tables o.sized.tables o.sound.tables i) s.register)
      ∙ (λ i. store_by (finish (base_of (e.capacity i) (e.states i) (e.links i) (told_holds i))) (e.register i))
      ∙ sym (λ i. store_by (determined s'.tables o'.sized.tables o'.sound.tables i) s'.register)
      ∙ sym (store_follows o'.sized o'.sound)
