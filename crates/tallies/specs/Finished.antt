-- Exact labels and matching counts are the leaders and counts of the finished store.
use Rattle.std.specs.Prelude.{◌≡◌, List, ℕ, ◌<◌, length}
use Rattle.std.proofs.Math.Path.{sym, subst}
use Rattle.std.proofs.Common.{◌∙◌, ⊎_elim, arith}
use Rattle.std.proofs.Math.Dec.{not_T}
use Rattle.std.proofs.Math.Seq.{ext_get_or}
use Rattle.rules.specs.Limits.{none}
use Rattle.rules.specs.Below.{table}
use Rattle.rules.specs.Tables.{tables_on, Base, state, is_frozen, leader_of, leader_entry, count_entry, finish}
use Rattle.rules.specs.Words.{Frozen, Well}
use Rattle.rules.specs.Lists.{◌!◌}
use Rattle.laws.specs.Below.{get_or-table, length-table}
use Rattle.laws.specs.Words.{is_frozen→, leader_of_is, leader-one}
use Rattle.laws.specs.Sound.{leader_entry_frozen, leader_entry_other}
use Rattle.laws.specs.Numbers.{eq_or}
use Rattle.tallies.specs.Sums.{get_or_any}
use Rattle.tallies.specs.Tally.{label, CountsMatch}
use Rattle.tallies.specs.Exact.{Exact, tally_entry}

module _ (b : Base) (leaders : List ℕ) (x : Exact b leaders) where
  leader-at : (p : ℕ) → p < b.n → leaders ! p ≡ leader_entry b p
  leader-at p h =
      get_or_any leaders p 0 none (omega (arith, x.size)) ∙
      ⊎_elim
      (λ s. let f : Frozen b p = record { below = h; is = s } in leader-one b p (label leaders p) (leader_of b p) (x.leads p f) (leader_of_is b p f) ∙ sym (leader_entry_frozen b p s))
      (λ s. x.others p h s ∙ sym (leader_entry_other b p (not_T (is_frozen b p) (λ t. s (is_frozen→ b p h t).is))))
      (eq_or (state b p) 2)

  pub leaders_finished : leaders ≡ (finish b).leaders
  unfolding finish
  leaders_finished =
      ext_get_or 0 leaders (table (leader_entry b) b.n) (x.size ∙ sym (length-table (leader_entry b) b.n))
      (λ p h. let k : p < b.n = subst (λ (u : ℕ). p < u) x.size h in leader-at p k ∙ sym (get_or-table (leader_entry b) b.n p 0 k))

  module _ (wells : (p : ℕ) → p < b.n → Well b p) (counts : List ℕ) (size : length counts ≡ b.n) (m : CountsMatch b.n b.links b.holds leaders counts) where
    pub counts_finished : counts ≡ (finish b).counts
    unfolding finish
    counts_finished =
        ext_get_or 0 counts (table (count_entry b) b.n) (size ∙ sym (length-table (count_entry b) b.n))
        (λ L h. let k : L < b.n = subst (λ (u : ℕ). L < u) size h in m L k ∙ tally_entry b leaders x wells L k ∙ sym (get_or-table (count_entry b) b.n L 0 k))

    pub finished : tables_on b leaders counts ≡ finish b
    unfolding finish
    finished = λ i. tables_on b (leaders_finished i) (counts_finished i)
