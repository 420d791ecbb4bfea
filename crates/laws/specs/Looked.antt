-- What look sees in sound tables: of a frozen piece its group's leader, that group's count and its own holds; of a draft 1, none, 0, 0.
use Rattle.std.specs.Prelude.{◌≡◌, Bool, ℕ, ◌+◌}
use Rattle.std.proofs.Common.{sym, ◌∙◌, arith}
use Rattle.std.proofs.Math.Path.{ap, ap₂}
use Rattle.std.proofs.Math.Bool.{not}
use Rattle.std.proofs.Math.ListN.{get_or-eq_default}
use Rattle.rules.specs.Tests.{◌&◌, only_if}
use Rattle.rules.specs.Limits.{none}
use Rattle.rules.specs.Below.{sum}
use Rattle.rules.specs.Tables.{Base, Tables, is_live, link_at, holds_of, in_group, leader_of, places, count_of}
use Rattle.rules.specs.Words.{Draft, Frozen, Group, Leader, Sized, Sound, leader_at, count_at}
use Rattle.rules.specs.Calls.{seen_at}
use Rattle.laws.specs.Tests.{same_test}
use Rattle.laws.specs.Below.{sum_cong}
use Rattle.laws.specs.Words.{in_group→, →in_group, not_frozen, leader_of_is, leader-one}
use Rattle.laws.specs.Sound.{Entries, sound→entries, leader_entry_frozen, leader_entry_other, count_entry-leads}
use Rattle.laws.specs.Passes.{draft_of}
use Rattle.laws.specs.Groups.{group_turn, group_back, leader_shared}
use Rattle.rules.specs.Replies.{piece_seen}

-- members of one group have one count
module _ (b : Base) (p q : ℕ) (f : Frozen b p) (g : Group b p q) where
  same_members : (r : ℕ) → in_group b p r ≡ in_group b q r
  same_members r =
      same_test (in_group b p r) (in_group b q r) (λ t. →in_group b q r g.frozen.below (group_turn b g (in_group→ b p r t)))
      (λ t. →in_group b p r f.below (group_turn b (group_back b f g) (in_group→ b q r t)))

  pub same_count : count_of b p ≡ count_of b q
  unfolding count_of places
  same_count = ap₂ (λ (x y : ℕ). x + y) (sum_cong _ _ b.n (λ r _. ap (λ (x : Bool). only_if x (holds_of b r)) (same_members r))) (sum_cong _ _ b.n (λ r _.
      ap (λ (x : Bool). only_if (is_live b r & not x) (sum (λ k. only_if (in_group b p (link_at b r k)) 1) 4)) (same_members r)
      ∙ ap (λ (x : ℕ). only_if (is_live b r & not (in_group b q r)) x) (sum_cong _ _ 4 (λ k _. ap (λ (x : Bool). only_if x 1) (same_members (link_at b r k))))))

module _ (s : Tables) (z : Sized s) (sd : Sound s) (p : ℕ) where
  entries : Entries s
  entries = sound→entries s sd

  -- state, leader, count of its group, holds of P
  pub look_frozen : Frozen s.base p → seen_at s p ≡ piece_seen 2 (leader_of s.base p) (count_of s.base p) (holds_of s.base p)
  unfolding seen_at
  look_frozen f = λ i. piece_seen (f.is i) (led i) (counted i) (holds_of s.base p)
    where
      led : leader_at s p ≡ leader_of s.base p
      led = entries.leaders p f.below ∙ leader_entry_frozen s.base p f.is

      l : ℕ
      l = leader_of s.base p

      is : Leader s.base p l
      is = leader_of_is s.base p f

      own : leader_of s.base l ≡ l
      own = leader-one s.base l (leader_of s.base l) l (leader_of_is s.base l is.member.frozen) (leader_shared s.base f is.member is)

      counted : count_at s (leader_at s p) ≡ count_of s.base p
      counted =
          ap (count_at s) led ∙ entries.counts l is.member.frozen.below ∙ count_entry-leads s.base l is.member.frozen.is own ∙ sym (same_count s.base p l f is.member)

  -- for a draft 1, none, 0, 0
  pub look_draft : Draft s.base p → seen_at s p ≡ piece_seen 1 none 0 0
  unfolding seen_at
  look_draft d = λ i. piece_seen (d.is i) (led i) (counted i) ((draft_of s.base p (entries.good.wells p d.below) d.is).holds i)
    where
      led : leader_at s p ≡ none
      led = entries.leaders p d.below ∙ leader_entry_other s.base p (not_frozen s.base p 1 d.is tt)

      counted : count_at s (leader_at s p) ≡ 0
      counted = ap (count_at s) led ∙ get_or-eq_default s.counts 0 {n = none} (omega (arith, z.counts, z.base.most))
