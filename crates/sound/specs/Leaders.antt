-- Where every piece is well and all frozen pieces are searched, the third region has the leaders as defined.
use Rattle.std.specs.Prelude.{◌≡◌, Bool, ◌⊎◌, List, ℕ, ◌+◌, ◌*◌, ◌≤◌, ◌<◌}
use Rattle.std.proofs.Math.Path.{sym}
use Rattle.std.proofs.Common.{◌∙◌, inl, inr, ⊎_elim}
use Rattle.std.proofs.Math.Dec.{not_T}
use Rattle.rules.specs.Limits.{none}
use Rattle.rules.specs.Tables.{Base, state, is_frozen, leader_of, leader_entry}
use Rattle.rules.specs.Words.{Frozen, Well}
use Rattle.rules.specs.Lists.{◌!◌}
use Rattle.laws.specs.Words.{leader_of_is, leader-one, is_frozen→}
use Rattle.laws.specs.Sound.{leader_entry_frozen, leader_entry_other}
use Rattle.laws.specs.Numbers.{eq_or}
use Rattle.paths.specs.Classes.{frozen_leader}
use Rattle.groups.specs.Grouped.{Grouped, Of}
use Rattle.sound.specs.Truthful.{Truthful, tells_same, Below}

-- the leader of a frozen piece is that of the search, and any other piece has none
abbrev pub Led : ℕ → ℕ → ℕ → Type 0
Led state leader found = ((state ≡ 2) × (leader ≡ found)) ⊎ ((state ≡ 2 → ⊥) × (leader ≡ none))

abbrev pub LeaderFound : ℕ → List ℕ → List ℕ → List ℕ → ℕ → Type 0
LeaderFound n states leaders work p = Led (states ! p) (leaders ! p) (work ! (2 * n + p))

-- leaders: frozen: its group's leader; else none
abbrev pub LeadersRight : Base → List ℕ → Type 0
LeadersRight b leaders = Below (λ p. leaders ! p ≡ leader_entry b p) b.n

pub entry_other : (b : Base) (p : ℕ) → p < b.n → (b.states ! p ≡ 2 → ⊥) → leader_entry b p ≡ none
unfolding state
entry_other b p h f = leader_entry_other b p (not_T (is_frozen b p) (λ t. f (is_frozen→ b p h t).is))

-- what the search found is right, and what is right was found
module _ {b : Base} (small : b.n ≤ 1024) (wells : Below (Well b) b.n) {w w' : List ℕ} (M : Grouped b.n b.links (Of b.states 2) w w') where
  entry_frozen : (p : ℕ) → p < b.n → b.states ! p ≡ 2 → w' ! (2 * b.n + p) ≡ leader_entry b p
  unfolding state
  entry_frozen p h e =
      let f : Frozen b p = record { below = h; is = e } in
      leader-one b p (w' ! (2 * b.n + p)) (leader_of b p) (frozen_leader small wells f (M.leads p h e)) (leader_of_is b p f) ∙ sym (leader_entry_frozen b p e)

  pub leaders_told : (leaders : List ℕ) {r : Bool} → Truthful (Below (LeaderFound b.n b.states leaders w') b.n) r → Truthful (LeadersRight b leaders) r
  leaders_told leaders =
      tells_same
      (λ f p h. ⊎_elim (λ x. x.1 ∙ entry_frozen p h x.0) (λ x. x.1 ∙ sym (entry_other b p h x.0)) (f p h))
      (λ r p h. ⊎_elim (λ e. inl (e, r p h ∙ sym (entry_frozen p h e))) (λ d. inr (d, r p h ∙ entry_other b p h d)) (eq_or (b.states ! p) 2))
