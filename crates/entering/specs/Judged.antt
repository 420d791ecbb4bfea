-- How a call begins, from its tests: the sizes, the tables, and the register beside them.
use Rattle.std.specs.Prelude.{◌≡◌, refl, Bool, true, false, not, List, ℕ, ◌*◌, ◌≤◌, T, eqb, length}
use Rattle.std.proofs.Common.{sym, ap, ◌∙◌, subst, arith}
use Rattle.rules.specs.Tests.{◌&◌}
use Rattle.rules.specs.Lists.{◌!◌}
use Rattle.rules.specs.Below.{every}
use Rattle.rules.specs.Register.{is_right, held_in}
use Rattle.rules.specs.Tables.{Store, holds_of, is_sound, sums_right, into_right, is_sound_store}
use Rattle.rules.specs.Words.{SizedStore}
use Rattle.rules.specs.Calls.{is_sized_store}
use Rattle.laws.specs.Calls.{sized_store→}
use Rattle.tallies.specs.Adding.{LaterSame, later_then, later_on}
use Rattle.tallies.specs.Parts.{part_of, part_back, back_later}

no_more : (b : Bool) → (b & false) ≡ false
no_more true = refl
no_more false = refl

-- what `if !r` tells of a test r
pub denied : {r b : Bool} → not r ≡ true → r ≡ b → T (not b)
denied {r = true} e f = absurd (let z : ◌≡◌ {A = ℕ} 0 1 = cc e in omega arith)
denied {r = false} e f = subst (λ (x : Bool). T (not x)) f tt

pub granted : {r b : Bool} → not r ≡ false → r ≡ b → T b
granted {r = true} e f = subst T f tt
granted {r = false} e f = absurd (let z : ◌≡◌ {A = ℕ} 0 1 = cc e in omega arith)

-- past `if !sized` every size of the store is right
pub sizes : {s : Store} {r : Bool} → not r ≡ false → r ≡ is_sized_store s → (1 ≤ s.tables.base.n) × SizedStore s
sizes {s} e f = sized_store→ s (granted e f)

-- ---- soundness

-- the register's own test
abbrev pub agrees : Store → Bool
agrees s =
    is_right s.tables.base.n s.register & every (λ p. eqb (s.tables.base.holds ! p) (held_in s.register p)) s.tables.base.n

-- the tables' own, with the links into each draft
abbrev pub follows : Store → Bool
follows s = is_sound s.tables & into_right s.tables.base s.into

-- both decide
sound_is : (s : Store) → is_sound_store s ≡ (follows s & agrees s)
unfolding is_sound_store sums_right holds_of
sound_is s = turn (is_sound s.tables) (is_right s.tables.base.n s.register) _ (into_right s.tables.base s.into)
  where
    turn : (a b c d : Bool) → (a & b & c & d) ≡ ((a & d) & b & c)
    turn true true true d = same d
      where
        same : (d : Bool) → d ≡ (d & true)
        same true = refl
        same false = refl
    turn true true false d = sym (no_more d)
    turn true false c d = sym (no_more d)
    turn false b c d = refl

-- where the tables or the links into a draft are not right, that decides; else the register does, over the eighth region
module _ (s : Store) {work work' : List ℕ} (w : LaterSame (8 * s.tables.base.n) work work') where
  pub judged_flawed : {r : Bool} → r ≡ false → r ≡ follows s → (r ≡ is_sound_store s) × LaterSame (8 * s.tables.base.n) work work'
  judged_flawed e f = (e ∙ sym (sound_is s ∙ ap (λ (b : Bool). b & agrees s) (sym f ∙ e)), w)

  pub judged_sound : {r a : Bool} {part : List ℕ} → 8 * s.tables.base.n ≤ length work → r ≡ true → r ≡ follows s → a ≡ agrees s
      → LaterSame s.tables.base.n (part_of (7 * s.tables.base.n) work') part
      → (a ≡ is_sound_store s) × LaterSame (8 * s.tables.base.n) work (part_back (7 * s.tables.base.n) work' part)
  judged_sound {part = part} wide e f g v =
      let n = s.tables.base.n in (
        g ∙ sym (sound_is s ∙ ap (λ (b : Bool). b & agrees s) (sym f ∙ e)),
        later_then w (later_on (8 * n) (omega arith) (back_later (7 * n) work' (omega (arith, wide, w.size)) part v)),
      )
