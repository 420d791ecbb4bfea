-- What stands, said by the test of soundness: such a fact has one proof, as the ghost field of a struct asks.
use Rattle.std.specs.Prelude.{◌≡◌, refl, Bool, true, false, List, ℕ, ◌*◌, ◌≤◌, T, length}
use Rattle.std.proofs.Common.{sym, subst}
use Rattle.rules.specs.Tables.{Store, is_sound_store}
use Rattle.rules.specs.Words.{SizedStore}
use Rattle.demands.specs.Sound.{sound_store→, →sound_store}
use Rattle.areas.specs.Lowest.{NoneFree}
use Rattle.obeying.specs.Obeyed.{Stands}

pub record Tested (n : ℕ) (s : Store) (l w : List ℕ) (from : ℕ) : Type 0 where
  pub least : 1 ≤ s.tables.base.n
  pub sized : SizedStore s
  pub sound : is_sound_store s ≡ true
  pub room : n ≤ length l
  pub wide : 8 * n ≤ length w
  pub small : from ≤ n
  pub none : NoneFree s.tables.base.states from

-- ---- laws

T_true : (b : Bool) → T b → b ≡ true
T_true true h = refl
T_true false h = absurd h

module _ {n : ℕ} {s : Store} {l w : List ℕ} {from : ℕ} where
  pub tested : Stands n s l w from → Tested n s l w from
  tested x = record {
    least = x.ready.least;
    sized = x.ready.sized;
    sound = T_true (is_sound_store s) (→sound_store s x.ready.sound);
    room = x.room;
    wide = x.wide;
    small = x.small;
    none = x.none;
  }

  pub stands_by : Tested n s l w from → Stands n s l w from
  stands_by x = record {
    ready = record { least = x.least; sized = x.sized; sound = sound_store→ s x.sized (subst T (sym x.sound) tt) };
    room = x.room;
    wide = x.wide;
    small = x.small;
    none = x.none;
  }
