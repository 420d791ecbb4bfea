-- The test of a sound store says what the words say, and the empty store is sound.
use Rattle.std.specs.Prelude.{◌≡◌, ℕ, ◌+◌, ◌*◌, ◌≤◌, T, get_or, replicate}
use Rattle.std.proofs.Common.{sym, ◌∙◌, arith}
use Rattle.std.proofs.Math.Dec.{eqb, eqb→eq}
use Rattle.std.proofs.lemmas.List.{length-replicate, get_or-replicate}
use Rattle.rules.specs.Limits.{most, none, entries}
use Rattle.rules.specs.Lists.{◌!◌}
use Rattle.rules.specs.Below.{every}
use Rattle.rules.specs.Register.{is_right, held_in}
use Rattle.rules.specs.Tables.{Base, Store, state, link_at, holds_of, into_entry, is_sound, sums_right, into_right, is_sound_store, empty_tables, empty}
use Rattle.rules.specs.Words.{free, SizedStore, SoundStore}
use Rattle.laws.specs.Tests.{and_both, and_left, and_right}
use Rattle.laws.specs.Below.{every→, →every}
use Rattle.laws.specs.Words.{eqb_of}
use Rattle.laws.specs.Sound.{is_sound→, →is_sound}
use Rattle.into.specs.Into.{entry_other}
use Rattle.register.specs.Decided.{is_right→, →is_right}
use Rattle.register.specs.Empty.{empty_right, empty-total}

-- each area of the store has its length, and the store is sound
pub record OkStore (s : Store) : Type 0 where
  pub sized : SizedStore s
  pub sound : SoundStore s

module _ (s : Store) where
  abbrev b : Base
  b = s.tables.base

  pub sound_store→ : SizedStore s → T (is_sound_store s) → SoundStore s
  unfolding is_sound_store sums_right into_right
  sound_store→ z t =
      let r = and_right (is_sound s.tables) _ t in
      let m = and_right (is_right b.n s.register) _ r in
      record {
        tables = is_sound→ s.tables (and_left (is_sound s.tables) _ t);
        register = is_right→ b.n s.register z.tables.base.most z.register (and_left (is_right b.n s.register) _ r);
        sums = λ p h.
            eqb→eq (holds_of b p) (held_in s.register p)
            (every→ (λ q. eqb (holds_of b q) (held_in s.register q)) b.n (and_left (every (λ q. eqb (holds_of b q) (held_in s.register q)) b.n) _ m) p h);
        into = λ p h.
            eqb→eq (s.into ! p) (into_entry b p)
            (every→ (λ q. eqb (s.into ! q) (into_entry b q)) b.n (and_right (every (λ q. eqb (holds_of b q) (held_in s.register q)) b.n) _ m) p h);
      }

  pub →sound_store : SoundStore s → T (is_sound_store s)
  unfolding is_sound_store sums_right into_right
  →sound_store o =
      and_both (is_sound s.tables) _ (→is_sound s.tables o.tables)
      (and_both (is_right b.n s.register) _ (→is_right b.n s.register o.register)
      (and_both (every (λ q. eqb (holds_of b q) (held_in s.register q)) b.n) _ (→every (λ q. eqb (holds_of b q) (held_in s.register q)) b.n (λ p h. eqb_of (o.sums p h)))
      (→every (λ q. eqb (s.into ! q) (into_entry b q)) b.n (λ p h. eqb_of (o.into p h)))))

pub empty-ok : (n : ℕ) → n ≤ most → OkStore (empty n)
unfolding empty empty_tables state link_at holds_of
empty-ok n h = record {
  sized = record {
    tables = record {
      base = record { states = length-replicate n 0; links = length-replicate (4 * n) none; holds = length-replicate n 0; most = h };
      leaders = length-replicate n none;
      counts = length-replicate n 0;
    };
    register = length-replicate {A = ℕ} entries 0;
    into = length-replicate n 0;
  };
  sound = record {
    tables = λ p l. free
        (record { is = get_or-replicate n p 0 0 l; links = λ k i. get_or-replicate (4 * n) (4 * p + k) none 0 (omega arith); holds = get_or-replicate n p 0 0 l })
        (get_or-replicate n p none 0 l) (get_or-replicate n p 0 0 l);
    register = empty_right n;
    sums = λ p l. get_or-replicate n p 0 0 l ∙ sym (empty-total (λ t q. eqb q p));
    into = λ p l. get_or-replicate n p 0 0 l ∙ sym (entry_other (empty_tables n).base p (λ e. let z : ◌≡◌ {A = ℕ} (get_or (replicate n 0) p 0) 0 = get_or-replicate n p 0 0 l in omega arith));
  };
}
