-- What is told of names: the first of their rows that applies, case by case; and what right names say.
use Rattle.std.specs.Prelude.{◌≡◌, true, false, not, List, ℕ, ◌≤◌, ◌<◌, T, Result, Ok, Err, eqb, ltb}
use Rattle.std.proofs.Math.Path.{sym, ap}
use Rattle.std.proofs.Common.{◌∙◌, T_not}
use Rattle.std.proofs.Math.Dec.{ltb→lt}
use borrow.Author.Tests.{eq-eqb, ne_eqb, lt-ltb, le-ltb}
use Rattle.rules.specs.Limits.{none}
use Rattle.rules.specs.Lists.{◌!◌}
use Rattle.rules.specs.Commands.{Verdict, accepted, refused, first_of}
use Rattle.rules.specs.declared.Refusal.{Refusal}
use Rattle.rules.specs.declared.Refusal.TheVariants.{Number, Place, Target, Free, FreeTarget}
use Rattle.laws.specs.Words.{eqb_of}
use Rattle.laws.specs.Passes.{passed_all, not-not}
use Rattle.naming.specs.Rows.{none-target, past_target, piece_target, beyond, piece_rows, link_rows}

-- as a verdict
abbrev pub verdict_of : Result (Unit {0}) Refusal → Verdict
verdict_of (Err r) = refused r
verdict_of (Ok _) = accepted

-- r is what the rows for a piece give
pub record ToldPiece (n : ℕ) (states : List ℕ) (p : ℕ) (r : Result (Unit {0}) Refusal) : Type 0 where
  pub exact : verdict_of r ≡ first_of (piece_rows n states p)

-- r is what the rows for a piece, a place and a target give
pub record ToldLink (n : ℕ) (states : List ℕ) (p k t : ℕ) (r : Result (Unit {0}) Refusal) : Type 0 where
  pub exact : verdict_of r ≡ first_of (link_rows n states p k t)

-- ---- a piece

module _ {n : ℕ} {states : List ℕ} {p : ℕ} where
  pub piece_number : n ≤ p → ToldPiece n states p (Err Number)
  unfolding first_of piece_rows
  piece_number h = record { exact = rw (le-ltb p n h) }

  module _ (below : p < n) where
    pub piece_free : states ! p ≡ 0 → ToldPiece n states p (Err Free)
    unfolding first_of piece_rows
    piece_free h = record { exact = rw (lt-ltb p n below, eq-eqb (states ! p) 0 h) }

    pub piece_right : (states ! p ≡ 0 → ⊥) → ToldPiece n states p (Ok tt)
    unfolding first_of piece_rows
    piece_right h = record { exact = rw (lt-ltb p n below, ne_eqb (states ! p) 0 h) }

-- ---- a piece, a place and a target

module _ {n : ℕ} {states : List ℕ} {p k t : ℕ} where
  pub link_number : n ≤ p → ToldLink n states p k t (Err Number)
  unfolding first_of link_rows
  link_number h = record { exact = rw (le-ltb p n h) }

  module _ (below : p < n) where
    pub link_place : 4 ≤ k → ToldLink n states p k t (Err Place)
    unfolding first_of link_rows
    link_place h = record { exact = rw (lt-ltb p n below, le-ltb k 4 h) }

    module _ (inside : k < 4) where
      pub link_target : true ≡ beyond n t → ToldLink n states p k t (Err Target)
      unfolding first_of link_rows
      link_target e = record { exact = rw (lt-ltb p n below, lt-ltb k 4 inside, sym e) }

      module _ (aims : false ≡ beyond n t) where
        pub link_free : states ! p ≡ 0 → ToldLink n states p k t (Err Free)
        unfolding first_of link_rows
        link_free h = record { exact = rw (lt-ltb p n below, lt-ltb k 4 inside, sym aims, eq-eqb (states ! p) 0 h) }

        module _ (live : states ! p ≡ 0 → ⊥) where
          pub link_none : t ≡ none → ToldLink n states p k t (Ok tt)
          unfolding first_of link_rows
          link_none h = record { exact = rw (lt-ltb p n below, lt-ltb k 4 inside, sym aims, ne_eqb (states ! p) 0 live, eq-eqb t none h) }

          module _ (d : t ≡ none → ⊥) where
            pub link_free_target : states ! t ≡ 0 → ToldLink n states p k t (Err FreeTarget)
            unfolding first_of link_rows
            link_free_target h = record {
              exact = rw (lt-ltb p n below, lt-ltb k 4 inside, sym aims, ne_eqb (states ! p) 0 live, ne_eqb t none d, eq-eqb (states ! t) 0 h);
            }

            pub link_right : (states ! t ≡ 0 → ⊥) → ToldLink n states p k t (Ok tt)
            unfolding first_of link_rows
            link_right h = record {
              exact = rw (lt-ltb p n below, lt-ltb k 4 inside, sym aims, ne_eqb (states ! p) 0 live, ne_eqb t none d, ne_eqb (states ! t) 0 h);
            }

-- each way through a test of names is one row
pub ruleset told_piece = (piece_number, piece_free, piece_right)

pub ruleset told_link = (none-target, past_target, piece_target, link_number, link_place, link_target, link_free, link_none, link_free_target, link_right)

-- ---- what right names say

-- P is a piece
pub record NamedPiece (n : ℕ) (states : List ℕ) (p : ℕ) : Type 0 where
  pub right : first_of (piece_rows n states p) ≡ accepted
  pub below : p < n
  pub live : states ! p ≡ 0 → ⊥

-- P is a piece, K one of its places, and T none or a piece
pub record NamedLink (n : ℕ) (states : List ℕ) (p k t : ℕ) : Type 0 where
  pub right : first_of (link_rows n states p k t) ≡ accepted
  pub below : p < n
  pub inside : k < 4
  pub live : states ! p ≡ 0 → ⊥

not_free : (x : ℕ) → T (not (eqb x 0)) → x ≡ 0 → ⊥
not_free x t e = T_not (eqb x 0) t (eqb_of e)

module _ {n : ℕ} {states : List ℕ} {p : ℕ} {r : Result (Unit {0}) Refusal} (told : ToldPiece n states p r) where
  pub piece_wrong : {q : Refusal} → r ≡ Err q → first_of (piece_rows n states p) ≡ refused q
  piece_wrong is = sym told.exact ∙ ap verdict_of is

  pub piece_named : r ≡ Ok tt → NamedPiece n states p
  unfolding piece_rows
  piece_named is =
      let e = sym told.exact ∙ ap verdict_of is in
      let rows = passed_all (piece_rows n states p) e in
      record { right = e; below = ltb→lt p n (not-not (ltb p n) rows.0); live = not_free (states ! p) rows.1.0 }

module _ {n : ℕ} {states : List ℕ} {p k t : ℕ} {r : Result (Unit {0}) Refusal} (told : ToldLink n states p k t r) where
  pub link_wrong : {q : Refusal} → r ≡ Err q → first_of (link_rows n states p k t) ≡ refused q
  link_wrong is = sym told.exact ∙ ap verdict_of is

  pub link_named : r ≡ Ok tt → NamedLink n states p k t
  unfolding link_rows
  link_named is =
      let e = sym told.exact ∙ ap verdict_of is in
      let rows = passed_all (link_rows n states p k t) e in
      record {
        right = e;
        below = ltb→lt p n (not-not (ltb p n) rows.0);
        inside = ltb→lt k 4 (not-not (ltb k 4) rows.1.0);
        live = not_free (states ! p) rows.1.1.1.0;
      }
