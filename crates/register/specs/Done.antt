-- What each way through `more`, `less` and `has_room` has done.
use Rattle.register.specs.Order.{used_below}
use Rattle.register.specs.Found.{Found, found_line}
use Rattle.register.specs.Has.{has_told, has_held, held_has, has_none}
use Rattle.register.specs.Room.{Room, room_free, room_last}
use Rattle.register.specs.Steps.{insert_room, more_has, more_new, less_last, less_some}
use Rattle.std.specs.Prelude.{◌≡◌, refl, Bool, true, false, not, List, ℕ, ◌+◌, ◌-◌, ◌*◌, ◌<◌, T, eqb, length, get_or, set}
use Rattle.std.proofs.Math.Path.{sym, ap}
use Rattle.std.proofs.Common.{◌∙◌, subst, arith, lt-ltb}
use Rattle.rules.specs.Tests.{◌&◌}
use Rattle.rules.specs.Limits.{lines}
use Rattle.rules.specs.Register.{number_at, Ordered, held_by, line_of, has_line, is_full, renumbered, inserted, removed, one_more_by, one_less_by}

T_true : (b : Bool) → T b → b ≡ true
T_true true t = refl
T_true false t = absurd t

not-true : (b : Bool) → (b ≡ true → ⊥) → b ≡ false
not-true true d = absurd (d refl)
not-true false d = refl

and_last : (a : Bool) {b : Bool} → b ≡ true → (a & b) ≡ a
and_last true e = e
and_last false e = refl

module _ {l : List ℕ} {s p i : ℕ} (o : Ordered l) (f : Found l s p i) where
  at : line_of l s p ≡ i
  at = found_line l o s p i f

  -- ---- the pair has its line

  module _ (t : has_line l i s p ≡ true) where
    pub line_inside : 3 * i + 2 < length l
    line_inside = omega (arith, used_below l o i (has_told l i s p t).0, o.size)

    pub line_value : get_or l (3 * i + 2) 0 ≡ held_by l s p
    unfolding number_at
    line_value = sym (has_held l o s p i f t)

    here : has_line l (line_of l s p) s p ≡ true
    here = subst (λ (r : ℕ). has_line l r s p ≡ true) (sym at) t

    pub more_counted : set l (3 * i + 2) (get_or l (3 * i + 2) 0 + 1) ≡ one_more_by l s p
    unfolding renumbered number_at
    more_counted = sym (more_has l o s p here ∙ ap (λ (r : ℕ). renumbered l r (number_at l r + 1)) at)

    pub less_counted : (get_or l (3 * i + 2) 0 ≡ 1 → ⊥) → set l (3 * i + 2) (get_or l (3 * i + 2) 0 - 1) ≡ one_less_by l s p
    unfolding renumbered number_at
    less_counted d = sym (less_some l o s p (λ e. d (sym (ap (number_at l) at) ∙ e)) ∙ ap (λ (r : ℕ). renumbered l r (number_at l r - 1)) at)

    pub less_removed : {m : List ℕ} → get_or l (3 * i + 2) 0 ≡ 1 → m ≡ removed l i → m ≡ one_less_by l s p
    unfolding number_at
    less_removed {m} e q = q ∙ sym (less_last l o s p (ap (number_at l) at ∙ e) ∙ ap (removed l) at)

  -- ---- it has none

  pub none-line : held_by l s p ≡ 0 → has_line l i s p ≡ false
  none-line e = not-true (has_line l i s p) (λ t. omega (arith, (has_told l i s p t).0, has_held l o s p i f t))

  pub insert_inside : number_at l 1023 ≡ 0 → i < lines
  insert_inside e = insert_room l o s p i f e

  pub more_free : has_line l i s p ≡ false → Room l s p → number_at l 1023 ≡ 0
  more_free t r = room_free l s p r (has_none l o s p i f t)

  pub more-inserted : {m : List ℕ} → has_line l i s p ≡ false → m ≡ inserted l i s p → m ≡ one_more_by l s p
  more-inserted {m} t q = q ∙ sym (more_new l o s p (subst (λ (a : ℕ). has_line l a s p ≡ false) (sym at) t) ∙ ap (λ (a : ℕ). inserted l a s p) at)

-- a pair with holds has its line
pub less_here : {l : List ℕ} {s p i : ℕ} → Ordered l → Found l s p i → 0 < held_by l s p → has_line l i s p ≡ true
less_here {l} {s} {p} {i} o f h = held_has l o s p i f h

-- ---- room, as the code tests it

pub free_said : (l : List ℕ) (s p : ℕ) → get_or l 3071 0 ≡ 0 → true ≡ not (eqb (held_by l s p) 0 & is_full l)
unfolding number_at
free_said l s p e = sym (T_true (not (eqb (held_by l s p) 0 & is_full l)) (room_last l s p e))

pub full_said : (l : List ℕ) (s p k : ℕ) → (get_or l 3071 0 ≡ 0 → ⊥) → k ≡ held_by l s p → not (eqb k 0) ≡ not (eqb (held_by l s p) 0 & is_full l)
unfolding is_full number_at
full_said l s p k d e = ap (λ (x : ℕ). not (eqb x 0)) e ∙ ap not (sym (and_last (eqb (held_by l s p) 0) (lt-ltb 0 (get_or l 3071 0) (omega (arith, d)))))

pub ruleset room_laws = (free_said, full_said)
