-- The laws of the tests: what a true one says of its parts.
use Rattle.std.specs.Prelude.{◌≡◌, refl, ◌⊎◌, Bool, true, false, T}
use Rattle.std.proofs.Common.{inl, inr}
use Rattle.rules.specs.Tests.{◌or◌, ◌&◌}

pub or_left : (a b : Bool) → T a → T (a or b)
or_left true b t = tt
or_left false b t = absurd t

pub or_right : (a b : Bool) → T b → T (a or b)
or_right true b t = tt
or_right false b t = t

pub or_cases : (a b : Bool) → T (a or b) → T a ⊎ T b
or_cases true b t = inl tt
or_cases false b t = inr t

pub and_both : (a b : Bool) → T a → T b → T (a & b)
and_both true b t u = u
and_both false b t u = absurd t

pub and_left : (a b : Bool) → T (a & b) → T a
and_left true b t = tt
and_left false b t = absurd t

pub and_right : (a b : Bool) → T (a & b) → T b
and_right true b t = t
and_right false b t = absurd t

-- two tests that pass together are the same
pub same_test : (a b : Bool) → (T a → T b) → (T b → T a) → a ≡ b
same_test true true f g = refl
same_test true false f g = absurd (f tt)
same_test false true f g = absurd (g tt)
same_test false false f g = refl
