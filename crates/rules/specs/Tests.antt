-- Tests on numbers: and, or, and the choice between two.
use Rattle.std.specs.Prelude.{Bool, true, false, ℕ}

infixr 30 ◌&◌
infixr 25 ◌or◌
abbrev pub ◌&◌ : Bool → Bool → Bool
◌&◌ true b = b
◌&◌ false b = false

abbrev pub ◌or◌ : Bool → Bool → Bool
◌or◌ true b = true
◌or◌ false b = b

-- a where the test holds, else b
abbrev pub pick {ℓ} : {A : Type ℓ} → Bool → A → A → A
pick true a b = a
pick false a b = b

-- x where the test holds, else 0
abbrev pub only_if : Bool → ℕ → ℕ
only_if true x = x
only_if false x = 0
