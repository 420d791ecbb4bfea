-- A class of pieces in its tables, as the search reads them.
use Rattle.std.specs.Prelude.{List, ℕ}
use Rattle.groups.specs.declared.Class.{Class}

-- f of the class
abbrev pub in_class {ℓ} : {A : Type ℓ} → Class → (ℕ → List ℕ → List ℕ → ℕ → A) → A
in_class class f = f class.n class.states.now class.links.now class.state
