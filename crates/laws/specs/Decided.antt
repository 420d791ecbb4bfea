-- Each call's promise decides its answer and the contents of every area lent.
use Rattle.std.specs.Prelude.{◌≡◌, ℕ}
use Rattle.rules.specs.Calls.{Call, start, does, check, Areas, Outcome, Promise}
use Rattle.rules.specs.declared.Command.TheVariants.{New, Set, Freeze, Acquire, Release, Bin, Look}
use Rattle.laws.specs.Calls.{decides}

-- two outcomes that meet the call's promise are equal
abbrev pub Decided : Call → Type 0
Decided c = (a : Areas) (o o' : Outcome) → Promise c a o → Promise c a o' → o ≡ o'

pub start_decided : Decided start
start_decided a o o' p q = decides p q

pub new_decided : Decided (does New)
new_decided a o o' p q = decides p q

pub set_decided : (p k t : ℕ) → Decided (does (Set p k t))
set_decided p k t a o o' x y = decides x y

pub freeze_decided : (p seat : ℕ) → Decided (does (Freeze p seat))
freeze_decided p seat a o o' x y = decides x y

pub acquire_decided : (p seat : ℕ) → Decided (does (Acquire p seat))
acquire_decided p seat a o o' x y = decides x y

pub release_decided : (p seat : ℕ) → Decided (does (Release p seat))
release_decided p seat a o o' x y = decides x y

pub bin_decided : (p : ℕ) → Decided (does (Bin p))
bin_decided p a o o' x y = decides x y

pub look_decided : (p : ℕ) → Decided (does (Look p))
look_decided p a o o' x y = decides x y

pub check_decided : Decided check
check_decided a o o' p q = decides p q
