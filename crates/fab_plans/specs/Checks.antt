-- The checks of a step, and their order.
use Rattle.std.specs.Prelude.{ℕ, ◌≡◌, ◌<◌}
use Rattle.fab_plans.specs.declared.fault.Refusal.{Refusal}

-- what a step is checked for: that its own name is there (or, of a new storage group, is not), that
-- the other names are there, from left to right, that ports and volumes are on the array of the
-- storage group, that the unit is free, that nothing uses what goes, and that there is room
pub data Check : Type 0 where
  own_name : Check
  other_names : Check
  right_array : Check
  free_unit : Check
  no_user : Check
  room : Check

-- the place of a check in their order
abbrev pub place_of : Check → ℕ
place_of own_name = 0
place_of other_names = 1
place_of right_array = 2
place_of free_unit = 3
place_of no_user = 4
place_of room = 5

-- which refusal each check gives, where it fails
abbrev pub Failures : Type 1
Failures = Check → Refusal → Type 0

-- the check fails where P holds, with this refusal
abbrev pub FailsWith : Refusal → Type 0 → Refusal → Type 0
FailsWith refusal P r = (r ≡ refusal) × P

-- no check fails
abbrev pub PassesAll : Failures → Type 0
PassesAll fails = (k : Check) (r : Refusal) → ¬ fails k r

-- the refusal is that of a check, and no check before it fails
pub record IsFirstRefusal (fails : Failures) (r : Refusal) : Type 0 where
  pub check : Check
  pub here : fails check r
  pub before : (k : Check) (q : Refusal) → place_of k < place_of check → ¬ fails k q
