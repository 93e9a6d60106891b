-- For the private search of common zones. No public contract names what stands here.
use Rattle.std.specs.Prelude.{ℕ, ◌≡◌, ◌⊎◌, List, Option, None, Some, false}
use Rattle.std.specs.Ordering.{is_gt}
use Rattle.fab_inventory.specs.fab_names.Orders.{name_cmp}

-- the lesser of two names, or the one that there is
abbrev pub IsLesser : Option (List ℕ) → Option (List ℕ) → Option (List ℕ) → Type 0
IsLesser None b r = r ≡ b
IsLesser (Some x) None r = r ≡ Some x
IsLesser (Some x) (Some y) r = ((r ≡ Some x) × (is_gt (name_cmp x y) ≡ false)) ⊎ ((r ≡ Some y) × (is_gt (name_cmp y x) ≡ false))
