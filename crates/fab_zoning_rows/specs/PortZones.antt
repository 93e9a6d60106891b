-- The zones of a port, as a test on names, and what two such tests have in common.
use Rattle.std.specs.Prelude.{ℕ, ◌≡◌, List, Bool, true, false, ◌||◌}
use Rattle.std.specs.Ordering.{is_gt}
use Rattle.std.specs.Option.{option_copied}
use Rattle.fab_inventory.specs.fab_names.Orders.{name_cmp}
use Rattle.fab_inventory.specs.fab_lemmas.MapsOfSets.{in_tree}
use Rattle.fab_zoning_rows.specs.declared.port_zones.PortZones.{PortZones}

-- whether the zone is one of the port's: it is in one of the four sets
abbrev pub in_zones : {A : Type 0} → PortZones A → List ℕ → Bool
in_zones p z = in_tree name_cmp (option_copied p.by_port) z || (in_tree name_cmp (option_copied p.by_node) z || (in_tree name_cmp (option_copied p.by_place) z || in_tree name_cmp (option_copied p.by_address) z))

-- no zone passes both tests
abbrev pub HasNoCommon : (List ℕ → Bool) → (List ℕ → Bool) → Type 0
HasNoCommon s t = (z : List ℕ) → s z ≡ true → t z ≡ false

-- the zone passes both tests, and none before it by name does
pub record IsLeastCommon (s t : List ℕ → Bool) (z : List ℕ) : Type 0 where
  pub one : s z ≡ true
  pub other : t z ≡ true
  pub least : (y : List ℕ) → s y ≡ true → t y ≡ true → is_gt (name_cmp z y) ≡ false
