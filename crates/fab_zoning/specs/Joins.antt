-- Which ports may communicate, and why.
use Rattle.std.specs.Prelude.{ℕ, ◌≡◌, ◌≢◌, List, false, ◌⊎◌}
use Rattle.std.specs.Ordering.{is_gt}
use Rattle.fab_names.specs.Orders.{name_cmp}
use Rattle.fab_zoning_rows.specs.fab_inventory.declared.port.Port.{Port}
use Rattle.fab_zoning.specs.declared.flag.DefaultFlag.TheVariants.{Permit}
use Rattle.fab_zoning.specs.declared.why.Why.{Why}
use Rattle.fab_zoning.specs.declared.why.Why.TheVariants as why
use Rattle.fab_zoning_rows.specs.Holding.{IsLoggedInAt, Holds}
use Rattle.fab_zoning.specs.Zonings.{FabricZoning}

-- the port is in the zone: it is logged in at this fabric, and an active row of the zone holds it
abbrev pub InZone : FabricZoning → Port → List ℕ → Type 0
InZone v p z = IsLoggedInAt v.fabric p × Holds v.rows p z

-- the port is in no zone of the active set
abbrev pub IsUnzoned : FabricZoning → Port → Type 0
IsUnzoned v p = (z : List ℕ) → ¬ InZone v p z

-- the default zone has both ports, and permits them to communicate
abbrev pub InDefaultZone : FabricZoning → Port → Port → Type 0
InDefaultZone v p q = (v.flag ≡ Permit) × IsUnzoned v p × IsUnzoned v q

-- the two ports may communicate: they differ, both are logged in at this fabric, and some zone of
-- the active set has both, or else the default zone does and permits it
pub record Joined (v : FabricZoning) (p q : Port) : Type 0 where
  pub differ : p.name ≢ q.name
  pub here : IsLoggedInAt v.fabric p
  pub there : IsLoggedInAt v.fabric q
  pub by : ((z : List ℕ) × InZone v p z × InZone v q z) ⊎ InDefaultZone v p q

-- the zone has both ports, and no zone before it by name has both
pub record IsFirstZone (v : FabricZoning) (p q : Port) (z : List ℕ) : Type 0 where
  pub one : InZone v p z
  pub other : InZone v q z
  pub first : (y : List ℕ) → InZone v p y → InZone v q y → is_gt (name_cmp z y) ≡ false

-- why the ports are joined
abbrev pub Explains : FabricZoning → Port → Port → Why → Type 0
Explains v p q (why.Zone z) = IsFirstZone v p q z.now
Explains v p q why.Default = InDefaultZone v p q

-- ---- the order of the two ports does not matter

-- two joined ports are joined the other way round
abbrev pub JoinedIsSymmetric : Type 0
JoinedIsSymmetric = (v : FabricZoning) (p q : Port) → Joined v p q → Joined v q p

-- and for the same reason
abbrev pub ReasonIsSymmetric : Type 0
ReasonIsSymmetric = (v : FabricZoning) (p q : Port) (w : Why) → Explains v p q w → Explains v q p w
