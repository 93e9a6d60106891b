-- The pairs of ports between a host and a volume, and why each may communicate or may not, as a caller is
-- told.
use Rattle.std.specs.Prelude.{ℕ, ◌≡◌, List, [], ◌∷◌, length, IsTrue, Some, true}
use Rattle.std.specs.declared.cmp.Ordering.{Ordering}
use Rattle.std.specs.Ordering.{nat_cmp, ordering_then}
use Rattle.std.specs.List.{AllZip}
use Rattle.std.specs.BTreeSet.{BTreeSet, contains}
use Rattle.std.specs.FinMap as map
use Rattle.std.specs.FinSet as set
use Rattle.fab_reach_base.specs.fab_lemmas.Lists.{IsListOf}
use Rattle.fab_reach_base.specs.fab_names.Orders.{name_cmp, fabric_cmp}
use Rattle.fab_reach_base.specs.fab_names.declared.fabric.Fabric.{Fabric}
use Rattle.fab_reach_base.specs.fab_inventory.Holders as holders
use Rattle.fab_reach_base.specs.fab_inventory.declared.port.Port.{Port}
use Rattle.fab_reach_base.specs.fab_zoning.Joins.{Joined, IsFirstZone, InDefaultZone}
use Rattle.fab_reach_base.specs.fab_zoning.Zonings.{FabricZoning}
use Rattle.fab_reach_base.specs.fab_zoning_rows.Holding.{Holds, IsLoggedInAt}
use Rattle.fab_reach_base.specs.fab_mapping_base.Groups.{StorageGroupRows}
use Rattle.fab_reach_base.specs.Gathering.{Serves}
use Rattle.fab_reach_base.specs.Reach.{IsPort}
use Rattle.fab_reach_base.specs.Records.{Records, zoning_at}
use Rattle.fab_policy.specs.fab_policy_base.Policies.{PolicyRows}
use Rattle.fab_world.specs.Worlds.{WorldRows, records_of}
use Rattle.fab_looks.specs.Told.{SeesHost, SeesVolume}
use Rattle.fab_looks.specs.Ways.{IsOwnMapping}
use Rattle.fab_looks_ways.specs.contracts.ends.EndsOrd.TheImpl as ends
use Rattle.fab_looks_ways.specs.declared.ends.Ends.{Ends}
use Rattle.fab_looks_ways.specs.declared.pairing.Pair.{Pair}
use Rattle.fab_looks_ways.specs.declared.ties.Tie.{Tie}
use Rattle.fab_looks_ways.specs.declared.ties.Tie.TheVariants as tie
use Rattle.fab_looks_ways.specs.declared.zoned.Zoned.{Zoned}
use Rattle.fab_looks_ways.specs.declared.zoned.Zoned.TheVariants as zoned

-- ---- ends

-- by fabric, initiator, target
abbrev pub ends_order : Ends → Ends → Ordering
ends_order a b = ordering_then (fabric_cmp a.fabric b.fabric) (ordering_then (nat_cmp a.initiator b.initiator) (nat_cmp a.target b.target))

-- the same order as the code has it, which sets use: a law says that the two are one
abbrev pub ends_cmp : Ends → Ends → Ordering
ends_cmp = ends.ghosts.cmp

-- the set has the ends
abbrev pub HasEnds : BTreeSet Ends → Ends → Type 0
HasEnds s e = IsTrue (contains ends_cmp s e)

-- ---- which pairs there are

-- the port of this name is known, and logged in at the fabric
abbrev pub IsUpAt : Records → Fabric → ℕ → Type 0
IsUpAt w f a = (x : Port) × IsPort w a x × IsLoggedInAt f x

-- the storage group of this name serves the host, and has the target
abbrev pub IsServedTarget : Records → List ℕ → List ℕ → ℕ → Type 0
IsServedTarget w host n q = (g : StorageGroupRows) × (map.get w.config.mapping.groups n ≡ Some g) × Serves w.config.mapping g host × (set.contains g.targets q ≡ true)

-- host and volume are the caller's; the host holds the initiator, and a storage group of the caller's that
-- maps the volume and serves the host has the target; and both ports are logged in at the fabric
pub record IsPair (p : PolicyRows) (w : WorldRows) (id : ℕ) (host volume : List ℕ) (e : Ends) : Type 0 where
  pub host_is_own : SeesHost p w id host
  pub volume_is_own : SeesVolume p w id volume
  pub held : holders.Holds (map.get w.inventory.ports) host e.initiator
  pub group : List ℕ
  pub mapping : IsOwnMapping p w id volume group
  pub target : IsServedTarget (records_of w) host group e.target
  pub here : IsUpAt (records_of w) e.fabric e.initiator
  pub there : IsUpAt (records_of w) e.fabric e.target

-- ---- why they may communicate, or may not

-- a list of zones: a single one by its name, and many as a number
abbrev pub told_as : List (List ℕ) → Zoned
told_as [] = zoned.Nowhere
told_as (z ∷ []) = zoned.One z
told_as (y ∷ z ∷ zs) = zoned.Many (length (y ∷ z ∷ zs))

-- the zones of which an active row holds the port
abbrev pub AreZonesOf : FabricZoning → Port → Zoned → Type 0
AreZonesOf v x told = (zs : List (List ℕ)) × IsListOf name_cmp (Holds v.rows x) zs × (told ≡ told_as zs)

-- the first zone by name that has both; or the default zone; or that they may not communicate, and the
-- zones of each
abbrev pub IsTie : FabricZoning → Port → Port → Tie → Type 0
IsTie v x y (tie.Zone z) = Joined v x y × IsFirstZone v x y z
IsTie v x y tie.Default = Joined v x y × InDefaultZone v x y
IsTie v x y (tie.Apart a b) = (¬ Joined v x y) × AreZonesOf v x a × AreZonesOf v y b

-- the pair of these ends
abbrev pub TellsPair : Records → Ends → Pair → Type 0
TellsPair w e pair = (pair.ends ≡ e) × ((x y : Port) × IsPort w e.initiator x × IsPort w e.target y × IsTie (zoning_at w.config e.fabric) x y pair.tie)

-- just the pairs, each once, in the order of their ends
abbrev pub ArePairs : PolicyRows → WorldRows → ℕ → List ℕ → List ℕ → List Pair → Type 0
ArePairs p w id host volume pairs = (es : List Ends) × IsListOf ends_order (IsPair p w id host volume) es × AllZip (TellsPair (records_of w)) es pairs
