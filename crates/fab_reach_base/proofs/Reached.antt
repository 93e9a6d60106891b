-- Whether a path is there.
use Rattle.std.proofs.Common.{ℕ, ◌≡◌, inl, inr, List, Option, None, Some, true, refl, sym, ap, subst}
use Rattle.std.specs.Coded.{coded_ℕ, coded_bool, coded_option}
use Rattle.std.specs.FinMap as map
use Rattle.std.specs.FinSet as set
use Rattle.std.proofs.lemmas.Option.{same_Some}
use Rattle.fab_mapping.specs.fab_mapping_base.fab_names.Codes.{name_code, fabric_code, position_code}
use Rattle.fab_mapping.specs.fab_mapping_base.fab_names.Places.{Position}
use Rattle.fab_mapping.specs.fab_mapping_base.fab_names.declared.fabric.Fabric.{Fabric}
use Rattle.fab_mapping.specs.fab_mapping_base.fab_names.declared.member.Member.{Member}
use Rattle.fab_mapping.specs.fab_mapping_base.fab_names.declared.member.Member.TheVariants as member
use Rattle.fab_mapping.proofs.fab_mapping_base.fab_names.OrderLaws.{name_total, name_exact}
use Rattle.fab_mapping.specs.fab_mapping_base.fab_inventory.Inventories.{HolderRows, kind_of, IsHost, IsArray}
use Rattle.fab_mapping.specs.fab_mapping_base.fab_inventory.Ports.{port_at}
use Rattle.fab_mapping.specs.fab_mapping_base.fab_inventory.declared.holder.HolderKind.{HolderKind}
use Rattle.fab_mapping.specs.fab_mapping_base.fab_inventory.declared.holder.HolderKind.TheVariants as kind
use Rattle.fab_mapping.specs.fab_mapping_base.fab_inventory.declared.port.Port.{Port}
use Rattle.fab_zoning.specs.fab_zoning_rows.Holding.{Matches, IsLoggedInAt}
use Rattle.fab_zoning.specs.Joins.{InZone, IsUnzoned, Joined}
use Rattle.fab_zoning.specs.fab_zoning_rows.Rows.{Row, Rows}
use Rattle.fab_zoning.specs.Zonings.{FabricZoning, flag_code}
use Rattle.fab_zoning.specs.declared.flag.DefaultFlag.TheVariants.{Permit}
use Rattle.fab_zoning.proofs.fab_zoning_rows.RowSets.{row_total, row_exact}
use Rattle.fab_mapping.specs.fab_mapping_base.Clashes.{HostClaims, GroupClaims}
use Rattle.fab_mapping.specs.fab_mapping_base.Groups.{HostGroupRows, StorageGroupRows}
use Rattle.fab_mapping.specs.fab_mapping_base.Nexuses.{Claim}
use Rattle.fab_mapping.specs.Mappings.{MappingRows, IsMapped}
use Rattle.fab_reach_base.specs.Reach.{IsInitiator, IsInitiatorOf, IsTarget, Meets, Reaches, ReachesFrom, nexus_of}
use Rattle.fab_reach_base.specs.Records.{Records, zoning_at}
use Rattle.fab_reach_base.specs.declared.path.Path.{Path}
use Rattle.fab_reach_base.proofs.Telling.{Told, both, all_three, either, negated, as_told, same_by, at_key, in_set, in_map}

-- ---- zoning

-- the port is logged in at the fabric, at a place with this
place_told : (f : Fabric) (p : Port) (P : Position → Type 0) → ((q : Position) → Told (P q)) → Told ((q : Position) × (p.at ≡ Some (f, q)) × P q)
place_told f p P each = by p.at each
  where
    by : (a : Option (Fabric × Position)) → ((q : Position) → Told (P q)) → Told ((q : Position) × (a ≡ Some (f, q)) × P q)
    by None each = inr (λ w. absurd cc)
    by (Some (g, q)) each = as_told (λ h. (q, (λ i. Some (h.0 i, q)), h.1)) (λ w. let e = same_Some (g, q) (f, w.0) w.1 in (ap (λ (x : Fabric × Position). x.0) e, subst P (sym (ap (λ (x : Fabric × Position). x.1) e)) w.2)) (both (same_by fabric_code g f) (each q))

logged_in_told : (f : Fabric) (p : Port) → Told (IsLoggedInAt f p)
logged_in_told f p = as_told (λ w. (w.0, w.1)) (λ w. (w.0, w.1, tt)) (place_told f p (λ q. Unit {0}) (λ q. inl tt))

matches_told : (m : Member) (p : Port) → Told (Matches m p)
matches_told (member.Port name) p = same_by coded_ℕ p.name name
matches_told (member.Node name) p = same_by coded_ℕ p.node name
matches_told (member.Place place) p = by p.at
  where
    by : (a : Option (Fabric × Position)) → Told ((f : Fabric) × (a ≡ Some (f, place)))
    by None = inr (λ w. absurd cc)
    by (Some (g, q)) = as_told (λ e. (g, λ i. Some (g, e i))) (λ w. ap (λ (x : Fabric × Position). x.1) (same_Some (g, q) (w.0, place) w.1)) (same_by position_code q place)
matches_told (member.Address address) p = by p.address
  where
    by : (a : Option ℕ) → Told (a ≡ Some address)
    by None = inr (λ w. absurd cc)
    by (Some n) = as_told (λ e. ap Some e) (λ w. same_Some n address w) (same_by coded_ℕ n address)
matches_told (member.Alias name) p = inr (λ h. h)

-- some row of the zoning has it
some_row : (rows : Rows) (P : Row → Type 0) → ((r : Row) → Told (P r)) → Told ((r : Row) × (set.contains rows r ≡ true) × P r)
some_row = in_set row_total row_exact

zone_told : (v : FabricZoning) (p : Port) (z : List ℕ) → Told (InZone v p z)
zone_told v p z =
    both (logged_in_told v.fabric p)
    (as_told (λ w. (w.0.1, subst (λ y. set.contains v.rows (y, w.0.1) ≡ true) w.2.0 w.1, w.2.1)) (λ w. ((z, w.0), w.1, (refl, w.2))) (some_row v.rows (λ r. (r.0 ≡ z) × Matches r.1 p) (λ r. both (same_by name_code r.0 z) (matches_told r.1 p))))

-- a zone of the port with this
some_zone : (v : FabricZoning) (p : Port) (P : List ℕ → Type 0) → ((z : List ℕ) → Told (P z)) → Told ((z : List ℕ) × InZone v p z × P z)
some_zone v p P each =
    as_told (λ w. (w.0.0, w.2.0, w.2.1)) (λ w. ((w.0, w.1.1.0), w.1.1.1, (w.1, w.2))) (some_row v.rows (λ r. InZone v p r.0 × P r.0) (λ r. both (zone_told v p r.0) (each r.0)))

unzoned_told : (v : FabricZoning) (p : Port) → Told (IsUnzoned v p)
unzoned_told v p = as_told (λ n z h. n (z, h, tt)) (λ n w. n w.0 w.1) (negated (some_zone v p (λ z. Unit {0}) (λ z. inl tt)))

joined_told : (v : FabricZoning) (p q : Port) → Told (Joined v p q)
joined_told v p q =
    as_told (λ h. record { differ = h.0; here = h.1.0; there = h.1.1; by = h.2 }) (λ j. (j.differ, (j.here, j.there), j.by))
    (all_three (negated (same_by coded_ℕ p.name q.name)) (both (logged_in_told v.fabric p) (logged_in_told v.fabric q)) (either (some_zone v p (λ z. InZone v q z) (zone_told v q)) (all_three (same_by flag_code v.flag Permit) (unzoned_told v p) (unzoned_told v q))))

-- ---- mapping

claims_told : (m : MappingRows) (g : StorageGroupRows) (c : Claim) → Told (GroupClaims (map.get m.host_groups) g c)
claims_told m g c =
    as_told (λ w. (w.0, w.1, w.3.0, w.2, w.3.1)) (λ w. (w.0, w.1, w.3, (w.2, w.4)))
    (in_map name_total name_exact m.host_groups (λ k hosts. (set.contains g.host_groups k ≡ true) × HostClaims hosts g c) (λ k hosts. both (same_by coded_bool (set.contains g.host_groups k) true) (by hosts)))
  where
    by : (hosts : HostGroupRows) → Told (HostClaims hosts g c)
    by hosts = all_three (same_by coded_bool (set.contains hosts.hosts c.0.host) true) (same_by coded_bool (set.contains g.targets c.0.target) true) (same_by (coded_option name_code) (map.get g.units c.0.unit) (Some c.1))

mapped_told : (m : MappingRows) (c : Claim) → Told (IsMapped m c)
mapped_told m c =
    as_told (λ w. (w.0, w.1, w.2, w.3.0, w.3.1)) (λ w. (w.0, w.1, w.2, (w.3, w.4)))
    (in_map name_total name_exact m.groups (λ n g. (g.exposed ≡ true) × GroupClaims (map.get m.host_groups) g c) (λ n g. both (same_by coded_bool g.exposed true) (claims_told m g c)))

-- ---- ports and their holders

kind_told : (holders : HolderRows) (n : List ℕ) (k : HolderKind) → Told (kind_of holders n ≡ Some k)
kind_told holders n k = by (kind_of holders n) k
  where
    by : (o : Option HolderKind) (k : HolderKind) → Told (o ≡ Some k)
    by None k = inr (λ e. absurd cc)
    by (Some kind.Host) kind.Host = inl refl
    by (Some kind.Host) kind.Array = inr (λ e. absurd cc)
    by (Some kind.Array) kind.Host = inr (λ e. absurd cc)
    by (Some kind.Array) kind.Array = inl refl

target_told : (w : Records) (q : Port) → Told (IsTarget w q)
target_told w q =
    as_told (λ h. record { array = h.0; held = h.1; kind = h.2 }) (λ t. (t.array, t.held, t.kind)) (at_key q.holder (λ array. IsArray w.inventory.holders array) (λ array. kind_told w.inventory.holders array kind.Array))

-- a host that holds the port, with this
initiator_told : (w : Records) (p : Port) (P : List ℕ → Type 0) → ((host : List ℕ) → Told (P host)) → Told ((host : List ℕ) × IsInitiator w p host × P host)
initiator_told w p P each =
    as_told (λ h. (h.0, record { held = h.1; kind = h.2.0 }, h.2.1)) (λ h. (h.0, h.1.held, (h.1.kind, h.2)))
    (at_key p.holder (λ host. IsHost w.inventory.holders host × P host) (λ host. both (kind_told w.inventory.holders host kind.Host) (each host)))

-- ---- paths

-- a known port of this name, with this
port_told : (w : Records) (name : ℕ) (P : Port → Type 0) → ((p : Port) → Told (P p)) → Told ((p : Port) × (port_at w.inventory.ports name ≡ Some p) × P p)
port_told w name = at_key (port_at w.inventory.ports name)

-- two ports and a host meet, and the volume is mapped there
abbrev Links : Records → Path → Port → Port → List ℕ → Type 0
Links w x p q host = Meets w x.fabric p q host × IsMapped w.config.mapping (nexus_of host x, x.volume)

links_told : (w : Records) (x : Path) (p q : Port) → Told ((host : List ℕ) × Links w x p q host)
links_told w x p q =
    as_told (λ h. (h.0, (record { from = h.1; to = h.2.0.0; here = h.2.0.1; joined = h.2.0.2 }, h.2.1))) (λ h. (h.0, h.1.0.from, ((h.1.0.to, h.1.0.here, h.1.0.joined), h.1.1)))
    (initiator_told w p (λ host. (IsTarget w q × IsLoggedInAt x.fabric p × Joined (zoning_at w.config x.fabric) p q) × IsMapped w.config.mapping (nexus_of host x, x.volume)) (λ host.
    both (all_three (target_told w q) (logged_in_told x.fabric p) (joined_told (zoning_at w.config x.fabric) p q)) (mapped_told w.config.mapping (nexus_of host x, x.volume))))

pub path_told : (w : Records) (x : Path) → Told (Reaches w x)
path_told w x =
    as_told
    (λ h. record { initiator = refl; target = refl; from = h.0; from_is = h.1; to = h.2.0; to_is = h.2.1; host = h.2.2.0; meets = h.2.2.1.0; mapped = h.2.2.1.1 })
    (λ r. (r.from, r.from_is, (r.to, r.to_is, (r.host, (r.meets, r.mapped)))))
    (port_told w x.initiator (λ p. (q : Port) × (port_at w.inventory.ports x.target ≡ Some q) × ((host : List ℕ) × Links w x p q host)) (λ p.
    port_told w x.target (λ q. (host : List ℕ) × Links w x p q host) (links_told w x p)))

-- ---- the paths of a host

initiator_of_told : (w : Records) (name : ℕ) (host : List ℕ) → Told (IsInitiatorOf w name host)
initiator_of_told w name host =
    port_told w name (λ p. IsInitiator w p host) (λ p. as_told (λ h. record { held = h.0; kind = h.1 }) (λ i. (i.held, i.kind)) (both (same_by (coded_option name_code) p.holder (Some host)) (kind_told w.inventory.holders host kind.Host)))

pub path_of_told : (w : Records) (host : List ℕ) (x : Path) → Told (ReachesFrom w host x)
path_of_told w host x = both (path_told w x) (initiator_of_told w x.initiator host)
