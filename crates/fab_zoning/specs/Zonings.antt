-- What contracts see of the zoning of one fabric.
use Rattle.std.specs.Prelude.{ℕ, ◌≡◌, List, Option, None, Bool, true, false, codes, refl}
use Rattle.std.specs.declared.cmp.Ordering.{Ordering}
use Rattle.std.specs.Coded.{Coded, code_by, coded×, coded_bool, coded_option}
use Rattle.std.specs.FinMap as map
use Rattle.std.specs.FinSet as set
use Rattle.fab_names.specs.declared.fabric.Fabric.{Fabric}
use Rattle.fab_names.specs.Orders.{name_cmp, member_cmp}
use Rattle.fab_names.specs.Codes.{name_code, fabric_code, member_code}
use Rattle.fab_zoning.specs.declared.flag.DefaultFlag.{DefaultFlag}
use Rattle.fab_zoning.specs.declared.flag.DefaultFlag.TheVariants.{Permit, Deny}
use Rattle.fab_zoning_rows.specs.fab_lemmas.MapsOfSets.{MapOfSets}
use Rattle.fab_zoning_rows.specs.Rows.{Rows, row_code}

-- a finite set at each of finitely many names
abbrev pub NamedSets : {K : Type 0} → (K → K → Ordering) → Type 0
NamedSets R = MapOfSets name_cmp R

-- the aliases and zones with their members, the zone sets with their zones, the active set's name
-- and rows, and what the default zone permits
pub record FabricZoning : Type 0 where
  pub fabric : Fabric
  pub aliases : NamedSets member_cmp
  pub zones : NamedSets member_cmp
  pub sets : NamedSets name_cmp
  pub active : Option (List ℕ)
  pub rows : Rows
  pub flag : DefaultFlag

-- the zoning of a new fabric: no alias, zone or set, nothing active, and deny
abbrev pub new_zoning : Fabric → FabricZoning
new_zoning fabric = record { fabric = fabric; aliases = map.empty; zones = map.empty; sets = map.empty; active = None; rows = set.empty; flag = Deny }

-- the word of a flag
abbrev pub flag_text : DefaultFlag → List ℕ
flag_text Permit = codes "permit"
flag_text Deny = codes "deny"

-- a flag as a truth value
abbrev pub permits : DefaultFlag → Bool
permits Permit = true
permits Deny = false

-- and back
abbrev pub flag_of : Bool → DefaultFlag
flag_of true = Permit
flag_of false = Deny

pub flag_of-permits : (f : DefaultFlag) → flag_of (permits f) ≡ f
flag_of-permits Permit = refl
flag_of-permits Deny = refl

abbrev pub flag_code : Coded DefaultFlag
flag_code = code_by Bool coded_bool permits flag_of flag_of-permits

-- a zoning as the tuple of its parts
abbrev pub Parts : Type 0
Parts = (Fabric × NamedSets member_cmp) × ((NamedSets member_cmp × NamedSets name_cmp) × (Option (List ℕ) × (Rows × DefaultFlag)))

abbrev pub parts_code : Coded Parts
parts_code =
    coded× (coded× fabric_code (map.code name_code (set.code member_code)))
    (coded× (coded× (map.code name_code (set.code member_code)) (map.code name_code (set.code name_code))) (coded× (coded_option name_code) (coded× (set.code row_code) flag_code)))

abbrev pub zoning_code : Coded FabricZoning
zoning_code =
    code_by Parts parts_code
    (λ v. ((v.fabric, v.aliases), ((v.zones, v.sets), (v.active, (v.rows, v.flag)))))
    (λ p. record { fabric = p.0.0; aliases = p.0.1; zones = p.1.0.0; sets = p.1.0.1; active = p.1.1.0; rows = p.1.1.1.0; flag = p.1.1.1.1 })
    (λ _. refl)
