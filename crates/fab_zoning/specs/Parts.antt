-- The zoning that has given parts.
use Rattle.fab_names.specs.declared.fabric.Fabric.{Fabric}
use Rattle.fab_names.specs.Orders.{name_cmp, member_cmp}
use Rattle.fab_zoning_rows.specs.fab_lemmas.MapsOfSets.{seen_sets}
use Rattle.fab_zoning_rows.specs.Views.{seen_rows}
use Rattle.fab_zoning.specs.Zonings.{FabricZoning}
use Rattle.fab_zoning.specs.declared.zoning.ZoningParts.{ZoningParts}

-- the zoning of a fabric that has these parts
abbrev pub zoning_of : {A : Type 0} → Fabric → ZoningParts A → FabricZoning
zoning_of fabric p = record {
  fabric = fabric;
  aliases = seen_sets name_cmp member_cmp p.aliases.entries;
  zones = seen_sets name_cmp member_cmp p.zones.entries;
  sets = seen_sets name_cmp name_cmp p.sets.entries;
  active = p.active;
  rows = seen_rows p.active_zones.entries;
  flag = p.flag;
}
