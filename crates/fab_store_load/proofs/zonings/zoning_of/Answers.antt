use Rattle.std.proofs.Common.{sym, subst}
use Rattle.fab_names.proofs.OrderLaws.{name_total, name_exact, member_total, member_exact}
use Rattle.fab_store_load.specs.Kinds.{alias_row, zone_row, set_row}
use Rattle.fab_store_load.specs.Configs.{ZoningSays, HasNoEmptySet}
use Rattle.fab_store_load.proofs.FabricRows.{pairs_seen, some_seen, active_seen}
use Rattle.fab_store_load.proofs.zonings.zoning_of.Goals as goal

pub returns-clause-rows : goal.returns-clause-rows
returns-clause-rows g c = subst (ZoningSays c.args.fabric c.args.rows.now) (sym c.from_parts.ensures) (record {
  aliases_are = pairs_seen name_total member_total name_exact member_exact (alias_row c.args.fabric) c.args.rows.now c.in_ok-aliases.aliases c.in_ok-aliases.ensures.rows;
  zones_are = pairs_seen name_total member_total name_exact member_exact (zone_row c.args.fabric) c.args.rows.now c.in_ok-zones.zones c.in_ok-zones.ensures.rows;
  sets_are = pairs_seen name_total name_total name_exact name_exact (set_row c.args.fabric) c.args.rows.now c.in_ok-sets.sets c.in_ok-sets.ensures.rows;
  active_are = active_seen c.args.fabric c.args.rows.now c.in_ok-active_zones.active_zones c.len-members.ensures.ordered c.in_ok-active_zones.ensures.rows;
})

pub returns-clause-some : goal.returns-clause-some
returns-clause-some g c = subst HasNoEmptySet (sym c.from_parts.ensures) (record {
  some_alias = some_seen name_total member_total name_exact member_exact c.in_ok-aliases.aliases c.in_ok-aliases.ensures.some;
  some_zone = some_seen name_total member_total name_exact member_exact c.in_ok-zones.zones c.in_ok-zones.ensures.some;
  some_set = some_seen name_total name_total name_exact name_exact c.in_ok-sets.sets c.in_ok-sets.ensures.some;
})
