use Rattle.fab_store_columns.proofs.Refused.{no_alias, no_zone}
use Rattle.fab_store_columns.proofs.zoning_lines.read_item.Goals as goal

pub returns-in-None : goal.returns-in-None
returns-in-None c = no_alias c.args.kind.now c.args.name.now c.args.item.now c.in-alias.is c.in-None.ensures

pub returns-in-None-read_name_and_member : goal.returns-in-None-read_name_and_member
returns-in-None-read_name_and_member c = no_zone c.args.kind.now c.args.name.now c.args.item.now c.in-zone.is c.in-None-read_name_and_member.ensures
