use Rattle.fab_store_tables.proofs.Entries.{only_meta, only_zoning, only_active, only_groups, only_parts}
use Rattle.fab_store_tables.proofs.read.read_columns.Goals as goal

pub returns-in-None : goal.returns-in-None
returns-in-None c = only_meta _ _ c.in-meta.is c.in-None.ensures

pub returns-in-None-zoning_in : goal.returns-in-None-zoning_in
returns-in-None-zoning_in c = only_zoning _ _ c.in-zoning.is c.in-None-zoning_in.ensures

pub returns-in-None-active_in : goal.returns-in-None-active_in
returns-in-None-active_in c = only_active _ _ c.in-active.is c.in-None-active_in.ensures

pub returns-in-None-group_in : goal.returns-in-None-group_in
returns-in-None-group_in c = only_groups _ _ c.in-groups.is c.in-None-group_in.ensures

pub returns-in-None-part_in : goal.returns-in-None-part_in
returns-in-None-part_in c = only_parts _ _ c.in-group_parts.is c.in-None-part_in.ensures
