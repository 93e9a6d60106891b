use Rattle.std.proofs.Common.{None, Some, inl, inr}
use Rattle.fab_store_edits.proofs.Becoming.{storage_out, storage_back}
use Rattle.fab_store_edits.proofs.mapping_rows.take_part.Goals as goal

pub returns-in_default : goal.returns-in_default
returns-in_default g c = inr (storage_out c.args.mapping.now c.take_group.new.self c.args.name.now None c.in_default.ensures.was c.take_group.ensures.ok)

pub returns : goal.returns
returns g c = inl (record {
  was = c.in-Some.own;
  becomes = c.take_part_of.new.group;
  takes = c.take_part_of.ensures;
  is = storage_back c.args.mapping.now c.take_group.new.self c.restore_group.new.self c.args.name.now (Some c.in-Some.own) c.take_part_of.new.group c.in-Some.ensures.was c.take_group.ensures.ok c.in_ok-restore_group.ensures.ok;
})
