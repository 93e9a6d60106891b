use Rattle.std.proofs.Common.{Some, inr, sym}
use Rattle.fab_store_edits.proofs.Becoming.{storage_back}
use Rattle.fab_store_edits.proofs.mapping_rows.put_part.Goals as goal

pub returns-then-not-branch-clause-refused : goal.returns-then-not-branch-clause-refused
returns-then-not-branch-clause-refused g c e = inr (c.in-Some.own, sym c.in-Some.ensures.was, c.in_ok-put_part_in.ensures.taken c.if-not-branch.true)

pub returns-clause-put : goal.returns-clause-put
returns-clause-put g c e = record {
  was = c.in-Some.own;
  becomes = c.put_part_in.new.group;
  puts = c.in_ok-put_part_in.ensures.put c.if-not-branch.false;
  is = storage_back c.args.mapping.now c.take_group.new.self c.restore_group.new.self c.args.name.now (Some c.in-Some.own) c.put_part_in.new.group c.in-Some.ensures.was c.take_group.ensures.ok c.in_ok-restore_group.ensures.ok;
}
