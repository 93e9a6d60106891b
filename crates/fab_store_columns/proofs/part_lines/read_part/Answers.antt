use Rattle.fab_store_columns.specs.GroupLines.{part_line}
use Rattle.fab_store_columns.proofs.Refused.{no_host, no_storage}
use Rattle.fab_store_columns.proofs.part_lines.read_part.Goals as goal

pub returns-in-Some-read_host : goal.returns-in-Some-read_host
returns-in-Some-read_host c = record {
  kind = c.in-host.is;
  name = c.in-Some.ensures;
  part = c.in-Some-read_host.ensures c.in-Some.name;
}

pub returns-in-None : goal.returns-in-None
returns-in-None c = no_host (part_line c.args.kind.now c.args.name.now c.args.part.now c.args.item.now c.args.volume.now) c.in-host.is c.in-None.ensures

pub returns-in-Some-read_storage_part : goal.returns-in-Some-read_storage_part
returns-in-Some-read_storage_part c = record {
  kind = c.in-storage.is;
  name = c.in-Some.ensures;
  part = c.in-Some-read_storage_part.ensures c.in-Some.name;
}

pub returns-in-None-read_storage_part : goal.returns-in-None-read_storage_part
returns-in-None-read_storage_part c = no_storage (part_line c.args.kind.now c.args.name.now c.args.part.now c.args.item.now c.args.volume.now) c.in-storage.is c.in-None-read_storage_part.ensures
