use Rattle.std.proofs.Common.{refl}
use Rattle.fab_wire_requests.specs.RecordFields.{others_of}
use Rattle.fab_wire_requests.proofs.PortListLemmas.{row-parts}
use Rattle.fab_wire_requests.proofs.port_list.row_of.Goals as goal

pub returns-in_default : goal.returns-in_default
returns-in_default c row s = c.in_default.ensures _ (row-parts _ _ _ _ _ _ row s).0

pub returns-in_default-read_wwn : goal.returns-in_default-read_wwn
returns-in_default-read_wwn c row s = c.in_default-read_wwn.ensures _ (row-parts _ _ _ _ _ _ row s).1

pub returns-in_default-from_texts : goal.returns-in_default-from_texts
returns-in_default-from_texts c row s = c.in_default-from_texts.ensures.err _ (row-parts _ _ _ _ _ _ row s).2

pub returns-in_default-address_in : goal.returns-in_default-address_in
returns-in_default-address_in c row s = c.in_default-address_in.ensures _ (row-parts _ _ _ _ _ _ row s).3

pub returns : goal.returns
returns c = record {
  name = c.args.texts.name.now;
  node = c.args.texts.node.now;
  domain = c.args.texts.domain.now;
  slot = c.args.texts.slot.now;
  others = others_of c.args.texts.address;
  all = refl;
  port_name = c.in-Some.ensures;
  node_name = c.in-Some-read_wwn.ensures;
  position = c.in-Ok.ensures.ok;
  address = c.in-Some-address_in.ensures;
}
