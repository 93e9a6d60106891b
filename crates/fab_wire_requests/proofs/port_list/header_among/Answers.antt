use Rattle.fab_wire_requests.proofs.PortListLemmas.{not-named, named-by}
use Rattle.fab_wire_requests.proofs.port_list.header_among.Goals as goal

pub returns-then-not-names_four : goal.returns-then-not-names_four
returns-then-not-names_four c = not-named _ _ _ _ _ c.if-not-names_four.ensures

pub returns : goal.returns
returns c = named-by _ _ _ _ _ _ c.if-not-names_four.ensures c.column_in.ensures
