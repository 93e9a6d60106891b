use Rattle.std.proofs.Common.{true≢false, sym, ◌∙◌}
use Rattle.fab_wire_requests.proofs.PortListLemmas.{fields-taken}
use Rattle.fab_wire_requests.proofs.port_list.texts_in.Goals as goal

pub returns-then-not-has_four_or_five : goal.returns-then-not-has_four_or_five
returns-then-not-has_four_or_five c h = true≢false (sym (c.has_four_or_five.ensures.1 h) ∙ c.if-not-has_four_or_five.true)

pub returns : goal.returns
returns c = fields-taken _ _ _ _ _ _ (c.has_four_or_five.ensures.0 c.if-not-has_four_or_five.false) c.field_in-name.ensures c.field_in-node.ensures c.field_in-domain.ensures c.field_in-slot.ensures c.get-address.ensures.value
