use Rattle.std.proofs.Common.{◌==◌, true≢false, sym, ap, ◌∙◌}
use Rattle.fab_wire_requests.proofs.PortListLemmas.{no-address}
use Rattle.fab_wire_requests.proofs.port_list.address_or_none.Goals as goal

pub returns-in-None : goal.returns-in-None
returns-in-None c = no-address _ (λ e. true≢false (sym (c.is_empty.ensures ∙ ap (λ n. n == 0) e) ∙ c.if-is_empty.false)) c.in-None.ensures
