use Rattle.serde_json.specs.View.{view}
use Rattle.fab_wire_requests.proofs.ReadLemmas.{fault-of, no-holder, not-empty}
use Rattle.fab_wire_requests.proofs.holder.read_holder.Goals as goal

pub returns-clause-err : goal.returns-clause-err
returns-clause-err g c =
    fault-of c.in-Err-ports_in.fault _ _ (no-holder c.args.text.now (view c.in-Ok.value) (view c.in-Some.ports.now) (view c.in-Some.tenant.now) c.in-Ok.ensures.ok c.in-Some.ensures) c.in-Err-ports_in.ensures.err

pub returns-clause-empty : goal.returns-clause-empty
returns-clause-empty g c e = not-empty c.args.text.now (view c.in-Ok.value) c.in-Ok.ensures.ok
