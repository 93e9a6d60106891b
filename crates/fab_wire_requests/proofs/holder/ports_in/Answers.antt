use Rattle.std.proofs.Common.{◌≡◌, Some}
use Rattle.std.proofs.lemmas.Result.{IfOk-weaker}
use Rattle.serde_json.specs.View.{view, items_view}
use Rattle.serde_json.specs.Find.{as_array}
use Rattle.fab_wire_requests.proofs.ReadLemmas.{too-many, are-ports, not-ports, fault-then}
use Rattle.fab_wire_requests.proofs.holder.ports_in.Goals as goal

pub returns-then-values-gt-MOST_PORTS_OF_HOLDER-clause-err : goal.returns-then-values-gt-MOST_PORTS_OF_HOLDER-clause-err
returns-then-values-gt-MOST_PORTS_OF_HOLDER-clause-err g c =
    let is : Some (items_view c.as_slice-values.result.now) ≡ as_array (view c.args.value.now) = rw c.as_slice-values.ensures.value c.in-Some.ensures in
    too-many _ c.as_slice-values.result.now is c.if-values-gt-MOST_PORTS_OF_HOLDER.true

pub returns-clause-ok : goal.returns-clause-ok
returns-clause-ok g c =
    let is : Some (items_view c.as_slice-values.result.now) ≡ as_array (view c.args.value.now) = rw c.as_slice-values.ensures.value c.in-Some.ensures in
    IfOk-weaker c.read_ports.result _ _ (λ ports h. are-ports _ c.as_slice-values.result.now ports.items is c.if-values-gt-MOST_PORTS_OF_HOLDER.false h) c.read_ports.ensures.ok

pub returns-clause-err : goal.returns-clause-err
returns-clause-err g c =
    let is : Some (items_view c.as_slice-values.result.now) ≡ as_array (view c.args.value.now) = rw c.as_slice-values.ensures.value c.in-Some.ensures in
    fault-then c.read_ports.result _ _ (not-ports _ c.as_slice-values.result.now is) c.read_ports.ensures.err
