use Rattle.std.proofs.Common.{ℕ, List, subst, append-nil}
use Rattle.serde_json.specs.View.{view, items_view}
use Rattle.serde_json.specs.declared.value.Value.{Value}
use Rattle.fab_wire_requests.specs.Values.{IsPort, SpellsPorts}
use Rattle.fab_wire_requests.proofs.ReadLemmas.{one-more, none-spelled, all-read}
use Rattle.fab_wire_requests.proofs.holder.read_ports.Goals as goal

pub returns-in_default-clause-err : goal.returns-in_default-clause-err
returns-in_default-clause-err g c all =
    none-spelled c.args.values.now c.loop-value.value-index c.value-item.result _ all c.loop-value-test.true
    (subst (λ (v : Value). (p : ℕ) → ¬ (IsPort (view v) p)) c.value-item.is c.in_default.ensures) c.loop-value.invariant

pub loop-value-preserved : goal.loop-value-preserved
loop-value-preserved g c =
    rw c.in-Ok.ensures.items (one-more c.args.values.now c.loop-value.value-index c.value-item.result _ c.in-Some.port c.loop-value-test.true
    (subst (λ (v : Value). IsPort (view v) c.in-Some.port) c.value-item.is c.in-Some.ensures) c.loop-value.invariant)

pub returns-clause-ok : goal.returns-clause-ok
returns-clause-ok g c =
    subst (λ (ps : List ℕ). SpellsPorts (items_view c.args.values.now) ps) (append-nil c.loop-value.ports.items) (all-read c.args.values.now c.loop-value.value-index _ c.loop-value-test.false c.loop-value.invariant)
