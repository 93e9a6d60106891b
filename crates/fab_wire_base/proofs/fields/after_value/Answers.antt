use Rattle.fab_wire_base.proofs.FieldLemmas.{length-stays}
use Rattle.fab_wire_base.proofs.fields.after_value.Goals as goal

pub returns-in-Bad : goal.returns-in-Bad
returns-in-Bad c values h = length-stays values c.args.value.now (rw c.in-Bad.is at h)
