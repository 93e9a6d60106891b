use Rattle.std.proofs.Common.{ap, ◌∙◌}
use Rattle.fab_wire_base.specs.Lines.{are_same_name}
use Rattle.fab_wire_base.proofs.FieldLemmas.{only-several}
use Rattle.fab_wire_base.proofs.fields.only_value.Goals as goal

pub returns-in_default : goal.returns-in_default
returns-in_default c =
    only-several c.args.name.now c.args.buf.now c.args.headers.now c.loop-header.header-index _ c.loop-header.only c.loop-header-test.true
    (c.if-is_named.ensures ∙ ap (λ x. are_same_name x c.args.name.now) c.of.ensures) c.in_default.not-Nothing c.loop-header.invariant
