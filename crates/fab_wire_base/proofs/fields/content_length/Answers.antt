use Rattle.std.proofs.Common.{codes, ap, ◌∙◌}
use Rattle.fab_wire_base.specs.Lines.{are_same_name}
use Rattle.fab_wire_base.proofs.FieldLemmas.{length-named, length-other, take-whole}
use Rattle.fab_wire_base.proofs.fields.content_length.Goals.{then-is_named, else-is_named}
use Rattle.fab_wire_base.proofs.fields.content_length.Goals as goal

pub loop-header-preserved : goal.loop-header-preserved
loop-header-preserved c = elim c.if-is_named.branch [
  | then-is_named w ↦ length-named (codes "content-length") c.args.buf.now c.args.headers.now c.loop-header.header-index _ c.loop-header.length _ _ c.loop-header-test.true
      (w.if-is_named.ensures ∙ ap (λ x. are_same_name x (codes "content-length")) c.of.ensures) w.length-is
      (rw w.of-then-is_named.ensures at w.after_value-length.ensures) c.loop-header.invariant
  | else-is_named w ↦ length-other (codes "content-length") c.args.buf.now c.args.headers.now c.loop-header.header-index _ c.loop-header.length _ c.loop-header-test.true
      (w.if-is_named.ensures ∙ ap (λ x. are_same_name x (codes "content-length")) c.of.ensures) w.length-is c.loop-header.invariant
]

pub returns : goal.returns
returns c = rw (take-whole c.loop-header.header-index c.args.headers.now c.loop-header-test.false) at c.loop-header.invariant
