use Rattle.std.proofs.Common.{arith, length, take, ap, sym, ◌∙◌}
use Rattle.fab_wire_base.proofs.BodyLemmas.{resized, body-there, body-taken, body-short}
use Rattle.fab_wire_base.proofs.bodies.take_body.Goals as goal

pub fill_from-requires : goal.fill_from-requires
fill_from-requires g c =
    let had = resized c.resize.result _ c.args.have.now _ c.args.size _ (sym c.is_err.ensures.value ∙ c.if-is_err.false) c.in-Ok-from_slice.ensures.items c.in-Ok-from_slice.ensures.len c.if-size-have.false c.resize.ensures.items in
    omega (arith, had.1, ap length c.as_mut_slice.ensures.value)

pub returns-in-Ok-clause-body : goal.returns-in-Ok-clause-body
returns-in-Ok-clause-body g c = body-there _ c.args.have.now c.in-Ok.body.items c.args.size c.if-size-have.true c.in-Ok.ensures.items

pub returns-in-Whole-clause-body : goal.returns-in-Whole-clause-body
returns-in-Whole-clause-body g c =
    let had = resized c.resize.result _ c.args.have.now _ c.args.size _ (sym c.is_err.ensures.value ∙ c.if-is_err.false) c.in-Ok-from_slice.ensures.items c.in-Ok-from_slice.ensures.len c.if-size-have.false c.resize.ensures.items in
    body-taken _ _ c.args.have.now c.fill_from.new.buf _ c.args.size c.resize.new.self.len
    (omega (arith, had.1, c.as_mut_slice.ensures.len, ap length c.as_mut_slice.ensures.value)) (omega (arith, had.1, ap length c.as_mut_slice.ensures.value))
    (c.in-Whole.ensures.front ∙ ap (take (length c.args.have.now)) c.as_mut_slice.ensures.value ∙ had.0) c.in-Whole.ensures.rest

pub returns-in-Short-clause-body : goal.returns-in-Short-clause-body
returns-in-Short-clause-body g c =
    let had = resized c.resize.result _ c.args.have.now _ c.args.size _ (sym c.is_err.ensures.value ∙ c.if-is_err.false) c.in-Ok-from_slice.ensures.items c.in-Ok-from_slice.ensures.len c.if-size-have.false c.resize.ensures.items in
    body-short _ c.args.have.now c.fill_from.new.buf c.args.size (omega (arith, had.1, ap length c.as_mut_slice.ensures.value)) c.if-size-have.false c.in-Short.ensures.rest
