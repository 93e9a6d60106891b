use Rattle.std.proofs.Common.{◌∙◌, ap, sym}
use Rattle.fab_wire_streams.specs.Counting.{inner_of, failures_of}
use Rattle.fab_wire.specs.Serving.{Serves, side}
use Rattle.fab_program_desks.proofs.Beginnings.{begun}
use Rattle.fab_program_desks.proofs.asking.once_now.Goals as goal

pub returns-in-Ok : goal.returns-in-Ok
returns-in-Ok g c =
    let known = g.R.Read.remaining in
    let contents = g.W.Write.contents in
    let served = c.serve_one-outcome in
    let input = side (known (inner_of served.new.reader)) (failures_of served.new.reader) in
    let sent = side (contents (inner_of served.new.writer)) (failures_of served.new.writer) in (
      input,
      sent,
      served.result,
      served.new.desk,
      begun (λ a b x y. Serves g.S.Store (side a b) input (side x y) sent c.args.desk.now c.args.moment served.result served.new.desk) _ _ _ _ _ _ _ _
          (ap known c.new-reader.ensures.inner) c.new-reader.ensures.none (ap contents c.new-writer.ensures.inner) c.new-writer.ensures.none served.ensures,
      (sym c.end_of.ensures ∙ c.in-Ok.is, sym (ap contents c.into_inner.ensures)),
    )

pub returns : goal.returns
returns g c =
    let known = g.R.Read.remaining in
    let contents = g.W.Write.contents in
    let served = c.serve_one-outcome in
    let input = side (known (inner_of served.new.reader)) (failures_of served.new.reader) in
    let sent = side (contents (inner_of served.new.writer)) (failures_of served.new.writer) in (
      input,
      sent,
      served.result,
      served.new.desk,
      begun (λ a b x y. Serves g.S.Store (side a b) input (side x y) sent c.args.desk.now c.args.moment served.result served.new.desk) _ _ _ _ _ _ _ _
          (ap known c.new-reader.ensures.inner) c.new-reader.ensures.none (ap contents c.new-writer.ensures.inner) c.new-writer.ensures.none served.ensures,
      sym c.end_of.ensures ∙ c.in-Err.is,
    )
