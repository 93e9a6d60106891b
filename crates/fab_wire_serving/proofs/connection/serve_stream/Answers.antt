use Rattle.std.proofs.Common.{rules, inr, Some}
use Rattle.std.proofs.KnownBytes.{Keeps-refl}
use Rattle.fab_wire_streams.specs.Counting.{inner_of}
use Rattle.fab_wire_deadlines.specs.Deadlines.{stream_of, end_at}
use Rattle.fab_wire_serving.specs.Sides.{sides}
use Rattle.fab_wire_serving.proofs.connection.serve_stream.Goals as goal

pub returns : goal.returns
returns g c =
    let after = sides (λ t. g.R.Source.remaining (stream_of t)) (λ t. Some (end_at t)) (λ t. g.S.Sink.contents (stream_of t)) (λ t. Some (end_at t)) c.serve_one.new.reader c.serve_one.new.writer in
    (after, search rules, inr (stream_of (inner_of c.serve_one.new.writer), Keeps-refl _))
