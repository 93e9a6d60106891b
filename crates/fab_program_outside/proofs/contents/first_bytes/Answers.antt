use Rattle.std.proofs.Common.{◌+◌, ◌^◌}
use Rattle.fab_wire_streams.specs.Counting.{inner_of}
use Rattle.fab_program_outside.proofs.ReadLemmas.{first_of}
use Rattle.fab_program_outside.proofs.contents.first_bytes.Goals as goal

pub returns-in-Ok : goal.returns-in-Ok
returns-in-Ok g c =
    first_of (g.R.Read.remaining (inner_of c.args.reader.now)) (2 ^ 20 + 1) _ _ c.new-bytes.ensures.items (rw (c.take.ensures.limit, c.take.ensures.inner) at c.in-Ok.ensures.bytes)
