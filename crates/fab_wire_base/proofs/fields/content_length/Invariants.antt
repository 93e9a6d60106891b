use Rattle.std.proofs.Common.{codes, take}
use Rattle.fab_wire_base.specs.Lines.{values_of, lines_of}
use Rattle.fab_wire_base.specs.Fields.{IsLengthOf}
use Rattle.fab_wire_base.proofs.fields.content_length.Given as goal

abbrev pub invariant-loop-header : goal.invariant-loop-header
invariant-loop-header l = IsLengthOf (values_of (codes "content-length") (lines_of l.buf (take l.header-index l.headers))) l.length
