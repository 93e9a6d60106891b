use Rattle.std.proofs.Common.{take}
use Rattle.fab_wire_base.specs.Lines.{values_of, lines_of}
use Rattle.fab_wire_base.specs.Fields.{IsOnly}
use Rattle.fab_wire_base.proofs.fields.only_value.Given as goal

abbrev pub invariant-loop-header : goal.invariant-loop-header
invariant-loop-header l = IsOnly l.buf (values_of l.name (lines_of l.buf (take l.header-index l.headers))) l.only
