use Rattle.std.proofs.Common.{sym, subst}
use Rattle.fab_files_looks.specs.Lines.{row_line}
use Rattle.fab_wire_streams.specs.Taking.{Takes}
use Rattle.fab_files_looks.proofs.lines.put_row.Goals as goal

pub returns-in-Port : goal.returns-in-Port
returns-in-Port g c = subst (λ s. Takes g.S.Sink.took g.S.Sink.cut c.args.sink.now (row_line s) c.put_port.new.sink c.put_port.result) (sym c.in-Port.is) c.put_port.ensures
