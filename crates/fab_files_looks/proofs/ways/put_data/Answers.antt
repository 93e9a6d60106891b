use Rattle.std.proofs.Common.{sym, subst}
use Rattle.fab_files_looks.specs.Ways.{way_data}
use Rattle.fab_files_looks.proofs.ways.put_data.Goals as goal
use Rattle.fab_wire_streams.specs.JsonText.{json_text}
use Rattle.fab_wire_streams.specs.Taking.{Takes}

pub returns-in-Reaches : goal.returns-in-Reaches
returns-in-Reaches g c =
    subst (λ y. Takes g.S.Sink.took g.S.Sink.cut c.args.sink.now (json_text (way_data c.args.host c.args.volume y c.args.found.now c.args.pairs.now)) c.put_reaches.new.sink c.put_reaches.result) (sym c.in-Reaches.is)
    (rw c.as_slice.ensures.value at c.put_reaches.ensures)

pub returns-in-Missing : goal.returns-in-Missing
returns-in-Missing g c =
    subst (λ y. Takes g.S.Sink.took g.S.Sink.cut c.args.sink.now (json_text (way_data c.args.host c.args.volume y c.args.found.now c.args.pairs.now)) c.put_missing.new.sink c.put_missing.result) (sym c.in-Missing.is) c.put_missing.ensures
