use Rattle.std.proofs.Common.{ℕ, List, sym, subst}
use Rattle.fab_wire_streams.specs.Taking.{Takes}
use Rattle.fab_files_base.proofs.Pieces.{three_pieces}
use Rattle.fab_files_base.proofs.columns.put_three.Goals as goal

pub returns : goal.returns
returns g c =
    let put = rw (c.spaces_beside.ensures, c.as_slice.ensures, c.spaces_beside-2.ensures, c.as_slice-2.ensures, c.as_slice-3.ensures) at c.put_all.ensures in
    subst (λ (t : List ℕ). Takes g.S.Sink.took g.S.Sink.cut c.args.sink.now t c.put_all.new.sink c.put_all.result) (sym (three_pieces c.args.first.now c.args.second.now c.args.last.now)) put
