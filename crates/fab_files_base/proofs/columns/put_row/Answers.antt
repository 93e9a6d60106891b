use Rattle.std.proofs.Common.{ℕ, List, sym, subst}
use Rattle.fab_wire_streams.specs.Taking.{Takes}
use Rattle.fab_files_base.proofs.Pieces.{row_pieces}
use Rattle.fab_files_base.proofs.columns.put_row.Goals as goal

pub returns : goal.returns
returns g c =
    let put = rw (c.spaces_beside.ensures, c.as_slice.ensures, c.spaces_beside-2.ensures, c.as_slice-2.ensures, c.spaces_beside-3.ensures, c.as_slice-3.ensures, c.spaces_beside-4.ensures, c.as_slice-4.ensures, c.as_slice-5.ensures) at c.put_all.ensures in
    subst (λ (t : List ℕ). Takes g.S.Sink.took g.S.Sink.cut c.args.sink.now t c.put_all.new.sink c.put_all.result) (sym (row_pieces c.args.host.now c.args.volume.now c.args.over_a.now c.args.over_b.now c.args.state.now)) put
