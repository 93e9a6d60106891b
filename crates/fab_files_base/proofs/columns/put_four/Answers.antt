use Rattle.std.proofs.Common.{ℕ, List, sym, subst}
use Rattle.fab_wire_streams.specs.Taking.{Takes}
use Rattle.fab_files_base.proofs.Pieces.{four_pieces}
use Rattle.fab_files_base.proofs.columns.put_four.Goals as goal

pub returns : goal.returns
returns g c =
    let put = rw (c.spaces_beside.ensures, c.as_slice.ensures, c.spaces_beside-2.ensures, c.as_slice-2.ensures, c.spaces_beside-3.ensures, c.as_slice-3.ensures, c.as_slice-4.ensures) at c.put_all.ensures in
    subst (λ (t : List ℕ). Takes g.S.Sink.took g.S.Sink.cut c.args.sink.now t c.put_all.new.sink c.put_all.result) (sym (four_pieces c.args.first.now c.args.second.now c.args.third.now c.args.last.now)) put
