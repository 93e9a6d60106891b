use Rattle.std.proofs.Common.{ℕ, List, sym, subst}
use Rattle.fab_wire_streams.specs.Taking.{Takes}
use Rattle.fab_reach_base.specs.fab_names.Fabrics.{fabric_text}
use Rattle.fab_reach_base.specs.fab_zoning.Zonings.{flag_text}
use Rattle.fab_files.specs.ActiveSets.{head_lines, set_name}
use Rattle.fab_files.proofs.Pieces.{head_pieces}
use Rattle.fab_files.proofs.active.put_head.Goals as goal

pub returns : goal.returns
unfolding head_lines
returns g c =
    let put = rw (c.as_slice.ensures, c.as_bytes.ensures.value, c.as_str.ensures, c.as_slice-2.ensures, c.name_of.ensures, c.as_slice-3.ensures, c.as_bytes-2.ensures.value, c.word.ensures, c.as_slice-4.ensures) at c.put_all.ensures in
    subst (λ (t : List ℕ). Takes g.S.Sink.took g.S.Sink.cut c.args.sink.now t c.put_all.new.sink c.put_all.result) (sym (head_pieces (fabric_text c.args.fabric) (set_name c.args.active) (flag_text c.args.flag))) put
