use Rattle.std.proofs.Common.{sym, subst}
use Rattle.fab_files_looks.specs.Lists.{header_line}
use Rattle.fab_files_looks.specs.declared.lists.Table.{Table}
use Rattle.fab_files_looks.proofs.lists.put_header.Goals as goal
use Rattle.fab_wire_streams.specs.Taking.{Takes}

pub returns-in-HostGroups : goal.returns-in-HostGroups
unfolding header_line
returns-in-HostGroups g c =
    subst (λ (t : Table). Takes g.S.Sink.took g.S.Sink.cut c.args.sink.now (header_line t) c.put_three-in-HostGroups.new.sink c.put_three-in-HostGroups.result) (sym c.in-HostGroups.is) c.put_three-in-HostGroups.ensures
