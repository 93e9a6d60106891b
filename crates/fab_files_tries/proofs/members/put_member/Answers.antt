use Rattle.std.proofs.Common.{sym, subst}
use Rattle.fab_files_tries.specs.Rows.{in_form, member_row, worded_row}
use Rattle.fab_names.specs.declared.member.Member.{Member}
use Rattle.fab_wire_streams.specs.Taking.{Takes}
use Rattle.fab_files_tries.proofs.members.put_member.Goals as goal

pub returns-in-Port : goal.returns-in-Port
unfolding member_row worded_row
returns-in-Port g c = subst (λ (m : Member). Takes g.S.Sink.took g.S.Sink.cut c.args.sink.now (in_form c.args.form (member_row c.args.table.now c.args.fabric.now c.args.kind.now c.args.name.now m)) c.put_wwn.new.sink c.put_wwn.result) (sym c.in-Port.is) c.put_wwn.ensures

pub returns-in-Node : goal.returns-in-Node
unfolding member_row worded_row
returns-in-Node g c = subst (λ (m : Member). Takes g.S.Sink.took g.S.Sink.cut c.args.sink.now (in_form c.args.form (member_row c.args.table.now c.args.fabric.now c.args.kind.now c.args.name.now m)) c.put_wwn-in-Node.new.sink c.put_wwn-in-Node.result) (sym c.in-Node.is) c.put_wwn-in-Node.ensures
