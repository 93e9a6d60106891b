use Rattle.std.proofs.Common.{rules, ◌≡◌, Bool, true, subst}
use Rattle.sqlite.specs.Held.{state}
use Rattle.fab_program_desks.proofs.Finding.{found, unfound}
use Rattle.fab_program_desks.proofs.machine.tables_at.Goals as goal

pub returns : goal.returns
returns g c =
    let is : c.is_there.result ≡ true = search rules in
    let there = subst (λ (b : Bool). g.O.Connections.has_file c.args.outside.now c.args.path.now b) is c.is_there.ensures in record {
      found = found (state g.O.Pages.Store) (λ s. s.conn) (g.O.Connections.connects c.args.outside.now c.args.path.now) c.connected.result c.connected.ensures.opened (g.O.Connections.has_file c.args.outside.now c.args.path.now) c.brought_over.result there c.brought_over.ensures.done;
      unfound = unfound (state g.O.Pages.Store) (λ s. s.conn) (g.O.Connections.connects c.args.outside.now c.args.path.now) c.connected.result c.connected.ensures.opened (g.O.Connections.has_file c.args.outside.now c.args.path.now) c.brought_over.result there c.connected.ensures.fault c.brought_over.ensures.fault;
    }
