use Rattle.sqlite.specs.Held.{state}
use Rattle.fab_program_desks.proofs.Finding.{made, unmade}
use Rattle.fab_program_desks.proofs.machine.new_tables_at.Goals as goal

pub returns : goal.returns
returns g c = record {
  made = made (state g.O.Pages.Store) (λ s. s.conn) (g.O.Connections.connects c.args.outside.now c.args.path.now) c.connected.result c.connected.ensures.opened c.new_over.result c.new_over.ensures.made;
  unmade = unmade (state g.O.Pages.Store) (λ s. s.conn) (g.O.Connections.connects c.args.outside.now c.args.path.now) c.connected.result c.connected.ensures.opened c.new_over.result c.connected.ensures.fault c.new_over.ensures.fault;
}
