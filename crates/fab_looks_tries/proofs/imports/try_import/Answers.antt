use Rattle.std.proofs.Common.{List, sym, subst}
use Rattle.fab_inventory.specs.declared.port.PortRow.{PortRow}
use Rattle.fab_looks_tries.specs.Ports.{IsNumberListed}
use Rattle.fab_looks_tries.proofs.Tried.{tried_import}
use Rattle.fab_looks_tries.proofs.imports.try_import.Goals as goal

pub returns-in-Ok-moved-clause-ok : goal.returns-in-Ok-moved-clause-ok
returns-in-Ok-moved-clause-ok g c =
    let listed = subst (IsNumberListed c.args.rows.items) (sym c.in-Ok-moved.ensures.listed) (subst (λ (xs : List PortRow). IsNumberListed xs c.in-Ok.listed) c.as_slice.ensures.value c.in-Ok.ensures) in
    tried_import (g.B.PathBook.leads c.foresee.new.book) c.args.policy.now c.args.world.now c.args.token.now c.args.moment c.args.fabric c.args.rows c.in-Ok-foresee.prepared c.in-Ok-moved.tried
    c.in-Ok-foresee.ensures.ok listed c.in-Ok-moved.ensures.ports c.in-Ok-moved.ensures.paths
