use Rattle.std.specs.Cmp.{nat_cmp_total}
use Rattle.std.specs.FinSet as set
use Rattle.fab_looks_tries.specs.Ports.{HasMove}
use Rattle.fab_looks_tries.proofs.Listed.{listed_keys}
use Rattle.fab_looks_tries.proofs.Moves.{moves_are}
use Rattle.fab_looks_tries.proofs.ports.ports_with.Goals as goal

pub returns : goal.returns
returns g c v list =
    let k = c.args.kind in
    let w = c.args.inventory.now in
    let t = c.add_ports.new.names in
    let are = moves_are k w v c.args.ports.now c.new-names.result t c.new-names.ensures.empty list c.in_ok-add_ports.ensures in
    listed_keys nat_cmp_total set.nat_cmp-IsAntisymmetric (HasMove k w v) t c.in_ok-list.list.items c.in_ok-list.ensures.keys c.in_ok-list.ensures.sorted (λ n. (are n).0) (λ n. (are n).1)
