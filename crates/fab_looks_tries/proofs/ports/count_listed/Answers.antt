use Rattle.std.proofs.Common.{refl}
use Rattle.std.specs.Cmp.{nat_cmp_total}
use Rattle.std.specs.FinSet as set
use Rattle.fab_looks_tries.specs.Ports.{IsListed}
use Rattle.fab_looks_tries.proofs.Listed.{listed_keys}
use Rattle.fab_looks_tries.proofs.Moves.{listed_are}
use Rattle.fab_looks_tries.proofs.ports.count_listed.Goals as goal

pub returns : goal.returns
returns g c =
    let t = c.add_listed.new.names in
    let are = listed_are c.args.rows.now c.new-names.result t c.new-names.ensures.empty c.in_ok-add_listed.ensures in (
      t.keys,
      listed_keys nat_cmp_total set.nat_cmp-IsAntisymmetric (IsListed c.args.rows.now) t t.keys refl c.len.ensures.ordered (λ n. (are n).0) (λ n. (are n).1),
      c.len.ensures.len,
    )
