use Rattle.std.proofs.Common.{List, sym, subst}
use Rattle.std.specs.List.{AllZip}
use Rattle.fab_desk_base.specs.Showing.{Shows}
use Rattle.fab_desk_base.specs.declared.command.Query.{Query}
use Rattle.fab_looks.specs.Ways.{AreOfWay}
use Rattle.fab_looks.proofs.Gathered.{way_recorded}
use Rattle.fab_looks.proofs.way.way_rows.Goals as goal

pub answers_to-requires-clause-there : goal.answers_to-requires-clause-there
answers_to-requires-clause-there g c =
    way_recorded c.args.policy.now c.args.world.now c.args.id c.args.host.now c.args.volume.now c.deref.result.now
    (subst (λ (qs : List Query). AreOfWay c.args.policy.now c.args.world.now c.args.id c.args.host.now c.args.volume.now qs) (sym c.deref.ensures.value) c.in_ok-queries.ensures)

pub returns : goal.returns
returns g c = (
  c.in_ok-queries.queries.items,
  c.in_ok-queries.ensures,
  subst (λ (qs : List Query). AllZip (Shows c.args.world.now) qs c.in_ok-rows.rows.items) c.deref.ensures.value c.in_ok-rows.ensures,
)
