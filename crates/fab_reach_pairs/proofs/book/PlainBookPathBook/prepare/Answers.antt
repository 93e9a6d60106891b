use Rattle.std.proofs.Common.{List, sym, subst}
use Rattle.fab_reach_base.specs.Views.{seen}
use Rattle.fab_reach_pairs.proofs.Deltas.{delta_of}
use Rattle.fab_reach_books.specs.Rows.{IsRowDiff}
use Rattle.fab_reach_books.specs.declared.row.Row.{Row}
use Rattle.fab_reach_pairs.proofs.Owning.{known_after}
use Rattle.fab_reach_pairs.proofs.book.PlainBookPathBook.prepare.Goals as goal

pub all_pairs-requires : goal.all_pairs-requires
all_pairs-requires g c =
    let w = seen c.args.before.now in
    let v = g.S.Sight.world c.args.sight.now in
    known_after w v c.args.diff.now.gone.items c.as_slice.result.now c.in_ok-ports.ports (subst (λ (ys : List Row). IsRowDiff w v c.args.diff.now.gone.items ys) (sym c.as_slice.ensures.value) c.requires.diff) c.in_ok-ports.ensures

pub returns-clause-leads : goal.returns-clause-leads
returns-clause-leads g c =
    let w = seen c.args.before.now in
    let v = g.S.Sight.world c.args.sight.now in
    let among = known_after w v c.args.diff.now.gone.items c.as_slice.result.now c.in_ok-ports.ports (subst (λ (ys : List Row). IsRowDiff w v c.args.diff.now.gone.items ys) (sym c.as_slice.ensures.value) c.requires.diff) c.in_ok-ports.ensures in (
      delta_of w v c.args.self.now.paths c.in_ok-paths.paths c.in_ok-gained.gained.items c.in_ok-lost.lost.items c.requires.stands.paths_are c.in_ok-paths.ensures.paths c.in_ok-gained.ensures c.in_ok-lost.ensures,
      record { paths_are = c.in_ok-paths.ensures.paths; owners_are = c.in_ok-owners.ensures v (c.in_ok-told.ensures w v c.requires.diff) among },
    )
