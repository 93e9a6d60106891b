use Rattle.std.proofs.Common.{sym, subst}
use Rattle.fab_reach_books.specs.Renewed.{IsRenewedIndex}
use Rattle.fab_reach_books.specs.Sights.{SightRows}
use Rattle.fab_reach_books.proofs.sight.ViewSightSight.pair_by.Goals as goal

pub pair_paths-requires : goal.pair_paths-requires
pair_paths-requires g c = subst (λ (v : SightRows). IsRenewedIndex v.world.config.mapping c.args.groups.now.new.now c.args.groups.now.old.now) (sym c.self.view_is) c.requires.groups
