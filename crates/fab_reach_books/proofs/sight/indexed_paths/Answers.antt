use Rattle.fab_reach_base.specs.Views.{seen}
use Rattle.fab_reach_books.proofs.Renewing.{none_renewed}
use Rattle.fab_reach_books.proofs.sight.indexed_paths.Goals as goal

pub pair_paths-requires : goal.pair_paths-requires
pair_paths-requires g c = none_renewed (seen c.args.view.now).config.mapping c.new-none.result c.args.served.now c.new-none.ensures.empty c.requires
