use Rattle.fab_reach_base.specs.Views.{seen}
use Rattle.fab_reach_books.proofs.RowsTold.{all_told}
use Rattle.fab_reach_books.proofs.differing.only_in.Goals as goal

pub returns : goal.returns
returns g c = all_told (seen c.args.view.now) (seen c.args.other.now) c.args.config.now c.requires c.new-rows.result.items c.add_ports.new.rows.items c.add_holders.new.rows.items c.add_kept.new.rows.items c.new-rows.ensures.items c.in_ok-add_ports.ensures c.in_ok-add_holders.ensures c.in_ok-add_kept.ensures
