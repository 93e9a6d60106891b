use Rattle.fab_reach_books.proofs.SetLoops.{from_nothing}
use Rattle.fab_reach_base.specs.Views.{seen}
use Rattle.fab_reach_books.specs.Inner.Sets.{HasPortIn}
use Rattle.fab_reach_pairs.specs.Inner.Offering.{IsLoose}
use Rattle.fab_reach_pairs.proofs.loose.loose_among.Goals as goal

pub returns : goal.returns
returns g c = from_nothing (λ p. HasPortIn c.args.ports.now p × IsLoose (seen c.args.view.now) c.args.fabric p) c.new-loose.result c.add_loose.new.loose c.new-loose.ensures.empty c.in_ok-add_loose.ensures
