use Rattle.fab_reach_pairs.proofs.Owning.{own_list}
use Rattle.fab_reach_pairs.proofs.book.PlainBookPathBook.of_host.Goals as goal

pub returns : goal.returns
returns g c w stands = own_list w c.args.self.now.paths c.args.self.now.owners c.args.host.now c.in_ok-own.own.items stands c.in_ok-own.ensures
