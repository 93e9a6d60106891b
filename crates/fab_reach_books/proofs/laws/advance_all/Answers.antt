use Rattle.std.proofs.Common.{sym, subst, rules}
use Rattle.fab_reach_base.specs.Serving.{IsServing}
use Rattle.fab_reach_base.specs.Views.{seen}
use Rattle.fab_reach_books.proofs.laws.advance_all.Goals as goal

pub advance-requires-clause-sound : goal.advance-requires-clause-sound
advance-requires-clause-sound g c = subst (λ v. IsServing (seen v)) (sym c.index-rest-i.is) (c.requires.sound c.loop-i.i c.index-rest-i.result (search rules))
