use Rattle.std.proofs.Common.{◌≡◌, ◌∷◌, get_or}
use Rattle.fab_reach_base.specs.Views.{seen}
use Rattle.fab_reach_books.proofs.laws.advance_all.Given as goal

abbrev pub invariant-loop-i : goal.invariant-loop-i
invariant-loop-i g l = g.B.PathBook.stands l.book (seen l.before) × (l.before ≡ get_or (l.first ∷ l.rest) l.i l.first)
