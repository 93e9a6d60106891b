use Rattle.std.proofs.Common.{sym, subst}
use Rattle.fab_reach_base.specs.Views.{seen}
use Rattle.fab_reach_books.specs.Numbers.{IsNumberOf}
use Rattle.fab_reach_books.proofs.Numbers.{set_number}
use Rattle.fab_reach.proofs.index_book.IndexBookPathBook.open.Goals as goal

pub returns-clause-stands : goal.returns-clause-stands
returns-clause-stands g c = (c.requires, c.in_ok-index.ensures, subst (IsNumberOf (seen c.args.view.now)) (sym c.len.ensures.len) (set_number (seen c.args.view.now) c.in_ok-paths.paths c.len.ensures.ordered c.in_ok-paths.ensures))
