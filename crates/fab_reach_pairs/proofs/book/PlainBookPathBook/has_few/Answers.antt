use Rattle.std.proofs.Common.{sym, subst}
use Rattle.fab_reach_base.specs.declared.listing.TheConstants.{MOST_PATHS}
use Rattle.fab_reach_books.specs.Numbers.{IsNumberOf}
use Rattle.fab_reach_books.proofs.Numbers.{few_of, many_of, set_number}
use Rattle.fab_reach_pairs.proofs.book.PlainBookPathBook.has_few.Goals as goal

pub returns-clause-few : goal.returns-clause-few
returns-clause-few g c w v leads = few_of v c.len.result MOST_PATHS (subst (IsNumberOf v) (sym c.len.ensures.len) (set_number v c.args.ready.now.next.paths c.len.ensures.ordered leads.1.paths_are))

pub returns-clause-many : goal.returns-clause-many
returns-clause-many g c w v leads = many_of v c.len.result MOST_PATHS (subst (IsNumberOf v) (sym c.len.ensures.len) (set_number v c.args.ready.now.next.paths c.len.ensures.ordered leads.1.paths_are))
