use Rattle.fab_reach_base.specs.declared.listing.TheConstants.{MOST_PATHS}
use Rattle.fab_reach_books.proofs.Numbers.{more}
use Rattle.fab_reach.proofs.Few.{few_where}
use Rattle.fab_reach.proofs.index_book.IndexBookPathBook.has_few.Goals as goal

pub returns-clause-few : goal.returns-clause-few
returns-clause-few g c w v leads = few_where v c.args.ready.now.paths MOST_PATHS c.is_few.result leads.4 c.is_few.ensures.few c.is_few.ensures.many

pub returns-clause-many : goal.returns-clause-many
returns-clause-many g c w v leads many = more v c.args.ready.now.paths MOST_PATHS leads.4 (c.is_few.ensures.many many)
