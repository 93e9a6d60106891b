use Rattle.fab_reach.proofs.index_book.IndexBookPathBook.adopt.Goals as goal

pub returns-clause-stands : goal.returns-clause-stands
returns-clause-stands g c w v leads = (leads.1, c.take.ensures v leads.3 leads.2, leads.4)
