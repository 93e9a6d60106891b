use Rattle.fab_reach.proofs.index_book.IndexBookPathBook.of_host.Goals as goal

pub returns : goal.returns
returns g c w are = c.in_ok-paths.ensures w are.1
