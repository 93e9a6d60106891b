use Rattle.std.proofs.Common.{ℕ, List}
use Rattle.fab_reach_books.proofs.SetLoops.{names_from_nothing}
use Rattle.fab_reach_books.specs.Rows.{Stands}
use Rattle.fab_reach_moves.specs.Inner.Listing.{name_row}
use Rattle.fab_reach_moves.proofs.lists_after.listed_after.Goals as goal

pub returns : goal.returns
returns g c v t = names_from_nothing (λ (x : List ℕ). Stands v (name_row c.args.listed.now x)) c.new-names.result c.add_listed_after.new.names c.new-names.ensures.empty (c.in_ok-add_listed_after.ensures v t)
