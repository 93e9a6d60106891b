-- The desk of the program.
use Rattle.std.specs.declared.alloc.Global.{Global}
use Rattle.fab_reach.specs.declared.index_book.IndexBook.{IndexBook}
use Rattle.fab_reach.specs.declared.index_book.IndexStep.{IndexStep}
use Rattle.fab_wire.specs.declared.Desk.{Desk}

-- the desk over a store, with the book that asks about affected pairs
abbrev pub ProgramDesk : Type 0 → Type 0
ProgramDesk S = Desk Global S (IndexBook Global) (IndexStep Global)
