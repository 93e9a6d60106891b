use Rattle.std.proofs.Common.{◌≡◌, ◌+◌, ◌≤◌, ◌++◌, length}
use Rattle.std.specs.Vec.{vec_len, vec_capacity}
use Rattle.std.specs.Vec.Iter.{into_iter_items, into_iter_len}
use Rattle.fab_wire.specs.InTurn.{AreServed}
use Rattle.fab_wire.proofs.laws.serve_all.Given as goal

-- what came so far is served, from the first desk to this one, and there is room for the rest
abbrev pub invariant-loop-connection : goal.invariant-loop-connection
invariant-loop-connection g l = record {
  whole : l.yielded ++ into_iter_items l.connection-iterator ≡ into_iter_items l.initial.connection-iterator;
  left : into_iter_len l.connection-iterator ≡ length (into_iter_items l.connection-iterator);
  told : AreServed g.S.Store g.R.Read.remaining g.W.Write.contents l.initial.desk l.yielded l.all.items l.desk;
  room : vec_len l.all + into_iter_len l.connection-iterator ≤ vec_capacity l.all;
}
