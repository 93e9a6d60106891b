use Rattle.std.proofs.Common.{◌≡◌, ◌+◌, ◌≤◌, ◌++◌, map, length}
use Rattle.std.specs.Vec.{vec_len, vec_capacity}
use Rattle.std.specs.Vec.Iter.{into_iter_items, into_iter_len}
use Rattle.fab_desk_machine.specs.Proposals.{asked_of}
use Rattle.fab_desk.specs.Handled.{AreHandled}
use Rattle.fab_desk.proofs.run.handle_all.Given as goal

-- what came so far is handled, from the first desk to this one, and there is room for the rest
abbrev pub invariant-loop-asked : goal.invariant-loop-asked
invariant-loop-asked g l = record {
  whole : l.yielded ++ into_iter_items l.asked-iterator ≡ into_iter_items l.initial.asked-iterator;
  left : into_iter_len l.asked-iterator ≡ length (into_iter_items l.asked-iterator);
  handled : AreHandled g.S.Store g.B.PathBook.bounds l.initial.desk (map asked_of l.yielded) l.replies.items l.desk;
  room : vec_len l.replies + into_iter_len l.asked-iterator ≤ vec_capacity l.replies;
}
