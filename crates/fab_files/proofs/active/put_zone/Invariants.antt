use Rattle.std.proofs.Common.{drop}
use Rattle.std.specs.List.{flat_map}
use Rattle.fab_wire_streams.proofs.Turns.{Gone}
use Rattle.fab_files.specs.ActiveSets.{member_line}
use Rattle.fab_files.proofs.active.put_zone.Given as goal

abbrev pub invariant-loop-member : goal.invariant-loop-member
invariant-loop-member g l = Gone g.S.Sink.took l.fn.sink l.sink (flat_map (member_line l.fn.zone) l.fn.members) (flat_map (member_line l.fn.zone) (drop l.member-index l.members))
