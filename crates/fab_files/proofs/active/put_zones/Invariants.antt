use Rattle.std.proofs.Common.{drop}
use Rattle.std.specs.List.{flat_map}
use Rattle.fab_wire_streams.proofs.Turns.{Gone}
use Rattle.fab_files.specs.ActiveSets.{zone_lines}
use Rattle.fab_files.proofs.active.put_zones.Given as goal

abbrev pub invariant-loop-zone : goal.invariant-loop-zone
invariant-loop-zone g l = Gone g.S.Sink.took l.fn.sink l.sink (flat_map (λ z. zone_lines z.name z.members.items) l.fn.zones) (flat_map (λ z. zone_lines z.name z.members.items) (drop l.zone-index l.zones))
