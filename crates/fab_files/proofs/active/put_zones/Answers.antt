use Rattle.std.proofs.Common.{ℕ, List, subst}
use Rattle.std.specs.List.{flat_map}
use Rattle.fab_wire_streams.proofs.SentLemmas.{flat-cut}
use Rattle.fab_wire_streams.proofs.Turns.{Gone, gone-cut, gone-more}
use Rattle.fab_desk_base.specs.declared.reply.ZoneMembers.{ZoneMembers}
use Rattle.fab_files.specs.ActiveSets.{zone_lines}
use Rattle.fab_files.proofs.active.put_zones.Goals as goal

pub returns-in_default : goal.returns-in_default
returns-in_default g c =
    let s = g.met.S.Sink.laws in
    let lines = λ (z : ZoneMembers _). zone_lines z.name z.members.items in
    let xs = c.args.zones.now in
    let cut = flat-cut lines xs c.loop-zone.zone-index c.zone-item.result c.loop-zone-test.true in
    let here : Gone g.S.Sink.took c.args.sink.now c.loop-zone.sink (flat_map lines xs) _ = subst (λ (t : List ℕ). Gone g.S.Sink.took c.args.sink.now c.loop-zone.sink (flat_map lines xs) t) cut c.loop-zone.invariant in
    gone-cut s _ _ _ _ _ _ here (rw (c.deref.ensures.value, c.zone-item.is) at c.in_default.ensures)

pub loop-zone-preserved : goal.loop-zone-preserved
loop-zone-preserved g c =
    let s = g.met.S.Sink.laws in
    let lines = λ (z : ZoneMembers _). zone_lines z.name z.members.items in
    let xs = c.args.zones.now in
    let cut = flat-cut lines xs c.loop-zone.zone-index c.zone-item.result c.loop-zone-test.true in
    let here : Gone g.S.Sink.took c.args.sink.now c.loop-zone.sink (flat_map lines xs) _ = subst (λ (t : List ℕ). Gone g.S.Sink.took c.args.sink.now c.loop-zone.sink (flat_map lines xs) t) cut c.loop-zone.invariant in
    gone-more s _ _ _ _ _ _ here (rw (c.deref.ensures.value, c.zone-item.is) at c.in-Ok.ensures)
