use Rattle.std.proofs.Common.{ℕ, List, subst}
use Rattle.std.specs.List.{flat_map}
use Rattle.fab_wire_streams.proofs.SentLemmas.{flat-cut}
use Rattle.fab_wire_streams.proofs.Turns.{Gone, gone-cut, gone-more}
use Rattle.fab_files.specs.ActiveSets.{member_line}
use Rattle.fab_files.proofs.active.put_zone.Goals as goal

pub returns-in_default : goal.returns-in_default
returns-in_default g c =
    let s = g.met.S.Sink.laws in
    let line = member_line c.args.zone.now in
    let xs = c.args.members.now in
    let cut = flat-cut line xs c.loop-member.member-index c.member-item.result c.loop-member-test.true in
    let here : Gone g.S.Sink.took c.args.sink.now c.loop-member.sink (flat_map line xs) _ = subst (λ (t : List ℕ). Gone g.S.Sink.took c.args.sink.now c.loop-member.sink (flat_map line xs) t) cut c.loop-member.invariant in
    gone-cut s _ _ _ _ _ _ here (rw c.member-item.is at c.in_default.ensures)

pub loop-member-preserved : goal.loop-member-preserved
loop-member-preserved g c =
    let s = g.met.S.Sink.laws in
    let line = member_line c.args.zone.now in
    let xs = c.args.members.now in
    let cut = flat-cut line xs c.loop-member.member-index c.member-item.result c.loop-member-test.true in
    let here : Gone g.S.Sink.took c.args.sink.now c.loop-member.sink (flat_map line xs) _ = subst (λ (t : List ℕ). Gone g.S.Sink.took c.args.sink.now c.loop-member.sink (flat_map line xs) t) cut c.loop-member.invariant in
    gone-more s _ _ _ _ _ _ here (rw c.member-item.is at c.in-Ok.ensures)
