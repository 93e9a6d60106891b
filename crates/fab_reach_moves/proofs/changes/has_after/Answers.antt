use Rattle.std.proofs.Common.{sym, ap, ◌∙◌}
use mathlib.Core.Bool.{true≢false}
use Rattle.fab_zoning_rows.specs.Holding.{has_row}
use Rattle.fab_zoning.specs.Zonings.{FabricZoning}
use Rattle.fab_reach_base.specs.Records.{zoning_at}
use Rattle.fab_reach_base.specs.Views.{seen}
use Rattle.fab_reach_moves.specs.Inner.Changing.{Key}
use Rattle.fab_reach_moves.proofs.Changed.{active_come, active_gone, active_kept}
use Rattle.std.specs.FinSet as set
use Rattle.fab_reach_moves.proofs.changes.has_after.Goals as goal

pub returns-in_default : goal.returns-in_default
returns-in_default g c v gone come d a b = ap (has_row (zoning_at v.config c.args.zone.now.0).rows c.args.zone.now.1) (sym c.in_default.is)

pub returns-then-contains : goal.returns-then-contains
returns-then-contains g c v gone come d a b =
    let k : Key = (c.args.zone.now, c.in-Some.member) in
    active_come (seen c.args.before.now) v gone come d k ((b k).0 (sym c.contains.ensures ∙ c.if-contains.true))
    ∙ ap (has_row (zoning_at v.config c.args.zone.now.0).rows c.args.zone.now.1) (sym c.in-Some.is)

pub returns-then-contains-2 : goal.returns-then-contains-2
returns-then-contains-2 g c v gone come d a b =
    let k : Key = (c.args.zone.now, c.in-Some.member) in
    active_gone (seen c.args.before.now) v gone come d k ((a k).0 (sym c.contains-2.ensures ∙ c.if-contains-2.true))
    ∙ ap (has_row (zoning_at v.config c.args.zone.now.0).rows c.args.zone.now.1) (sym c.in-Some.is)

pub returns : goal.returns
returns g c v gone come d a b =
    let k : Key = (c.args.zone.now, c.in-Some.member) in
    c.has_active.ensures
    ∙ ap (λ (x : FabricZoning). set.contains x.rows (c.args.zone.now.1, c.in-Some.member)) c.zoning.ensures
    ∙ active_kept (seen c.args.before.now) v gone come d k
    (λ h. true≢false (sym ((a k).1 h) ∙ sym c.contains-2.ensures ∙ c.if-contains-2.false))
    (λ h. true≢false (sym ((b k).1 h) ∙ sym c.contains.ensures ∙ c.if-contains.false))
    ∙ ap (has_row (zoning_at v.config c.args.zone.now.0).rows c.args.zone.now.1) (sym c.in-Some.is)
