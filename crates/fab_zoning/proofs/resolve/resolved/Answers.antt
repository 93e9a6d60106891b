use Rattle.std.proofs.Common.{◌∷◌, [], ◌++◌, sym, ap, ◌∙◌, subst, arith}
use Rattle.std.specs.BTreeMap as tree
use Rattle.std.specs.FinSet as set
use Rattle.std.proofs.lemmas.Result.{err_from_is_err_and}
use Rattle.fab_names.specs.Orders.{name_cmp}
use Rattle.fab_names.proofs.OrderLaws.{name_total, name_exact}
use Rattle.fab_zoning_rows.specs.Rows.{Rows, row_cmp}
use Rattle.fab_zoning_rows.specs.fab_lemmas.Adding.{Among}
use Rattle.fab_zoning.specs.Inner.Adding.{ZoneRow}
use Rattle.fab_zoning.proofs.Adding.{AddsRows}
use Rattle.fab_zoning_rows.proofs.fab_lemmas.Walks.{walked, walk_end}
use Rattle.fab_zoning.proofs.Adding.{Before, before_none, before_more, before_all, before_stop, adds_zone, only_zone, only_zone_plain, adds_no_zone, stopped}
use Rattle.fab_zoning.proofs.resolve.resolved.Goals as goal

pub loop-zone-init : goal.loop-zone-init
loop-zone-init g c = (
  [],
  sym c.into_iter-zone-iterator.ensures.into_iter_gives.0,
  subst (λ (s : Rows). AddsRows (Before (ZoneRow c.args.aliases.now c.args.zones.now) []) set.empty s) (sym c.new-rows.ensures) (before_none (ZoneRow c.args.aliases.now c.args.zones.now) set.empty),
  let none = ap (λ (s : Rows). set.len s) c.new-rows.ensures ∙ set.len-empty row_cmp in omega (arith, none),
)

pub loop-zone-preserved-in-Continue-branch-2 : goal.loop-zone-preserved-in-Continue-branch-2
loop-zone-preserved-in-Continue-branch-2 g c = (
  c.loop-zone.invariant.0 ++ c.in-Some.zone.now ∷ [],
  walked c.args.zone_set.now.keys c.loop-zone.invariant.0 c.loop-zone.zone-iterator c.next.new.self c.in-Some.zone.now c.loop-zone.invariant.1 c.in-Some.ensures.steps,
  before_more (ZoneRow c.args.aliases.now c.args.zones.now) c.loop-zone.invariant.0 c.in-Some.zone.now set.empty c.loop-zone.rows c.add_aliased.new.rows c.loop-zone.invariant.2
      (adds_zone c.args.aliases.now c.args.zones.now c.in-Some.zone.now c.in-Some-get.members.now (sym {b = tree.get name_cmp c.args.zones.now c.in-Some.zone.now} c.in-Some-get.ensures.value) c.loop-zone.rows c.add_plain.new.rows c.add_aliased.new.rows
      c.in_ok-add_plain.ensures.ok.0 c.in_ok-add_aliased.ensures.ok.0),
  c.in_ok-add_aliased.ensures.ok.1,
)

pub loop-zone-preserved : goal.loop-zone-preserved
loop-zone-preserved g c = (
  c.loop-zone.invariant.0 ++ c.in-Some.zone.now ∷ [],
  walked c.args.zone_set.now.keys c.loop-zone.invariant.0 c.loop-zone.zone-iterator c.next.new.self c.in-Some.zone.now c.loop-zone.invariant.1 c.in-Some.ensures.steps,
  before_more (ZoneRow c.args.aliases.now c.args.zones.now) c.loop-zone.invariant.0 c.in-Some.zone.now set.empty c.loop-zone.rows c.loop-zone.rows c.loop-zone.invariant.2
      (adds_no_zone c.args.aliases.now c.args.zones.now c.in-Some.zone.now c.loop-zone.rows (sym c.in_default.ensures.value)),
  c.loop-zone.invariant.3,
)

pub returns-in_err-add_plain-clause-err : goal.returns-in_err-add_plain-clause-err
returns-in_err-add_plain-clause-err g c =
    let p = err_from_is_err_and c.from_residual.result c.from_residual.ensures.1 in
    let stop = c.in_err-add_plain.ensures.err in
    rw (p.1, p.2)
    (stopped (Among name_cmp c.args.zone_set.now (ZoneRow c.args.aliases.now c.args.zones.now)) c.add_plain.new.rows c.in_err-add_plain.field-0.0
    (before_stop (ZoneRow c.args.aliases.now c.args.zones.now) name_total name_exact c.args.zone_set.now c.loop-zone.invariant.0 c.loop-zone.zone-iterator c.next.new.self c.in-Some.zone.now set.empty c.loop-zone.rows c.add_plain.new.rows
    c.loop-zone.invariant.1 c.in-Some.ensures.steps c.loop-zone.invariant.2
    (only_zone_plain c.args.aliases.now c.args.zones.now c.in-Some.zone.now c.in-Some-get.members.now (sym {b = tree.get name_cmp c.args.zones.now c.in-Some.zone.now} c.in-Some-get.ensures.value) c.loop-zone.rows c.add_plain.new.rows stop.0)) stop.1)

pub returns-in_err-add_aliased-clause-err : goal.returns-in_err-add_aliased-clause-err
returns-in_err-add_aliased-clause-err g c =
    let p = err_from_is_err_and c.from_residual-in_err-add_aliased.result c.from_residual-in_err-add_aliased.ensures.1 in
    let stop = c.in_err-add_aliased.ensures.err in
    rw (p.1, p.2)
    (stopped (Among name_cmp c.args.zone_set.now (ZoneRow c.args.aliases.now c.args.zones.now)) c.add_aliased.new.rows c.in_err-add_aliased.field-0.0
    (before_stop (ZoneRow c.args.aliases.now c.args.zones.now) name_total name_exact c.args.zone_set.now c.loop-zone.invariant.0 c.loop-zone.zone-iterator c.next.new.self c.in-Some.zone.now set.empty c.loop-zone.rows c.add_aliased.new.rows
    c.loop-zone.invariant.1 c.in-Some.ensures.steps c.loop-zone.invariant.2
    (only_zone c.args.aliases.now c.args.zones.now c.in-Some.zone.now c.in-Some-get.members.now (sym {b = tree.get name_cmp c.args.zones.now c.in-Some.zone.now} c.in-Some-get.ensures.value) c.loop-zone.rows c.add_plain.new.rows c.add_aliased.new.rows
    c.in_ok-add_plain.ensures.ok.0 stop.0)) stop.1)

pub returns-clause-ok : goal.returns-clause-ok
returns-clause-ok g c = (
  before_all (ZoneRow c.args.aliases.now c.args.zones.now) name_total name_exact c.args.zone_set.now c.loop-zone.invariant.0 set.empty c.loop-zone.rows
      (walk_end c.args.zone_set.now.keys c.loop-zone.invariant.0 c.loop-zone.zone-iterator c.loop-zone.invariant.1 c.in-None.ensures.steps.0) c.loop-zone.invariant.2,
  c.loop-zone.invariant.3,
)
