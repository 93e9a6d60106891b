use Rattle.std.proofs.Common.{◌≡◌, ◌∷◌, [], ◌++◌, sym}
use Rattle.std.specs.Map.Iter.{deref_pair}
use Rattle.std.specs.Option.{option_copied}
use Rattle.std.proofs.lemmas.Map.Iter.{rest_more, rest_all}
use Rattle.fab_reach_base.proofs.fab_lemmas.Walks.{walked, walk_end}
use Rattle.fab_reach_base.proofs.Adding.{before_none, before_more}
use Rattle.fab_store_rows.specs.Gathering.{Has, Lacking, unit_row}
use Rattle.fab_store_rows.proofs.RowsGathered.{lacking_all}
use Rattle.fab_store_rows.proofs.gathering.add_units.Goals as goal

pub loop-unit-init : goal.loop-unit-init
loop-unit-init g c = ([], sym c.into_iter-unit-iterator.ensures.into_iter_gives, before_none (λ e. Lacking (option_copied c.args.without) (λ r. r ≡ unit_row c.args.name.now e)) (Has c.args.rows.now))

pub loop-unit-preserved : goal.loop-unit-preserved
loop-unit-preserved g c =
    let i = c.loop-unit.invariant in (
      i.0 ++ (c.in-Some.unit.now, c.in-Some.volume.now) ∷ [],
      walked c.args.units i.0 c.loop-unit.unit-iterator c.next.new.self (c.in-Some.unit.now, c.in-Some.volume.now) i.1 (rest_more deref_pair c.loop-unit.unit-iterator c.next.new.self c.next.result (c.in-Some.unit, c.in-Some.volume) c.in-Some.is c.next.ensures.steps),
      before_more (λ e. Lacking (option_copied c.args.without) (λ r. r ≡ unit_row c.args.name.now e)) i.0 (c.in-Some.unit.now, c.in-Some.volume.now) (Has c.args.rows.now) (Has c.loop-unit.rows) (Has c.add_row.new.rows) i.2 c.in_ok-add_row.ensures,
    )

pub returns : goal.returns
returns g c =
    let i = c.loop-unit.invariant in
    lacking_all (option_copied c.args.without) (λ e r. r ≡ unit_row c.args.name.now e) i.0 c.args.units (Has c.args.rows.now) (Has c.loop-unit.rows)
    (walk_end c.args.units i.0 c.loop-unit.unit-iterator i.1 (rest_all deref_pair c.loop-unit.unit-iterator c.next.new.self c.next.result c.in-None.is c.next.ensures.steps)) i.2
