use Rattle.std.proofs.Common.{◌∷◌, [], ◌++◌, sym}
use Rattle.std.specs.Map.Iter.{deref_pair}
use Rattle.std.specs.Option.{option_copied}
use Rattle.std.proofs.lemmas.Map.Iter.{rest_more, rest_all}
use Rattle.fab_reach_base.proofs.fab_names.OrderLaws.{name_total, name_exact}
use Rattle.fab_reach_base.proofs.fab_lemmas.Walks.{walked, walk_end}
use Rattle.fab_reach_base.proofs.Adding.{before_none, before_more}
use Rattle.fab_store_rows.specs.Gathering.{Has, Lacking, IsStorageGroupRow}
use Rattle.fab_store_rows.proofs.RowsGathered.{lacking_all}
use Rattle.fab_store_rows.proofs.TablesTold.{entries_told}
use Rattle.fab_store_rows.proofs.gathering.add_groups.Goals as goal

pub loop-name-init : goal.loop-name-init
loop-name-init g c = (c.groups-name-items.result, c.groups-name-items.ensures, [], sym c.into_iter-name-iterator.ensures.into_iter_gives, before_none (λ e. Lacking (option_copied c.args.without) (IsStorageGroupRow e.0 e.1)) (Has c.args.rows.now))

pub loop-name-preserved : goal.loop-name-preserved
loop-name-preserved g c =
    let i = c.loop-name.invariant in (
      i.0,
      i.1,
      i.2 ++ (c.in-Some.name.now, c.in-Some.group.now) ∷ [],
      walked i.0 i.2 c.loop-name.name-iterator c.next.new.self (c.in-Some.name.now, c.in-Some.group.now) i.3 (rest_more deref_pair c.loop-name.name-iterator c.next.new.self c.next.result (c.in-Some.name, c.in-Some.group) c.in-Some.is c.next.ensures.steps),
      before_more (λ e. Lacking (option_copied c.args.without) (IsStorageGroupRow e.0 e.1)) i.2 (c.in-Some.name.now, c.in-Some.group.now) (Has c.args.rows.now) (Has c.loop-name.rows) (Has c.add_group_lacking.new.rows) i.4 c.in_ok-add_group_lacking.ensures,
    )

pub returns : goal.returns
returns g c =
    let i = c.loop-name.invariant in
    entries_told name_total name_exact (λ e. IsStorageGroupRow e.0 e.1) (option_copied c.args.without) i.0 c.args.mapping.now.groups (Has c.args.rows.now) (Has c.loop-name.rows) i.1
    (lacking_all (option_copied c.args.without) (λ e. IsStorageGroupRow e.0 e.1) i.2 i.0 (Has c.args.rows.now) (Has c.loop-name.rows)
    (walk_end i.0 i.2 c.loop-name.name-iterator i.3 (rest_all deref_pair c.loop-name.name-iterator c.next.new.self c.next.result c.in-None.is c.next.ensures.steps)) i.4)
