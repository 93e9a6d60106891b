use Rattle.std.proofs.Common.{◌∷◌, [], ◌++◌}
use Rattle.std.specs.Map.Iter.{deref}
use Rattle.std.specs.Option.{option_copied}
use Rattle.std.proofs.lemmas.Map.Iter.{rest_more}
use Rattle.fab_reach_base.proofs.fab_lemmas.Walks.{walked}
use Rattle.fab_reach_base.proofs.Adding.{before_more}
use Rattle.fab_store_rows.specs.Gathering.{Has, Lacking}
use Rattle.fab_store_rows.specs.AtKeys.{IsRowAt}
use Rattle.fab_store_rows.proofs.at_keys.add_at_each.Goals as goal

pub loop-key-preserved : goal.loop-key-preserved
loop-key-preserved g c =
    let i = c.loop-key.invariant in (
      i.0 ++ c.in-Some.key.now ∷ [],
      walked c.args.keys.now.keys i.0 c.loop-key.key-iterator c.next.new.self c.in-Some.key.now i.1 (rest_more deref c.loop-key.key-iterator c.next.new.self c.next.result c.in-Some.key c.in-Some.is c.next.ensures.steps),
      before_more (λ k. Lacking (option_copied c.args.without) (IsRowAt c.args.config.now k)) i.0 c.in-Some.key.now (Has c.args.rows.now) (Has c.loop-key.rows) (Has c.add_at.new.rows) i.2 c.in_ok-add_at.ensures,
    )
