use Rattle.std.proofs.Common.{ℕ, List, [], ◌∷◌, ◌++◌, sym, ◌∙◌}
use mathlib.Core.Bool.{true≢false}
use Rattle.std.specs.Map.Iter.{deref_pair}
use Rattle.std.proofs.lemmas.Map.Iter.{rest_more, rest_all}
use Rattle.fab_mapping_base.proofs.fab_lemmas.Walks.{all_push, walked, walk_end, first_at, nowhere}
use Rattle.fab_mapping_base.proofs.fab_names.OrderLaws.{name_total}
use Rattle.fab_mapping_base.specs.Groups.{StorageGroupRows, HasTarget}
use Rattle.fab_mapping.proofs.search.first_with_target.Goals as goal

pub returns-then-has_target : goal.returns-then-has_target
returns-then-has_target g c =
    let i = c.loop-name.invariant in
    first_at name_total (HasTarget c.args.target.now) c.args.groups.now.entries i.0 c.loop-name.name-iterator c.next.new.self (c.in-Some.name.now, c.in-Some.group.now) i.1
    (rest_more deref_pair c.loop-name.name-iterator c.next.new.self c.next.result (c.in-Some.name, c.in-Some.group) c.in-Some.is c.next.ensures.steps) c.into_iter-name-iterator.ensures.into_iter_gives.5 i.2 (sym c.has_target.ensures ∙ c.if-has_target.true)

pub loop-name-preserved : goal.loop-name-preserved
loop-name-preserved g c =
    let i = c.loop-name.invariant in (
      i.0 ++ (c.in-Some.name.now, c.in-Some.group.now) ∷ [],
      walked c.args.groups.now.entries i.0 c.loop-name.name-iterator c.next.new.self (c.in-Some.name.now, c.in-Some.group.now) i.1 (rest_more deref_pair c.loop-name.name-iterator c.next.new.self c.next.result (c.in-Some.name, c.in-Some.group) c.in-Some.is c.next.ensures.steps),
      all_push (λ (e : List ℕ × StorageGroupRows). ¬ HasTarget c.args.target.now e.1) i.0 (c.in-Some.name.now, c.in-Some.group.now) i.2 (λ h. true≢false (sym h ∙ sym c.has_target.ensures ∙ c.if-has_target.false)),
    )

pub returns : goal.returns
returns g c =
    let i = c.loop-name.invariant in
    nowhere name_total (HasTarget c.args.target.now) c.args.groups.now.entries i.0 (walk_end c.args.groups.now.entries i.0 c.loop-name.name-iterator i.1 (rest_all deref_pair c.loop-name.name-iterator c.next.new.self c.next.result c.in-None.is c.next.ensures.steps)) i.2

pub loop-name-init : goal.loop-name-init
loop-name-init g c = ([], cc, tt)
