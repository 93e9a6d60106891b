use Rattle.std.proofs.Common.{◌≡◌, ℕ, List, ◌∷◌, [], ◌++◌, sym, ◌∙◌, true}
use mathlib.Core.Bool.{true≢false}
use Rattle.std.specs.FinSet as set
use Rattle.std.specs.Map.Iter.{deref_pair}
use Rattle.std.proofs.lemmas.Map.Iter.{rest_more, rest_all}
use Rattle.fab_mapping_base.proofs.fab_names.OrderLaws.{name_total}
use Rattle.fab_mapping_base.proofs.fab_lemmas.Walks.{first_hit, no_hit, walked, walk_end, all_push}
use Rattle.fab_mapping_base.specs.Groups.{StorageGroupRows}
use Rattle.fab_mapping.proofs.search.first_serving.Goals as goal

pub returns-then-has_hosts : goal.returns-then-has_hosts
returns-then-has_hosts g c =
    let hit = first_hit name_total (λ (x : StorageGroupRows). set.contains x.host_groups c.args.hosts.now ≡ true) c.args.groups.now.entries c.loop-name.invariant.0 c.loop-name.name-iterator c.next.new.self (c.in-Some.name.now, c.in-Some.group.now) c.loop-name.invariant.1
    (rest_more deref_pair c.loop-name.name-iterator c.next.new.self c.next.result (c.in-Some.name, c.in-Some.group) c.in-Some.is c.next.ensures.steps) c.into_iter-name-iterator.ensures.into_iter_gives.5 c.loop-name.invariant.2 in
    ((c.in-Some.group.now, hit.0, sym c.has_hosts.ensures ∙ c.if-has_hosts.true), λ m on. hit.1 m on.0 on.1 on.2)

pub loop-name-preserved : goal.loop-name-preserved
loop-name-preserved g c = (
  c.loop-name.invariant.0 ++ (c.in-Some.name.now, c.in-Some.group.now) ∷ [],
  walked c.args.groups.now.entries c.loop-name.invariant.0 c.loop-name.name-iterator c.next.new.self (c.in-Some.name.now, c.in-Some.group.now) c.loop-name.invariant.1
      (rest_more deref_pair c.loop-name.name-iterator c.next.new.self c.next.result (c.in-Some.name, c.in-Some.group) c.in-Some.is c.next.ensures.steps),
  all_push (λ (e : List ℕ × StorageGroupRows). ¬ (set.contains e.1.host_groups c.args.hosts.now ≡ true)) c.loop-name.invariant.0 (c.in-Some.name.now, c.in-Some.group.now) c.loop-name.invariant.2
      (λ has. true≢false (sym has ∙ sym c.has_hosts.ensures ∙ c.if-has_hosts.false)),
)

pub returns : goal.returns
returns g c n on = no_hit name_total (λ (x : StorageGroupRows). set.contains x.host_groups c.args.hosts.now ≡ true) c.args.groups.now.entries c.loop-name.invariant.0 n on.0
    (walk_end c.args.groups.now.entries c.loop-name.invariant.0 c.loop-name.name-iterator c.loop-name.invariant.1 (rest_all deref_pair c.loop-name.name-iterator c.next.new.self c.next.result c.in-None.is c.next.ensures.steps))
    c.loop-name.invariant.2 on.1 on.2

pub loop-name-init : goal.loop-name-init
loop-name-init g c = ([], cc, tt)
