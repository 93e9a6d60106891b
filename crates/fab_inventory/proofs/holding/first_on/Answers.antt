use Rattle.std.proofs.Common.{◌≡◌, ℕ, List, ◌∷◌, [], ◌++◌, sym, ◌∙◌}
use mathlib.Core.Bool.{true≢false}
use Rattle.std.specs.Cmp.Lexicographic.{bytes_decides}
use Rattle.std.specs.Map.Iter.{deref_pair}
use Rattle.std.proofs.lemmas.Map.Iter.{rest_more, rest_all}
use Rattle.fab_names.proofs.OrderLaws.{name_total}
use Rattle.fab_inventory.specs.declared.holder.Volume.{Volume}
use Rattle.fab_lemmas.proofs.Walks.{first_hit, no_hit, walked, walk_end, all_push}
use Rattle.fab_inventory.proofs.holding.first_on.Goals as goal

pub returns-then-eq : goal.returns-then-eq
returns-then-eq g c =
    let hit = first_hit name_total (λ (v : Volume). v.array ≡ c.args.array.now) c.args.volumes.now.entries c.loop-name.invariant.0 c.loop-name.name-iterator c.next.new.self (c.in-Some.name.now, c.in-Some.volume.now) c.loop-name.invariant.1
    (rest_more deref_pair c.loop-name.name-iterator c.next.new.self c.next.result (c.in-Some.name, c.in-Some.volume) c.in-Some.is c.next.ensures.steps) c.into_iter-name-iterator.ensures.into_iter_gives.5 c.loop-name.invariant.2 in
    ((c.in-Some.volume.now, hit.0, (bytes_decides _ _).0 (sym c.eq.ensures ∙ c.if-eq.true)), λ m on. hit.1 m on.0 on.1 on.2)

pub loop-name-preserved : goal.loop-name-preserved
loop-name-preserved g c = (
  c.loop-name.invariant.0 ++ (c.in-Some.name.now, c.in-Some.volume.now) ∷ [],
  walked c.args.volumes.now.entries c.loop-name.invariant.0 c.loop-name.name-iterator c.next.new.self (c.in-Some.name.now, c.in-Some.volume.now) c.loop-name.invariant.1
      (rest_more deref_pair c.loop-name.name-iterator c.next.new.self c.next.result (c.in-Some.name, c.in-Some.volume) c.in-Some.is c.next.ensures.steps),
  all_push (λ (e : List ℕ × Volume). ¬ (e.1.array ≡ c.args.array.now)) c.loop-name.invariant.0 (c.in-Some.name.now, c.in-Some.volume.now) c.loop-name.invariant.2
      (λ same. true≢false (sym ((bytes_decides _ _).1 same) ∙ sym c.eq.ensures ∙ c.if-eq.false)),
)

pub returns : goal.returns
returns g c n on = no_hit name_total (λ (v : Volume). v.array ≡ c.args.array.now) c.args.volumes.now.entries c.loop-name.invariant.0 n on.0
    (walk_end c.args.volumes.now.entries c.loop-name.invariant.0 c.loop-name.name-iterator c.loop-name.invariant.1 (rest_all deref_pair c.loop-name.name-iterator c.next.new.self c.next.result c.in-None.is c.next.ensures.steps))
    c.loop-name.invariant.2 on.1 on.2
