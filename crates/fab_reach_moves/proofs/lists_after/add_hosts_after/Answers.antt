use Rattle.std.proofs.Common.{◌∙◌, ℕ, List, [], ◌∷◌, ◌++◌, refl}
use Rattle.fab_lemmas.proofs.Walks.{walked, walk_end}
use Rattle.fab_reach_base.proofs.Adding.{before_none, before_more}
use Rattle.fab_reach_books.specs.Rows.{Stands}
use Rattle.fab_reach_moves.specs.declared.lists_after.Listed.TheVariants.{Hosts}
use Rattle.fab_reach_books.specs.Inner.Sets.{HasName}
use Rattle.fab_reach_moves.specs.Inner.Listing.{name_row}
use Rattle.fab_reach_moves.proofs.ListsAfter.{hosts_all}
use Rattle.fab_reach_moves.proofs.lists_after.add_hosts_after.Goals as goal

pub loop-name-init : goal.loop-name-init
loop-name-init g c = ([], refl, λ v d. before_none (λ k (h : List ℕ). Stands v (name_row (Hosts k) h)) (HasName c.args.hosts.now))

pub loop-name-preserved : goal.loop-name-preserved
loop-name-preserved g c =
    let i = c.loop-name.invariant in (
      i.0 ++ c.in-Some.name.now ∷ [],
      walked c.into_iter-name-iterator.result i.0 c.loop-name.name-iterator c.next.new.self c.in-Some.name.now i.1 c.in-Some.ensures.steps,
      λ v d. before_more (λ k (h : List ℕ). Stands v (name_row (Hosts k) h)) i.0 c.in-Some.name.now (HasName c.args.hosts.now) (HasName c.loop-name.hosts) (HasName c.add_listed_after.new.names) (i.2 v d) (c.in_ok-add_listed_after.ensures v d),
    )

pub returns : goal.returns
returns g c v d =
    let i = c.loop-name.invariant in
    hosts_all v c.args.groups.now i.0 (HasName c.args.hosts.now) (HasName c.loop-name.hosts)
    (walk_end c.into_iter-name-iterator.result i.0 c.loop-name.name-iterator i.1 c.in-None.ensures.steps.0 ∙ c.into_iter-name-iterator.ensures.into_iter_gives.0) (i.2 v d)
