use Rattle.std.proofs.Common.{refl, sym, ◌∙◌}
use Rattle.fab_reach_base.specs.fab_lemmas.MapsOfSets.{seen_set}
use Rattle.std.specs.FinSet as set
use Rattle.fab_reach_base.specs.fab_zoning.Limits.{most_members}
use Rattle.fab_store_drafts.proofs.Counted.{is_few, set_counted}
use Rattle.fab_store_drafts.proofs.comers.is_listable.Goals as goal

pub returns-in-Some : goal.returns-in-Some
returns-in-Some g c =
    let s = seen_set g.K.Ord.cmp c.in-Some.set.now in
    rw c.in-Some.is (is_few c.len.result (set.len s) most_members (c.len.ensures.len ∙ sym (set_counted g.met.K.Ord.total c.in-Some.set.now.keys s refl c.len.ensures.ordered)))
