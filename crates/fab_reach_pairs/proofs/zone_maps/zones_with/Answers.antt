use Rattle.std.proofs.Common.{ℕ, List, ◌≡◌, None, true, false, refl, sym, ap, ◌∙◌}
use Rattle.std.specs.FinSet as set
use Rattle.std.specs.Option.{option_copied}
use Rattle.fab_lemmas.specs.MapsOfSets.{in_tree}
use Rattle.fab_names.specs.Orders.{name_cmp}
use Rattle.fab_reach_base.proofs.Adding.{adds_as}
use Rattle.fab_reach_base.specs.Views.{seen}
use Rattle.fab_reach_books.proofs.SetLoops.{names_from_nothing}
use Rattle.fab_reach_books.specs.Inner.Sets.{HasName}
use Rattle.fab_reach_books.specs.Rows.{Stands}
use Rattle.fab_reach_index.specs.Indexes.{MemberAt, member_at_cmp}
use Rattle.fab_reach_moves.proofs.ListsAfter.{rows_after, said_at}
use Rattle.fab_reach_moves.specs.Inner.Changing.{active_of}
use Rattle.fab_zoning.specs.Zonings.{FabricZoning}
use Rattle.fab_reach_pairs.proofs.zone_maps.zones_with.Goals as goal

pub returns : goal.returns
returns g c v t =
    let w = seen c.args.before.now in
    let f = c.args.fabric in
    let m = c.args.member.now in
    let row_of = λ (z : List ℕ). active_of ((f, z), m) in
    let gone = λ (z : List ℕ). in_tree name_cmp (option_copied c.get.result) z in
    let come = λ (z : List ℕ). in_tree name_cmp (option_copied c.get-2.result) z in
    let same = λ (z : List ℕ). c.active_zones_with-here.ensures z ∙ ap (λ (x : FabricZoning). set.contains x.rows (z, m)) c.zoning.ensures in
    names_from_nothing (λ (z : List ℕ). Stands v (row_of z)) c.new-zones.result c.add_some_left-2.new.items c.new-zones.ensures.empty
    (rows_after w v t.gone t.come t.diff row_of gone come (HasName c.new-zones.result) (HasName c.add_some_left.new.items) (HasName c.add_some_left-2.new.items)
    (said_at member_at_cmp name_cmp t.gone (λ (k : MemberAt) z. active_of ((k.0, z), k.1)) c.args.told.now.gone.zoned t.left.zoned (f, m) (option_copied c.get.result) c.get.ensures.value)
    (said_at member_at_cmp name_cmp t.come (λ (k : MemberAt) z. active_of ((k.0, z), k.1)) c.args.told.now.come.zoned t.new.zoned (f, m) (option_copied c.get-2.result) c.get-2.ensures.value)
    (adds_as (λ z. (in_tree name_cmp (option_copied c.active_zones_with-here.result) z ≡ true) × (gone z ≡ false)) (λ z. Stands w (row_of z) × (gone z ≡ false)) (HasName c.new-zones.result) (HasName c.add_some_left.new.items) (λ z h. (sym (same z) ∙ h.0, h.1)) (λ z h. (same z ∙ h.0, h.1)) c.in_ok-add_some_left.ensures)
    (adds_as (λ z. (come z ≡ true) × (in_tree name_cmp None z ≡ false)) (λ z. come z ≡ true) (HasName c.add_some_left.new.items) (HasName c.add_some_left-2.new.items) (λ z h. h.0) (λ z h. (h, refl)) c.in_ok-add_some_left-2.ensures))
