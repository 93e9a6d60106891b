use Rattle.std.proofs.Common.{Bor, List, is_some, map, sym, ap, subst}
use Rattle.fab_names.specs.declared.fabric.Fabric.{Fabric}
use Rattle.fab_inventory.specs.declared.port.Port.{Port}
use Rattle.fab_mapping_base.specs.Groups.{StorageGroupRows}
use Rattle.fab_mapping.specs.Mappings.{MappingRows}
use Rattle.fab_reach_base.specs.Orders.{Has}
use Rattle.fab_reach_base.specs.Views.{seen}
use Rattle.fab_reach_base.specs.declared.path.Path.{Path}
use Rattle.fab_reach_base.proofs.Gathering.{listed_all}
use Rattle.fab_looks.specs.Links.{IsLogin, IsExposedBy, PathTo}
use Rattle.fab_looks.specs.Inner.Offers.{AreJust, IsOffer}
use Rattle.fab_looks.specs.Inner.Serving.{IsNamedBy}
use Rattle.fab_looks.proofs.Gains.{now}
use Rattle.fab_looks.proofs.Services.{ports_are, groups_are, not_offered}
use Rattle.fab_looks.proofs.ReachersTold.{none_listed}
use Rattle.fab_looks.proofs.Ways.{offers_are, passed}
use Rattle.fab_looks.proofs.reaching.paths_to.Goals as goal

pub returns-in_default : goal.returns-in_default
returns-in_default g c =
    let w = seen c.args.view.now in
    none_listed w c.args.host.now c.args.volume.now c.new.result.items (not_offered w c.args.volume.now c.args.served.now c.requires.served c.args.host.now (sym c.in_default.ensures.value)) c.new.ensures.items

pub returns : goal.returns
returns g c =
    let w = seen c.args.view.now in
    let host = c.args.host.now in
    let volume = c.args.volume.now in
    let s = c.in_ok-offers.offers in
    let t = c.in_ok-paths.paths in
    let at = sym c.in-Some.ensures.value in
    let logins = subst (λ (ps : List Port). AreJust (λ (p : Port). (f : Fabric) × IsLogin w host f p) ps) (sym c.deref.ensures.value)
    (ports_are w c.args.served.now host c.args.ports.now c.in_ok-logins.logins.items (ap is_some at) c.requires.ports c.in_ok-logins.ensures) in
    let named = subst (λ (m : MappingRows). AreJust (IsNamedBy m c.in-Some.names.now) (map now c.in_ok-groups.groups.items)) c.mapping.ensures c.in_ok-groups.ensures in
    let groups = subst (λ (rs : List (Bor StorageGroupRows)). AreJust (IsExposedBy w.config.mapping host volume) (map now rs)) (sym c.deref-2.ensures.value)
    (groups_are w volume c.args.served.now c.requires.served host c.in-Some.names.now (map now c.in_ok-groups.groups.items) at named) in
    let is = offers_are w host volume c.deref.result.now (map now c.deref-2.result.now) logins groups in
    let has : (x : Path) → (Has s x → IsOffer w host volume x) × (IsOffer w host volume x → Has s x) = λ x. ((λ h. (is x).0 ((c.in_ok-offers.ensures x).0 h)), λ o. (c.in_ok-offers.ensures x).1 ((is x).1 o)) in
    listed_all (PathTo w host volume) t c.in_ok-items.items.items c.len-count.ensures.ordered c.in_ok-items.ensures (passed w host volume s t has c.in_ok-paths.ensures)
