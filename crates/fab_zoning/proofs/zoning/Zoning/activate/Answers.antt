use Rattle.std.proofs.Common.{ℕ, List, Option, Some, refl, sym, ap, ◌∙◌, subst}
use Rattle.std.specs.Option.{is_some}
use Rattle.std.specs.BTreeSet.{BTreeSet}
use Rattle.std.specs.FinMap as map
use Rattle.std.proofs.lemmas.Result.{err_from_is_err_and}
use Rattle.fab_names.specs.Orders.{name_cmp}
use Rattle.fab_names.proofs.OrderLaws.{name_total}
use Rattle.fab_zoning.specs.Zonings.{FabricZoning}
use Rattle.fab_zoning_rows.proofs.fab_lemmas.MapsOfSets.{knows_seen}
use Rattle.fab_zoning.proofs.Resolving.{are_resolved, refused}
use Rattle.fab_zoning.specs.Soundness.{IsSound}
use Rattle.fab_zoning.proofs.Keeping.{activate_keeps}
use Rattle.fab_zoning.proofs.zoning.Zoning.activate.Goals as goal

pub returns-in_default-clause-refused : goal.returns-in_default-clause-refused
returns-in_default-clause-refused g c = (
  refl,
  ap (λ (v : FabricZoning). map.contains_key v.sets c.args.name.now) (sym c.self.view_is) ∙ knows_seen name_cmp name_total c.self.inside.sets c.args.name.now
      ∙ ap (λ (o : Option (BTreeSet (List ℕ))). is_some o) (sym c.in_default.ensures.value),
)

pub returns-clause-known : goal.returns-clause-known
returns-clause-known g c =
    ap (λ (v : FabricZoning). map.contains_key v.sets c.args.name.now) (sym c.self.view_is) ∙ knows_seen name_cmp name_total c.self.inside.sets c.args.name.now
    ∙ ap (λ (o : Option (BTreeSet (List ℕ))). is_some o) (sym c.in-Some.ensures.value)

pub returns-clause-rows : goal.returns-clause-rows
returns-clause-rows g c =
    are_resolved c.self.inside.sets c.self.inside.aliases c.self.inside.zones c.args.name.now c.in-Some.zone_set.now (sym c.in-Some.ensures.value) c.args.self.now (ap (λ (v : FabricZoning). v.sets) c.self.view_is)
    (ap (λ (v : FabricZoning). v.zones) c.self.view_is) (ap (λ (v : FabricZoning). v.aliases) c.self.view_is) c.in_ok-self-inside.field-0 c.in_ok-self-inside.ensures.ok.0

pub returns-in_err-self-inside-clause-refused : goal.returns-in_err-self-inside-clause-refused
returns-in_err-self-inside-clause-refused g c =
    let p = err_from_is_err_and c.from_residual.result c.from_residual.ensures.1 in
    rw (p.1, p.2)
    (refused c.self.inside.sets c.self.inside.aliases c.self.inside.zones c.args.name.now c.in-Some.zone_set.now (sym c.in-Some.ensures.value) c.args.self.now (ap (λ (v : FabricZoning). v.sets) c.self.view_is)
    (ap (λ (v : FabricZoning). v.zones) c.self.view_is) (ap (λ (v : FabricZoning). v.aliases) c.self.view_is) c.in_err-self-inside.field-0.0 c.in_err-self-inside.ensures.err)

pub returns-clause-sound : goal.returns-clause-sound
returns-clause-sound g c sound =
    let rows = c.in_ok-self-inside.field-0 in
    subst (λ (v : FabricZoning). IsSound (record v { active = Some c.args.name.now; rows = rows })) (sym c.self.view_is)
    (activate_keeps c.args.self.now sound c.args.name.now rows (returns-clause-known g c) (returns-clause-rows g c) c.in_ok-self-inside.ensures.ok.1)
