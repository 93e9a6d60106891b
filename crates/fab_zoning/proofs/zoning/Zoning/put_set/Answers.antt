use Rattle.std.proofs.Common.{All, sym, ap, ◌∙◌, subst}
use Rattle.std.specs.FinMap as map
use Rattle.fab_names.specs.Orders.{name_cmp}
use Rattle.fab_zoning_rows.specs.fab_lemmas.MapsOfSets.{seen_sets}
use Rattle.fab_zoning_rows.specs.fab_lemmas.Room.{IsFull, HasRoom}
use Rattle.fab_zoning.specs.Limits.{most_sets}
use Rattle.fab_zoning_rows.specs.fab_lemmas.Firsts.{IsFirstWithout}
use Rattle.fab_zoning.specs.Steps.{CanPutSet, HasZone}
use Rattle.fab_zoning.specs.Zonings.{FabricZoning}
use Rattle.fab_zoning.specs.Soundness.{IsSound}
use Rattle.fab_zoning.proofs.Changes.{on_err, with_sets_put, with_sets_same}
use Rattle.fab_zoning.proofs.Keeping.{put_set_keeps}
use Rattle.fab_zoning.proofs.zoning.Zoning.put_set.Goals as goal
use Rattle.fab_zoning.proofs.zoning.Zoning.put_set.Given.{Over}
use Rattle.fab_zoning.proofs.zoning.Zoning.put_set.Goals.{In_ok-put}

pub returns-in-Some-first_unknown-clause-refused : goal.returns-in-Some-first_unknown-clause-refused
returns-in-Some-first_unknown-clause-refused g c = (
  c.in_default.ensures,
  subst (λ (v : FabricZoning). IsFirstWithout (HasZone v) c.args.zones.now c.in-Some-first_unknown.zone) c.self.view_is c.in-Some-first_unknown.ensures,
)

can_put : (g : Over) (c : In_ok-put g) → CanPutSet c.args.self.now c.args.name c.args.zones.now
can_put g c = record {
  listing = c.in_default.ensures;
  known = subst (λ (v : FabricZoning). All (HasZone v) c.args.zones.now) c.self.view_is c.in_default-first_unknown.ensures;
  room = subst (λ (v : FabricZoning). HasRoom v.sets c.args.name most_sets) c.self.view_is c.if-is_full.ensures.room;
}

pub returns-clause-accepted : goal.returns-clause-accepted
returns-clause-accepted g c = can_put g c

pub returns-clause-ok : goal.returns-clause-ok
returns-clause-ok g c = with_sets_put _ _ c.self.view_is c.args.name _ _ (c.in_ok-put.ensures.ok ∙ ap (map.insert _ c.args.name) c.in_ok-zones.ensures)

pub returns-clause-sound : goal.returns-clause-sound
returns-clause-sound g c sound =
    subst IsSound (sym (with_sets_put _ _ c.self.view_is c.args.name _ _ (c.in_ok-put.ensures.ok ∙ ap (map.insert _ c.args.name) c.in_ok-zones.ensures))) (put_set_keeps c.args.self.now sound c.args.name c.args.zones.now (can_put g c))

pub returns-then-is_full-clause-refused : goal.returns-then-is_full-clause-refused
returns-then-is_full-clause-refused g c = (
  c.in_default.ensures,
  subst (λ (v : FabricZoning). All (HasZone v) c.args.zones.now) c.self.view_is c.in_default-first_unknown.ensures,
  subst (λ (v : FabricZoning). IsFull v.sets c.args.name most_sets) c.self.view_is c.if-is_full.ensures.full,
)

pub returns-in_err-put-clause-err : goal.returns-in_err-put-clause-err
returns-in_err-put-clause-err g c = on_err c.from_residual-in_err-put.result (with_sets_same _ _ c.self.view_is _ (ap (seen_sets name_cmp name_cmp) c.in_err-put.ensures.err))
