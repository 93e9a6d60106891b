use Rattle.std.proofs.Common.{sym, ap, ◌∙◌, subst}
use Rattle.std.specs.FinMap as map
use Rattle.fab_names.specs.Orders.{name_cmp, member_cmp}
use Rattle.fab_zoning_rows.specs.fab_lemmas.MapsOfSets.{seen_sets}
use Rattle.fab_zoning_rows.specs.fab_lemmas.Room.{IsFull, HasRoom}
use Rattle.fab_zoning.specs.Limits.{most_aliases}
use Rattle.fab_zoning.specs.Steps.{CanPutAlias}
use Rattle.fab_zoning.specs.Zonings.{FabricZoning}
use Rattle.fab_zoning.specs.Soundness.{IsSound}
use Rattle.fab_zoning.proofs.Changes.{on_err, with_aliases_put, with_aliases_same}
use Rattle.fab_zoning.proofs.Keeping.{put_alias_keeps}
use Rattle.fab_zoning.proofs.zoning.Zoning.put_alias.Goals as goal
use Rattle.fab_zoning.proofs.zoning.Zoning.put_alias.Given.{Over}
use Rattle.fab_zoning.proofs.zoning.Zoning.put_alias.Goals.{In_ok-put}

can_put : (g : Over) (c : In_ok-put g) → CanPutAlias c.args.self.now c.args.name c.args.members.now
can_put g c = record {
  listing = c.in_default.ensures;
  room = subst (λ (v : FabricZoning). HasRoom v.aliases c.args.name most_aliases) c.self.view_is c.if-is_full.ensures.room;
}

pub returns-clause-accepted : goal.returns-clause-accepted
returns-clause-accepted g c = can_put g c

pub returns-clause-ok : goal.returns-clause-ok
returns-clause-ok g c = with_aliases_put _ _ c.self.view_is c.args.name _ _ (c.in_ok-put.ensures.ok ∙ ap (map.insert _ c.args.name) c.in_ok-members.ensures)

pub returns-clause-sound : goal.returns-clause-sound
returns-clause-sound g c sound =
    subst IsSound (sym (with_aliases_put _ _ c.self.view_is c.args.name _ _ (c.in_ok-put.ensures.ok ∙ ap (map.insert _ c.args.name) c.in_ok-members.ensures))) (put_alias_keeps c.args.self.now sound c.args.name c.args.members.now c.requires.plain (can_put g c))

pub returns-then-is_full-clause-refused : goal.returns-then-is_full-clause-refused
returns-then-is_full-clause-refused g c = (
  c.in_default.ensures,
  subst (λ (v : FabricZoning). IsFull v.aliases c.args.name most_aliases) c.self.view_is c.if-is_full.ensures.full,
)

pub returns-in_err-put-clause-err : goal.returns-in_err-put-clause-err
returns-in_err-put-clause-err g c = on_err c.from_residual-in_err-put.result (with_aliases_same _ _ c.self.view_is _ (ap (seen_sets name_cmp member_cmp) c.in_err-put.ensures.err))
