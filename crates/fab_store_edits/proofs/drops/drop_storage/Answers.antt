use Rattle.std.proofs.Common.{Some, sym, ap, ◌∙◌, subst}
use Rattle.std.specs.FinMap as map
use Rattle.fab_reach_base.specs.fab_mapping.Mappings.{MappingRows}
use Rattle.fab_reach_base.specs.Records.{ConfigRows}
use Rattle.fab_store_rows.specs.declared.config_row.GroupRow.TheVariants as group
use Rattle.fab_store_rows.specs.declared.config_row.ConfigRow.TheVariants as config
use Rattle.fab_store_edits.specs.Inner.Edits.{IsTaken}
use Rattle.fab_store_rows.specs.Tidy.{IsTidy}
use Rattle.fab_store_edits.proofs.Becoming.{storage_out}
use Rattle.fab_store_edits.proofs.GroupMoves.{storage_dropped, tidy_mapped}
use Rattle.fab_store_edits.proofs.Holding.{storage_held, bare_part}
use Rattle.fab_store_edits.proofs.drops.drop_storage.Goals as goal

pub returns-then-not-has_no_part-clause-held : goal.returns-then-not-has_no_part-clause-held
returns-then-not-has_no_part-clause-held g c e =
    let w = c.has_no_part.ensures.some c.if-not-has_no_part.true in
    storage_held c.args.config.now c.args.row.now w.0 (ap (λ (m : MappingRows). map.get m.groups c.args.row.now.name) (sym c.mapping.ensures) ∙ w.1) w.2

pub returns-clause-taken : goal.returns-clause-taken
returns-clause-taken g c e =
    let s = c.requires.stands in
    let b = c.has_no_part.ensures.none c.if-not-has_no_part.false s.0 (ap (λ (m : MappingRows). map.get m.groups c.args.row.now.name) c.mapping.ensures ∙ s.1) in
    subst (λ (old : ConfigRows). IsTaken (config.Group (group.Storage c.args.row.now)) old (record { a = c.config.inside.a; b = c.config.inside.b; mapping = c.take_group-own.new.self })) c.config.view_is
    (storage_dropped (record { a = c.config.inside.a; b = c.config.inside.b; mapping = c.config.inside.mapping }) c.take_group-own.new.self c.args.row.now s.0
    (storage_out c.config.inside.mapping c.take_group-own.new.self c.args.row.now.name (Some s.0) (sym (ap (λ (x : ConfigRows). map.get x.mapping.groups c.args.row.now.name) c.config.view_is ∙ s.1)) c.take_group-own.ensures.ok) s.2 (bare_part s.0 b))

pub returns-clause-tidy : goal.returns-clause-tidy
returns-clause-tidy g c = subst (λ (old : ConfigRows). IsTidy old → IsTidy (record { a = c.config.inside.a; b = c.config.inside.b; mapping = c.take_group-own.new.self })) c.config.view_is (tidy_mapped (record { a = c.config.inside.a; b = c.config.inside.b; mapping = c.config.inside.mapping }) c.take_group-own.new.self)
