use Rattle.std.proofs.Common.{◌≡◌, OnOk, inl, inr, sym, subst}
use Rattle.fab_reach_base.specs.Adding.{Adds}
use Rattle.fab_reach_base.specs.Views.{seen}
use Rattle.fab_world.specs.fab_plans_base.Actions.{mapping_step}
use Rattle.fab_world.specs.fab_plans_base.declared.mapping_action.MappingAction.{MappingAction}
use Rattle.fab_desk_base.specs.Tenants.{Has}
use Rattle.fab_desk_trials.specs.Gathered.{IsOfStep}
use Rattle.fab_desk_trials.proofs.plan_steps.add_mapping_step.Goals as goal

pub returns-in-GroupDrop : goal.returns-in-GroupDrop
returns-in-GroupDrop g c =
    let at = λ (x : MappingAction g.row.A.Denot) (same : c.args.action.now ≡ x) (h : OnOk c.add_group_alone.result (Adds (IsOfStep (seen c.args.view.now) (mapping_step x)) (Has c.args.tenants.now) (Has c.add_group_alone.new.tenants))). subst (λ (y : MappingAction g.row.A.Denot). OnOk c.add_group_alone.result (Adds (IsOfStep (seen c.args.view.now) (mapping_step y)) (Has c.args.tenants.now) (Has c.add_group_alone.new.tenants))) (sym same) h in
    elim c.in-GroupDrop.is [
      | inl e ↦ at _ e c.add_group_alone.ensures
      | inr h ↦ elim h [
        | inl e ↦ at _ e.1 c.add_group_alone.ensures
        | inr h ↦ elim h [
          | inl e ↦ at _ e.1 c.add_group_alone.ensures
          | inr h ↦ elim h [
            | inl e ↦ at _ e.1 c.add_group_alone.ensures
            | inr h ↦ elim h [ inl e ↦ at _ e c.add_group_alone.ensures | inr e ↦ at _ e c.add_group_alone.ensures ]
          ]
        ]
      ]
    ]
