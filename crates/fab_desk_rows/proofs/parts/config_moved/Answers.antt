use Rattle.std.proofs.Common.{◌≡◌, IfOk, inl, inr, ap, sym, subst}
use Rattle.fab_reach_base.specs.Records.{ConfigRows}
use Rattle.fab_store_rows.specs.Differences.{IsDifference}
use Rattle.fab_desk_commands.specs.Nexts.{next_world}
use Rattle.fab_desk_rows.proofs.parts.config_moved.Goals as goal

pub returns-in-Same : goal.returns-in-Same
returns-in-Same g c =
    let w = c.args.world.now in
    let stays : (next_world w c.args.next.now).config ≡ w.config = elim c.in-Same.is [
      | inl e ↦ ap (λ n. (next_world w n).config) e
      | inr more ↦ elim more [
        | inl e ↦ ap (λ n. (next_world w n).config) e.2
        | inr more ↦ elim more [ inl e ↦ ap (λ n. (next_world w n).config) e.2 | inr e ↦ ap (λ n. (next_world w n).config) e.2 ]
      ]
    ] in
    subst (λ (d : ConfigRows). IsDifference w.config d c.same_config.result.taken.items c.same_config.result.added.items) (sym stays) (c.same_config.ensures w.config)

pub returns-in-Reconfigured : goal.returns-in-Reconfigured
returns-in-Reconfigured g c =
    let w = c.args.world.now in
    let same : (next_world w c.args.next.now).config ≡ c.in-Reconfigured.config = ap (λ n. (next_world w n).config) c.in-Reconfigured.is in
    subst (λ (d : ConfigRows). IfOk c.rows_told.result (λ x. IsDifference w.config d x.taken.items x.added.items)) (sym same) c.rows_told.ensures
