use Rattle.std.proofs.Common.{◌≡◌, inl, inr, sym, ap}
use Rattle.fab_desk_commands.specs.Nexts.{turned}
use Rattle.fab_desk_rows.proofs.Given.{approvals_stay}
use Rattle.fab_desk_rows.proofs.approvals.turned_approvals.Goals as goal

pub returns-in-Withdrawn : goal.returns-in-Withdrawn
returns-in-Withdrawn g c =
    let kept = c.args.kept.now in
    let same : kept.approvals ≡ (turned c.args.turn.now kept).approvals = elim c.in-Withdrawn.is [
      | inl e ↦ ap (λ t. (turned t kept).approvals) (sym e)
      | inr more ↦ elim more [ inl e ↦ ap (λ t. (turned t kept).approvals) (sym e.1) | inr e ↦ ap (λ t. (turned t kept).approvals) (sym e.1) ]
    ] in
    approvals_stay c.args.name.now kept (turned c.args.turn.now kept) c.none_moved.result.removed.items c.none_moved.result.added.items same c.none_moved.ensures.0 c.none_moved.ensures.1
