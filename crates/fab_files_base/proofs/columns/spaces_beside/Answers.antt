use Rattle.std.proofs.Common.{◌≤◌, ◌∙◌, ℕ, ap, arith, replicate}
use Rattle.std.proofs.lemmas.List.{take-replicate}
use Rattle.fab_files_base.proofs.columns.spaces_beside.Goals as goal

pub returns : goal.returns
returns c =
    let small : c.saturating_sub.result ≤ 24 = omega (arith, c.saturating_sub.ensures) in
    take-replicate c.saturating_sub.result 24 32 small ∙ ap (λ (n : ℕ). replicate n 32) c.saturating_sub.ensures
