-- Whose the paths are that a step gains and loses.
use Rattle.std.proofs.Common.{ℕ, ◌⊎◌, List, inl, inr}
use Rattle.fab_reach_base.specs.Adding.{Adds}
use Rattle.fab_reach_base.specs.Books.{IsDelta}
use Rattle.fab_reach_base.specs.Records.{Records}
use Rattle.fab_reach_base.specs.declared.path.Path.{Path}
use Rattle.fab_reach_base.proofs.Adding.{adds_as}
use Rattle.fab_desk_base.specs.Touching.{MovesPathOf}
use Rattle.fab_desk_trials.specs.Gathered.{IsOfSomePath}
use Rattle.fab_desk_trials.proofs.TenantSets.{both_added}

-- the listed paths are those that are gained and lost
pub moved_added : (w v : Records) (gained lost : List Path) (a b c : List ℕ → Type 0) → IsDelta w v gained lost → Adds (IsOfSomePath v gained) a b → Adds (IsOfSomePath w lost) b c → Adds (MovesPathOf w v) a c
moved_added w v gained lost a b c d more less = adds_as (λ t. IsOfSomePath v gained t ⊎ IsOfSomePath w lost t) (MovesPathOf w v) a c
    (λ t s. elim s [
      | inl x ↦ (x.0, inl (d.gains.sound x.0 x.1, x.2))
      | inr x ↦ (x.0, inr (d.loses.sound x.0 x.1, x.2))
    ])
    (λ t m. elim m.1 [
      | inl x ↦ inl (m.0, d.gains.complete m.0 x.0, x.1)
      | inr x ↦ inr (m.0, d.loses.complete m.0 x.0, x.1)
    ])
    (both_added (IsOfSomePath v gained) (IsOfSomePath w lost) a b c more less)
