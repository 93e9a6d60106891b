-- Lists of paths: how many there are, and none.
use Rattle.std.proofs.Common.{ℕ, ◌≡◌, ◌<◌, List, [], Option, None, Some, sym, subst, arith}
use Rattle.std.specs.List.Sorted.{IsStrictlySortedBy}
use Rattle.fab_reach_base.specs.Books.{IsGained, IsDelta}
use Rattle.fab_reach_base.specs.Orders.{IsListOf}
use Rattle.fab_reach_base.specs.Records.{Records}
use Rattle.fab_reach_base.specs.declared.path.Path.{Path}
use Rattle.fab_desk_trials.specs.Trials.{IsStepReady}

nowhere : {k : ℕ} → ¬ (k < 0)
nowhere h = omega (arith, h)

-- nothing is gained where nothing changes
none_gained : (w : Records) (xs : List Path) → xs ≡ [] → IsListOf (IsGained w w) xs
unfolding IsStrictlySortedBy
none_gained w xs none = subst (IsListOf (IsGained w w)) (sym none) (record {
  sorted = tt;
  sound = λ x there. absurd (nowhere there.1);
  complete = λ x gained. absurd (gained.before gained.now);
})

pub nothing_moves : (w : Records) (gained lost : List Path) → gained ≡ [] → lost ≡ [] → IsDelta w w gained lost
nothing_moves w gained lost g l = record { gains = none_gained w gained g; loses = none_gained w lost l }

-- where there is no step, nothing moves
pub no_step : {R : Type 0} (leads : R → Records → Records → Type 0) (old new : Records) (step : Option R) (gained lost : List Path) → step ≡ None → IsStepReady leads old new step → ((w : Records) → IsDelta w w gained lost) → IsDelta old new gained lost
no_step leads old new step gained lost none ready same = subst (λ x. IsDelta old x gained lost) (sym (subst (IsStepReady leads old new) none ready)) (same old)

-- where there is one, it leads from the one to the other
pub some_step : {R : Type 0} (leads : R → Records → Records → Type 0) (old new : Records) (step : Option R) (ready : R) → step ≡ Some ready → IsStepReady leads old new step → leads ready old new
some_step leads old new step ready some h = subst (IsStepReady leads old new) some h
