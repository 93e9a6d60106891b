-- The configurations before the activations that are in force.
use Rattle.std.specs.Prelude.{ℕ, List, [], ◌∷◌, Option}
use Rattle.std.specs.List.{flat_map}
use Rattle.std.specs.Option.{option_and_then, option_to_list}
use Rattle.fab_reach_base.specs.Records.{ConfigRows}
use Rattle.fab_store_drafts.specs.Back as back
use Rattle.fab_world.specs.PlanRecords.{PlanRecord}
use Rattle.fab_world.specs.Plans.{Change, undo_of}

-- the configuration from before the change: it is sound of itself, and differs from the one after
-- it just so
abbrev pub IsEarlier : ConfigRows → Change → ConfigRows → Type 0
IsEarlier after change before = back.IsEarlier after change.taken change.added before

-- and there is no other
abbrev pub IsOnlyEarlier : ConfigRows → Change → ConfigRows → Type 0
IsOnlyEarlier after change before = back.IsOnlyEarlier after change.taken change.added before

-- the changes, the last of them first, lead back from the configuration through such that are sound
-- of themselves
abbrev pub LeadsBack : List Change → ConfigRows → Type 0
LeadsBack [] c = Unit {0}
LeadsBack (change ∷ others) c = (b : ConfigRows) × IsEarlier c change b × LeadsBack others b

-- what the activation of the plan of this name changed, where it is in force
abbrev pub changes_at : (List ℕ → Option PlanRecord) → List ℕ → List Change
changes_at plans name = option_to_list (option_and_then (λ (p : PlanRecord). undo_of p.standing) (plans name))

-- what the activations of the plans of these names changed
abbrev pub changes_of : (List ℕ → Option PlanRecord) → List (List ℕ) → List Change
changes_of plans names = flat_map (changes_at plans) names
