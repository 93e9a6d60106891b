-- The place of a plan, and a plan that comes from one to another: words of the private functions.
use Rattle.std.specs.Prelude.{ℕ, ◌≡◌, ◌↔◌, List, [], ◌∷◌, ◌++◌, length, Contains, Some}
use Rattle.std.specs.FinMap as map
use Rattle.fab_store_rows.specs.PlanEntries.{PlanEntry}
use Rattle.fab_store_rows.specs.declared.record_row.PlanState.{PlanState}
use Rattle.fab_store_rows.specs.declared.record_row.PlanState.TheVariants as states
use Rattle.fab_world.specs.fab_plans_base.Plans.{IsWithinLimits, plan_text}
use Rattle.fab_world.specs.PlanRecords.{PlanRecord}
use Rattle.fab_world.specs.Plans.{state_of}
use Rattle.fab_world.specs.Worlds.{WorldRows}
use Rattle.fab_store_world.specs.Positions.{IsPosition}
use Rattle.fab_store_world.specs.Standing.{IsOrdered}
use Rattle.fab_desk_rows.specs.declared.plan_rows.Place.{Place}

-- ---- orders

-- a plan of this name, in this state, is the last of so many in the order if it is active, and else
-- is not in it
pub record IsLastIfActive (order : List (List ℕ)) (count : ℕ) (n : List ℕ) (state : PlanState) : Type 0 where
  pub last : state ≡ states.Active → (rest : List (List ℕ)) × (order ≡ rest ++ n ∷ []) × (length order ≡ count)
  pub absent : ¬ (state ≡ states.Active) → ¬ Contains order n

-- a name has one position in both orders
abbrev pub HasOnePosition : List (List ℕ) → List (List ℕ) → List ℕ → Type 0
HasOnePosition xs ys m = (k : ℕ) → IsPosition xs m k ↔ IsPosition ys m k

-- ---- places

-- the row of the plan of this name at this place
abbrev pub row_at : List ℕ → PlanRecord → Place → PlanEntry
row_at name p place = record { name = name; author = p.author; text = plan_text p.steps; state = place.state; position = place.position }

-- the plan of this name in the world: of the same author, with the same steps, and at this place
pub record StandsAt (w : WorldRows) (n : List ℕ) (p : PlanRecord) (place : Place) : Type 0 where
  pub plan : PlanRecord
  pub there : map.get w.plans n ≡ Some plan
  pub author : plan.author ≡ p.author
  pub steps : plan.steps ≡ p.steps
  pub state : place.state ≡ state_of plan.standing
  pub position : IsPosition w.order n place.position
  pub once : IsOrdered w

-- the plan of this name comes from the one place to the other, and all others stay where they are
pub record ComesTo (w v : WorldRows) (n : List ℕ) (p : PlanRecord) (before after : Place) : Type 0 where
  pub stood : StandsAt w n p before
  pub stands : StandsAt v n p after
  pub within : IsWithinLimits p.steps
  pub plans : (m : List ℕ) → ¬ (m ≡ n) → map.get w.plans m ≡ map.get v.plans m
  pub positions : (m : List ℕ) → ¬ (m ≡ n) → HasOnePosition w.order v.order m
