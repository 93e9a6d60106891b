-- Which world the parts of a change make, and when they suit a world.
use Rattle.std.specs.Prelude.{ℕ, ◌≡◌, ◌<◌, ◌-◌, List, [], ◌∷◌, ◌++◌, length, take, Option, None, Some, false}
use Rattle.std.specs.FinMap as map
use Rattle.fab_reach_base.specs.fab_names.Orders.{name_cmp}
use Rattle.fab_reach_base.specs.Records.{ConfigRows}
use Rattle.fab_store_rows.specs.Differences.{IsDifference}
use Rattle.fab_store_rows.specs.declared.record_row.PlanState.TheVariants as state
use Rattle.fab_store_world.specs.Inventories.{IsInventoryDifference}
use Rattle.fab_world.specs.PlanRecords.{PlanRecord, active, rolled_back, withdrawn}
use Rattle.fab_world.specs.Plans.{state_of}
use Rattle.fab_world.specs.Worlds.{WorldRows}
use Rattle.fab_world.specs.Limits.{most_changes}
use Rattle.fab_desk_base.specs.Commands.{IsPlan}
use Rattle.fab_desk_base.specs.Effects.{counted, staged_plan, with_inventory, with_plan}
use Rattle.fab_desk_commands.specs.declared.next.Next.{Next}
use Rattle.fab_desk_commands.specs.declared.next.Next.TheVariants.{Same, Stock, Staged, Turned, Reconfigured}
use Rattle.fab_desk_commands.specs.declared.next.Turn.{Turn}
use Rattle.fab_desk_commands.specs.declared.next.Turn.TheVariants.{Withdrawn, Approved, Activated, RolledBack}

-- ---- which world

-- the plan after the turn
abbrev pub turned : {A : Type 0} → Turn A → PlanRecord → PlanRecord
turned Withdrawn p = record p { standing = withdrawn }
turned (Approved approvals) p = record p { approvals = map.from_entries approvals.entries }
turned (Activated change) p = record p { standing = active change.taken.items change.added.items }
turned (RolledBack change) p = record p { standing = rolled_back }

-- the plans with this one of them after the turn, if it is there
abbrev pub plans_turned : {A : Type 0} → List ℕ → Turn A → Option PlanRecord → map.FinMap name_cmp PlanRecord → map.FinMap name_cmp PlanRecord
plans_turned n t None plans = plans
plans_turned n t (Some p) plans = map.insert plans n (turned t p)

-- the world with the plan after the turn, if the plan is there
abbrev pub with_turn : {A : Type 0} → List ℕ → Turn A → Option PlanRecord → WorldRows → WorldRows
with_turn n t found w = record w { plans = plans_turned n t found w.plans }

-- the world with the plan of this name after the turn
abbrev pub turned_at : {A : Type 0} → List ℕ → Turn A → WorldRows → WorldRows
turned_at n t w = with_turn n t (map.get w.plans n) w

-- all but the last of the activations in force
abbrev pub all_but_last : List (List ℕ) → List (List ℕ)
all_but_last order = take (length order - 1) order

-- the activations in force after the turn of the plan: an activated one is the last of them, and the
-- last is rolled back
abbrev pub order_after : {A : Type 0} → Turn A → List ℕ → List (List ℕ) → List (List ℕ)
order_after (Activated change) n order = order ++ n ∷ []
order_after (RolledBack change) n order = all_but_last order
order_after _ n order = order

-- the world that the parts make of this one
abbrev pub next_world : {A : Type 0} → WorldRows → Next A → WorldRows
next_world w Same = w
next_world w (Stock v change) = counted (with_inventory v w)
next_world w (Staged n p) = with_plan n p w
next_world w (Turned n t) = turned_at n t w
next_world w (Reconfigured c n t) = counted (record (turned_at n t w) { config = c; order = order_after t n w.order })

-- ---- when they suit it

-- the plan is in the state that the turn leads from
abbrev pub Leads : {A : Type 0} → Turn A → PlanRecord → Type 0
Leads (RolledBack change) p = state_of p.standing ≡ state.Active
Leads _ p = state_of p.standing ≡ state.Staged

-- the plan of this name is there, in the state that the turn leads from
abbrev pub LeadsAt : {A : Type 0} → WorldRows → List ℕ → Turn A → Type 0
LeadsAt w n t = (p : PlanRecord) × IsPlan w n p × Leads t p

-- an activation and a rollback tell what they take from the one configuration and add in the other
abbrev pub TellsChange : {A : Type 0} → ConfigRows → ConfigRows → Turn A → Type 0
TellsChange before after (Activated change) = IsDifference before after change.taken.items change.added.items
TellsChange before after (RolledBack change) = IsDifference before after change.taken.items change.added.items
TellsChange before after _ = ⊥

-- another inventory comes with the rows in which it differs, and another configuration too
abbrev pub TellsRows : {A : Type 0} → WorldRows → Next A → Type 0
TellsRows w (Stock v change) = IsInventoryDifference w.inventory v change
TellsRows w (Reconfigured c n t) = TellsChange w.config c t
TellsRows w _ = Unit {0}

-- the parts are for this world: it may take them over, once there is room for them
abbrev pub Suits : {A : Type 0} → WorldRows → Next A → Type 0
Suits w Same = Unit {0}
Suits w (Stock v change) = (w.revision < most_changes) × IsInventoryDifference w.inventory v change
Suits w (Staged n p) = map.contains_key w.plans n ≡ false
Suits w (Turned n t) = LeadsAt w n t
Suits w (Reconfigured c n t) = LeadsAt w n t × (w.revision < most_changes) × TellsChange w.config c t

-- ---- room for them

-- the plan that keeps the place of one that is to come: it has no steps
abbrev pub blank_plan : List ℕ → PlanRecord
blank_plan n = staged_plan n []

-- the order with room for the turn of the plan: one that is activated is the last in it already
abbrev pub order_with_room : {A : Type 0} → Turn A → List ℕ → List (List ℕ) → List (List ℕ)
order_with_room (Activated change) n order = order ++ n ∷ []
order_with_room _ n order = order

-- the order without the room for the turn
abbrev pub order_without_room : {A : Type 0} → Turn A → List (List ℕ) → List (List ℕ)
order_without_room (Activated change) order = all_but_last order
order_without_room _ order = order

-- the order after the turn, from the one with room for it: a plan that is rolled back leaves it
abbrev pub order_from_room : {A : Type 0} → Turn A → List (List ℕ) → List (List ℕ)
order_from_room (RolledBack change) order = all_but_last order
order_from_room _ order = order

-- the world with room for the parts: a plan that is new has a place in it, and one that is activated
-- has its place in the order
abbrev pub with_room : {A : Type 0} → WorldRows → Next A → WorldRows
with_room w (Staged n p) = with_plan n (blank_plan n) w
with_room w (Reconfigured c n t) = record w { order = order_with_room t n w.order }
with_room w _ = w

-- the world without the room for the parts
abbrev pub without_room : {A : Type 0} → WorldRows → Next A → WorldRows
without_room w (Staged n p) = record w { plans = map.remove w.plans n }
without_room w (Reconfigured c n t) = record w { order = order_without_room t w.order }
without_room w _ = w

-- the world is one that the parts are for, with room for them
abbrev pub IsReadyFor : {A : Type 0} → WorldRows → Next A → Type 0
IsReadyFor w next = (before : WorldRows) × Suits before next × (w ≡ with_room before next)
