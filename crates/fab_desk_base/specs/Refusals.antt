-- What refuses a command, in which order, and what its effect is.
use Rattle.std.specs.Prelude.{ℕ, ◌≡◌, ◌≢◌, ◌<◌, ◌≤◌, List, true}
use Rattle.std.specs.FinMap as map
use Rattle.fab_reach_base.specs.fab_lemmas.Room.{IsFull}
use Rattle.fab_reach_base.specs.fab_inventory.declared.holder.HolderKind.TheVariants as kind
use Rattle.fab_reach_base.specs.fab_inventory.Holders.{IsLeast, IsUnknownIn, IsHeldIn, IsHeldByOther, IsLeastVolume}
use Rattle.fab_reach_base.specs.fab_inventory.Imports.{IsClash, IsImported}
use Rattle.fab_reach_base.specs.fab_inventory.Inventories.{IsArray, HasOtherKind}
use Rattle.fab_reach_base.specs.fab_inventory.Limits.{most_ports, most_holders, most_volumes}
use Rattle.fab_reach_base.specs.fab_inventory.Ports.{KnownPorts}
use Rattle.fab_reach_base.specs.fab_mapping_base.declared.gone.Gone.{Gone}
use Rattle.fab_reach_base.specs.fab_mapping.Gone.{IsFirstGone}
use Rattle.fab_reach_base.specs.Limits.{MoreThan, most_paths}
use Rattle.fab_reach_base.specs.Reach.{Reaches}
use Rattle.fab_reach_base.specs.Records.{ConfigRows}
use Rattle.fab_world.specs.fab_store_rows.declared.record_row.PlanState.{PlanState}
use Rattle.fab_world.specs.fab_store_rows.declared.record_row.PlanState.TheVariants as state
use Rattle.fab_world.specs.fab_plans_base.Steps.{PlanStep}
use Rattle.fab_world.specs.fab_plans.Outcomes.{IsRefusedOutcome}
use Rattle.fab_world.specs.fab_plans.declared.fault.Item.TheVariants as item
use Rattle.fab_world.specs.fab_plans.declared.fault.Refusal.{Refusal}
use Rattle.fab_world.specs.PlanRecords.{PlanRecord}
use Rattle.fab_world.specs.Plans.{state_of}
use Rattle.fab_world.specs.Worlds.{WorldRows, records_of}
use Rattle.fab_world.specs.Limits.{most_plans, most_changes}
use Rattle.fab_desk_base.specs.Commands.{is_counted, tried, IsPlan}
use Rattle.fab_desk_base.specs.Effects.{IsStagedAlready, IsBefore, IsLastAfter, Makes}
use Rattle.fab_desk_base.specs.Users.{IsHolderUser, IsVolumeUser, IsLeavingTarget, IsMoved}
use Rattle.fab_desk_base.specs.declared.command.Command.{Command}
use Rattle.fab_desk_base.specs.declared.command.Command.TheVariants.{Import, PutHolder, PutVolume, DropHolder, DropVolume, Stage, Withdraw, Approve, Activate, Rollback}
use Rattle.fab_desk_base.specs.declared.fault.DeskFault.{DeskFault}
use Rattle.fab_desk_base.specs.declared.fault.DeskFault.TheVariants as fault
use Rattle.fab_desk_base.specs.declared.fault.DeskLimit.TheVariants.{Ports, Holders, Volumes, Plans, Paths, Changes}

-- what a command is checked for, in this order: the state of its plan; that its own name is not
-- taken; that its records agree; that what it names is there; that nobody else holds its ports; that
-- the configuration does not use what goes; that no volume is on what goes; that the caller is not
-- the author; that the plan is the last in force; that all is there which the earlier configuration
-- names; that the plan's steps can be done; that there is room; and that there are not too many
-- paths or changes
pub data Check : Type 0 where
  plan_state : Check
  own_name : Check
  records : Check
  others : Check
  free_ports : Check
  no_user : Check
  no_volume : Check
  not_author : Check
  last_in_force : Check
  nothing_gone : Check
  steps_done : Check
  room : Check
  few_paths : Check
  few_changes : Check

-- the place of a check in their order
abbrev pub place_of : Check → ℕ
place_of plan_state = 0
place_of own_name = 1
place_of records = 2
place_of others = 3
place_of free_ports = 4
place_of no_user = 5
place_of no_volume = 6
place_of not_author = 7
place_of last_in_force = 8
place_of nothing_gone = 9
place_of steps_done = 10
place_of room = 11
place_of few_paths = 12
place_of few_changes = 13

-- the check fails where P holds, with this fault
abbrev pub FailsWith : DeskFault → Type 0 → DeskFault → Type 0
FailsWith q P r = (r ≡ q) × P

-- the plan is in another state than this
abbrev pub IsInOtherState : WorldRows → List ℕ → PlanState → PlanState → Type 0
IsInOtherState w n wanted s = (p : PlanRecord) × IsPlan w n p × (s ≡ state_of p.standing) × (s ≢ wanted)

-- the name is another plan's
abbrev pub IsOtherPlan : WorldRows → List ℕ → List ℕ → List PlanStep → Type 0
IsOtherPlan w author n steps = ((p : PlanRecord) × IsPlan w n p) × ¬ IsStagedAlready w author n steps

-- the caller is the author of the plan
abbrev pub IsAuthor : WorldRows → List ℕ → List ℕ → Type 0
IsAuthor w n caller = (p : PlanRecord) × IsPlan w n p × (caller ≡ p.author)

-- another plan is the last in force
abbrev pub IsOtherLast : WorldRows → List ℕ → List ℕ → Type 0
IsOtherLast w n last = ((rest : List (List ℕ)) × IsLastAfter w rest last) × (last ≢ n)

-- the first that the configuration from before the plan names, and the inventory has not
abbrev pub IsGoneBefore : WorldRows → List ℕ → Gone → Type 0
IsGoneBefore w n g = (p : PlanRecord) × (before : ConfigRows) × IsBefore w n p before × IsFirstGone w.inventory before.mapping g

-- the outcome of the plan's steps is a refusal
abbrev pub IsPlanRefused : WorldRows → List ℕ → ℕ → Refusal → Type 0
IsPlanRefused w n number q = (p : PlanRecord) × IsPlan w n p × IsRefusedOutcome w.inventory p.steps w.config number q

-- more ports would be known than may be
abbrev pub ListsManyPorts : {A : Type 0} → WorldRows → Command A → Type 0
ListsManyPorts w (Import f rows) = (ports : KnownPorts) × IsImported f rows.items w.inventory.ports ports × (most_ports < map.len ports)
ListsManyPorts w _ = ⊥

-- the world would have too many paths
abbrev pub HasManyPaths : WorldRows → Type 0
HasManyPaths w = MoreThan most_paths (Reaches (records_of w))

-- the command would leave too many paths
abbrev pub MakesManyPaths : {A : Type 0} → WorldRows → List ℕ → Command A → Type 0
MakesManyPaths w caller c = (new : WorldRows) × Makes w caller c new × HasManyPaths new

-- there may be one change more, where the command counts as one
abbrev pub MayCount : {A : Type 0} → WorldRows → Command A → Type 0
MayCount w c = is_counted c ≡ true → w.revision < most_changes

-- the revision counts the command, and there were as many changes as there may be
abbrev pub HasManyChanges : {A : Type 0} → WorldRows → Command A → Type 0
HasManyChanges w c = (is_counted c ≡ true) × (most_changes ≤ w.revision)

-- which fault each check of a command gives, where it fails; the caller of this name sends it
abbrev pub Fails : {A : Type 0} → WorldRows → List ℕ → Command A → Check → DeskFault → Type 0
Fails w caller (Withdraw n) plan_state = λ r. (s : PlanState) × FailsWith (fault.WrongState s) (IsInOtherState w n state.Staged s) r
Fails w caller (Approve n) plan_state = λ r. (s : PlanState) × FailsWith (fault.WrongState s) (IsInOtherState w n state.Staged s) r
Fails w caller (Activate n) plan_state = λ r. (s : PlanState) × FailsWith (fault.WrongState s) (IsInOtherState w n state.Staged s) r
Fails w caller (Rollback n) plan_state = λ r. (s : PlanState) × FailsWith (fault.WrongState s) (IsInOtherState w n state.Active s) r
Fails w caller (PutHolder k n t ports) own_name = FailsWith (fault.Exists n) (HasOtherKind w.inventory.holders n k)
Fails w caller (Stage n steps) own_name = FailsWith (fault.Exists n) (IsOtherPlan w caller n steps.items)
Fails w caller (Import f rows) records = λ r. (q : ℕ) × FailsWith (fault.PortClash q) (IsClash rows.items q) r
Fails w caller (PutHolder k n t ports) others = λ r. (q : ℕ) × FailsWith (fault.Unknown (item.Port q)) (IsLeast (IsUnknownIn (map.get w.inventory.ports) ports.items) q) r
Fails w caller (PutVolume n x) others = FailsWith (fault.Unknown (item.Name x.array)) (¬ IsArray w.inventory.holders x.array)
Fails w caller (PutHolder k n t ports) free_ports = λ r. (q : ℕ) × (h : List ℕ) × FailsWith (fault.InUse (item.Port q) h) (IsLeast (IsHeldIn (map.get w.inventory.ports) n ports.items) q × IsHeldByOther (map.get w.inventory.ports) n q h) r
Fails w caller (PutHolder kind.Array n t ports) no_user = λ r. (q : ℕ) × (g : List ℕ) × FailsWith (fault.InUse (item.Port q) g) (IsLeavingTarget w.inventory w.config.mapping n ports.items (q, g)) r
Fails w caller (PutVolume n x) no_user = λ r. (g : List ℕ) × FailsWith (fault.InUse (item.Name n) g) (IsMoved w.inventory n x.array × IsVolumeUser w.config.mapping n g) r
Fails w caller (DropHolder k n) no_user = λ r. (g : List ℕ) × FailsWith (fault.InUse (item.Name n) g) (IsHolderUser w.config.mapping k n g) r
Fails w caller (DropVolume n) no_user = λ r. (g : List ℕ) × FailsWith (fault.InUse (item.Name n) g) (IsVolumeUser w.config.mapping n g) r
Fails w caller (DropHolder k n) no_volume = λ r. (x : List ℕ) × FailsWith (fault.InUse (item.Name n) x) (IsLeastVolume (map.get w.inventory.volumes) n x) r
Fails w caller (Approve n) not_author = FailsWith fault.OwnPlan (IsAuthor w n caller)
Fails w caller (Rollback n) last_in_force = λ r. (last : List ℕ) × FailsWith (fault.NotLast last) (IsOtherLast w n last) r
Fails w caller (Rollback n) nothing_gone = λ r. (g : Gone) × FailsWith (fault.Gone g) (IsGoneBefore w n g) r
Fails w caller (Activate n) steps_done = λ r. (number : ℕ) × (q : Refusal) × FailsWith (fault.Plan number q) (IsPlanRefused w n number q) r
Fails w caller (Import f rows) room = FailsWith (fault.Limit Ports) (ListsManyPorts w (Import f rows))
Fails w caller (PutHolder k n t ports) room = FailsWith (fault.Limit Holders) (IsFull w.inventory.holders n most_holders)
Fails w caller (PutVolume n x) room = FailsWith (fault.Limit Volumes) (IsFull w.inventory.volumes n most_volumes)
Fails w caller (Stage n steps) room = FailsWith (fault.Limit Plans) (IsFull w.plans n most_plans)
Fails w caller c few_paths = FailsWith (fault.Limit Paths) (MakesManyPaths w caller c)
Fails w caller c few_changes = FailsWith (fault.Limit Changes) (HasManyChanges w c)
Fails w caller c _ = λ r. ⊥

-- the first check that fails: it gives this fault, and none before it fails
pub record IsFirstFault {A : Type 0} (w : WorldRows) (caller : List ℕ) (c : Command A) (r : DeskFault) : Type 0 where
  pub check : Check
  pub here : Fails w caller c check r
  pub before : (k : Check) (q : DeskFault) → place_of k < place_of check → ¬ Fails w caller c k q

-- what refuses the command, as it is tried
abbrev pub IsRefused : {A : Type 0} → WorldRows → List ℕ → Command A → DeskFault → Type 0
IsRefused w caller c = IsFirstFault w caller (tried c)

-- no check of the command fails, and this is what it makes
pub record IsDone {A : Type 0} (w : WorldRows) (caller : List ℕ) (c : Command A) (new : WorldRows) : Type 0 where
  pub passes : (k : Check) (q : DeskFault) → ¬ Fails w caller c k q
  pub makes : Makes w caller c new

-- the effect of the command, as it is tried
abbrev pub IsEffect : {A : Type 0} → WorldRows → List ℕ → Command A → WorldRows → Type 0
IsEffect w caller c = IsDone w caller (tried c)
