-- What is answered to whom, and which world follows.
use Rattle.std.specs.Prelude.{ℕ, ◌≡◌, ◌⊎◌, List, [], ◌∷◌, length, slice_get, Some, true}
use Rattle.std.specs.FinMap as map
use Rattle.fab_reach_base.specs.fab_inventory.Inventories.{kind_of}
use Rattle.fab_policy.specs.declared.act.Need.{Need}
use Rattle.fab_policy.specs.declared.act.Verdict.TheVariants.{Allowed, Denied}
use Rattle.fab_policy.specs.fab_policy_base.Callers.{HasToken, IsOnlyWith}
use Rattle.fab_policy.specs.fab_policy_base.Policies.{CallerRow, PolicyRows}
use Rattle.fab_reach_base.specs.Books.{IsDelta}
use Rattle.fab_reach_base.specs.declared.book.Delta.{Delta}
use Rattle.fab_world.specs.PlanRecords.{PlanRecord}
use Rattle.fab_world.specs.Worlds.{WorldRows, records_of}
use Rattle.fab_desk_base.specs.Acts.{IsJudged}
use Rattle.fab_desk_base.specs.Commands.{IsGiven, IsPlan}
use Rattle.fab_desk_base.specs.Refusals.{IsRefused, IsEffect}
use Rattle.fab_desk_base.specs.Showing.{IsOpenTo, Shows}
use Rattle.fab_desk_base.specs.declared.command.Command.{Command}
use Rattle.fab_desk_base.specs.declared.command.Command.TheVariants as command
use Rattle.fab_desk_base.specs.declared.fault.DeskFault.{DeskFault}
use Rattle.fab_desk_base.specs.declared.fault.DeskFault.TheVariants as fault
use Rattle.fab_desk_base.specs.declared.reply.Reply.{Reply}
use Rattle.fab_desk_base.specs.declared.reply.Reply.TheVariants as reply
use Rattle.fab_desk_base.specs.declared.reply.Shown.{Shown}

-- the plan of this name is there
abbrev pub HasPlan : WorldRows → List ℕ → Type 0
HasPlan w n = (p : PlanRecord) × IsPlan w n p

-- what the command is about is there, and a read is for the caller; puts and the staging of a plan
-- need nothing there
abbrev pub IsThere : {A : Type 0} → PolicyRows → WorldRows → ℕ → Command A → Type 0
IsThere p w id (command.DropHolder k n) = kind_of w.inventory.holders n ≡ Some k
IsThere p w id (command.DropVolume n) = map.contains_key w.inventory.volumes n ≡ true
IsThere p w id (command.Withdraw n) = HasPlan w n
IsThere p w id (command.Approve n) = HasPlan w n
IsThere p w id (command.DryRun n) = HasPlan w n
IsThere p w id (command.Activate n) = HasPlan w n
IsThere p w id (command.Rollback n) = HasPlan w n
IsThere p w id (command.Show q) = IsOpenTo p w id q
IsThere p w id _ = Unit {0}

-- the lists are what the effect of the command gains and loses
abbrev pub IsMove : {A : Type 0} → WorldRows → WorldRows → Delta A → Type 0
IsMove old new d = IsDelta (records_of old) (records_of new) d.gained.items d.lost.items

-- the approvals of the plan in the world are so many
abbrev pub HasApprovals : WorldRows → List ℕ → ℕ → Type 0
HasApprovals w n count = (p : PlanRecord) × IsPlan w n p × (count ≡ map.len p.approvals)

-- what is answered where the command was done, and this is its effect
abbrev pub IsReport : {A : Type 0} → WorldRows → Command A → WorldRows → Reply A → Type 0
IsReport old (command.Stage n steps) new r = r ≡ reply.Staged n (length steps.items)
IsReport old (command.Withdraw n) new r = r ≡ reply.Withdrawn n
IsReport old (command.Approve n) new r = (count : ℕ) × (r ≡ reply.Approved n count new.revision) × HasApprovals new n count
IsReport {A} old (command.DryRun n) new r = (d : Delta A) × (r ≡ reply.Tried n d) × IsMove old new d
IsReport {A} old (command.Activate n) new r = (d : Delta A) × (r ≡ reply.Reconfigured n d new.revision) × IsMove old new d
IsReport {A} old (command.Rollback n) new r = (d : Delta A) × (r ≡ reply.Reconfigured n d new.revision) × IsMove old new d
IsReport old (command.Show q) new r = ⊥
IsReport old _ new r = r ≡ reply.Changed new.revision

-- the world that a command leaves: a dry run leaves the one that it met
abbrev pub IsLeft : {A : Type 0} → WorldRows → Command A → WorldRows → WorldRows → Type 0
IsLeft old (command.DryRun n) effect new = new ≡ old
IsLeft old c effect new = new ≡ effect

-- the command is refused, and nothing is changed
abbrev pub IsKept : {A : Type 0} → WorldRows → DeskFault → Reply A → WorldRows → Type 0
IsKept old q r new = (r ≡ reply.Refused q) × (new ≡ old)

-- the command is denied: the number and the name of the rule, and its need
abbrev pub IsDeniedWith : {A : Type 0} → PolicyRows → WorldRows → ℕ → List ℕ → ℕ → Command A → DeskFault → Type 0
IsDeniedWith p w id caller moment c q = (rule : ℕ) × (name : List ℕ) × (need : Need) × IsJudged p w id caller moment c (Denied rule name need) × (q ≡ fault.Denied rule name need)

-- the command is allowed, and refused by the records
abbrev pub IsRefusedWith : {A : Type 0} → PolicyRows → WorldRows → ℕ → List ℕ → ℕ → Command A → DeskFault → Type 0
IsRefusedWith p w id caller moment c q = IsJudged p w id caller moment c Allowed × IsRefused w caller c q

-- the command is allowed and done
pub record IsCarriedOut {A : Type 0} (p : PolicyRows) (w : WorldRows) (id : ℕ) (caller : List ℕ) (moment : ℕ) (c : Command A) (r : Reply A) (new : WorldRows) : Type 0 where
  pub allowed : IsJudged p w id caller moment c Allowed
  pub effect : WorldRows
  pub is : IsEffect w caller c effect
  pub report : IsReport w c effect r
  pub left : IsLeft w c effect new

-- what is answered to a caller who asks for what is there: a read shows it; else the policy denies
-- the command, the records refuse it, or it is done
abbrev pub IsOutcomeFor : {A : Type 0} → PolicyRows → WorldRows → ℕ → List ℕ → ℕ → Command A → Reply A → WorldRows → Type 0
IsOutcomeFor {A} p w id caller moment (command.Show q) r new = (s : Shown A) × Shows w q s × (r ≡ reply.Shown s) × (new ≡ w)
IsOutcomeFor p w id caller moment c r new =
    ((q : DeskFault) × (IsDeniedWith p w id caller moment c q ⊎ IsRefusedWith p w id caller moment c q) × IsKept w q r new)
    ⊎ IsCarriedOut p w id caller moment c r new

-- what is answered to the caller at that place, who has this name: first that no body gives such
-- values, and then that what the command is about is not there
abbrev pub IsAnswerTo : {A : Type 0} → PolicyRows → WorldRows → ℕ → List ℕ → ℕ → Command A → Reply A → WorldRows → Type 0
IsAnswerTo p w id caller moment c r new =
    ((¬ IsGiven c) × IsKept w (fault.BadBody 0) r new)
    ⊎ ((IsGiven c × (¬ IsThere p w id c) × IsKept w fault.NotFound r new) ⊎ (IsGiven c × IsThere p w id c × IsOutcomeFor p w id caller moment c r new))

-- a request: the token that its sender shows, when it comes in Unix seconds, and its command
pub record Request (A : Type 0) : Type 0 where
  pub token : List ℕ
  pub moment : ℕ
  pub command : Command A

-- nobody has the token
abbrev pub IsNobodys : PolicyRows → List ℕ → Type 0
IsNobodys p token = (id : ℕ) → ¬ HasToken p token id

-- one step of the desk: what is answered to the request, and which world follows
abbrev pub IsStep : {A : Type 0} → PolicyRows → WorldRows → Request A → Reply A → WorldRows → Type 0
IsStep p w q r new =
    (IsNobodys p q.token × IsKept w fault.NoCaller r new)
    ⊎ ((id : ℕ) × (caller : CallerRow) × IsOnlyWith p q.token id × (slice_get p.callers id ≡ Some caller) × IsAnswerTo p w id caller.name q.moment q.command r new)

-- the requests, in their order, are answered so, and lead from one world to the other
abbrev pub IsRun : {A : Type 0} → PolicyRows → WorldRows → List (Request A) → List (Reply A) → WorldRows → Type 0
IsRun p w [] [] new = new ≡ w
IsRun p w [] (r ∷ rs) new = ⊥
IsRun p w (q ∷ qs) [] new = ⊥
IsRun p w (q ∷ qs) (r ∷ rs) new = (next : WorldRows) × IsStep p w q r next × IsRun p next qs rs new
