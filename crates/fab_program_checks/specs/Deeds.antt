-- The act that the words of the command line tell.
use Rattle.std.specs.Prelude.{◌≡◌, ℕ, Bool, true, false, List, [], ◌∷◌, Option, Some, None, IsSomeAnd, option_map, slice_get, unwrap_or}
use Rattle.fab_names.specs.Names.{SpellsName}
use Rattle.fab_names.specs.declared.fabric.Fabric.{Fabric}
use Rattle.fab_names.specs.declared.fabric.Fabric.TheVariants as fabric
use Rattle.fab_policy_base.specs.Policies.{PolicyRows}
use Rattle.fab_policy.specs.declared.act.Act.{Act}
use Rattle.fab_policy.specs.declared.act.PlanApprovals.{PlanApprovals}
use Rattle.fab_policy_looks.specs.Flaws.{is_of_plan}
use Rattle.fab_program_words.specs.Lists.{SpellsApproval}
use Rattle.fab_policy_base.specs.declared.policy.Action.{Action}
use Rattle.fab_policy_base.specs.declared.policy.Action.TheVariants as action
use Rattle.fab_program_words.specs.declared.words.ActionWord.{ActionWord}
use Rattle.fab_program_words.specs.declared.words.ActionWord.TheVariants as word
use Rattle.fab_program_words.specs.declared.words.Deed.{Deed}
use Rattle.fab_program_words.specs.declared.words.NamedFabrics.{NamedFabrics}
use Rattle.fab_program_words.specs.declared.words.NamedFabrics.TheVariants as named
use Rattle.fab_program_checks.specs.Parts.{AreReadIn}

-- the caller at the place has the name
abbrev pub IsNamed : PolicyRows → List ℕ → ℕ → Type 0
IsNamed p name id = IsSomeAnd (slice_get p.callers id) (λ c. c.name ≡ name)

-- a caller of the name, or there is none
abbrev pub IsCallerNamed : PolicyRows → List ℕ → Option ℕ → Type 0
IsCallerNamed p name None = (id : ℕ) → ¬ IsNamed p name id
IsCallerNamed p name (Some id) = IsNamed p name id

-- the action of a word
abbrev pub action_of : ActionWord → Action
action_of word.Import = action.Import
action_of word.Inventory = action.Inventory
action_of word.Stage = action.Stage
action_of word.Withdraw = action.Withdraw
action_of word.Approve = action.Approve
action_of word.DryRun = action.DryRun
action_of word.Activate = action.Activate
action_of word.Rollback = action.Rollback

abbrev pub fabrics_of : Option NamedFabrics → List Fabric
fabrics_of None = []
fabrics_of (Some named.A) = fabric.A ∷ []
fabrics_of (Some named.B) = fabric.B ∷ []
fabrics_of (Some named.Both) = fabric.A ∷ fabric.B ∷ []

-- the author and the approvals of the plan, where the command is about one: the author is the caller unless another is named
abbrev pub IsPlanOf : Bool → Deed → Option PlanApprovals → Type 0
IsPlanOf true d None = ⊥
IsPlanOf true d (Some plan) = (plan.author ≡ unwrap_or d.author d.caller) × AreReadIn SpellsApproval (option_map (λ t. t.now) d.approved) plan.approvals.now
IsPlanOf false d plan = plan ≡ None

-- the act of a caller at a moment
pub record IsActOf (d : Deed) (id moment : ℕ) (a : Act) : Type 0 where
  pub caller : a.caller ≡ id
  pub action : a.action ≡ action_of d.action
  pub fabrics : a.fabrics.now ≡ fabrics_of d.fabrics
  pub touched : AreReadIn SpellsName (option_map (λ t. t.now) d.tenants) a.touched.now
  pub at : a.moment ≡ moment
  pub plan : IsPlanOf (is_of_plan (action_of d.action)) d a.plan
  pub revision : a.revision ≡ unwrap_or d.revision 0
