-- What the values of a policy's text mean.
use Rattle.std.specs.Prelude.{◌≡◌, ℕ, ◌<◌, ◌≤◌, pos, Bool, false, List, [], Option, Some, None, IsSome, MatchOption, codes, ◌⊎◌}
use Rattle.fab_names.specs.Names.{IsNameText}
use Rattle.fab_names.specs.Tokens.{IsTokenText}
use Rattle.toml.specs.Data.{Data, Items, no_items, item, Members, get_member, as_str, as_integer, as_array, as_bool}
use Rattle.fab_policy_base.specs.Limits.{most_tenants, most_approvals, week_minutes}
use Rattle.fab_policy_base.specs.Policies.{TenantNames}
use Rattle.fab_policy_text.specs.Shapes.{At, MaybeAt, EachMeans, IsList, IsWord, MeansNothing, FaultIn, ItemFault, ListFault, WordFault}
use Rattle.fab_policy_base.specs.Words.{key_word, action_word}
use Rattle.fab_policy_base.specs.declared.fault.PolicyFault.{PolicyFault}
use Rattle.fab_policy_base.specs.declared.fault.PolicyFault.TheVariants.{Missing, WrongType, Repeated}
use Rattle.fab_policy_base.specs.declared.key.Key.{Key}
use Rattle.fab_policy_base.specs.declared.key.Key.TheVariants as key
use Rattle.fab_policy_base.specs.declared.policy.Action.{Action}
use Rattle.fab_policy_base.specs.declared.policy.Freeze.{Freeze}
use Rattle.fab_policy_base.specs.declared.policy.Quorum.{Quorum}
use Rattle.fab_policy_base.specs.declared.policy.WeekSpan.{WeekSpan}

-- a text that is a name
abbrev pub IsName : Data → List ℕ → Type 0
IsName d name = (as_str d ≡ Some name) × IsNameText name

-- a text that is a token
abbrev pub IsToken : Data → List ℕ → Type 0
IsToken d token = (as_str d ≡ Some token) × IsTokenText token

-- the text `*`, for every tenant, or a list of at most 64 names
abbrev pub AreTenants : Data → TenantNames → Type 0
AreTenants d None = as_str d ≡ Some (codes "*")
AreTenants d (Some names) = IsList IsName most_tenants d names

-- another text, or no such list
abbrev pub TenantsFault : Key → Data → PolicyFault → Type 0
TenantsFault key d e = MatchOption (as_str d) (ListFault (MeansNothing IsName) most_tenants key d e) (λ text. (e ≡ WrongType key) × ¬ (text ≡ codes "*"))

-- an array of two numbers, the first below the second
pub record IsSpan (d : Data) (from until : ℕ) : Type 0 where
  pub first : Data
  pub second : Data
  pub array : as_array d ≡ Some (item first (item second no_items))
  pub low : as_integer first ≡ Some (pos from)
  pub high : as_integer second ≡ Some (pos until)
  pub before : from < until

-- within the minutes of a week
abbrev pub IsWeekSpan : Data → WeekSpan → Type 0
IsWeekSpan d w = IsSpan d w.from w.until × (w.until ≤ week_minutes)

-- in seconds
abbrev pub IsFreeze : Data → Freeze → Type 0
IsFreeze d f = IsSpan d f.from f.until

-- a name other than the one that stands for no rule
abbrev pub IsRuleName : Data → List ℕ → Type 0
IsRuleName d name = IsName d name × ¬ (name ≡ codes "no-rule")

-- no name, or the one that stands for no rule
abbrev pub RuleNameFault : Key → Data → PolicyFault → Type 0
RuleNameFault key d e = MeansNothing IsName key d e ⊎ (IsName d (codes "no-rule") × (e ≡ Repeated (codes "no-rule")))

-- an array of action words, at least one
pub record AreActions (d : Data) (actions : List Action) : Type 0 where
  pub items : Items
  pub array : as_array d ≡ Some items
  pub each : EachMeans (IsWord action_word) items actions
  pub some : ¬ (actions ≡ [])

-- no array, or an empty one, or an item is no action word
abbrev pub ActionsFault : Key → Data → PolicyFault → Type 0
ActionsFault key d e = MatchOption (as_array d) (e ≡ WrongType key)
    (λ items. ((e ≡ WrongType key) × (items ≡ no_items)) ⊎ ItemFault (WordFault action_word) key items e)

-- a number from 1 to the most that may be asked for
abbrev pub IsCount : Data → ℕ → Type 0
IsCount d n = (as_integer d ≡ Some (pos n)) × (1 ≤ n) × (n ≤ most_approvals)

-- a truth value
abbrev pub IsFlag : Data → Bool → Type 0
IsFlag d b = as_bool d ≡ Some b

-- a truth value at the key, false where the key is missing
abbrev pub FlagAt : Key → Members → Bool → Type 0
FlagAt key ms b = MatchOption (get_member (key_word key) ms) (b ≡ false) (λ d. IsFlag d b)

-- how many approvals are asked for, from whom, how fresh, and whether each touched tenant has one
pub record IsQuorum (ms : Members) (q : Quorum) : Type 0 where
  pub count : At key.Approvals IsCount ms q.count
  pub approver : MaybeAt key.Approver IsName ms q.approver
  pub fresh : FlagAt key.Fresh ms q.fresh
  pub each_tenant : FlagAt key.EachTenant ms q.each_tenant

-- none are asked for: the other three keys stand only beside `approvals`
pub record HasNoQuorum (ms : Members) : Type 0 where
  pub count : get_member (key_word key.Approvals) ms ≡ None
  pub approver : get_member (key_word key.Approver) ms ≡ None
  pub fresh : get_member (key_word key.Fresh) ms ≡ None
  pub each_tenant : get_member (key_word key.EachTenant) ms ≡ None

-- the approvals that a rule's table asks for
abbrev pub QuorumIn : Members → Option Quorum → Type 0
QuorumIn ms None = HasNoQuorum ms
QuorumIn ms (Some q) = IsQuorum ms q

-- some key stands that stands only beside `approvals`
abbrev pub AsksMore : Members → Type 0
AsksMore ms = IsSome (get_member (key_word key.Approver) ms) ⊎ (IsSome (get_member (key_word key.Fresh) ms) ⊎ IsSome (get_member (key_word key.EachTenant) ms))

-- what is wrong with them
pub data QuorumFault (ms : Members) (e : PolicyFault) : Type 0 where
  no_count : get_member (key_word key.Approvals) ms ≡ None → AsksMore ms → e ≡ Missing key.Approvals → QuorumFault ms e
  in_count : FaultIn key.Approvals (MeansNothing IsCount) ms e → QuorumFault ms e
  in_approver : FaultIn key.Approver (MeansNothing IsName) ms e → QuorumFault ms e
  in_fresh : FaultIn key.Fresh (MeansNothing IsFlag) ms e → QuorumFault ms e
  in_each_tenant : FaultIn key.EachTenant (MeansNothing IsFlag) ms e → QuorumFault ms e
