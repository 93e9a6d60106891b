-- A text spells one policy at most.
use Rattle.std.proofs.Common.{◌≡◌, ℕ, Bool, false, List, [], ◌∷◌, Option, Some, None, cond, sym, subst, ap, ◌∙◌, refl, codes}
use Rattle.std.specs.Prelude.{MatchOption}
use Rattle.std.proofs.lemmas.Option.{same_Some}
use Rattle.fab_names.specs.Fabrics.{fabric_text}
use Rattle.fab_names.specs.declared.fabric.Fabric.{Fabric}
use Rattle.fab_names.specs.declared.fabric.Fabric.TheVariants as fabric
use Rattle.toml.specs.Data.{Data, Items, no_items, item, Members, get_member, as_array, as_table}
use Rattle.fab_policy_base.specs.Callers.{is_same}
use Rattle.fab_policy_text.specs.Forms.{IsName, IsToken, AreTenants, IsSpan, IsWeekSpan, IsFreeze, IsRuleName, AreActions, IsCount, IsFlag, QuorumIn}
use Rattle.fab_policy_base.specs.Limits.{most_callers, most_windows, most_rules, most_roles, most_tenants, most_weekly, most_freezes}
use Rattle.fab_policy_base.specs.Policies.{CallerRow, WindowRow, RuleRow, PolicyRows}
use Rattle.fab_policy_text.specs.Shapes.{EachMeans, IsList, IsTable, IsWord}
use Rattle.fab_policy_text.specs.Tables.{IsCallerTable, IsWindowTable, IsRuleTable, IsPolicyTable, SpellsPolicy}
use Rattle.fab_policy_base.specs.Words.{key_word, action_word, scope_word}
use Rattle.fab_policy_base.specs.declared.key.Key.TheVariants as key
use Rattle.fab_policy_base.specs.declared.policy.Action.{Action}
use Rattle.fab_policy_base.specs.declared.policy.Action.TheVariants as action
use Rattle.fab_policy_base.specs.declared.policy.Quorum.{Quorum}
use Rattle.fab_policy_base.specs.declared.policy.Scope.{Scope}
use Rattle.fab_policy_base.specs.declared.policy.Scope.TheVariants as scope
use Rattle.fab_policy_text.proofs.Refused.{array_no_text, gone}
use Rattle.fab_policy_text.proofs.Same.{some_one, maybe_one, table_by, name_one, rule_name_one, token_one}

-- a value means one thing at most
abbrev pub One : {X : Type 0} → (Data → X → Type 0) → Type 0
One {X} R = (d : Data) (x y : X) → R d x → R d y → x ≡ y

each_one : {X : Type 0} (R : Data → X → Type 0) → One R → (ds : Items) (xs ys : List X) → EachMeans R ds xs → EachMeans R ds ys → xs ≡ ys
each_one R one no_items [] [] a b = refl
each_one R one no_items [] (y ∷ ys) a b = absurd b
each_one R one no_items (x ∷ xs) ys a b = absurd a
each_one R one (item d ds) [] ys a b = absurd a
each_one R one (item d ds) (x ∷ xs) [] a b = absurd b
each_one R one (item d ds) (x ∷ xs) (y ∷ ys) a b = λ i. one d x y a.0 b.0 i ∷ each_one R one ds xs ys a.1 b.1 i

items_one : {X : Type 0} (R : Data → X → Type 0) → One R → (d : Data) (ds es : Items) (xs ys : List X) → as_array d ≡ Some ds → as_array d ≡ Some es → EachMeans R ds xs → EachMeans R es ys → xs ≡ ys
items_one R one d ds es xs ys p q a b = each_one R one ds xs ys a (subst (λ is. EachMeans R is ys) (same_Some es ds (sym q ∙ p)) b)

list_one : {X : Type 0} (R : Data → X → Type 0) (limit : ℕ) → One R → One (IsList R limit)
list_one R limit one d xs ys a b = items_one R one d a.items b.items xs ys a.array b.array a.each b.each

maybe_list : {X : Type 0} (R : Data → X → Type 0) (limit : ℕ) → One R → (o : Option Data) (xs ys : List X) → MatchOption o (xs ≡ []) (λ d. IsList R limit d xs) → MatchOption o (ys ≡ []) (λ d. IsList R limit d ys) → xs ≡ ys
maybe_list R limit one None xs ys a b = a ∙ sym b
maybe_list R limit one (Some d) xs ys a b = list_one R limit one d xs ys a b

-- a word stands for one thing, where the thing is found by its word
word_one : {X : Type 0} (word : X → List ℕ) (named : List ℕ → X) → ((x : X) → named (word x) ≡ x) → One (IsWord word)
word_one word named back d x y a b = sym (back x) ∙ ap named (same_Some (word x) (word y) (sym a ∙ b)) ∙ back y

abbrev fabric_named : List ℕ → Fabric
fabric_named t = cond (is_same t (codes "A")) fabric.A fabric.B

fabric_back : (f : Fabric) → fabric_named (fabric_text f) ≡ f
fabric_back fabric.A = refl
fabric_back fabric.B = refl

abbrev action_named : List ℕ → Action
action_named t =
    cond (is_same t (codes "import")) action.Import
    (cond (is_same t (codes "inventory")) action.Inventory
    (cond (is_same t (codes "stage")) action.Stage
    (cond (is_same t (codes "withdraw")) action.Withdraw
    (cond (is_same t (codes "approve")) action.Approve
    (cond (is_same t (codes "dryrun")) action.DryRun
    (cond (is_same t (codes "activate")) action.Activate action.Rollback))))))

action_back : (a : Action) → action_named (action_word a) ≡ a
action_back action.Import = refl
action_back action.Inventory = refl
action_back action.Stage = refl
action_back action.Withdraw = refl
action_back action.Approve = refl
action_back action.DryRun = refl
action_back action.Activate = refl
action_back action.Rollback = refl

scope_back : (s : Scope) → scope.Own ≡ s
scope_back scope.Own = refl

tenants_one : One AreTenants
tenants_one d None None a b = refl
tenants_one d None (Some ys) a b = let none = array_no_text d b.items b.array in cc
tenants_one d (Some xs) None a b = let none = array_no_text d a.items a.array in cc
tenants_one d (Some xs) (Some ys) a b = ap Some (list_one IsName most_tenants name_one d xs ys a b)

span_from : (d : Data) (f g u v : ℕ) → IsSpan d f u → IsSpan d g v → f ≡ g
span_from d f g u v a b = cc

span_until : (d : Data) (f g u v : ℕ) → IsSpan d f u → IsSpan d g v → u ≡ v
span_until d f g u v a b = cc

week_span_one : One IsWeekSpan
week_span_one d x y a b = λ i. record { from = span_from d x.from y.from x.until y.until a.0 b.0 i; until = span_until d x.from y.from x.until y.until a.0 b.0 i }

freeze_one : One IsFreeze
freeze_one d x y a b = λ i. record { from = span_from d x.from y.from x.until y.until a b i; until = span_until d x.from y.from x.until y.until a b i }

actions_one : One AreActions
actions_one d x y a b = items_one (IsWord action_word) (word_one action_word action_named action_back) d a.items b.items x y a.array b.array a.each b.each

count_one : One IsCount
count_one d x y a b = let p = a.0 in let q = b.0 in cc

flag_one : (o : Option Data) (x y : Bool) → MatchOption o (x ≡ false) (λ d. IsFlag d x) → MatchOption o (y ≡ false) (λ d. IsFlag d y) → x ≡ y
flag_one None x y a b = a ∙ sym b
flag_one (Some d) x y a b = same_Some x y (sym a ∙ b)

quorum_one : (ms : Members) (x y : Option Quorum) → QuorumIn ms x → QuorumIn ms y → x ≡ y
quorum_one ms None None a b = refl
quorum_one ms None (Some y) a b = gone (get_member (key_word key.Approvals) ms) _ a.count b.count
quorum_one ms (Some x) None a b = gone (get_member (key_word key.Approvals) ms) _ b.count a.count
quorum_one ms (Some x) (Some y) a b =
    let count : x.count ≡ y.count = some_one IsCount count_one (get_member (key_word key.Approvals) ms) x.count y.count a.count b.count in
    let approver : x.approver ≡ y.approver = maybe_one IsName name_one (get_member (key_word key.Approver) ms) x.approver y.approver a.approver b.approver in
    let fresh : x.fresh ≡ y.fresh = flag_one (get_member (key_word key.Fresh) ms) x.fresh y.fresh a.fresh b.fresh in
    let each_tenant : x.each_tenant ≡ y.each_tenant = flag_one (get_member (key_word key.EachTenant) ms) x.each_tenant y.each_tenant a.each_tenant b.each_tenant in
    λ i. Some (record { count = count i; approver = approver i; fresh = fresh i; each_tenant = each_tenant i })

caller_one : (ms : Members) (x y : CallerRow) → IsCallerTable ms x → IsCallerTable ms y → x ≡ y
caller_one ms x y a b =
    let name : x.name ≡ y.name = some_one IsName name_one (get_member (key_word key.Name) ms) x.name y.name a.name b.name in
    let token : x.token ≡ y.token = some_one IsToken token_one (get_member (key_word key.Token) ms) x.token y.token a.token b.token in
    let roles : x.roles ≡ y.roles = some_one (IsList IsName most_roles) (list_one IsName most_roles name_one) (get_member (key_word key.Roles) ms) x.roles y.roles a.roles b.roles in
    let tenants : x.tenants ≡ y.tenants = some_one AreTenants tenants_one (get_member (key_word key.Tenants) ms) x.tenants y.tenants a.tenants b.tenants in
    λ i. record { name = name i; token = token i; roles = roles i; tenants = tenants i }

window_one : (ms : Members) (x y : WindowRow) → IsWindowTable ms x → IsWindowTable ms y → x ≡ y
window_one ms x y a b =
    let name : x.name ≡ y.name = some_one IsName name_one (get_member (key_word key.Name) ms) x.name y.name a.name b.name in
    let weekly : x.weekly ≡ y.weekly = some_one (IsList IsWeekSpan most_weekly) (list_one IsWeekSpan most_weekly week_span_one) (get_member (key_word key.Weekly) ms) x.weekly y.weekly a.weekly b.weekly in
    let freeze : x.freeze ≡ y.freeze = maybe_list IsFreeze most_freezes freeze_one (get_member (key_word key.Freeze) ms) x.freeze y.freeze a.freeze b.freeze in
    λ i. record { name = name i; weekly = weekly i; freeze = freeze i }

rule_one : (ms : Members) (x y : RuleRow) → IsRuleTable ms x → IsRuleTable ms y → x ≡ y
rule_one ms x y a b =
    let name : x.name ≡ y.name = some_one IsRuleName rule_name_one (get_member (key_word key.Name) ms) x.name y.name a.name b.name in
    let actions : x.actions ≡ y.actions = some_one AreActions actions_one (get_member (key_word key.Actions) ms) x.actions y.actions a.actions b.actions in
    let fabric : x.fabric ≡ y.fabric = maybe_one (IsWord fabric_text) (word_one fabric_text fabric_named fabric_back) (get_member (key_word key.Fabric) ms) x.fabric y.fabric a.fabric b.fabric in
    let role : x.role ≡ y.role = maybe_one IsName name_one (get_member (key_word key.Role) ms) x.role y.role a.role b.role in
    let scope : x.scope ≡ y.scope = maybe_one (IsWord scope_word) (word_one scope_word (λ t. scope.Own) scope_back) (get_member (key_word key.Scope) ms) x.scope y.scope a.scope b.scope in
    let window : x.window ≡ y.window = maybe_one IsName name_one (get_member (key_word key.Window) ms) x.window y.window a.window b.window in
    let approvals : x.approvals ≡ y.approvals = quorum_one ms x.approvals y.approvals a.approvals b.approvals in
    λ i. record { name = name i; actions = actions i; fabric = fabric i; role = role i; scope = scope i; window = window i; approvals = approvals i }

rows_one : {X : Type 0} (T : Members → X → Type 0) (limit : ℕ) → ((ms : Members) (x y : X) → T ms x → T ms y → x ≡ y) → (o : Option Data) (xs ys : List X) → MatchOption o (xs ≡ []) (λ d. IsList (IsTable T) limit d xs) → MatchOption o (ys ≡ []) (λ d. IsList (IsTable T) limit d ys) → xs ≡ ys
rows_one T limit one o xs ys a b = maybe_list (IsTable T) limit (λ d x y p q. table_by (λ x. x) T one (as_table d) x y p q) o xs ys a b

table_one : (ms : Members) (p q : PolicyRows) → IsPolicyTable ms p → IsPolicyTable ms q → p ≡ q
table_one ms p q a b =
    let callers : p.callers ≡ q.callers = rows_one IsCallerTable most_callers caller_one (get_member (key_word key.Callers) ms) p.callers q.callers a.callers b.callers in
    let windows : p.windows ≡ q.windows = rows_one IsWindowTable most_windows window_one (get_member (key_word key.Windows) ms) p.windows q.windows a.windows b.windows in
    let rules : p.rules ≡ q.rules = rows_one IsRuleTable most_rules rule_one (get_member (key_word key.Rules) ms) p.rules q.rules a.rules b.rules in
    λ i. record { callers = callers i; windows = windows i; rules = rules i }

-- two policies that a text spells are one
pub policy_one : (text : List ℕ) (p q : PolicyRows) → SpellsPolicy text p → SpellsPolicy text q → p ≡ q
policy_one text p q a b = table_one a.0 p q a.2 (subst (λ ms. IsPolicyTable ms q) (same_Some b.0 a.0 (sym b.1 ∙ a.1)) b.2)
