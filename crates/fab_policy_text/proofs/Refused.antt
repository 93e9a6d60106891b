-- A table with a fault is no policy's.
use Rattle.std.proofs.Common.{◌≡◌, ℕ, Bool, false, List, [], ◌∷◌, Option, Some, None, IsSome, sym, subst, ◌∙◌, refl, inl, inr, ◌⊎◌, codes}
use Rattle.std.specs.Prelude.{IsSomeAnd, MatchOption}
use mathlib.Core.Bool.{true≢false}
use Rattle.fab_names.specs.Fabrics.{fabric_text}
use Rattle.std.proofs.lemmas.Option.{same_Some}
use Rattle.toml.specs.Data.{Data, Items, no_items, item, Members, get_member, as_array, as_str, string, integer, float, boolean, datetime, array, table}
use Rattle.toml.specs.Parse.{parse_document}
use Rattle.fab_policy_text.specs.Forms.{IsName, IsToken, AreTenants, TenantsFault, IsWeekSpan, IsFreeze, IsRuleName, RuleNameFault, AreActions, ActionsFault, IsCount, IsFlag, QuorumIn, QuorumFault}
use Rattle.fab_policy_base.specs.Policies.{PolicyRows}
use Rattle.fab_policy_text.specs.Shapes.{EachMeans, IsList, IsTable, IsWord, MeansNothing, ItemFault, ListFault, TableFault, WordFault}
use Rattle.fab_policy_base.specs.Limits.{most_callers, most_windows, most_rules, most_roles, most_tenants, most_weekly, most_freezes}
use Rattle.fab_policy_base.specs.Sound.{AreDistinct, HaveWindows}
use Rattle.fab_policy_text.specs.Tables.{IsCallerTable, CallerFault, IsWindowTable, WindowFault, IsRuleTable, RuleFault, IsPolicyTable, PolicyTableFault, caller_keys, window_keys, rule_keys, policy_keys, IsRepeated, LacksWindow, SpellsPolicy}
use Rattle.fab_policy_base.specs.Words.{key_word, action_word, scope_word}
use Rattle.fab_policy_base.specs.declared.fault.PolicyFault.{PolicyFault}
use Rattle.fab_policy_base.specs.declared.fault.PolicyFault.TheVariants as fault
use Rattle.fab_policy_base.specs.declared.key.Key.{Key}
use Rattle.fab_policy_base.specs.declared.key.Key.TheVariants as key
use Rattle.fab_policy_text.proofs.Excluded as excluded
use Rattle.fab_policy_text.proofs.Excluded.{Excludes, ExcludesTable}
use Rattle.fab_policy_text.proofs.Same.{same_names_callers, same_tokens, same_names_windows, same_names_rules, same_windows}

-- an array is no text
pub array_no_text : (d : Data) (items : Items) → as_array d ≡ Some items → as_str d ≡ None
array_no_text (string s) items h = cc
array_no_text (integer z) items h = refl
array_no_text (float x) items h = refl
array_no_text (boolean b) items h = refl
array_no_text (datetime dt) items h = refl
array_no_text (array ds) items h = refl
array_no_text (table ms) items h = refl

tenants : (key : Key) → Excludes (TenantsFault key) AreTenants
tenants key d e None f h =
    (subst (λ o. MatchOption o (ListFault (MeansNothing IsName) most_tenants key d e) (λ text. (e ≡ fault.WrongType key) × ¬ (text ≡ codes "*"))) h f).1 refl
tenants key d e (Some names) f h =
    excluded.list (MeansNothing IsName) most_tenants key IsName (excluded.nothing IsName key) d e names
    (subst (λ o. MatchOption o (ListFault (MeansNothing IsName) most_tenants key d e) (λ text. (e ≡ fault.WrongType key) × ¬ (text ≡ codes "*"))) (array_no_text d h.items h.array) f) h

pub caller : ExcludesTable CallerFault IsCallerTable
caller ms e c (CallerFault.in_name f) h = excluded.at key.Name (MeansNothing IsName) IsName (excluded.nothing IsName key.Name) ms e c.name f h.name
caller ms e c (CallerFault.in_token f) h = excluded.at key.Token (MeansNothing IsToken) IsToken (excluded.nothing IsToken key.Token) ms e c.token f h.token
caller ms e c (CallerFault.in_roles f) h = excluded.at key.Roles (ListFault (MeansNothing IsName) most_roles) (IsList IsName most_roles) (excluded.list (MeansNothing IsName) most_roles key.Roles IsName (excluded.nothing IsName key.Roles)) ms e c.roles f h.roles
caller ms e c (CallerFault.in_tenants f) h = excluded.at key.Tenants TenantsFault AreTenants (tenants key.Tenants) ms e c.tenants f h.tenants
caller ms e c (CallerFault.other_key f) h = excluded.other caller_keys ms e f h.only

pub window : ExcludesTable WindowFault IsWindowTable
window ms e w (WindowFault.in_name f) h = excluded.at key.Name (MeansNothing IsName) IsName (excluded.nothing IsName key.Name) ms e w.name f h.name
window ms e w (WindowFault.in_weekly f) h = excluded.at key.Weekly (ListFault (MeansNothing IsWeekSpan) most_weekly) (IsList IsWeekSpan most_weekly) (excluded.list (MeansNothing IsWeekSpan) most_weekly key.Weekly IsWeekSpan (excluded.nothing IsWeekSpan key.Weekly)) ms e w.weekly f h.weekly
window ms e w (WindowFault.in_freeze f) h = excluded.list_at key.Freeze (MeansNothing IsFreeze) IsFreeze most_freezes (excluded.nothing IsFreeze key.Freeze) ms e w.freeze f h.freeze
window ms e w (WindowFault.other_key f) h = excluded.other window_keys ms e f h.only

rule_name : (key : Key) → Excludes (RuleNameFault key) IsRuleName
rule_name key d e name (inl f) h = f.1 name h.0
rule_name key d e name (inr f) h = h.1 (same_Some name (codes "no-rule") (sym h.0.0 ∙ f.0.0))

none_means : {X : Type 0} (R : Data → X → Type 0) (ds : Items) (xs : List X) → ds ≡ no_items → EachMeans R ds xs → xs ≡ []
none_means R no_items [] e h = refl
none_means R no_items (x ∷ xs) e h = absurd h
none_means R (item d ds) xs e h = cc

actions : (key : Key) → Excludes (ActionsFault key) AreActions
actions key d e acts f h =
    let f : ((e ≡ fault.WrongType key) × (h.items ≡ no_items)) ⊎ ItemFault (WordFault action_word) key h.items e =
    subst (λ o. MatchOption o (e ≡ fault.WrongType key) (λ items. ((e ≡ fault.WrongType key) × (items ≡ no_items)) ⊎ ItemFault (WordFault action_word) key items e)) h.array f in
    elim f as (λ _. ⊥) [
      | inl empty ↦ h.some (none_means (IsWord action_word) h.items acts empty.1 h.each)
      | inr wrong ↦ excluded.items (WordFault action_word) (IsWord action_word) key (excluded.word action_word key) h.items e acts wrong h.each
    ]

-- what is there is not missing
pub gone : {P : Type 0} (o : Option Data) (Q : Data → Type 0) → o ≡ None → IsSomeAnd o Q → P
gone None Q e h = absurd h
gone (Some d) Q e h = cc

flagged : (at : Key) (o : Option Data) (e : PolicyFault) (b : Bool) → IsSomeAnd o (λ d. MeansNothing IsFlag at d e) → MatchOption o (b ≡ false) (λ d. IsFlag d b) → ⊥
flagged at None e b f h = f
flagged at (Some d) e b f h = f.1 b h

counted : (o : Option Data) (e : PolicyFault) (n : ℕ) → IsSomeAnd o (λ d. MeansNothing IsCount key.Approvals d e) → IsSomeAnd o (λ d. IsCount d n) → ⊥
counted None e n f h = f
counted (Some d) e n f h = f.1 n h

some_none : (o : Option Data) → o ≡ None → IsSome o → ⊥
some_none None e h = true≢false (sym h)
some_none (Some d) e h = cc

pub quorum : ExcludesTable QuorumFault QuorumIn
quorum ms e None (QuorumFault.no_count none there is) h =
    elim there as (λ _. ⊥) [
      | inl approver ↦ some_none _ h.approver approver
      | inr more ↦ elim more as (λ _. ⊥) [ inl fresh ↦ some_none _ h.fresh fresh | inr each ↦ some_none _ h.each_tenant each ]
    ]
quorum ms e None (QuorumFault.in_count f) h = gone (get_member (key_word key.Approvals) ms) _ h.count f
quorum ms e None (QuorumFault.in_approver f) h = gone (get_member (key_word key.Approver) ms) _ h.approver f
quorum ms e None (QuorumFault.in_fresh f) h = gone (get_member (key_word key.Fresh) ms) _ h.fresh f
quorum ms e None (QuorumFault.in_each_tenant f) h = gone (get_member (key_word key.EachTenant) ms) _ h.each_tenant f
quorum ms e (Some q) (QuorumFault.no_count none there is) h = gone (get_member (key_word key.Approvals) ms) _ none h.count
quorum ms e (Some q) (QuorumFault.in_count f) h = counted (get_member (key_word key.Approvals) ms) e q.count f h.count
quorum ms e (Some q) (QuorumFault.in_approver f) h = excluded.maybe key.Approver (MeansNothing IsName) IsName (excluded.nothing IsName key.Approver) ms e q.approver f h.approver
quorum ms e (Some q) (QuorumFault.in_fresh f) h = flagged key.Fresh (get_member (key_word key.Fresh) ms) e q.fresh f h.fresh
quorum ms e (Some q) (QuorumFault.in_each_tenant f) h = flagged key.EachTenant (get_member (key_word key.EachTenant) ms) e q.each_tenant f h.each_tenant

pub rule : ExcludesTable RuleFault IsRuleTable
rule ms e r (RuleFault.in_name f) h = excluded.at key.Name RuleNameFault IsRuleName (rule_name key.Name) ms e r.name f h.name
rule ms e r (RuleFault.in_actions f) h = excluded.at key.Actions ActionsFault AreActions (actions key.Actions) ms e r.actions f h.actions
rule ms e r (RuleFault.in_fabric f) h = excluded.maybe key.Fabric (WordFault fabric_text) (IsWord fabric_text) (excluded.word fabric_text key.Fabric) ms e r.fabric f h.fabric
rule ms e r (RuleFault.in_role f) h = excluded.maybe key.Role (MeansNothing IsName) IsName (excluded.nothing IsName key.Role) ms e r.role f h.role
rule ms e r (RuleFault.in_scope f) h = excluded.maybe key.Scope (WordFault scope_word) (IsWord scope_word) (excluded.word scope_word key.Scope) ms e r.scope f h.scope
rule ms e r (RuleFault.in_window f) h = excluded.maybe key.Window (MeansNothing IsName) IsName (excluded.nothing IsName key.Window) ms e r.window f h.window
rule ms e r (RuleFault.in_approvals f) h = quorum ms e r.approvals f h.approvals
rule ms e r (RuleFault.other_key f) h = excluded.other rule_keys ms e f h.only

-- what is repeated is not distinct
repeats : (texts names others : List (List ℕ)) (e : PolicyFault) → texts ≡ others → IsRepeated texts names e → AreDistinct others → ⊥
repeats texts names others e same f h = subst AreDistinct (sym same) h f.place f.repeats

-- a window that is missing is not there
misses : (asked asks : List (Option (List ℕ))) (names others : List (List ℕ)) (e : PolicyFault) → asked ≡ asks → names ≡ others → LacksWindow asked names e → HaveWindows asks others → ⊥
misses asked asks names others e same_asked same f h =
    let there = subst (λ a. HaveWindows a names) (sym same_asked) (subst (HaveWindows asks) (sym same) h) in
    true≢false (sym (there f.0 f.1.0) ∙ f.1.1)

pub policy : ExcludesTable PolicyTableFault IsPolicyTable
policy ms e p (PolicyTableFault.in_callers f) h = excluded.list_at key.Callers (TableFault CallerFault) (IsTable IsCallerTable) most_callers (excluded.inside CallerFault IsCallerTable key.Callers caller) ms e p.callers f h.callers
policy ms e p (PolicyTableFault.in_windows f) h = excluded.list_at key.Windows (TableFault WindowFault) (IsTable IsWindowTable) most_windows (excluded.inside WindowFault IsWindowTable key.Windows window) ms e p.windows f h.windows
policy ms e p (PolicyTableFault.in_rules f) h = excluded.list_at key.Rules (TableFault RuleFault) (IsTable IsRuleTable) most_rules (excluded.inside RuleFault IsRuleTable key.Rules rule) ms e p.rules f h.rules
policy ms e p (PolicyTableFault.repeated_caller cs read f) h = repeats _ _ _ e (same_names_callers ms cs p.callers read h.callers) f h.distinct_callers
policy ms e p (PolicyTableFault.repeated_token cs read f) h = repeats _ _ _ e (same_tokens ms cs p.callers read h.callers) f h.distinct_tokens
policy ms e p (PolicyTableFault.repeated_window ws read f) h = repeats _ _ _ e (same_names_windows ms ws p.windows read h.windows) f h.distinct_windows
policy ms e p (PolicyTableFault.repeated_rule rs read f) h = repeats _ _ _ e (same_names_rules ms rs p.rules read h.rules) f h.distinct_rules
policy ms e p (PolicyTableFault.unknown_window ws rs windows rules f) h = misses _ _ _ _ e (same_windows ms rs p.rules rules h.rules) (same_names_windows ms ws p.windows windows h.windows) f h.windows_there
policy ms e p (PolicyTableFault.other_key f) h = excluded.other policy_keys ms e f h.only

-- a text whose table has a fault spells no policy
pub text : (t : List ℕ) (ms : Members) (e : PolicyFault) (p : PolicyRows) → parse_document t ≡ Some ms → PolicyTableFault ms e → SpellsPolicy t p → ⊥
text t ms e p parsed f h = policy ms e p f (subst (λ ns. IsPolicyTable ns p) (same_Some h.0 ms (sym h.1 ∙ parsed)) h.2)
