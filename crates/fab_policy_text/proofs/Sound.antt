-- A table that is a policy's tells a sound one.
use Rattle.std.proofs.Common.{◌≡◌, ℕ, ◌<◌, ◌≤◌, List, [], ◌∷◌, length, Option, Some, None, ap, arith}
use Rattle.std.specs.Prelude.{IsSomeAnd, IfSome, MatchOption, All, codes}
use Rattle.std.proofs.lemmas.List.Elements.{All-nil, All-cons, All-same}
use Rattle.toml.specs.Data.{Data, Items, no_items, item, Members, get_member, as_table}
use Rattle.fab_names.specs.Tokens.{IsTokenText}
use Rattle.fab_policy_text.specs.Forms.{IsName, IsToken, AreTenants, IsWeekSpan, IsFreeze, IsRuleName, AreActions, IsCount, QuorumIn}
use Rattle.fab_policy_base.specs.Limits.{most_callers, most_windows, most_rules, most_roles, most_tenants, most_weekly, most_freezes, most_approvals, week_minutes}
use Rattle.fab_policy_base.specs.Policies.{TenantNames, CallerRow, WindowRow, RuleRow, PolicyRows}
use Rattle.fab_policy_text.specs.Shapes.{EachMeans, IsList, IsTable}
use Rattle.fab_policy_base.specs.Sound.{IsCaller, IsWindow, IsRule, IsSound}
use Rattle.fab_policy_text.specs.Tables.{IsCallerTable, IsWindowTable, IsRuleTable, IsPolicyTable}
use Rattle.fab_policy_base.specs.Words.{key_word}
use Rattle.fab_policy_base.specs.declared.key.Key.TheVariants as key
use Rattle.fab_policy_base.specs.declared.policy.Quorum.{Quorum}

-- what holds of all that values may mean holds of each of a list's elements
each_all : {X : Type 0} (R : Data → X → Type 0) (P : X → Type 0) → ((d : Data) (x : X) → R d x → P x) → (ds : Items) (xs : List X) → EachMeans R ds xs → All P xs
each_all R P f no_items [] h = All-nil P
each_all R P f no_items (x ∷ xs) h = absurd h
each_all R P f (item d ds) [] h = absurd h
each_all R P f (item d ds) (x ∷ xs) h = All-cons P x xs (f d x h.0) (each_all R P f ds xs h.1)

-- a list that may be missing
pub record AreFew {X : Type 0} (P : X → Type 0) (limit : ℕ) (xs : List X) : Type 0 where
  pub all : All P xs
  pub few : length xs ≤ limit

few : {X : Type 0} (R : Data → X → Type 0) (P : X → Type 0) (limit : ℕ) → ((d : Data) (x : X) → R d x → P x) → (o : Option Data) (xs : List X) → MatchOption o (xs ≡ []) (λ d. IsList R limit d xs) → AreFew P limit xs
few R P limit f None xs h = let none = ap length h in record { all = All-same P xs [] h (All-nil P); few = omega (arith, none) }
few R P limit f (Some d) xs h = record { all = each_all R P f h.items xs h.each; few = h.short }

-- a value that is there
there : {X : Type 0} (R : Data → X → Type 0) (P : X → Type 0) → ((d : Data) (x : X) → R d x → P x) → (o : Option Data) (x : X) → IsSomeAnd o (λ d. R d x) → P x
there R P f None x h = absurd h
there R P f (Some d) x h = f d x h

in_table : {X : Type 0} (T : Members → X → Type 0) (P : X → Type 0) → ((ms : Members) (x : X) → T ms x → P x) → (o : Option Members) (x : X) → IsSomeAnd o (λ ms. T ms x) → P x
in_table T P f None x h = absurd h
in_table T P f (Some ms) x h = f ms x h

few_tenants : (d : Data) (t : TenantNames) → AreTenants d t → IfSome t (λ names. length names ≤ most_tenants)
few_tenants d None h = tt
few_tenants d (Some names) h = h.short

caller : (ms : Members) (c : CallerRow) → IsCallerTable ms c → IsCaller c
caller ms c h = record {
  token = there IsToken IsTokenText (λ d t k. k.1) (get_member (key_word key.Token) ms) c.token h.token;
  roles = there (IsList IsName most_roles) (λ xs. length xs ≤ most_roles) (λ d xs k. k.short) (get_member (key_word key.Roles) ms) c.roles h.roles;
  tenants = there AreTenants (λ t. IfSome t (λ names. length names ≤ most_tenants)) few_tenants (get_member (key_word key.Tenants) ms) c.tenants h.tenants;
}

window : (ms : Members) (w : WindowRow) → IsWindowTable ms w → IsWindow w
window ms w h =
    let spans = there (IsList IsWeekSpan most_weekly) (AreFew (λ s. (s.from < s.until) × (s.until ≤ week_minutes)) most_weekly)
    (λ d xs k. record { all = each_all IsWeekSpan (λ s. (s.from < s.until) × (s.until ≤ week_minutes)) (λ e s m. (m.0.before, m.1)) k.items xs k.each; few = k.short })
    (get_member (key_word key.Weekly) ms) w.weekly h.weekly in
    let freezes = few IsFreeze (λ f. f.from < f.until) most_freezes (λ d f k. k.before) (get_member (key_word key.Freeze) ms) w.freeze h.freeze in
    record { few_weekly = spans.few; few_freezes = freezes.few; weekly = spans.all; freezes = freezes.all }

quorum : (ms : Members) (o : Option Quorum) → QuorumIn ms o → IfSome o (λ q. (1 ≤ q.count) × (q.count ≤ most_approvals))
quorum ms None h = tt
quorum ms (Some q) h = there IsCount (λ n. (1 ≤ n) × (n ≤ most_approvals)) (λ d n k. (k.1, k.2)) (get_member (key_word key.Approvals) ms) q.count h.count

rule : (ms : Members) (r : RuleRow) → IsRuleTable ms r → IsRule r
rule ms r h = record {
  named = there IsRuleName (λ name. ¬ (name ≡ codes "no-rule")) (λ d name k. k.1) (get_member (key_word key.Name) ms) r.name h.name;
  actions = there AreActions (λ actions. ¬ (actions ≡ [])) (λ d actions k. k.some) (get_member (key_word key.Actions) ms) r.actions h.actions;
  approvals = quorum ms r.approvals h.approvals;
}

rows : {X : Type 0} (T : Members → X → Type 0) (P : X → Type 0) (limit : ℕ) → ((ms : Members) (x : X) → T ms x → P x) → (o : Option Data) (xs : List X) → MatchOption o (xs ≡ []) (λ d. IsList (IsTable T) limit d xs) → AreFew P limit xs
rows T P limit f o xs h = few (IsTable T) P limit (λ d x k. in_table T P f (as_table d) x k) o xs h

pub policy : (ms : Members) (p : PolicyRows) → IsPolicyTable ms p → IsSound p
policy ms p h =
    let callers = rows IsCallerTable IsCaller most_callers caller (get_member (key_word key.Callers) ms) p.callers h.callers in
    let windows = rows IsWindowTable IsWindow most_windows window (get_member (key_word key.Windows) ms) p.windows h.windows in
    let rules = rows IsRuleTable IsRule most_rules rule (get_member (key_word key.Rules) ms) p.rules h.rules in
    record {
      names = h.distinct_callers;
      tokens = h.distinct_tokens;
      windows_named = h.distinct_windows;
      rules_named = h.distinct_rules;
      windows_there = h.windows_there;
      few_callers = callers.few;
      few_windows = windows.few;
      few_rules = rules.few;
      callers = callers.all;
      windows = windows.all;
      rules = rules.all;
    }
