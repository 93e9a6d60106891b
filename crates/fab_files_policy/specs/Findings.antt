-- The lines of what a policy finds of an act.
use Rattle.std.specs.Prelude.{ℕ, Bool, true, false, not, ◌&&◌, ◌||◌, List, [], ◌∷◌, ◌++◌, Option, Some, None, codes, decimal}
use Rattle.std.specs.List.{flat_map}
use Rattle.fab_policy.specs.Needs.{need_word}
use Rattle.fab_policy.specs.declared.act.Verdict.{Verdict}
use Rattle.fab_policy.specs.declared.act.Verdict.TheVariants.{Allowed, Denied}
use Rattle.fab_policy_looks.specs.declared.found.QuorumNeed.{QuorumNeed}
use Rattle.fab_policy_looks.specs.declared.found.RoleNeed.{RoleNeed}
use Rattle.fab_policy_looks.specs.declared.found.RuleFinding.{RuleFinding}
use Rattle.fab_policy_looks.specs.declared.found.WindowNeed.{WindowNeed}

-- whether a need is met, at the end of its line
unfoldable pub met_words : Bool → List ℕ
met_words true = codes ": met\n"
met_words false = codes ": not met\n"

-- a need by its word and a name
unfoldable pub named_words : List ℕ → List ℕ → List ℕ
named_words word name = word ++ (name ++ codes "`")

abbrev pub role_line : Option RoleNeed → List ℕ
role_line None = []
role_line (Some n) = named_words (codes "  role `") n.role ++ met_words n.is_met

abbrev pub scope_line : Option Bool → List ℕ
scope_line None = []
scope_line (Some true) = codes "  scope `own`: met\n"
scope_line (Some false) = codes "  scope `own`: not met\n"

-- when a window opens that is not open
unfoldable pub opens_words : ℕ → List ℕ
opens_words moment = codes ": not met, opens at " ++ (decimal moment ++ 10 ∷ [])

abbrev pub shut_words : Option ℕ → List ℕ
shut_words None = codes ": not met, never opens\n"
shut_words (Some moment) = opens_words moment

abbrev pub window_words : Bool → Option ℕ → List ℕ
window_words true opens = codes ": met\n"
window_words false opens = shut_words opens

abbrev pub window_line : Option WindowNeed → List ℕ
window_line None = []
window_line (Some n) = named_words (codes "  window `") n.window ++ window_words n.is_met n.opens

-- how many callers count for a quorum, of how many
unfoldable pub quorum_words : ℕ → ℕ → List ℕ
quorum_words counted asked = codes "  approvals " ++ (decimal counted ++ (codes " of " ++ decimal asked))

-- whether each tenant is signed for, where that is asked for
abbrev pub tenants_line : Bool → Bool → List ℕ
tenants_line false signed = []
tenants_line true true = codes "  each_tenant: met\n"
tenants_line true false = codes "  each_tenant: not met\n"

abbrev pub quorum_lines : Option QuorumNeed → List ℕ
quorum_lines None = []
quorum_lines (Some n) = quorum_words n.counted n.asked ++ (met_words n.is_met ++ tenants_line n.each_tenant n.is_each_signed)

-- ---- whether all needs are met

abbrev pub is_role_met : Option RoleNeed → Bool
is_role_met None = true
is_role_met (Some n) = n.is_met

abbrev pub is_scope_met : Option Bool → Bool
is_scope_met None = true
is_scope_met (Some met) = met

abbrev pub is_window_met : Option WindowNeed → Bool
is_window_met None = true
is_window_met (Some n) = n.is_met

abbrev pub is_quorum_met : Option QuorumNeed → Bool
is_quorum_met None = true
is_quorum_met (Some n) = n.is_met && (not n.each_tenant || n.is_each_signed)

abbrev pub holds : RuleFinding → Bool
holds f = is_role_met f.role && (is_scope_met f.scope && (is_window_met f.window && is_quorum_met f.approvals))

-- ---- rules and the verdict

abbrev pub holds_word : Bool → List ℕ
holds_word true = codes "` holds\n"
holds_word false = codes "` fails\n"

-- a rule by its number and its name
unfoldable pub rule_words : ℕ → List ℕ → List ℕ
rule_words number name = codes "rule " ++ (decimal number ++ (codes " `" ++ name))

abbrev pub needs_lines : RuleFinding → List ℕ
needs_lines f = (role_line f.role ++ scope_line f.scope) ++ (window_line f.window ++ quorum_lines f.approvals)

-- a line for the rule, and one for each of its needs
abbrev pub finding_lines : RuleFinding → List ℕ
finding_lines f = rule_words f.number f.name ++ (holds_word (holds f) ++ needs_lines f)

abbrev pub findings_lines : List RuleFinding → List ℕ
findings_lines fs = flat_map finding_lines fs

-- what is in the way
unfoldable pub denied_words : ℕ → List ℕ → List ℕ → List ℕ
denied_words number name need = codes "denied: rule " ++ (decimal number ++ (codes " `" ++ (name ++ (codes "`, need " ++ (need ++ 10 ∷ [])))))

abbrev pub verdict_line : Verdict → List ℕ
verdict_line Allowed = codes "allowed\n"
verdict_line (Denied number name need) = denied_words number name (need_word need)

-- of each rule that applies whether it holds, with its needs, and then the verdict
abbrev pub explained_text : List RuleFinding → Verdict → List ℕ
explained_text fs v = findings_lines fs ++ verdict_line v
