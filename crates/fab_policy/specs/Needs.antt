-- The words for needs.
use Rattle.std.specs.Prelude.{ℕ, List, codes}
use Rattle.fab_policy.specs.declared.act.Need.{Need}
use Rattle.fab_policy.specs.declared.act.Need.TheVariants as need

-- the word for a need
abbrev pub need_word : Need → List ℕ
need_word need.Rule = codes "rule"
need_word need.Role = codes "role"
need_word need.Scope = codes "scope"
need_word need.Window = codes "window"
need_word need.Approvals = codes "approvals"
need_word need.Tenants = codes "tenants"
