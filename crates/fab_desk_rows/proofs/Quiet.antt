-- Turns by which no activation begins or ends.
use Rattle.std.proofs.Common.{◌≡◌, sym, ap, ◌∙◌, subst}
use Rattle.fab_store_rows.specs.declared.record_row.PlanState.TheVariants as state
use Rattle.fab_world.specs.PlanRecords.{PlanRecord}
use Rattle.fab_world.specs.Plans.{state_of}
use Rattle.fab_desk_commands.specs.Nexts.{turned, Leads}
use Rattle.fab_desk_commands.specs.declared.next.Turn.{Turn}
use Rattle.fab_desk_commands.specs.declared.next.Turn.TheVariants.{Withdrawn}

pub staged_idle : (p : PlanRecord) → state_of p.standing ≡ state.Staged → ¬ (state_of p.standing ≡ state.Active)
staged_idle p is h = let no : state.Staged ≡ state.Active = sym is ∙ h in absurd cc

-- the plan is not active, neither before nor after
abbrev pub IsQuiet : {A : Type 0} → Turn A → PlanRecord → Type 0
IsQuiet t p = (¬ (state_of p.standing ≡ state.Active)) × ¬ (state_of (turned t p).standing ≡ state.Active)

pub withdrawn_quiet : {A : Type 0} (t : Turn A) (p : PlanRecord) → t ≡ Withdrawn → Leads t p → IsQuiet t p
withdrawn_quiet {A} t p is leads = (
  staged_idle p (subst (λ (u : Turn A). Leads u p) is leads),
  λ h. let no : state.Withdrawn ≡ state.Active = ap (λ (u : Turn A). state_of (turned u p).standing) (sym is) ∙ h in absurd cc,
)
