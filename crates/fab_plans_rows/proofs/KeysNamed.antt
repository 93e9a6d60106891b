-- Keys that are gathered step by step, and rows that stand at none of them.
use Rattle.std.proofs.Common.{◌≡◌, ◌<◌, ◌+◌, ℕ, zero, suc, length, take, get_or, List, [], ◌∷◌, ◌++◌, cond, true, Contains, inl, inr, refl, sym, ap, ◌∙◌, subst, arith}
use Rattle.std.specs.BTreeMap.{is_at}
use Rattle.std.specs.BTreeSet.{BTreeSet, contains}
use Rattle.std.proofs.lemmas.List.{take_more}
use Rattle.std.proofs.lemmas.List.Elements.{Contains-push_cases}
use Rattle.fab_inventory.specs.Inventories.{InventoryRows}
use Rattle.fab_reach_base.specs.Records.{ConfigRows}
use Rattle.fab_reach_base.proofs.Sets.{adds_insert}
use Rattle.fab_store_rows.specs.declared.config_row.ConfigRow.{ConfigRow}
use Rattle.fab_store_rows.specs.declared.row_key.RowKey.{RowKey}
use Rattle.fab_store_rows.specs.Keys.{key_of, key_cmp, HasKey, AgreeElsewhere}
use Rattle.fab_store_rows.proofs.OrderOfKeys.{key_total, key_exact}
use Rattle.fab_plans_base.specs.Steps.{PlanStep}
use Rattle.fab_plans.specs.Outcomes.{AllDone}
use Rattle.fab_plans_rows.specs.Keys.{step_key, HasKeys}
use Rattle.fab_plans_rows.proofs.Steps.{IsElsewhere, no_key}

-- one step more
pub one_more : (s n : BTreeSet RowKey) (steps : List PlanStep) (i : ℕ) (step : PlanStep) (k : RowKey) → i < length steps → step ≡ get_or steps i step → k ≡ step_key step
    → ((q : RowKey) → contains key_cmp n q ≡ cond (is_at (key_cmp k) q) true (contains key_cmp s q)) → HasKeys s (take i steps) → HasKeys n (take (i + 1) steps)
one_more s n steps i step k less at is u has x there =
    let a = adds_insert key_total key_exact s n k u in
    elim (Contains-push_cases (take i steps) step x (subst (λ xs. Contains xs x) (take_more steps i step less ∙ ap (λ y. take i steps ++ y ∷ []) (sym at)) there)) [
      | inl old ↦ a.kept (step_key x) (has x old)
      | inr e ↦ subst (λ y. HasKey n (step_key y)) e (a.there (step_key step) (sym is))
    ]

-- a row at none of the keys is at no step's
elsewhere : (s : BTreeSet RowKey) (steps : List PlanStep) → HasKeys s steps → (r : ConfigRow) → ¬ HasKey s (key_of r) → IsElsewhere steps r
elsewhere s [] has r other = tt
elsewhere s (step ∷ steps) has r other = (
  (λ e. other (subst (HasKey s) (sym e) (has step (zero, omega arith, refl)))),
  elsewhere s steps (λ x there. has x (suc there.0, omega (arith, there.1), there.2)) r other,
)

-- steps change rows at their keys alone
pub agree : (v : InventoryRows) (s : BTreeSet RowKey) (steps : List PlanStep) (c d : ConfigRows) → AllDone v steps c d → HasKeys s steps → AgreeElsewhere s c d
agree v s steps c d done has = λ r other. no_key v steps c d done r (elsewhere s steps has r other)
