-- A line of plans shows one plan at most, and a plan is shown by one line.
use Rattle.std.proofs.Common.{ℕ, ◌≡◌, List, get_or, refl, sym, ap, ◌∙◌, arith}
use Rattle.fab_store_rows.specs.declared.record_row.PlanState.{PlanState}
use Rattle.fab_store_rows.specs.declared.record_row.PlanState.TheVariants.{Staged, Active, RolledBack, Withdrawn}
use Rattle.fab_store_rows.specs.PlanEntries.{PlanEntry}
use Rattle.fab_store_rows.specs.PlanStates.{state_text}
use Rattle.fab_store_columns.specs.PlanLines.{PlanColumns, ShowsPlan}
use Rattle.fab_store_columns.proofs.Unique.{one_name, same_name, one_number}

-- the first characters of the words of states
abbrev first_of : PlanState → ℕ
first_of s = get_or (state_text s) 0 0

same_first : (s t : PlanState) → state_text s ≡ state_text t → first_of s ≡ first_of t
same_first s t e = ap (λ (x : List ℕ). get_or x 0 0) e

one_state : (s t : PlanState) → state_text s ≡ state_text t → s ≡ t
one_state Staged Staged e = refl
one_state Staged Active e = absurd (omega (arith, same_first Staged Active e))
one_state Staged RolledBack e = absurd (omega (arith, same_first Staged RolledBack e))
one_state Staged Withdrawn e = absurd (omega (arith, same_first Staged Withdrawn e))
one_state Active Staged e = absurd (omega (arith, same_first Active Staged e))
one_state Active Active e = refl
one_state Active RolledBack e = absurd (omega (arith, same_first Active RolledBack e))
one_state Active Withdrawn e = absurd (omega (arith, same_first Active Withdrawn e))
one_state RolledBack Staged e = absurd (omega (arith, same_first RolledBack Staged e))
one_state RolledBack Active e = absurd (omega (arith, same_first RolledBack Active e))
one_state RolledBack RolledBack e = refl
one_state RolledBack Withdrawn e = absurd (omega (arith, same_first RolledBack Withdrawn e))
one_state Withdrawn Staged e = absurd (omega (arith, same_first Withdrawn Staged e))
one_state Withdrawn Active e = absurd (omega (arith, same_first Withdrawn Active e))
one_state Withdrawn RolledBack e = absurd (omega (arith, same_first Withdrawn RolledBack e))
one_state Withdrawn Withdrawn e = refl

pub one_plan : (l : PlanColumns) (p q : PlanEntry) → ShowsPlan l p → ShowsPlan l q → p ≡ q
one_plan l p q h k =
    let name = one_name l.name p.name q.name h.name k.name in
    let author = one_name l.author p.author q.author h.author k.author in
    let text = sym h.text ∙ k.text in
    let state = one_state p.state q.state (sym h.state ∙ k.state) in
    let position = one_number _ _ l.position p.position q.position h.position k.position in
    λ i. record { name = name i; author = author i; text = text i; state = state i; position = position i }

pub one_plan_line : (l m : PlanColumns) (r : PlanEntry) → ShowsPlan l r → ShowsPlan m r → l ≡ m
one_plan_line l m r h k =
    let name = same_name l.name m.name r.name h.name k.name in
    let author = same_name l.author m.author r.author h.author k.author in
    let text = h.text ∙ sym k.text in
    let state = h.state ∙ sym k.state in
    let position = h.position.value ∙ sym k.position.value in
    λ i. record { name = name i; author = author i; text = text i; state = state i; position = position i }
