-- A plan has one outcome.
use Rattle.std.proofs.Common.{◌≡◌, ◌<◌, ◌+◌, ℕ, zero, suc, List, [], ◌∷◌, length, take, Some, slice_get, sym, ap, ◌∙◌, subst, inl, inr, arith}
use Rattle.std.specs.FinSet as set
use Rattle.std.specs.Ordering.{nat_cmp, ordering_then}
use Rattle.std.proofs.lemmas.List.{take_all}
use Rattle.std.proofs.lemmas.Option.{slice_get_within, same_Some, none-some}
use Rattle.fab_reach_base.proofs.fab_names.OrderLaws.{both_equal, name_exact}
use Rattle.fab_reach_base.specs.fab_names.Orders.{name_cmp}
use Rattle.fab_reach_base.specs.fab_inventory.Inventories.{InventoryRows}
use Rattle.fab_reach_base.proofs.fab_mapping_base.NexusOrder.{nexus_total}
use Rattle.fab_reach_base.specs.fab_mapping_base.Nexuses.{nexus_cmp}
use Rattle.fab_reach_base.specs.fab_mapping_base.declared.nexus.Nexus.{Nexus}
use Rattle.fab_reach_base.specs.fab_mapping.Mappings.{MappingRows, IsLeastClash}
use Rattle.fab_reach_base.specs.Records.{ConfigRows}
use Rattle.fab_plans_text.specs.fab_plans_base.Steps.{PlanStep}
use Rattle.fab_plans.specs.Outcomes.{AllDone, IsOutcome, IsRefusedAt, IsClashAtEnd, IsRefusedOutcome}
use Rattle.fab_plans.specs.Steps.{StepDone, StepRefused}
use Rattle.fab_plans.specs.declared.fault.Refusal.{Refusal}
use Rattle.fab_plans.specs.declared.fault.Refusal.TheVariants.{Clash}
use Rattle.fab_plans.proofs.Facts.{one_value}
use Rattle.fab_plans.proofs.OneFirst.{compared, same_first}
use Rattle.fab_plans.proofs.OneStep.{one_step, one_refusal, done_or_refused}

-- nexuses that tie are equal
nexus_exact : set.IsAntisymmetric nexus_cmp
nexus_exact a b e =
    let first = both_equal (name_cmp a.host b.host) (ordering_then (nat_cmp a.target b.target) (nat_cmp a.unit b.unit)) e in
    let second = both_equal (nat_cmp a.target b.target) (nat_cmp a.unit b.unit) first.1 in
    λ i. record { host = name_exact a.host b.host first.0 i; target = set.nat_cmp-IsAntisymmetric a.target b.target second.0 i; unit = set.nat_cmp-IsAntisymmetric a.unit b.unit second.1 i }

-- the least clash is one
one_clash : (m : MappingRows) (a b : Nexus) → IsLeastClash m a → IsLeastClash m b → a ≡ b
one_clash m a b h k = same_first nexus_total nexus_exact a b (h.1 b k.0) (k.1 a h.0)

module _ (v : InventoryRows) where
  -- what steps make is one
  pub all_one : (steps : List PlanStep) (c a b : ConfigRows) → AllDone v steps c a → AllDone v steps c b → a ≡ b
  all_one [] c a b h k = h ∙ sym k
  all_one (s ∷ steps) c a b h k = all_one steps k.0 a b (subst (λ x. AllDone v steps x a) (one_step v s c h.0 k.0 h.1 k.1) h.2) k.2

  -- where a step is refused, the steps past it are not done
  not_past : (steps : List PlanStep) (i j : ℕ) (c b d : ConfigRows) (s : PlanStep) (r : Refusal) → i < j → slice_get steps i ≡ Some s → AllDone v (take i steps) c b → StepRefused v b s r → AllDone v (take j steps) c d → ⊥
  not_past [] i j c b d s r lt is h refused k = none-some s is
  not_past (t ∷ steps) i zero c b d s r lt is h refused k = omega (arith, lt)
  not_past (t ∷ steps) zero (suc j) c b d s r lt is h refused k =
      let here = subst (λ x. StepRefused v x s r) h refused in
      done_or_refused v s c k.0 r (subst (λ x. StepDone v x c k.0) (same_Some t s is) k.1) here
  not_past (t ∷ steps) (suc i) (suc j) c b d s r lt is h refused k =
      not_past steps i j k.0 b d s r (omega (arith, lt)) is (subst (λ x. AllDone v (take i steps) x b) (one_step v t c h.0 k.0 h.1 k.1) h.2) refused k.2

  module _ (steps : List PlanStep) (c : ConfigRows) where
    -- a plan that is refused at a step is not done
    refused_not_done : (n : ℕ) (r : Refusal) (a : ConfigRows) → IsRefusedAt v steps c n r → AllDone v steps c a → ⊥
    refused_not_done n r a h k =
        not_past steps h.at (length steps) c h.before a h.step r (slice_get_within steps h.at h.step h.is) h.is h.done h.refused (subst (λ ss. AllDone v ss c a) (sym (take_all (length steps) steps (omega arith))) k)

    -- two refusals at one step are one
    same_at : (m n : ℕ) (r q : Refusal) (h : IsRefusedAt v steps c m r) (k : IsRefusedAt v steps c n q) → h.at ≡ k.at → (m ≡ n) × (r ≡ q)
    same_at m n r q h k e =
        let step = one_value (sym (ap (slice_get steps) e) ∙ h.is) k.is in
        let before = all_one (take k.at steps) c h.before k.before (subst (λ i. AllDone v (take i steps) c h.before) e h.done) k.done in
        let first = subst (λ x. StepRefused v x k.step r) before (subst (λ s. StepRefused v h.before s r) step h.refused) in
        (h.number_is ∙ ap (λ i. i + 1) e ∙ sym k.number_is, one_refusal v k.step k.before r q first k.refused)

    refused_once : (m n : ℕ) (r q : Refusal) → IsRefusedAt v steps c m r → IsRefusedAt v steps c n q → (m ≡ n) × (r ≡ q)
    refused_once m n r q h k = elim (compared h.at k.at) [
      | inl lt ↦ absurd (not_past steps h.at k.at c h.before k.before h.step r lt h.is h.done h.refused k.done)
      | inr o ↦ elim o [ inl e ↦ same_at m n r q h k e | inr gt ↦ absurd (not_past steps k.at h.at c k.before h.before k.step q gt k.is k.done k.refused h.done) ]
    ]

    clash_once : (m n : ℕ) (r q : Refusal) → IsClashAtEnd v steps c m r → IsClashAtEnd v steps c n q → (m ≡ n) × (r ≡ q)
    clash_once m n r q h k =
        let after = all_one steps c h.after k.after h.done k.done in
        let nexus = one_clash k.after.mapping h.nexus k.nexus (subst (λ (x : ConfigRows). IsLeastClash x.mapping h.nexus) after h.least) k.least in
        (h.number_is ∙ sym k.number_is, h.refusal ∙ ap Clash nexus ∙ sym k.refusal)

    pub one_refused_outcome : (m n : ℕ) (r q : Refusal) → IsRefusedOutcome v steps c m r → IsRefusedOutcome v steps c n q → (m ≡ n) × (r ≡ q)
    one_refused_outcome m n r q (inl h) (inl k) = refused_once m n r q h k
    one_refused_outcome m n r q (inl h) (inr k) = absurd (refused_not_done m r k.after h k.done)
    one_refused_outcome m n r q (inr h) (inl k) = absurd (refused_not_done n q h.after k h.done)
    one_refused_outcome m n r q (inr h) (inr k) = clash_once m n r q h k

    pub outcome_or_refused : (a : ConfigRows) (n : ℕ) (r : Refusal) → IsOutcome v steps c a → IsRefusedOutcome v steps c n r → ⊥
    outcome_or_refused a n r h (inl k) = refused_not_done n r a k h.done
    outcome_or_refused a n r h (inr k) = h.no_clash k.nexus (subst (λ (x : ConfigRows). IsLeastClash x.mapping k.nexus) (all_one steps c k.after a k.done h.done) k.least).0
