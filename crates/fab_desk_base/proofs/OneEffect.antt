-- A command makes one world of another at most.
use Rattle.std.proofs.Common.{ℕ, ◌≡◌, ◌++◌, inl, inr, List, [], ◌∷◌, sym, ap, ◌∙◌, subst}
use Rattle.std.specs.FinMap as map
use Rattle.std.proofs.lemmas.List.{append_cancel_right}
use Rattle.std.proofs.lemmas.Option.{same_Some, none-some}
use Rattle.fab_reach_base.specs.fab_inventory.Inventories.{InventoryRows}
use Rattle.fab_reach_base.specs.fab_inventory.Ports.{KnownPorts}
use Rattle.fab_reach_base.specs.Records.{ConfigRows}
use Rattle.fab_world.specs.fab_store_rows.Differences.{StandsOnlyIn, IsDifference}
use Rattle.fab_world.specs.fab_store_rows.Standing.{Stands}
use Rattle.fab_world.specs.fab_store_rows.declared.config_row.ConfigRow.{ConfigRow}
use Rattle.fab_world.proofs.fab_store_rows.Determined.{one_list, one_config}
use Rattle.fab_world.proofs.fab_store_rows.RowLists.{stands_decided}
use Rattle.fab_world.specs.fab_plans.Outcomes.{AllDone}
use Rattle.fab_world.proofs.fab_plans.OnePlan.{all_one}
use Rattle.fab_world.specs.History.{IsEarlier}
use Rattle.fab_world.specs.PlanRecords.{PlanRecord, active, rolled_back, withdrawn}
use Rattle.fab_world.specs.Plans.{Change, undo_of}
use Rattle.fab_world.specs.Worlds.{WorldRows}
use Rattle.fab_desk_base.specs.Commands.{IsPlan}
use Rattle.fab_desk_base.specs.Effects.{counted, with_inventory, with_plan, IsBefore, ActivateMakes, RollbackMakes, Makes}
use Rattle.fab_desk_base.specs.declared.command.Command.{Command}
use Rattle.fab_desk_base.specs.declared.command.Command.TheVariants.{Import, PutHolder, PutVolume, DropHolder, DropVolume, Stage, Withdraw, Approve, DryRun, Activate, Rollback, Show}
use Rattle.fab_desk_base.proofs.OneInventory.{one_import, one_put, one_drop}

-- ---- what a command is about

pub one_plan : (w : WorldRows) (n : List ℕ) (p q : PlanRecord) → IsPlan w n p → IsPlan w n q → p ≡ q
one_plan w n p q a b = same_Some p q (sym a ∙ b)

-- what stood before a change stands in each configuration from before it
before_too : (after : ConfigRows) (change : Change) (b c : ConfigRows) → IsEarlier after change b → IsEarlier after change c → (r : ConfigRow) → Stands b r → Stands c r
before_too after change b c h k r s = elim (stands_decided after r) [
  | inl a ↦ elim (stands_decided c r) [
    | inl t ↦ t
    | inr n ↦ absurd ((h.differs.adds.sound r (k.differs.adds.complete r (record { there = a; not_there = n }))).not_there s)
  ]
  | inr n ↦ (k.differs.takes.sound r (h.differs.takes.complete r (record { there = s; not_there = n }))).there
]

pub one_earlier : (after : ConfigRows) (change : Change) (b c : ConfigRows) → IsEarlier after change b → IsEarlier after change c → b ≡ c
one_earlier after change b c h k = one_config b c h.sound.parts.zonings k.sound.parts.zonings (λ r. (before_too after change b c h k r, before_too after change c b k h r))

pub one_before : (w : WorldRows) (n : List ℕ) (p q : PlanRecord) (b c : ConfigRows) → IsBefore w n p b → IsBefore w n q c → b ≡ c
one_before w n p q b c h k =
    let same = one_plan w n p q h.is k.is in
    let change : h.change ≡ k.change = same_Some h.change k.change (sym h.undo ∙ ap (λ (x : PlanRecord). undo_of x.standing) same ∙ k.undo) in
    one_earlier w.config k.change b c (subst (λ x. IsEarlier w.config x b) change h.earlier) k.earlier

-- ---- what it makes

one_activation : (w : WorldRows) (n : List ℕ) (a b : WorldRows) → ActivateMakes w n a → ActivateMakes w n b → a ≡ b
one_activation w n a b h k =
    let plan = one_plan w n h.plan k.plan h.is k.is in
    let config : h.config ≡ k.config = all_one w.inventory k.plan.steps w.config h.config k.config (subst (λ (x : PlanRecord). AllDone w.inventory x.steps w.config h.config) plan h.outcome.done) k.outcome.done in
    let differs = subst (λ x. IsDifference w.config x h.change.taken h.change.added) config h.differs in
    let taken = one_list (StandsOnlyIn w.config k.config) h.change.taken k.change.taken differs.takes k.differs.takes in
    let added = one_list (StandsOnlyIn k.config w.config) h.change.added k.change.added differs.adds k.differs.adds in
    let made : (p : PlanRecord) (c : ConfigRows) (taken added : List ConfigRow) → WorldRows = λ p c taken added. counted (with_plan n (record p { standing = active taken added }) (record w { config = c; order = w.order ++ (n ∷ []) })) in
    h.makes ∙ (λ i. made (plan i) (config i) (taken i) (added i)) ∙ sym k.makes

one_rollback : (w : WorldRows) (n : List ℕ) (a b : WorldRows) → RollbackMakes w n a → RollbackMakes w n b → a ≡ b
one_rollback w n a b h k =
    let plan = one_plan w n h.plan k.plan h.is.is k.is.is in
    let before = one_before w n h.plan k.plan h.before k.before h.is k.is in
    let rest = append_cancel_right h.rest k.rest (n ∷ []) (sym h.last ∙ k.last) in
    let made : (p : PlanRecord) (c : ConfigRows) (order : List (List ℕ)) → WorldRows = λ p c order. counted (with_plan n (record p { standing = rolled_back }) (record w { config = c; order = order })) in
    h.makes ∙ (λ i. made (plan i) (before i) (rest i)) ∙ sym k.makes

pub one_effect : {A : Type 0} (w : WorldRows) (caller : List ℕ) (c : Command A) (a b : WorldRows) → Makes w caller c a → Makes w caller c b → a ≡ b
one_effect w caller (Import f rows) a b h k = h.2 ∙ ap (λ (ports : KnownPorts). counted (with_inventory (record w.inventory { ports = ports }) w)) (one_import f rows.items w.inventory.ports h.0 k.0 h.1 k.1) ∙ sym k.2
one_effect w caller (PutHolder kind n t ports) a b h k = h.2 ∙ ap (λ (v : InventoryRows). counted (with_inventory v w)) (one_put n (record { kind = kind; tenant = t }) ports.items w.inventory h.0 k.0 h.1 k.1) ∙ sym k.2
one_effect w caller (PutVolume n x) a b h k = h ∙ sym k
one_effect w caller (DropHolder kind n) a b h k = h.2 ∙ ap (λ (v : InventoryRows). counted (with_inventory v w)) (one_drop n w.inventory h.0 k.0 h.1 k.1) ∙ sym k.2
one_effect w caller (DropVolume n) a b h k = h ∙ sym k
one_effect w caller (Stage n steps) a b (inl h) (inl k) = h.1 ∙ sym k.1
one_effect w caller (Stage n steps) a b (inl h) (inr k) = absurd (none-some (h.0.0) (sym k.0 ∙ h.0.1))
one_effect w caller (Stage n steps) a b (inr h) (inl k) = absurd (none-some (k.0.0) (sym h.0 ∙ k.0.1))
one_effect w caller (Stage n steps) a b (inr h) (inr k) = h.1 ∙ sym k.1
one_effect w caller (Withdraw n) a b h k = h.2 ∙ ap (λ (p : PlanRecord). with_plan n (record p { standing = withdrawn }) w) (one_plan w n h.0 k.0 h.1 k.1) ∙ sym k.2
one_effect w caller (Approve n) a b h k = h.2 ∙ ap (λ (p : PlanRecord). with_plan n (record p { approvals = map.insert p.approvals caller w.revision }) w) (one_plan w n h.0 k.0 h.1 k.1) ∙ sym k.2
one_effect w caller (DryRun n) a b h k = absurd h
one_effect w caller (Activate n) a b h k = one_activation w n a b h k
one_effect w caller (Rollback n) a b h k = one_rollback w n a b h k
one_effect w caller (Show q) a b h k = absurd h
