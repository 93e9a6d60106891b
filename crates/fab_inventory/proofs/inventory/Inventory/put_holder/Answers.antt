use Rattle.std.proofs.Common.{◌≡◌, ◌≢◌, ◌<◌, ◌≤◌, ℕ, List, Option, Some, is_some, sym, ap, ◌∙◌, subst, arith, refl}
use mathlib.Core.Bool.{true≢false}
use Rattle.fab_names.proofs.OrderLaws.{name_total}
use Rattle.fab_inventory.specs.declared.holder.Holder.{Holder}
use Rattle.fab_inventory.specs.declared.holder.HolderKind.{HolderKind}
use Rattle.fab_inventory.specs.declared.fault.InventoryFault.TheVariants.{WrongKind, Limit}
use Rattle.fab_inventory.specs.declared.fault.InventoryLimit.TheVariants.{Holders}
use Rattle.fab_inventory.specs.Holders.{IsPortFault}
use Rattle.fab_inventory.specs.Inventories.{InventoryRows, IsSound, CanPutHolder, IsHolderPut, PutHolderFails}
use Rattle.fab_inventory.proofs.Changes.{seen, seen_same, on_err, put_made, known_seen, free_seen, kind_seen, port_look_ups, holder_look_ups, port_fails}
use Rattle.fab_lemmas.proofs.SeenMaps.{len_entries}
use Rattle.fab_inventory.proofs.inventory.Inventory.put_holder.Goals as goal
use Rattle.fab_inventory.proofs.inventory.Inventory.put_holder.Given.{Over}
use Rattle.fab_inventory.proofs.inventory.Inventory.put_holder.Goals.{After-hand_over_all, else-len-ge-MOST_HOLDERS-via-then-len-ge-MOST_HOLDERS+else-not-contains_key, else-len-ge-MOST_HOLDERS-via-else-len-ge-MOST_HOLDERS}

pub returns-then-is_other_kind-clause-err : goal.returns-then-is_other_kind-clause-err
returns-then-is_other_kind-clause-err g c =
    let P : Option HolderKind → Type 0 = λ o. (j : HolderKind) × (o ≡ Some j) × (j ≢ c.args.kind) in
    subst (λ (v : InventoryRows). PutHolderFails v c.args.name c.args.kind c.args.ports.now (WrongKind c.args.name)) c.self.view_is
    (omega arith, refl, kind_seen c.self.inside.ports c.self.inside.holders c.self.inside.volumes P c.args.name (subst P c.kind_of-known.ensures c.if-is_other_kind.ensures.yes))

pub returns-in-Some-clause-err : goal.returns-in-Some-clause-err
returns-in-Some-clause-err g c =
    let P : Option HolderKind → Type 0 = λ o. (j : HolderKind) → o ≡ Some j → j ≡ c.args.kind in
    subst (λ (v : InventoryRows). PutHolderFails v c.args.name c.args.kind c.args.ports.now c.in-Some.fault) c.self.view_is
    (port_fails (seen c.self.inside.ports c.self.inside.holders c.self.inside.volumes) c.args.name c.args.kind c.args.ports.now c.in-Some.fault (omega arith) (kind_seen c.self.inside.ports c.self.inside.holders c.self.inside.volumes P c.args.name (subst P c.kind_of-known.ensures c.if-is_other_kind.ensures.no))
    (subst (λ f. IsPortFault f c.args.name c.args.ports.now c.in-Some.fault) (port_look_ups c.self.inside.ports c.self.inside.holders c.self.inside.volumes) c.in-Some.ensures.fault))

pub returns-then-not-contains_key-clause-err : goal.returns-then-not-contains_key-clause-err
returns-then-not-contains_key-clause-err g c =
    let P : Option HolderKind → Type 0 = λ o. (j : HolderKind) → o ≡ Some j → j ≡ c.args.kind in
    subst (λ (v : InventoryRows). PutHolderFails v c.args.name c.args.kind c.args.ports.now (Limit Holders)) c.self.view_is (
      omega arith,
      kind_seen c.self.inside.ports c.self.inside.holders c.self.inside.volumes P c.args.name (subst P c.kind_of-known.ensures c.if-is_other_kind.ensures.no),
      known_seen c.self.inside.ports c.self.inside.holders c.self.inside.volumes c.args.ports.now c.in_default.ensures.known,
      free_seen c.self.inside.ports c.self.inside.holders c.self.inside.volumes c.args.name c.args.ports.now c.in_default.ensures.free,
      ap (λ (f : List ℕ → Option Holder). is_some (f c.args.name)) (sym (holder_look_ups c.self.inside.ports c.self.inside.holders c.self.inside.volumes)) ∙ sym c.contains_key.ensures ∙ c.if-not-contains_key.true,
      subst (λ n. 2048 ≤ n) (sym (len_entries name_total c.self.inside.holders.entries c.len.ensures.ordered)) (omega (arith, c.len.ensures.len)),
    )

can_put : (g : Over) (c : After-hand_over_all g) → CanPutHolder (seen c.self.inside.ports c.self.inside.holders c.self.inside.volumes) c.args.name c.args.kind c.args.ports.now
can_put g c =
    let P : Option HolderKind → Type 0 = λ o. (j : HolderKind) → o ≡ Some j → j ≡ c.args.kind in
    record {
      few = omega arith;
      kind = kind_seen c.self.inside.ports c.self.inside.holders c.self.inside.volumes P c.args.name (subst P c.kind_of-known.ensures c.if-is_other_kind.ensures.no);
      known = known_seen c.self.inside.ports c.self.inside.holders c.self.inside.volumes c.args.ports.now c.in_default.ensures.known;
      free = free_seen c.self.inside.ports c.self.inside.holders c.self.inside.volumes c.args.name c.args.ports.now c.in_default.ensures.free;
      room = λ fresh. elim c.else-len-ge-MOST_HOLDERS.branch [
        | else-len-ge-MOST_HOLDERS-via-then-len-ge-MOST_HOLDERS+else-not-contains_key w ↦ absurd (true≢false (sym w.if-not-contains_key.false ∙ w.contains_key.ensures ∙ ap (λ (f : List ℕ → Option Holder). is_some (f c.args.name)) (holder_look_ups c.self.inside.ports c.self.inside.holders c.self.inside.volumes) ∙ fresh))
        | else-len-ge-MOST_HOLDERS-via-else-len-ge-MOST_HOLDERS w ↦ subst (λ n. n < 2048) (sym (len_entries name_total c.self.inside.holders.entries c.len.ensures.ordered)) (omega (arith, c.len.ensures.len))
      ];
    }

pub returns-clause-can : goal.returns-clause-can
returns-clause-can g c =
    subst (λ (v : InventoryRows). CanPutHolder v c.args.name c.args.kind c.args.ports.now) c.self.view_is (can_put g c)

pub returns-clause-ok : goal.returns-clause-ok
returns-clause-ok g c =
    subst (λ (v : InventoryRows). IsHolderPut c.args.name (record { kind = c.args.kind; tenant = c.args.tenant }) c.args.ports.now v (seen c.hand_over_all.new.ports c.insert.new.self c.self.inside.volumes)) c.self.view_is
    (put_made c.self.inside.ports c.self.inside.holders c.self.inside.volumes c.args.name (record { kind = c.args.kind; tenant = c.args.tenant }) c.args.ports.now c.hand_over_all.new.ports c.insert.new.self c.self.invariant (can_put g c) c.in_ok-insert.ensures.updates.0 c.hand_over_all.ensures.ports c.hand_over_all.ensures.few).0

pub invariant_of-self-2 : goal.invariant_of-self-2
invariant_of-self-2 g c =
    (put_made c.self.inside.ports c.self.inside.holders c.self.inside.volumes c.args.name (record { kind = c.args.kind; tenant = c.args.tenant }) c.args.ports.now c.hand_over_all.new.ports c.insert.new.self c.self.invariant (can_put g c) c.in_ok-insert.ensures.updates.0 c.hand_over_all.ensures.ports c.hand_over_all.ensures.few).1

pub returns-clause-sound : goal.returns-clause-sound
returns-clause-sound g c =
    (put_made c.self.inside.ports c.self.inside.holders c.self.inside.volumes c.args.name (record { kind = c.args.kind; tenant = c.args.tenant }) c.args.ports.now c.hand_over_all.new.ports c.insert.new.self c.self.invariant (can_put g c) c.in_ok-insert.ensures.updates.0 c.hand_over_all.ensures.ports c.hand_over_all.ensures.few).1

pub returns-then-ports-gt-MOST_PORTS_OF_HOLDER-clause-sound : goal.returns-then-ports-gt-MOST_PORTS_OF_HOLDER-clause-sound
returns-then-ports-gt-MOST_PORTS_OF_HOLDER-clause-sound g c = subst IsSound c.self.view_is c.self.invariant

pub returns-then-is_other_kind-clause-sound : goal.returns-then-is_other_kind-clause-sound
returns-then-is_other_kind-clause-sound g c = subst IsSound c.self.view_is c.self.invariant

pub returns-in-Some-clause-sound : goal.returns-in-Some-clause-sound
returns-in-Some-clause-sound g c = subst IsSound c.self.view_is c.self.invariant

pub returns-then-not-contains_key-clause-sound : goal.returns-then-not-contains_key-clause-sound
returns-then-not-contains_key-clause-sound g c = subst IsSound c.self.view_is c.self.invariant

pub invariant_of-self : goal.invariant_of-self
invariant_of-self g c =
    subst IsSound (sym (seen_same c.self.inside.ports c.self.inside.holders c.self.inside.volumes c.self.inside.ports c.insert.new.self c.self.inside.volumes refl c.in_err-insert.ensures.err refl)) c.self.invariant

pub returns-in_err-insert-clause-sound : goal.returns-in_err-insert-clause-sound
returns-in_err-insert-clause-sound g c =
    subst IsSound (sym (seen_same c.self.inside.ports c.self.inside.holders c.self.inside.volumes c.self.inside.ports c.insert.new.self c.self.inside.volumes refl c.in_err-insert.ensures.err refl)) c.self.invariant

pub returns-in_err-insert-clause-unchanged : goal.returns-in_err-insert-clause-unchanged
returns-in_err-insert-clause-unchanged g c =
    on_err c.from_residual.result (seen_same c.self.inside.ports c.self.inside.holders c.self.inside.volumes c.self.inside.ports c.insert.new.self c.self.inside.volumes refl c.in_err-insert.ensures.err refl ∙ c.self.view_is)
