-- No step passes a port straight from one holder to another.
use Rattle.std.proofs.Common.{ℕ, zero, suc, ◌≡◌, ◌<◌, inl, inr, List, [], refl, sym, ap, ◌∙◌, subst, arith}
use Rattle.std.specs.FinMap as map
use Rattle.std.proofs.lemmas.Bool.{cases_lt}
use Rattle.std.proofs.lemmas.Option.{same_Some}
use Rattle.fab_reach_base.specs.fab_inventory.declared.holder.Holder.{Holder}
use Rattle.fab_reach_base.specs.fab_inventory.declared.holder.HolderKind.TheVariants as kind
use Rattle.fab_reach_base.specs.fab_inventory.Holders.{PortLookUp, IsLeast, IsHeldIn, IsHeldByOther, AreFree, Holds, holder_in}
use Rattle.fab_reach_base.specs.fab_inventory.Inventories.{InventoryRows, IsHolderPut, IsHolderDropped}
use Rattle.fab_reach_base.specs.fab_inventory.Ports.{KnownPorts}
use Rattle.fab_reach_base.proofs.fab_inventory.NameTests.{same_name_tells}
use Rattle.fab_reach_base.proofs.fab_inventory.Soundness.{held_from, same_holder}
use Rattle.fab_policy.specs.fab_policy_base.Policies.{PolicyRows}
use Rattle.fab_world.specs.fab_plans.declared.fault.Item.TheVariants as item
use Rattle.fab_world.specs.fab_plans_base.Steps.{PlanStep}
use Rattle.fab_world.specs.Worlds.{WorldRows, records_of}
use Rattle.fab_desk_base.specs.Answers.{IsCarriedOut, Request, IsStep}
use Rattle.fab_desk_base.specs.Effects.{StageMakes}
use Rattle.fab_desk_base.specs.Keeping.{KeepsHosts}
use Rattle.fab_desk_base.specs.Refusals.{free_ports, IsDone}
use Rattle.fab_desk_base.specs.declared.command.Command.{Command}
use Rattle.fab_desk_base.specs.declared.command.Command.TheVariants.{Import, PutHolder, PutVolume, DropHolder, DropVolume, Stage, Withdraw, Approve, DryRun, Activate, Rollback, Show}
use Rattle.fab_desk_base.specs.declared.fault.DeskFault.TheVariants as fault
use Rattle.fab_desk_base.specs.declared.reply.Reply.{Reply}
use Rattle.fab_desk_base.proofs.Ends.{kept_or_done}

-- ---- holders

-- each port that is held before and after has one holder
abbrev Keeps : KnownPorts → KnownPorts → Type 0
Keeps old new = (q : ℕ) (h g : List ℕ) → Holds (map.get old) h q → Holds (map.get new) g q → g ≡ h

-- ports that stay as they are stay with their holders
ports_stay : (old new : KnownPorts) → new ≡ old → Keeps old new
ports_stay old new same q h g was is = same_Some g h (sym is ∙ ap (λ m. holder_in (map.get m) q) same ∙ was)

-- where no number is the least with P, none has it
pub no_least : (P : ℕ → Type 0) → ((q : ℕ) → ¬ IsLeast P q) → (q : ℕ) → ¬ P q
no_least P none q has = below (suc q) q (omega arith) has
  where
    below : (n q : ℕ) → q < n → ¬ P q
    below zero q lt has = omega (arith, lt)
    below (suc n) q lt has = none q (has, λ r p. elim (cases_lt r q) [ inl less ↦ absurd (below n r (omega arith) p) | inr le ↦ le ])

-- where no listed port is the least that another holds, they are free
are_free : (ports : PortLookUp) (n listed : List ℕ) → ((q : ℕ) (h : List ℕ) → IsLeast (IsHeldIn ports n listed) q → ¬ IsHeldByOther ports n q h) → AreFree ports n listed
are_free ports n listed none q h there held = elim (same_name_tells h n) [
  | inl same ↦ same.1
  | inr apart ↦ absurd (no_least (IsHeldIn ports n listed) (λ r least. none r least.0.1.0 least least.0.1.1) q (there, (h, (held, apart.1))))
]

put_keeps : (n : List ℕ) (holder : Holder) (listed : List ℕ) (old new : InventoryRows) → AreFree (map.get old.ports) n listed → IsHolderPut n holder listed old new → Keeps old.ports new.ports
put_keeps n holder listed old new free put q h g was is = elim (held_from n listed old.ports new.ports put.ports q g is) [
  | inl there ↦ there.1 ∙ sym (free q h there.0 was)
  | inr stays ↦ same_Some g h (sym stays.0 ∙ was)
]

drop_keeps : (n : List ℕ) (old new : InventoryRows) → IsHolderDropped n old new → Keeps old.ports new.ports
drop_keeps n old new drop q h g was is = elim (held_from n [] old.ports new.ports drop.ports q g is) [
  | inl there ↦ absurd (omega (arith, there.0.1))
  | inr stays ↦ same_Some g h (sym stays.0 ∙ was)
]

-- ---- commands

-- the ports of a world
abbrev ports_of : WorldRows → KnownPorts
ports_of w = w.inventory.ports

stage_keeps : (w : WorldRows) (author n : List ℕ) (steps : List PlanStep) (new : WorldRows) → StageMakes w author n steps new → KeepsHosts (records_of w) (records_of new)
stage_keeps w author n steps new (inl h) = ports_stay (ports_of w) (ports_of new) (ap ports_of h.1)
stage_keeps w author n steps new (inr h) = ports_stay (ports_of w) (ports_of new) (ap ports_of h.1)

module _ {A : Type 0} (w : WorldRows) (caller : List ℕ) where
  pub done_keeps : (c : Command A) (new : WorldRows) → IsDone w caller c new → KeepsHosts (records_of w) (records_of new)
  done_keeps (Import f rows) new d = subst (λ x. Keeps (ports_of w) (ports_of x)) (sym d.makes.2) (λ q h g was is. same_Some g h (sym is ∙ same_holder f rows.items (ports_of w) d.makes.0 d.makes.1 q ∙ was))
  done_keeps (PutHolder kind.Host n t ports) new d = subst (λ x. Keeps (ports_of w) (ports_of x)) (sym d.makes.2)
      (put_keeps n (record { kind = kind.Host; tenant = t }) ports.items w.inventory d.makes.0 (are_free (map.get (ports_of w)) n ports.items (λ q h least other. d.passes free_ports (fault.InUse (item.Port q) h) (q, h, (refl, (least, other))))) d.makes.1)
  done_keeps (PutHolder kind.Array n t ports) new d = subst (λ x. Keeps (ports_of w) (ports_of x)) (sym d.makes.2)
      (put_keeps n (record { kind = kind.Array; tenant = t }) ports.items w.inventory d.makes.0 (are_free (map.get (ports_of w)) n ports.items (λ q h least other. d.passes free_ports (fault.InUse (item.Port q) h) (q, h, (refl, (least, other))))) d.makes.1)
  done_keeps (PutVolume n x) new d = ports_stay (ports_of w) (ports_of new) (ap ports_of d.makes)
  done_keeps (DropHolder k n) new d = subst (λ x. Keeps (ports_of w) (ports_of x)) (sym d.makes.2) (drop_keeps n w.inventory d.makes.0 d.makes.1)
  done_keeps (DropVolume n) new d = ports_stay (ports_of w) (ports_of new) (ap ports_of d.makes)
  done_keeps (Stage n steps) new d = stage_keeps w caller n steps.items new d.makes
  done_keeps (Withdraw n) new d = ports_stay (ports_of w) (ports_of new) (ap ports_of d.makes.2)
  done_keeps (Approve n) new d = ports_stay (ports_of w) (ports_of new) (ap ports_of d.makes.2)
  done_keeps (DryRun n) new d = absurd d.makes
  done_keeps (Activate n) new d = ports_stay (ports_of w) (ports_of new) (ap ports_of d.makes.makes)
  done_keeps (Rollback n) new d = ports_stay (ports_of w) (ports_of new) (ap ports_of d.makes.makes)
  done_keeps (Show q) new d = absurd d.makes

  left_keeps : (c : Command A) (effect new : WorldRows) → new ≡ effect → IsDone w caller c effect → KeepsHosts (records_of w) (records_of new)
  left_keeps c effect new same d = subst (λ x. KeepsHosts (records_of w) (records_of x)) (sym same) (done_keeps c effect d)

  carried_out : (p : PolicyRows) (id moment : ℕ) (c : Command A) (r : Reply A) (new : WorldRows) → IsCarriedOut p w id caller moment c r new → KeepsHosts (records_of w) (records_of new)
  carried_out p id moment (DryRun n) r new h = ports_stay (ports_of w) (ports_of new) (ap ports_of h.left)
  carried_out p id moment (Import f rows) r new h = left_keeps (Import f rows) h.effect new h.left h.is
  carried_out p id moment (PutHolder k n t ports) r new h = left_keeps (PutHolder k n t ports) h.effect new h.left h.is
  carried_out p id moment (PutVolume n x) r new h = left_keeps (PutVolume n x) h.effect new h.left h.is
  carried_out p id moment (DropHolder k n) r new h = left_keeps (DropHolder k n) h.effect new h.left h.is
  carried_out p id moment (DropVolume n) r new h = left_keeps (DropVolume n) h.effect new h.left h.is
  carried_out p id moment (Stage n steps) r new h = left_keeps (Stage n steps) h.effect new h.left h.is
  carried_out p id moment (Withdraw n) r new h = left_keeps (Withdraw n) h.effect new h.left h.is
  carried_out p id moment (Approve n) r new h = left_keeps (Approve n) h.effect new h.left h.is
  carried_out p id moment (Activate n) r new h = left_keeps (Activate n) h.effect new h.left h.is
  carried_out p id moment (Rollback n) r new h = left_keeps (Rollback n) h.effect new h.left h.is
  carried_out p id moment (Show q) r new h = absurd h.report

pub keeps_hosts : {A : Type 0} (p : PolicyRows) (w : WorldRows) (q : Request A) (r : Reply A) (new : WorldRows) → IsStep p w q r new → KeepsHosts (records_of w) (records_of new)
keeps_hosts p w q r new (inl h) = ports_stay (ports_of w) (ports_of new) (ap ports_of h.1.1)
keeps_hosts p w q r new (inr (id, caller, only, row, h)) = elim (kept_or_done p w id caller.name q.moment q.command r new h) [
  | inl same ↦ ports_stay (ports_of w) (ports_of new) (ap ports_of same)
  | inr done ↦ carried_out w caller.name p id q.moment q.command r new done
]
