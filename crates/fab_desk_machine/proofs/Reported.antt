-- What is reported of a change is so.
use Rattle.std.proofs.Common.{ℕ, ◌≡◌, ◌+◌, List, Bool, cond, is_some, Option, Some, length, refl, sym, ap, ◌∙◌}
use Rattle.std.specs.BTreeMap.{BTreeMap, IsOrdered, get}
use Rattle.std.specs.Cmp.{tied_itself}
use Rattle.std.specs.Ordering.{is_eq}
use Rattle.std.specs.FinMap as map
use Rattle.fab_reach_base.specs.fab_names.Orders.{name_cmp}
use Rattle.fab_reach_base.proofs.fab_names.OrderLaws.{name_total}
use Rattle.fab_reach_base.proofs.fab_lemmas.SeenMaps.{len_entries, same_look_ups}
use Rattle.fab_world.specs.PlanRecords.{PlanRecord}
use Rattle.fab_world.specs.Worlds.{WorldRows}
use Rattle.fab_desk_base.specs.Commands.{IsPlan}
use Rattle.fab_desk_base.specs.declared.command.Command.TheVariants.{Approve, Activate, Rollback}
use Rattle.fab_desk_base.specs.declared.reply.Reply.TheVariants as reply
use Rattle.fab_desk_machine.specs.Reports.{TellsOf}
use Rattle.fab_desk_machine.specs.declared.report.Report.TheVariants.{Approved, Reconfigured}

-- how many there are with one more
pub count_with : (t : BTreeMap (List ℕ) ℕ) (m : map.FinMap name_cmp ℕ) (caller : List ℕ) (revision : ℕ) (b : Bool) (n : ℕ) → map.from_entries t.entries ≡ m → IsOrdered name_cmp t → n ≡ length t.entries → b ≡ is_some (get name_cmp t caller)
    → cond b n (n + 1) ≡ map.len (map.insert m caller revision)
count_with t m caller revision b n is sorted count there =
    let seen = map.from_entries {R = name_cmp} t.entries in
    let size : n ≡ map.len m = count ∙ sym (len_entries name_total t.entries sorted) ∙ ap map.len is in
    let same : b ≡ map.contains_key m caller = there ∙ ap (λ (look : List ℕ → Option ℕ). is_some (look caller)) (same_look_ups name_total t seen refl) ∙ ap (λ x. map.contains_key x caller) is in
    (λ i. cond (same i) (size i) (size i + 1)) ∙ sym (map.len-insert name_total m caller revision)

module _ {A : Type 0} (w : WorldRows) (caller n : List ℕ) where
  pub approval_told : (count revision : ℕ) → revision ≡ w.revision → ((p : PlanRecord) → IsPlan w n p → (r : ℕ) → count ≡ map.len (map.insert p.approvals caller r)) → TellsOf {A = A} w caller (Approve n) (Approved n count revision)
  approval_told count revision same counts new is d move =
      let p = is.makes.0 in
      let now : PlanRecord = record p { approvals = map.insert p.approvals caller w.revision } in
      let at : revision ≡ new.revision = same ∙ sym (ap (λ (x : WorldRows). x.revision) is.makes.2) in
      let there : IsPlan new n now = ap (λ (x : WorldRows). map.get x.plans n) is.makes.2 ∙ map.get-insert name_total w.plans n now n ∙ ap (λ b. cond b (Some now) (map.get w.plans n)) (ap is_eq (tied_itself name_total n)) in
      (count, (λ i. reply.Approved n count (at i)), (now, there, counts p is.makes.1 w.revision))

  pub activation_told : (revision : ℕ) → revision ≡ w.revision → TellsOf {A = A} w caller (Activate n) (Reconfigured n (revision + 1))
  activation_told revision same new is d move =
      let at : revision + 1 ≡ new.revision = ap (λ r. r + 1) same ∙ sym (ap (λ (x : WorldRows). x.revision) is.makes.makes) in
      (d, (λ i. reply.Reconfigured n d (at i)), move)

  pub rollback_told : (revision : ℕ) → revision ≡ w.revision → TellsOf {A = A} w caller (Rollback n) (Reconfigured n (revision + 1))
  rollback_told revision same new is d move =
      let at : revision + 1 ≡ new.revision = ap (λ r. r + 1) same ∙ sym (ap (λ (x : WorldRows). x.revision) is.makes.makes) in
      (d, (λ i. reply.Reconfigured n d (at i)), move)
