-- The lines of what reads show, for people.
use Rattle.std.specs.Prelude.{ℕ, List, [], ◌∷◌, ◌++◌, length, Bool, true, false, nat_eq, Option, None, Some, codes, decimal}
use Rattle.std.specs.List.{flat_map}
use Rattle.fab_names.specs.Fabrics.{fabric_text}
use Rattle.fab_names.specs.Places.{Position}
use Rattle.fab_names.specs.WorldWideNames.{wwn_text}
use Rattle.fab_names.specs.declared.fabric.Fabric.{Fabric}
use Rattle.fab_inventory.specs.declared.holder.Volume.{Volume}
use Rattle.fab_policy.specs.declared.act.Approval.{Approval}
use Rattle.fab_store_rows.specs.PlanStates.{state_text}
use Rattle.fab_store_rows.specs.declared.record_row.PlanState.{PlanState}
use Rattle.fab_desk_base.specs.declared.reply.Shown.{Shown}
use Rattle.fab_desk_base.specs.declared.reply.Shown.TheVariants as shown
use Rattle.fab_desk_base.specs.declared.reply.ShownGroup.{ShownGroup}
use Rattle.fab_desk_base.specs.declared.reply.ShownPlan.{ShownPlan}
use Rattle.fab_files_base.specs.Columns.{columns_line}

-- a thing of a tenant, and how many parts it has
abbrev pub count_line : List ℕ → List ℕ → ℕ → List ℕ
count_line name tenant count = columns_line (name ∷ tenant ∷ []) (decimal count)

-- a thing of a fabric, and how many parts it has
abbrev pub fabric_line : Fabric → List ℕ → ℕ → List ℕ
fabric_line f name count = columns_line (fabric_text f ∷ name ∷ []) (decimal count)

-- the fabric where a port is logged in, or -
abbrev pub at_text : Option (Fabric × Position) → List ℕ
at_text None = codes "-"
at_text (Some at) = fabric_text at.0

-- a port, its node, and where it is logged in
abbrev pub port_line : ℕ → ℕ → Option (Fabric × Position) → List ℕ
port_line name node at = columns_line (wwn_text name ∷ wwn_text node ∷ []) (at_text at)

-- a volume, its tenant and array, and its capacity in bytes
abbrev pub volume_line : List ℕ → Volume → List ℕ
volume_line name v = columns_line (name ∷ v.tenant ∷ v.array ∷ []) (decimal v.bytes)

abbrev pub exposed_word : Bool → List ℕ
exposed_word true = codes "exposed"
exposed_word false = codes "hidden"

-- a storage group, its tenant and array, and whether it is exposed
abbrev pub group_line : {A : Type 0} → ShownGroup A → List ℕ
group_line x = columns_line (x.name ∷ x.tenant ∷ x.array ∷ []) (exposed_word x.exposed)

-- a plan, its state and author, and how many callers have approved it
abbrev pub head_line : List ℕ → PlanState → List ℕ → ℕ → List ℕ
head_line name state author count = columns_line (name ∷ state_text state ∷ author ∷ []) (decimal count)

-- an approval counts as fresh at the present revision alone
abbrev pub stale_words : Bool → List ℕ
stale_words true = codes "\n"
stale_words false = codes ", stale\n"

-- who approved at which revision
unfoldable pub signed_words : Approval → List ℕ
signed_words a = codes "  approved by " ++ (a.caller ++ (codes " at revision " ++ decimal a.revision))

-- and whether that is the present one
abbrev pub approval_text : ℕ → Approval → List ℕ
approval_text revision a = signed_words a ++ stale_words (nat_eq a.revision revision)

abbrev pub approvals_text : ℕ → List Approval → List ℕ
approvals_text revision xs = flat_map (approval_text revision) xs

abbrev pub plan_line : {A : Type 0} → ShownPlan A → List ℕ
plan_line x = head_line x.name x.state x.author (length x.approvals.items)

-- the line of what a read shows; an empty one of what no list has
abbrev pub row_line : {A : Type 0} → Shown A → List ℕ
row_line (shown.Port name node at address) = port_line name node at
row_line (shown.Holder x) = count_line x.name x.tenant (length x.ports.items)
row_line (shown.Volume name v) = volume_line name v
row_line (shown.HostGroup name tenant hosts) = count_line name tenant (length hosts.items)
row_line (shown.Group x) = group_line x
row_line (shown.Plan x) = plan_line x
row_line (shown.Members f name members) = fabric_line f name (length members.items)
row_line (shown.Set f name zones) = fabric_line f name (length zones.items)
row_line other = 10 ∷ []

abbrev pub approvals_in : {A : Type 0} → Shown A → List Approval
approvals_in (shown.Plan x) = x.approvals.items
approvals_in other = []

-- that line, and a line for each approval of a plan
abbrev pub listed_lines : {A : Type 0} → ℕ → Shown A → List ℕ
listed_lines revision x = row_line x ++ approvals_text revision (approvals_in x)
