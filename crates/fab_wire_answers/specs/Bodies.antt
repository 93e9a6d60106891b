-- The bodies of answers, as JSON (RFC 8259): keys in the order of their bytes.
use Rattle.std.specs.Prelude.{ℕ, List, [], ◌∷◌, true, false, Option, None, Some, codes, string_bytes}
use Rattle.serde_json.specs.Data.{Data, boolean, object, Members, no_members, member}
use Rattle.fab_reach_base.specs.fab_names.Fabrics.{fabric_text}
use Rattle.fab_reach_base.specs.fab_names.Places.{Position}
use Rattle.fab_reach_base.specs.fab_names.declared.fabric.Fabric.{Fabric}
use Rattle.fab_reach_base.specs.fab_names.declared.member.Member.{Member}
use Rattle.fab_reach_base.specs.fab_inventory.declared.holder.Volume.{Volume}
use Rattle.fab_reach_base.specs.fab_zoning.declared.flag.DefaultFlag.{DefaultFlag}
use Rattle.fab_reach_base.specs.fab_inventory.Words.{kind_text}
use Rattle.fab_store_rows.specs.PlanStates.{state_text}
use Rattle.fab_store_rows.specs.declared.record_row.PlanState.TheVariants.{Withdrawn}
use Rattle.fab_reach_base.specs.fab_zoning.Zonings.{flag_text}
use Rattle.fab_policy.specs.Needs.{need_word}
use Rattle.fab_reach_base.specs.declared.path.Path.{Path}
use Rattle.fab_world.specs.fab_plans.Words.{step_limit_word}
use Rattle.fab_world.specs.fab_plans.declared.fault.Refusal as plan
use Rattle.fab_world.specs.fab_plans.declared.fault.Refusal.TheVariants as refusal
use Rattle.fab_wire_base.specs.declared.requests.Refusal as wire
use Rattle.fab_wire_base.specs.declared.requests.Refusal.TheVariants as no
use Rattle.fab_desk_base.specs.Words.{limit_word}
use Rattle.fab_desk_base.specs.declared.fault.DeskFault.{DeskFault}
use Rattle.fab_desk_base.specs.declared.fault.DeskFault.TheVariants as fault
use Rattle.fab_desk_base.specs.declared.reply.ZoneMembers.{ZoneMembers}
use Rattle.fab_desk_base.specs.declared.reply.Joint.{Joint}
use Rattle.fab_desk_base.specs.declared.reply.Joint.TheVariants as joint
use Rattle.fab_desk_base.specs.declared.reply.ShownHolder.{ShownHolder}
use Rattle.fab_desk_base.specs.declared.reply.ShownGroup.{ShownGroup}
use Rattle.fab_desk_base.specs.declared.reply.ShownPlan.{ShownPlan}
use Rattle.fab_desk_base.specs.declared.reply.Shown.{Shown}
use Rattle.fab_desk_base.specs.declared.reply.Shown.TheVariants as shown
use Rattle.fab_desk_base.specs.declared.reply.Reply.{Reply}
use Rattle.fab_desk_base.specs.declared.reply.Reply.TheVariants as reply
use Rattle.fab_wire_streams.specs.Values.{record_of, list_data, whole, wwn_data, or_null, maybe_member}
use Rattle.fab_wire_answers.specs.declared.codes.Code.{Code}
use Rattle.fab_wire_answers.specs.declared.codes.Code.TheVariants as code
use Rattle.fab_wire_answers.specs.declared.answers.Answer.{Answer}
use Rattle.fab_wire_answers.specs.declared.answers.Answer.TheVariants as answer
use Rattle.fab_wire_answers.specs.Codes.{line_of}
use Rattle.fab_wire_answers.specs.Faults.{code_of_wire, code_of_fault}
use Rattle.fab_wire_answers.specs.Parts.{word, member_data, path_data, unit_data, approval_data, place_data, zone_data, item_data, gone_item}

-- ---- refusals

-- members in their order, and others behind them
abbrev pub members_before : List (List ℕ × Data) → Members → Members
members_before [] others = others
members_before (m ∷ ms) others = member m.0 m.1 (members_before ms others)

-- the step of a plan that is refused, 0 for its end; no member where the refusal is not of a plan
abbrev pub step_member : Option ℕ → Members
step_member step = maybe_member whole (codes "step") step no_members

-- the body of a refusal: its number, its name, what else it has, and the step
abbrev pub refusal_of : Code → List (List ℕ × Data) → Option ℕ → Data
refusal_of c keys step = object (members_before ((codes "code", whole (line_of c).number) ∷ (codes "error", word (line_of c).name) ∷ keys) (step_member step))

-- the same of something that another holds or uses
abbrev pub use_of : Data → List ℕ → Option ℕ → Data
use_of name by step =
    let line = line_of code.InUse in
    object (members_before ((codes "by", word by) ∷ (codes "code", whole line.number) ∷ (codes "error", word line.name) ∷ (codes "name", name) ∷ []) (step_member step))

-- before the desk is asked
abbrev pub wire_body : wire.Refusal → Data
wire_body (no.BadBody line) = refusal_of code.BadBody ((codes "line", whole line) ∷ []) None
wire_body why = refusal_of (code_of_wire why) [] None

-- by a step of a plan, or at the end of its trial
abbrev pub step_body : ℕ → plan.Refusal → Data
step_body step (refusal.Exists name) = refusal_of code.Exists ((codes "name", word name) ∷ []) (Some step)
step_body step (refusal.Unknown x) = refusal_of code.UnknownName ((codes "name", item_data x) ∷ []) (Some step)
step_body step (refusal.WrongArray x) = refusal_of code.WrongArray ((codes "name", item_data x) ∷ []) (Some step)
step_body step (refusal.UnitTaken group unit) = refusal_of code.UnitClash ((codes "group", word group) ∷ (codes "lun", whole unit) ∷ []) (Some step)
step_body step (refusal.InUse name by) = use_of (word name) by (Some step)
step_body step (refusal.Limit which) = refusal_of code.Limit ((codes "limit", word (step_limit_word which)) ∷ []) (Some step)
step_body step (refusal.Clash x) = refusal_of code.UnitClash (
    (codes "host", word x.host) ∷ (codes "lun", whole x.unit) ∷ (codes "step", whole step) ∷ (codes "target", wwn_data x.target) ∷ []) None

-- by the desk
abbrev pub fault_body : DeskFault → Data
fault_body (fault.BadBody line) = refusal_of code.BadBody ((codes "line", whole line) ∷ []) None
fault_body (fault.Denied rule name need) = refusal_of code.Denied (
    (codes "need", word (need_word need)) ∷ (codes "rule", whole rule) ∷ (codes "rule_name", word name) ∷ []) None
fault_body (fault.Exists name) = refusal_of code.Exists ((codes "name", word name) ∷ []) None
fault_body (fault.InUse x by) = use_of (item_data x) by None
fault_body (fault.Unknown x) = refusal_of code.UnknownName ((codes "name", item_data x) ∷ []) None
fault_body (fault.Limit which) = refusal_of code.Limit ((codes "limit", word (limit_word which)) ∷ []) None
fault_body (fault.WrongState state) = refusal_of code.WrongState ((codes "state", word (state_text state)) ∷ []) None
fault_body (fault.NotLast last) = refusal_of code.NotLast ((codes "last", word last) ∷ []) None
fault_body (fault.Gone x) = refusal_of code.Gone ((codes "name", item_data (gone_item x)) ∷ []) None
fault_body (fault.PortClash port) = refusal_of code.PortClash ((codes "port", wwn_data port) ∷ []) None
fault_body (fault.Plan step why) = step_body step why
fault_body why = refusal_of (code_of_fault why) [] None

-- ---- what was done or is shown

-- why two ports may communicate
abbrev pub joint_body : Joint → Data
joint_body (joint.Zone zone) = record_of ((codes "joined", boolean true) ∷ (codes "why", word (codes "zone")) ∷ (codes "zone", word zone) ∷ [])
joint_body joint.Default = record_of ((codes "joined", boolean true) ∷ (codes "why", word (codes "default")) ∷ [])

-- why they may, or that they may not
abbrev pub joined_body : Option Joint → Data
joined_body (Some joint) = joint_body joint
joined_body None = record_of ((codes "joined", boolean false) ∷ [])

-- the paths of a host
abbrev pub paths_body : List ℕ → List Path → Data
paths_body host paths = record_of ((codes "host", word host) ∷ (codes "paths", list_data path_data paths) ∷ [])

-- a port, its node, and where it is logged in, by what address
abbrev pub port_body : ℕ → ℕ → Option (Fabric × Position) → Option ℕ → Data
port_body name node at address = record_of ((codes "at", or_null (place_data address) at) ∷ (codes "node_name", wwn_data node) ∷ (codes "port_name", wwn_data name) ∷ [])

-- a host or an array, and its ports
abbrev pub holder_body : {A : Type 0} → ShownHolder A → Data
holder_body x = record_of (
    (codes "kind", word (kind_text x.kind)) ∷ (codes "name", word x.name) ∷ (codes "ports", list_data wwn_data x.ports.items) ∷ (codes "tenant", word x.tenant) ∷ [])

-- a volume
abbrev pub volume_body : List ℕ → Volume → Data
volume_body name volume = record_of (
    (codes "array", word volume.array) ∷ (codes "bytes", whole volume.bytes) ∷ (codes "name", word name) ∷ (codes "tenant", word volume.tenant) ∷ [])

-- a host group, and its hosts
abbrev pub host_group_body : List ℕ → List ℕ → List (List ℕ) → Data
host_group_body name tenant hosts = record_of ((codes "hosts", list_data word hosts) ∷ (codes "name", word name) ∷ (codes "tenant", word tenant) ∷ [])

-- a storage group, its host groups, its targets, and its units
abbrev pub group_body : {A : Type 0} → ShownGroup A → Data
group_body x = record_of (
    (codes "array", word x.array) ∷ (codes "exposed", boolean x.exposed) ∷ (codes "host_groups", list_data word x.host_groups.items)
    ∷ (codes "name", word x.name) ∷ (codes "targets", list_data wwn_data x.targets.items) ∷ (codes "tenant", word x.tenant)
    ∷ (codes "units", list_data unit_data x.units.items) ∷ [])

-- a plan, its approvals, and its text
abbrev pub plan_body : {A : Type 0} → ShownPlan A → Data
plan_body x = record_of (
    (codes "approvals", list_data approval_data x.approvals.items) ∷ (codes "author", word x.author) ∷ (codes "plan", word x.name)
    ∷ (codes "state", word (state_text x.state)) ∷ (codes "text", word (string_bytes x.text)) ∷ [])

-- an alias or a zone, and its members
abbrev pub members_body : Fabric → List ℕ → List Member → Data
members_body fabric name members = record_of ((codes "fabric", word (fabric_text fabric)) ∷ (codes "members", list_data member_data members) ∷ (codes "name", word name) ∷ [])

-- a zone set, and its zones
abbrev pub set_body : Fabric → List ℕ → List (List ℕ) → Data
set_body fabric name zones = record_of ((codes "fabric", word (fabric_text fabric)) ∷ (codes "name", word name) ∷ (codes "zones", list_data word zones) ∷ [])

-- what is active in a fabric
abbrev pub active_body : {A : Type 0} → Fabric → Option (List ℕ) → DefaultFlag → List (ZoneMembers A) → Data
active_body fabric active flag zones = record_of (
    (codes "active", or_null word active) ∷ (codes "default", word (flag_text flag)) ∷ (codes "fabric", word (fabric_text fabric))
    ∷ (codes "zones", list_data zone_data zones) ∷ [])

-- what a read shows
abbrev pub shown_body : {A : Type 0} → Shown A → Data
shown_body (shown.Paths host paths) = paths_body host paths.items
shown_body (shown.Joined why) = joined_body why
shown_body (shown.Port name node at address) = port_body name node at address
shown_body (shown.Holder x) = holder_body x
shown_body (shown.Volume name volume) = volume_body name volume
shown_body (shown.HostGroup name tenant hosts) = host_group_body name tenant hosts.items
shown_body (shown.Group x) = group_body x
shown_body (shown.Plan x) = plan_body x
shown_body (shown.Members fabric name members) = members_body fabric name members.items
shown_body (shown.Set fabric name zones) = set_body fabric name zones.items
shown_body (shown.Active fabric active flag zones) = active_body fabric active flag zones.items

-- a plan is staged, with so many steps
abbrev pub staged_body : List ℕ → ℕ → Data
staged_body plan steps = record_of ((codes "plan", word plan) ∷ (codes "steps", whole steps) ∷ [])

-- a plan is withdrawn
abbrev pub withdrawn_body : List ℕ → Data
withdrawn_body plan = record_of ((codes "plan", word plan) ∷ (codes "state", word (state_text Withdrawn)) ∷ [])

-- a plan has approvals of so many callers, at this revision
abbrev pub approved_body : List ℕ → ℕ → ℕ → Data
approved_body plan approvals revision = record_of ((codes "approvals", whole approvals) ∷ (codes "plan", word plan) ∷ (codes "revision", whole revision) ∷ [])

-- what a plan would gain and lose
abbrev pub tried_body : List ℕ → List Path → List Path → Data
tried_body plan gained lost = record_of ((codes "gained", list_data path_data gained) ∷ (codes "lost", list_data path_data lost) ∷ (codes "plan", word plan) ∷ [])

-- what a plan gained and lost, and the revision after it
abbrev pub moved_body : List ℕ → List Path → List Path → ℕ → Data
moved_body plan gained lost revision = record_of (
    (codes "gained", list_data path_data gained) ∷ (codes "lost", list_data path_data lost) ∷ (codes "plan", word plan) ∷ (codes "revision", whole revision) ∷ [])

-- what the desk replies
abbrev pub reply_body : {A : Type 0} → Reply A → Data
reply_body (reply.Changed revision) = record_of ((codes "revision", whole revision) ∷ [])
reply_body (reply.Staged plan steps) = staged_body plan steps
reply_body (reply.Withdrawn plan) = withdrawn_body plan
reply_body (reply.Approved plan approvals revision) = approved_body plan approvals revision
reply_body (reply.Tried plan delta) = tried_body plan delta.gained.items delta.lost.items
reply_body (reply.Reconfigured plan delta revision) = moved_body plan delta.gained.items delta.lost.items revision
reply_body (reply.Shown s) = shown_body s
reply_body (reply.Refused why) = fault_body why

-- what is answered
abbrev pub body_of : {A : Type 0} → Answer A → Data
body_of (answer.Refused why) = wire_body why
body_of (answer.Replied r) = reply_body r
