-- The keys of bodies are in order.
use Rattle.std.proofs.Common.{ℕ, ◌≡◌, List, [], ◌∷◌, Option, None, Some, true, refl, map}
use Rattle.serde_json.specs.Data.{Data}
use Rattle.serde_json.specs.View.{items_of}
use Rattle.fab_wire_streams.specs.Values.{address_data, wwn_data, or_null}
use Rattle.fab_world.specs.fab_plans.declared.fault.Item.{Item}
use Rattle.fab_world.specs.fab_plans.declared.fault.Item.TheVariants as item
use Rattle.fab_world.specs.fab_plans.declared.fault.Refusal as plan
use Rattle.fab_world.specs.fab_plans.declared.fault.Refusal.TheVariants as refusal
use Rattle.fab_reach_base.specs.declared.path.Path.{Path}
use Rattle.fab_wire_base.specs.declared.requests.Refusal as wire
use Rattle.fab_wire_base.specs.declared.requests.Refusal.TheVariants as no
use Rattle.fab_desk_base.specs.declared.fault.DeskFault.{DeskFault}
use Rattle.fab_desk_base.specs.declared.fault.DeskFault.TheVariants as fault
use Rattle.fab_desk_base.specs.declared.reply.Joint.{Joint}
use Rattle.fab_desk_base.specs.declared.reply.Joint.TheVariants as joint
use Rattle.fab_desk_base.specs.declared.reply.ZoneMembers.{ZoneMembers}
use Rattle.fab_desk_base.specs.declared.reply.Shown.{Shown}
use Rattle.fab_desk_base.specs.declared.reply.Shown.TheVariants as shown
use Rattle.fab_desk_base.specs.declared.reply.Reply.{Reply}
use Rattle.fab_desk_base.specs.declared.reply.Reply.TheVariants as reply
use Rattle.fab_wire_answers.specs.declared.answers.Answer.{Answer}
use Rattle.fab_wire_answers.specs.declared.answers.Answer.TheVariants as answer
use Rattle.fab_wire_answers.specs.Orders.{in_order, items_in_order}
use Rattle.fab_wire_answers.specs.Parts.{word, member_data, path_data, unit_data, approval_data, place_data, zone_data, item_data, gone_item}
use Rattle.fab_wire_answers.specs.Bodies.{wire_body, step_body, fault_body, joined_body, shown_body, reply_body, body_of}

all_in_order : {X : Type 0} (f : X → Data) → ((x : X) → in_order (f x) ≡ true) → (xs : List X) → items_in_order (items_of (map f xs)) ≡ true
all_in_order f h [] = refl
all_in_order f h (x ∷ xs) = rw (h x) (all_in_order f h xs)

wwn_in_order : (n : ℕ) → in_order (wwn_data n) ≡ true
unfolding wwn_data
wwn_in_order n = refl

item_in_order : (x : Item) → in_order (item_data x) ≡ true
item_in_order (item.Name name) = refl
item_in_order (item.Port port) = wwn_in_order port
item_in_order (item.Unit unit) = refl

path_in_order : (p : Path) → in_order (path_data p) ≡ true
path_in_order p = rw (wwn_in_order p.initiator, wwn_in_order p.target) refl

zone_in_order : {A : Type 0} (z : ZoneMembers A) → in_order (zone_data z) ≡ true
zone_in_order z = rw (all_in_order member_data (λ m. refl) z.members.items) refl

wire_in_order : (why : wire.Refusal) → in_order (wire_body why) ≡ true
wire_in_order no.NoCaller = refl
wire_in_order no.BadHead = refl
wire_in_order no.NoRoute = refl
wire_in_order (no.BadMethod route) = refl
wire_in_order no.NoLength = refl
wire_in_order no.TooLarge = refl
wire_in_order (no.BadBody line) = refl

step_in_order : (step : ℕ) (why : plan.Refusal) → in_order (step_body step why) ≡ true
step_in_order step (refusal.Exists name) = refl
step_in_order step (refusal.Unknown x) = rw (item_in_order x) refl
step_in_order step (refusal.WrongArray x) = rw (item_in_order x) refl
step_in_order step (refusal.UnitTaken group unit) = refl
step_in_order step (refusal.InUse name by) = refl
step_in_order step (refusal.Limit which) = refl
step_in_order step (refusal.Clash x) = rw (wwn_in_order x.target) refl

fault_in_order : (why : DeskFault) → in_order (fault_body why) ≡ true
fault_in_order fault.NoCaller = refl
fault_in_order (fault.BadBody line) = refl
fault_in_order (fault.Denied rule name need) = refl
fault_in_order fault.NotFound = refl
fault_in_order (fault.Exists name) = refl
fault_in_order (fault.InUse x by) = rw (item_in_order x) refl
fault_in_order (fault.Unknown x) = rw (item_in_order x) refl
fault_in_order (fault.Limit which) = refl
fault_in_order (fault.WrongState state) = refl
fault_in_order (fault.NotLast last) = refl
fault_in_order (fault.Gone x) = rw (item_in_order (gone_item x)) refl
fault_in_order fault.OwnPlan = refl
fault_in_order (fault.PortClash port) = rw (wwn_in_order port) refl
fault_in_order (fault.Plan step why) = step_in_order step why
fault_in_order fault.Memory = refl
fault_in_order fault.Store = refl
fault_in_order fault.Halted = refl

joined_in_order : (why : Option Joint) → in_order (joined_body why) ≡ true
joined_in_order None = refl
joined_in_order (Some joint.Default) = refl
joined_in_order (Some (joint.Zone zone)) = refl

address_in_order : (address : Option ℕ) → in_order (or_null address_data address) ≡ true
unfolding address_data
address_in_order None = refl
address_in_order (Some n) = refl

at_in_order : (address : Option ℕ) (at : _) → in_order (or_null (place_data address) at) ≡ true
at_in_order address None = refl
at_in_order address (Some at) = rw (address_in_order address) refl

active_in_order : (active : Option (List ℕ)) → in_order (or_null word active) ≡ true
active_in_order None = refl
active_in_order (Some name) = refl

shown_in_order : {A : Type 0} (s : Shown A) → in_order (shown_body s) ≡ true
shown_in_order (shown.Paths host paths) = rw (all_in_order path_data path_in_order paths.items) refl
shown_in_order (shown.Joined why) = joined_in_order why
shown_in_order (shown.Port name node at address) = rw (at_in_order address at, wwn_in_order node, wwn_in_order name) refl
shown_in_order (shown.Holder x) = rw (all_in_order wwn_data wwn_in_order x.ports.items) refl
shown_in_order (shown.Volume name volume) = refl
shown_in_order (shown.HostGroup name tenant hosts) = rw (all_in_order word (λ x. refl) hosts.items) refl
shown_in_order (shown.Group x) =
    rw (all_in_order word (λ n. refl) x.host_groups.items, all_in_order wwn_data wwn_in_order x.targets.items, all_in_order unit_data (λ u. refl) x.units.items) refl
shown_in_order (shown.Plan x) = rw (all_in_order approval_data (λ a. refl) x.approvals.items) refl
shown_in_order (shown.Members fabric name members) = rw (all_in_order member_data (λ m. refl) members.items) refl
shown_in_order (shown.Set fabric name zones) = rw (all_in_order word (λ x. refl) zones.items) refl
shown_in_order (shown.Active fabric active flag zones) = rw (active_in_order active, all_in_order zone_data zone_in_order zones.items) refl

reply_in_order : {A : Type 0} (r : Reply A) → in_order (reply_body r) ≡ true
reply_in_order (reply.Changed revision) = refl
reply_in_order (reply.Staged plan steps) = refl
reply_in_order (reply.Withdrawn plan) = refl
reply_in_order (reply.Approved plan approvals revision) = refl
reply_in_order (reply.Tried plan delta) = rw (all_in_order path_data path_in_order delta.gained.items, all_in_order path_data path_in_order delta.lost.items) refl
reply_in_order (reply.Reconfigured plan delta revision) = rw (all_in_order path_data path_in_order delta.gained.items, all_in_order path_data path_in_order delta.lost.items) refl
reply_in_order (reply.Shown s) = shown_in_order s
reply_in_order (reply.Refused why) = fault_in_order why

pub body_in_order : {A : Type 0} (a : Answer A) → in_order (body_of a) ≡ true
body_in_order (answer.Refused why) = wire_in_order why
body_in_order (answer.Replied r) = reply_in_order r
