-- The forms of lines: the first word, and the words that may follow it.
use Rattle.std.specs.Prelude.{ℕ, ◌≡◌, ◌+◌, ◌-◌, ◌<◌, ◌≤◌, List, [], ◌∷◌, ◌++◌, length, map, replicate, codes, Option, Some, None}
use Rattle.fab_plans_base.specs.Limits.{most_items}
use Rattle.fab_plans_base.specs.Steps.{PlanStep, alias_put, alias_drop, zone_put, zone_drop, set_put, set_drop, activate, deactivate, default_zone, host_group_put, host_group_drop, group_new, group_drop, group_host, group_unhost, group_target, group_untarget, group_map, group_unmap, group_expose, group_hide}
use Rattle.fab_plans_base.specs.Values.{Kind, a_fabric, a_name, a_flag, a_member, a_port_member, a_wwn, a_unit, Value, of_fabric, of_name, of_flag, of_member, of_port_member, of_wwn, of_unit}
use Rattle.fab_plans_base.specs.declared.keyword.Keyword.{Keyword}
use Rattle.fab_plans_base.specs.declared.keyword.Keyword.TheVariants.{Zoning, Mapping}
use Rattle.fab_plans_base.specs.declared.zoning_keyword.ZoningKeyword.TheVariants as zoning
use Rattle.fab_plans_base.specs.declared.mapping_keyword.MappingKeyword.TheVariants as mapping

-- the first word
abbrev pub keyword_text : Keyword → List ℕ
keyword_text (Zoning zoning.AliasPut) = codes "alias.put"
keyword_text (Zoning zoning.AliasDrop) = codes "alias.drop"
keyword_text (Zoning zoning.ZonePut) = codes "zone.put"
keyword_text (Zoning zoning.ZoneDrop) = codes "zone.drop"
keyword_text (Zoning zoning.SetPut) = codes "set.put"
keyword_text (Zoning zoning.SetDrop) = codes "set.drop"
keyword_text (Zoning zoning.Activate) = codes "activate"
keyword_text (Zoning zoning.Deactivate) = codes "deactivate"
keyword_text (Zoning zoning.Default) = codes "default"
keyword_text (Mapping mapping.HostGroupPut) = codes "hg.put"
keyword_text (Mapping mapping.HostGroupDrop) = codes "hg.drop"
keyword_text (Mapping mapping.GroupNew) = codes "sg.new"
keyword_text (Mapping mapping.GroupDrop) = codes "sg.drop"
keyword_text (Mapping mapping.GroupHost) = codes "sg.host"
keyword_text (Mapping mapping.GroupUnhost) = codes "sg.unhost"
keyword_text (Mapping mapping.GroupTarget) = codes "sg.target"
keyword_text (Mapping mapping.GroupUntarget) = codes "sg.untarget"
keyword_text (Mapping mapping.GroupMap) = codes "sg.map"
keyword_text (Mapping mapping.GroupUnmap) = codes "sg.unmap"
keyword_text (Mapping mapping.GroupExpose) = codes "sg.expose"
keyword_text (Mapping mapping.GroupHide) = codes "sg.hide"

-- the kinds of the words that follow: one of each, and then, in some lines, 1 to 255 of one kind
pub record Form : Type 0 where
  pub single : List Kind
  pub listed : Option Kind

-- the form of a line by its first word
abbrev pub form_of : Keyword → Form
form_of (Zoning zoning.AliasPut) = record { single = a_fabric ∷ a_name ∷ []; listed = Some a_port_member }
form_of (Zoning zoning.AliasDrop) = record { single = a_fabric ∷ a_name ∷ []; listed = None }
form_of (Zoning zoning.ZonePut) = record { single = a_fabric ∷ a_name ∷ []; listed = Some a_member }
form_of (Zoning zoning.ZoneDrop) = record { single = a_fabric ∷ a_name ∷ []; listed = None }
form_of (Zoning zoning.SetPut) = record { single = a_fabric ∷ a_name ∷ []; listed = Some a_name }
form_of (Zoning zoning.SetDrop) = record { single = a_fabric ∷ a_name ∷ []; listed = None }
form_of (Zoning zoning.Activate) = record { single = a_fabric ∷ a_name ∷ []; listed = None }
form_of (Zoning zoning.Deactivate) = record { single = a_fabric ∷ []; listed = None }
form_of (Zoning zoning.Default) = record { single = a_fabric ∷ a_flag ∷ []; listed = None }
form_of (Mapping mapping.HostGroupPut) = record { single = a_name ∷ a_name ∷ []; listed = Some a_name }
form_of (Mapping mapping.HostGroupDrop) = record { single = a_name ∷ []; listed = None }
form_of (Mapping mapping.GroupNew) = record { single = a_name ∷ a_name ∷ a_name ∷ []; listed = None }
form_of (Mapping mapping.GroupDrop) = record { single = a_name ∷ []; listed = None }
form_of (Mapping mapping.GroupHost) = record { single = a_name ∷ a_name ∷ []; listed = None }
form_of (Mapping mapping.GroupUnhost) = record { single = a_name ∷ a_name ∷ []; listed = None }
form_of (Mapping mapping.GroupTarget) = record { single = a_name ∷ a_wwn ∷ []; listed = None }
form_of (Mapping mapping.GroupUntarget) = record { single = a_name ∷ a_wwn ∷ []; listed = None }
form_of (Mapping mapping.GroupMap) = record { single = a_name ∷ a_unit ∷ a_name ∷ []; listed = None }
form_of (Mapping mapping.GroupUnmap) = record { single = a_name ∷ a_unit ∷ []; listed = None }
form_of (Mapping mapping.GroupExpose) = record { single = a_name ∷ []; listed = None }
form_of (Mapping mapping.GroupHide) = record { single = a_name ∷ []; listed = None }

-- so many words may follow: those of one each, and in a list 1 to 255 more
abbrev pub MayFollow : ℕ → List Kind → Option Kind → Type 0
MayFollow count single None = count ≡ length single
MayFollow count single (Some kind) = (length single < count) × (count ≤ length single + most_items)

abbrev pub Takes : Form → ℕ → Type 0
Takes form count = MayFollow count form.single form.listed

-- the kinds of so many words that follow
abbrev pub kinds_listed : ℕ → Option Kind → List Kind
kinds_listed count None = []
kinds_listed count (Some kind) = replicate count kind

abbrev pub kinds_in : Form → ℕ → List Kind
kinds_in form count = form.single ++ kinds_listed (count - length form.single) form.listed

-- the first word of a step's lines
abbrev pub keyword_of : PlanStep → Keyword
keyword_of (alias_put f n ms) = Zoning zoning.AliasPut
keyword_of (alias_drop f n) = Zoning zoning.AliasDrop
keyword_of (zone_put f n ms) = Zoning zoning.ZonePut
keyword_of (zone_drop f n) = Zoning zoning.ZoneDrop
keyword_of (set_put f n zs) = Zoning zoning.SetPut
keyword_of (set_drop f n) = Zoning zoning.SetDrop
keyword_of (activate f s) = Zoning zoning.Activate
keyword_of (deactivate f) = Zoning zoning.Deactivate
keyword_of (default_zone f d) = Zoning zoning.Default
keyword_of (host_group_put n t hs) = Mapping mapping.HostGroupPut
keyword_of (host_group_drop n) = Mapping mapping.HostGroupDrop
keyword_of (group_new n t r) = Mapping mapping.GroupNew
keyword_of (group_drop n) = Mapping mapping.GroupDrop
keyword_of (group_host n k) = Mapping mapping.GroupHost
keyword_of (group_unhost n k) = Mapping mapping.GroupUnhost
keyword_of (group_target n w) = Mapping mapping.GroupTarget
keyword_of (group_untarget n w) = Mapping mapping.GroupUntarget
keyword_of (group_map n u v) = Mapping mapping.GroupMap
keyword_of (group_unmap n u) = Mapping mapping.GroupUnmap
keyword_of (group_expose n) = Mapping mapping.GroupExpose
keyword_of (group_hide n) = Mapping mapping.GroupHide

-- what the words after it stand for
abbrev pub values_of : PlanStep → List Value
values_of (alias_put f n ms) = of_fabric f ∷ of_name n ∷ map of_port_member ms
values_of (alias_drop f n) = of_fabric f ∷ of_name n ∷ []
values_of (zone_put f n ms) = of_fabric f ∷ of_name n ∷ map of_member ms
values_of (zone_drop f n) = of_fabric f ∷ of_name n ∷ []
values_of (set_put f n zs) = of_fabric f ∷ of_name n ∷ map of_name zs
values_of (set_drop f n) = of_fabric f ∷ of_name n ∷ []
values_of (activate f s) = of_fabric f ∷ of_name s ∷ []
values_of (deactivate f) = of_fabric f ∷ []
values_of (default_zone f d) = of_fabric f ∷ of_flag d ∷ []
values_of (host_group_put n t hs) = of_name n ∷ of_name t ∷ map of_name hs
values_of (host_group_drop n) = of_name n ∷ []
values_of (group_new n t r) = of_name n ∷ of_name t ∷ of_name r ∷ []
values_of (group_drop n) = of_name n ∷ []
values_of (group_host n k) = of_name n ∷ of_name k ∷ []
values_of (group_unhost n k) = of_name n ∷ of_name k ∷ []
values_of (group_target n w) = of_name n ∷ of_wwn w ∷ []
values_of (group_untarget n w) = of_name n ∷ of_wwn w ∷ []
values_of (group_map n u v) = of_name n ∷ of_unit u ∷ of_name v ∷ []
values_of (group_unmap n u) = of_name n ∷ of_unit u ∷ []
values_of (group_expose n) = of_name n ∷ []
values_of (group_hide n) = of_name n ∷ []
