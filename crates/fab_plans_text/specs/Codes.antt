-- How steps are stored.
use Rattle.std.specs.Prelude.{ℕ, ◌≡◌, ◌⊎◌, List, Option, None, Some, Bool, true, false, refl}
use Rattle.std.specs.Coded.{Coded, code_by, coded×, coded⊎, coded_ℕ, coded_bool, coded_list, coded_option}
use mathlib.Core.Logic.{inl, inr}
use Rattle.fab_names.specs.Codes.{name_code, fabric_code, member_code}
use Rattle.fab_names.specs.declared.fabric.Fabric.{Fabric}
use Rattle.fab_names.specs.declared.member.Member.{Member}
use Rattle.fab_plans_base.specs.fab_zoning.Zonings.{flag_code}
use Rattle.fab_plans_base.specs.fab_zoning.declared.flag.DefaultFlag.{DefaultFlag}
use Rattle.fab_plans_base.specs.Steps.{PlanStep, alias_put, alias_drop, zone_put, zone_drop, set_put, set_drop, activate, deactivate, default_zone, host_group_put, host_group_drop, group_new, group_drop, group_host, group_unhost, group_target, group_untarget, group_map, group_unmap, group_expose, group_hide}

abbrev pub Name : Type 0
Name = List ℕ

-- two names, or a name and a list of names
abbrev pub names_code : Coded (Name × List Name)
names_code = coded× name_code (coded_list name_code)

-- a step of zoning: with members, of a name alone, or of the fabric alone
abbrev pub ZoningParts : Type 0
ZoningParts = Fabric × ((Bool × (Name × List Member)) ⊎ (((Bool × (Bool × Name)) ⊎ (Name × List Name)) ⊎ Option DefaultFlag))

-- a step of mapping: of a group's name and what is put, or of a storage group and a part of it
abbrev pub MappingParts : Type 0
MappingParts = (((Name × (Name × List Name)) ⊎ (Name × (Name × Name))) ⊎ (Bool × (Bool × Name))) ⊎ (Name × ((Bool × (Name ⊎ ℕ)) ⊎ (ℕ × Option Name)))

abbrev pub StepParts : Type 0
StepParts = ZoningParts ⊎ MappingParts

abbrev pub step_parts : PlanStep → StepParts
step_parts (alias_put f n ms) = inl (f, inl (false, (n, ms)))
step_parts (zone_put f n ms) = inl (f, inl (true, (n, ms)))
step_parts (alias_drop f n) = inl (f, inr (inl (inl (false, (false, n)))))
step_parts (zone_drop f n) = inl (f, inr (inl (inl (false, (true, n)))))
step_parts (set_drop f n) = inl (f, inr (inl (inl (true, (false, n)))))
step_parts (activate f s) = inl (f, inr (inl (inl (true, (true, s)))))
step_parts (set_put f n zs) = inl (f, inr (inl (inr (n, zs))))
step_parts (deactivate f) = inl (f, inr (inr None))
step_parts (default_zone f d) = inl (f, inr (inr (Some d)))
step_parts (host_group_put n t hs) = inr (inl (inl (inl (n, (t, hs)))))
step_parts (group_new n t r) = inr (inl (inl (inr (n, (t, r)))))
step_parts (host_group_drop n) = inr (inl (inr (false, (false, n))))
step_parts (group_drop n) = inr (inl (inr (false, (true, n))))
step_parts (group_expose n) = inr (inl (inr (true, (false, n))))
step_parts (group_hide n) = inr (inl (inr (true, (true, n))))
step_parts (group_host n k) = inr (inr (n, inl (false, inl k)))
step_parts (group_unhost n k) = inr (inr (n, inl (true, inl k)))
step_parts (group_target n w) = inr (inr (n, inl (false, inr w)))
step_parts (group_untarget n w) = inr (inr (n, inl (true, inr w)))
step_parts (group_map n u v) = inr (inr (n, inr (u, Some v)))
step_parts (group_unmap n u) = inr (inr (n, inr (u, None)))

-- and back
abbrev pub step_from : StepParts → PlanStep
step_from (inl (f, inl (false, (n, ms)))) = alias_put f n ms
step_from (inl (f, inl (true, (n, ms)))) = zone_put f n ms
step_from (inl (f, inr (inl (inl (false, (false, n)))))) = alias_drop f n
step_from (inl (f, inr (inl (inl (false, (true, n)))))) = zone_drop f n
step_from (inl (f, inr (inl (inl (true, (false, n)))))) = set_drop f n
step_from (inl (f, inr (inl (inl (true, (true, s)))))) = activate f s
step_from (inl (f, inr (inl (inr (n, zs))))) = set_put f n zs
step_from (inl (f, inr (inr None))) = deactivate f
step_from (inl (f, inr (inr (Some d)))) = default_zone f d
step_from (inr (inl (inl (inl (n, (t, hs)))))) = host_group_put n t hs
step_from (inr (inl (inl (inr (n, (t, r)))))) = group_new n t r
step_from (inr (inl (inr (false, (false, n))))) = host_group_drop n
step_from (inr (inl (inr (false, (true, n))))) = group_drop n
step_from (inr (inl (inr (true, (false, n))))) = group_expose n
step_from (inr (inl (inr (true, (true, n))))) = group_hide n
step_from (inr (inr (n, inl (false, inl k)))) = group_host n k
step_from (inr (inr (n, inl (true, inl k)))) = group_unhost n k
step_from (inr (inr (n, inl (false, inr w)))) = group_target n w
step_from (inr (inr (n, inl (true, inr w)))) = group_untarget n w
step_from (inr (inr (n, inr (u, Some v)))) = group_map n u v
step_from (inr (inr (n, inr (u, None)))) = group_unmap n u

pub step_from-parts : (s : PlanStep) → step_from (step_parts s) ≡ s
step_from-parts (alias_put f n ms) = refl
step_from-parts (zone_put f n ms) = refl
step_from-parts (alias_drop f n) = refl
step_from-parts (zone_drop f n) = refl
step_from-parts (set_drop f n) = refl
step_from-parts (activate f s) = refl
step_from-parts (set_put f n zs) = refl
step_from-parts (deactivate f) = refl
step_from-parts (default_zone f d) = refl
step_from-parts (host_group_put n t hs) = refl
step_from-parts (group_new n t r) = refl
step_from-parts (host_group_drop n) = refl
step_from-parts (group_drop n) = refl
step_from-parts (group_expose n) = refl
step_from-parts (group_hide n) = refl
step_from-parts (group_host n k) = refl
step_from-parts (group_unhost n k) = refl
step_from-parts (group_target n w) = refl
step_from-parts (group_untarget n w) = refl
step_from-parts (group_map n u v) = refl
step_from-parts (group_unmap n u) = refl

abbrev pub zoning_parts_code : Coded ZoningParts
zoning_parts_code =
    coded× fabric_code (coded⊎ (coded× coded_bool (coded× name_code (coded_list member_code))) (coded⊎ (coded⊎ (coded× coded_bool (coded× coded_bool name_code)) names_code) (coded_option flag_code)))

abbrev pub mapping_parts_code : Coded MappingParts
mapping_parts_code =
    coded⊎ (coded⊎ (coded⊎ (coded× name_code names_code) (coded× name_code (coded× name_code name_code))) (coded× coded_bool (coded× coded_bool name_code)))
    (coded× name_code (coded⊎ (coded× coded_bool (coded⊎ name_code coded_ℕ)) (coded× coded_ℕ (coded_option name_code))))

abbrev pub step_code : Coded PlanStep
step_code = code_by StepParts (coded⊎ zoning_parts_code mapping_parts_code) step_parts step_from step_from-parts
