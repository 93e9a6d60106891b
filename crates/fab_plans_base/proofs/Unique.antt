-- A text spells one list of steps at most.
use Rattle.std.proofs.Common.{ℕ, ◌≡◌, ◌-◌, List, [], ◌∷◌, suc, length, get_or, drop, map, replicate, codes, cond, nat_eq, refl, sym, ap, ◌∙◌, arith}
use Rattle.std.specs.Cmp.Lexicographic.{pointwise}
use Rattle.fab_names.specs.declared.fabric.Fabric.{Fabric}
use Rattle.fab_names.specs.declared.fabric.Fabric.TheVariants.{A}
use Rattle.fab_names.specs.declared.member.Member.{Member}
use Rattle.fab_names.specs.declared.member.Member.TheVariants as member
use Rattle.fab_names.proofs.Numerals.{one_number}
use Rattle.fab_names.proofs.Unique.{one_fabric, one_wwn, one_member}
use Rattle.fab_plans_base.specs.fab_zoning.declared.flag.DefaultFlag.{DefaultFlag}
use Rattle.fab_plans_base.specs.fab_zoning.declared.flag.DefaultFlag.TheVariants.{Permit, Deny}
use Rattle.fab_plans_base.specs.fab_zoning.Zonings.{flag_text}
use Rattle.fab_plans_base.specs.Texts.{words_of}
use Rattle.fab_plans_base.specs.Values.{Kind, a_fabric, a_name, a_member, a_port_member, kind_of, Value, of_fabric, of_name, of_flag, of_member, of_port_member, of_wwn, of_unit, SpellsValue, SpellsValues}
use Rattle.fab_plans_base.specs.Steps.{PlanStep, alias_put, alias_drop, zone_put, zone_drop, set_put, set_drop, activate, deactivate, default_zone, host_group_put, host_group_drop, group_new, group_drop, group_host, group_unhost, group_target, group_untarget, group_map, group_unmap, group_expose, group_hide}
use Rattle.fab_plans_base.specs.Forms.{keyword_text, form_of, kinds_in, keyword_of, values_of}
use Rattle.fab_plans_base.specs.Plans.{SpellsStep, SpellsLines}
use Rattle.fab_plans_base.specs.declared.keyword.Keyword.{Keyword}
use Rattle.fab_plans_base.specs.declared.keyword.Keyword.TheVariants.{Zoning, Mapping}
use Rattle.fab_plans_base.specs.declared.zoning_keyword.ZoningKeyword.TheVariants as zoning
use Rattle.fab_plans_base.specs.declared.mapping_keyword.MappingKeyword.TheVariants as mapping

-- a flag's word is that of one flag
one_flag : (f g : DefaultFlag) → flag_text f ≡ flag_text g → f ≡ g
one_flag Permit Permit e = refl
one_flag Permit Deny e = absurd (omega (arith, ap (λ (t : List ℕ). get_or t 0 0) e))
one_flag Deny Permit e = absurd (omega (arith, ap (λ (t : List ℕ). get_or t 0 0) e))
one_flag Deny Deny e = refl

-- a word spells one value of a kind
one_value : (word : List ℕ) (v w : Value) → kind_of v ≡ kind_of w → SpellsValue word v → SpellsValue word w → v ≡ w
one_value word (of_fabric f) (of_fabric g) kinds s t = ap of_fabric (one_fabric word f g s t)
one_value word (of_name n) (of_name m) kinds s t = ap of_name (s.0 ∙ sym t.0)
one_value word (of_flag f) (of_flag g) kinds s t = ap of_flag (one_flag f g (sym s ∙ t))
one_value word (of_member m) (of_member k) kinds s t = ap of_member (one_member word m k s t)
one_value word (of_port_member m) (of_port_member k) kinds s t = ap of_port_member (one_member word m k s.0 t.0)
one_value word (of_wwn n) (of_wwn m) kinds s t = ap of_wwn (one_wwn word n m s t)
one_value word (of_unit n) (of_unit m) kinds s t = ap of_unit (one_number word n m s.number t.number)
one_value word v w kinds s t = absurd cc

one_list : (words : List (List ℕ)) (vs ws : List Value) → map kind_of vs ≡ map kind_of ws → SpellsValues words vs → SpellsValues words ws → vs ≡ ws
one_list [] [] [] kinds s t = refl
one_list [] [] (w ∷ ws) kinds s t = absurd t
one_list [] (v ∷ vs) ws kinds s t = absurd s
one_list (x ∷ words) [] ws kinds s t = absurd s
one_list (x ∷ words) (v ∷ vs) [] kinds s t = absurd t
one_list (x ∷ words) (v ∷ vs) (w ∷ ws) kinds s t =
    let head : kind_of v ≡ kind_of w = cc in
    let tail : map kind_of vs ≡ map kind_of ws = cc in
    let first = one_value x v w head s.0 t.0 in
    let rest = one_list words vs ws tail s.1 t.1 in
    λ i. first i ∷ rest i

-- the keyword of a word
abbrev keyword_in : List ℕ → Keyword
keyword_in word =
    cond (pointwise nat_eq word (codes "alias.put")) (Zoning zoning.AliasPut)
    (cond (pointwise nat_eq word (codes "alias.drop")) (Zoning zoning.AliasDrop)
    (cond (pointwise nat_eq word (codes "zone.put")) (Zoning zoning.ZonePut)
    (cond (pointwise nat_eq word (codes "zone.drop")) (Zoning zoning.ZoneDrop)
    (cond (pointwise nat_eq word (codes "set.put")) (Zoning zoning.SetPut)
    (cond (pointwise nat_eq word (codes "set.drop")) (Zoning zoning.SetDrop)
    (cond (pointwise nat_eq word (codes "activate")) (Zoning zoning.Activate)
    (cond (pointwise nat_eq word (codes "deactivate")) (Zoning zoning.Deactivate)
    (cond (pointwise nat_eq word (codes "default")) (Zoning zoning.Default)
    (cond (pointwise nat_eq word (codes "hg.put")) (Mapping mapping.HostGroupPut)
    (cond (pointwise nat_eq word (codes "hg.drop")) (Mapping mapping.HostGroupDrop)
    (cond (pointwise nat_eq word (codes "sg.new")) (Mapping mapping.GroupNew)
    (cond (pointwise nat_eq word (codes "sg.drop")) (Mapping mapping.GroupDrop)
    (cond (pointwise nat_eq word (codes "sg.host")) (Mapping mapping.GroupHost)
    (cond (pointwise nat_eq word (codes "sg.unhost")) (Mapping mapping.GroupUnhost)
    (cond (pointwise nat_eq word (codes "sg.target")) (Mapping mapping.GroupTarget)
    (cond (pointwise nat_eq word (codes "sg.untarget")) (Mapping mapping.GroupUntarget)
    (cond (pointwise nat_eq word (codes "sg.map")) (Mapping mapping.GroupMap)
    (cond (pointwise nat_eq word (codes "sg.unmap")) (Mapping mapping.GroupUnmap)
    (cond (pointwise nat_eq word (codes "sg.expose")) (Mapping mapping.GroupExpose) (Mapping mapping.GroupHide))))))))))))))))))))

keyword_back : (k : Keyword) → keyword_in (keyword_text k) ≡ k
keyword_back (Zoning zoning.AliasPut) = refl
keyword_back (Zoning zoning.AliasDrop) = refl
keyword_back (Zoning zoning.ZonePut) = refl
keyword_back (Zoning zoning.ZoneDrop) = refl
keyword_back (Zoning zoning.SetPut) = refl
keyword_back (Zoning zoning.SetDrop) = refl
keyword_back (Zoning zoning.Activate) = refl
keyword_back (Zoning zoning.Deactivate) = refl
keyword_back (Zoning zoning.Default) = refl
keyword_back (Mapping mapping.HostGroupPut) = refl
keyword_back (Mapping mapping.HostGroupDrop) = refl
keyword_back (Mapping mapping.GroupNew) = refl
keyword_back (Mapping mapping.GroupDrop) = refl
keyword_back (Mapping mapping.GroupHost) = refl
keyword_back (Mapping mapping.GroupUnhost) = refl
keyword_back (Mapping mapping.GroupTarget) = refl
keyword_back (Mapping mapping.GroupUntarget) = refl
keyword_back (Mapping mapping.GroupMap) = refl
keyword_back (Mapping mapping.GroupUnmap) = refl
keyword_back (Mapping mapping.GroupExpose) = refl
keyword_back (Mapping mapping.GroupHide) = refl

-- two keywords have two texts
pub one_keyword : (k l : Keyword) → keyword_text k ≡ keyword_text l → k ≡ l
one_keyword k l e = sym (keyword_back k) ∙ ap keyword_in e ∙ keyword_back l

-- what a value is
fabric_in : Value → Fabric
fabric_in (of_fabric f) = f
fabric_in v = A

name_in : Value → List ℕ
name_in (of_name n) = n
name_in v = []

flag_in : Value → DefaultFlag
flag_in (of_flag f) = f
flag_in v = Deny

member_in : Value → Member
member_in (of_member m) = m
member_in (of_port_member m) = m
member_in v = member.Port 0

number_in : Value → ℕ
number_in (of_wwn w) = w
number_in (of_unit u) = u
number_in v = 0

value_at : List Value → ℕ → Value
value_at values i = get_or values i (of_name [])

-- the step of a keyword and the values behind it
made : Keyword → List Value → PlanStep
made (Zoning zoning.AliasPut) vs = alias_put (fabric_in (value_at vs 0)) (name_in (value_at vs 1)) (map member_in (drop 2 vs))
made (Zoning zoning.AliasDrop) vs = alias_drop (fabric_in (value_at vs 0)) (name_in (value_at vs 1))
made (Zoning zoning.ZonePut) vs = zone_put (fabric_in (value_at vs 0)) (name_in (value_at vs 1)) (map member_in (drop 2 vs))
made (Zoning zoning.ZoneDrop) vs = zone_drop (fabric_in (value_at vs 0)) (name_in (value_at vs 1))
made (Zoning zoning.SetPut) vs = set_put (fabric_in (value_at vs 0)) (name_in (value_at vs 1)) (map name_in (drop 2 vs))
made (Zoning zoning.SetDrop) vs = set_drop (fabric_in (value_at vs 0)) (name_in (value_at vs 1))
made (Zoning zoning.Activate) vs = activate (fabric_in (value_at vs 0)) (name_in (value_at vs 1))
made (Zoning zoning.Deactivate) vs = deactivate (fabric_in (value_at vs 0))
made (Zoning zoning.Default) vs = default_zone (fabric_in (value_at vs 0)) (flag_in (value_at vs 1))
made (Mapping mapping.HostGroupPut) vs = host_group_put (name_in (value_at vs 0)) (name_in (value_at vs 1)) (map name_in (drop 2 vs))
made (Mapping mapping.HostGroupDrop) vs = host_group_drop (name_in (value_at vs 0))
made (Mapping mapping.GroupNew) vs = group_new (name_in (value_at vs 0)) (name_in (value_at vs 1)) (name_in (value_at vs 2))
made (Mapping mapping.GroupDrop) vs = group_drop (name_in (value_at vs 0))
made (Mapping mapping.GroupHost) vs = group_host (name_in (value_at vs 0)) (name_in (value_at vs 1))
made (Mapping mapping.GroupUnhost) vs = group_unhost (name_in (value_at vs 0)) (name_in (value_at vs 1))
made (Mapping mapping.GroupTarget) vs = group_target (name_in (value_at vs 0)) (number_in (value_at vs 1))
made (Mapping mapping.GroupUntarget) vs = group_untarget (name_in (value_at vs 0)) (number_in (value_at vs 1))
made (Mapping mapping.GroupMap) vs = group_map (name_in (value_at vs 0)) (number_in (value_at vs 1)) (name_in (value_at vs 2))
made (Mapping mapping.GroupUnmap) vs = group_unmap (name_in (value_at vs 0)) (number_in (value_at vs 1))
made (Mapping mapping.GroupExpose) vs = group_expose (name_in (value_at vs 0))
made (Mapping mapping.GroupHide) vs = group_hide (name_in (value_at vs 0))

-- a list gives its items back, and its kinds are one
back : {X : Type 0} (take_out : Value → X) (make : X → Value) → ((x : X) → take_out (make x) ≡ x) → (xs : List X) → map take_out (map make xs) ≡ xs
back take_out make same [] = refl
back take_out make same (x ∷ xs) = λ i. same x i ∷ back take_out make same xs i

kinds : {X : Type 0} (kind : Kind) (make : X → Value) → ((x : X) → kind_of (make x) ≡ kind) → (xs : List X) → map kind_of (map make xs) ≡ replicate (length (map make xs)) kind
kinds kind make same [] = refl
kinds kind make same (x ∷ xs) = λ i. same x i ∷ kinds kind make same xs i

made_again : (s : PlanStep) → made (keyword_of s) (values_of s) ≡ s
unfolding made value_at fabric_in name_in flag_in member_in number_in
made_again (alias_put f n ms) = ap (alias_put f n) (back member_in of_port_member (λ m. refl) ms)
made_again (alias_drop f n) = refl
made_again (zone_put f n ms) = ap (zone_put f n) (back member_in of_member (λ m. refl) ms)
made_again (zone_drop f n) = refl
made_again (set_put f n zs) = ap (set_put f n) (back name_in of_name (λ z. refl) zs)
made_again (set_drop f n) = refl
made_again (activate f s) = refl
made_again (deactivate f) = refl
made_again (default_zone f d) = refl
made_again (host_group_put n t hs) = ap (host_group_put n t) (back name_in of_name (λ h. refl) hs)
made_again (host_group_drop n) = refl
made_again (group_new n t r) = refl
made_again (group_drop n) = refl
made_again (group_host n k) = refl
made_again (group_unhost n k) = refl
made_again (group_target n w) = refl
made_again (group_untarget n w) = refl
made_again (group_map n u v) = refl
made_again (group_unmap n u) = refl
made_again (group_expose n) = refl
made_again (group_hide n) = refl

-- the kinds of a step's values are those of its form
two_less : (vs : List Value) (v w : Value) → length vs ≡ length (v ∷ w ∷ vs) - 2
two_less vs v w = omega arith

listed_kinds : {X : Type 0} (kind : Kind) (make : X → Value) → ((x : X) → kind_of (make x) ≡ kind) → (v w : Value) (xs : List X) → map kind_of (map make xs) ≡ replicate (length (v ∷ w ∷ map make xs) - 2) kind
listed_kinds kind make same v w xs = kinds kind make same xs ∙ ap (λ n. replicate n kind) (two_less (map make xs) v w)

pub kinds_of_step : (s : PlanStep) → map kind_of (values_of s) ≡ kinds_in (form_of (keyword_of s)) (length (values_of s))
kinds_of_step (alias_put f n ms) = ap (λ ks. a_fabric ∷ a_name ∷ ks) (listed_kinds a_port_member of_port_member (λ m. refl) (of_fabric f) (of_name n) ms)
kinds_of_step (alias_drop f n) = refl
kinds_of_step (zone_put f n ms) = ap (λ ks. a_fabric ∷ a_name ∷ ks) (listed_kinds a_member of_member (λ m. refl) (of_fabric f) (of_name n) ms)
kinds_of_step (zone_drop f n) = refl
kinds_of_step (set_put f n zs) = ap (λ ks. a_fabric ∷ a_name ∷ ks) (listed_kinds a_name of_name (λ z. refl) (of_fabric f) (of_name n) zs)
kinds_of_step (set_drop f n) = refl
kinds_of_step (activate f s) = refl
kinds_of_step (deactivate f) = refl
kinds_of_step (default_zone f d) = refl
kinds_of_step (host_group_put n t hs) = ap (λ ks. a_name ∷ a_name ∷ ks) (listed_kinds a_name of_name (λ h. refl) (of_name n) (of_name t) hs)
kinds_of_step (host_group_drop n) = refl
kinds_of_step (group_new n t r) = refl
kinds_of_step (group_drop n) = refl
kinds_of_step (group_host n k) = refl
kinds_of_step (group_unhost n k) = refl
kinds_of_step (group_target n w) = refl
kinds_of_step (group_untarget n w) = refl
kinds_of_step (group_map n u v) = refl
kinds_of_step (group_unmap n u) = refl
kinds_of_step (group_expose n) = refl
kinds_of_step (group_hide n) = refl

-- as many words as values
pub as_many_values : (words : List (List ℕ)) (vs : List Value) → SpellsValues words vs → length words ≡ length vs
as_many_values [] [] h = refl
as_many_values [] (v ∷ vs) h = absurd h
as_many_values (w ∷ words) [] h = absurd h
as_many_values (w ∷ words) (v ∷ vs) h = ap suc (as_many_values words vs h.1)

-- a line spells one step
one_step : (words : List (List ℕ)) (s t : PlanStep) → SpellsStep words s → SpellsStep words t → s ≡ t
one_step [] s t h k = absurd h
one_step (first ∷ others) s t h k =
    let word : keyword_of s ≡ keyword_of t = one_keyword (keyword_of s) (keyword_of t) (sym h.keyword ∙ k.keyword) in
    let count : length (values_of s) ≡ length (values_of t) = sym (as_many_values others (values_of s) h.values) ∙ as_many_values others (values_of t) k.values in
    let same : map kind_of (values_of s) ≡ map kind_of (values_of t) = kinds_of_step s ∙ (λ i. kinds_in (form_of (word i)) (count i)) ∙ sym (kinds_of_step t) in
    let values : values_of s ≡ values_of t = one_list others (values_of s) (values_of t) same h.values k.values in
    sym (made_again s) ∙ (λ i. made (word i) (values i)) ∙ made_again t

-- lines spell one list of steps
pub one_plan : (lines : List (List ℕ)) (steps others : List PlanStep) → SpellsLines lines steps → SpellsLines lines others → steps ≡ others
one_plan [] [] [] h k = refl
one_plan [] [] (t ∷ others) h k = absurd k
one_plan [] (s ∷ steps) others h k = absurd h
one_plan (l ∷ lines) [] others h k = absurd h
one_plan (l ∷ lines) (s ∷ steps) [] h k = absurd k
one_plan (l ∷ lines) (s ∷ steps) (t ∷ others) h k =
    let first = one_step (words_of l) s t h.0 k.0 in
    let rest = one_plan lines steps others h.1 k.1 in
    λ i. first i ∷ rest i
