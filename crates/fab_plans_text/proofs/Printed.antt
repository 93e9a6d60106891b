-- What is printed of steps is read as the same steps.
use Rattle.std.proofs.Common.{ℕ, ◌≡◌, ◌<◌, ◌≤◌, ◌/◌, ◌%◌, suc, zero, Bool, true, false, ◌&&◌, List, [], ◌∷◌, ◌++◌, length, map, codes, append_assoc, append-nil, refl, sym, ap, ◌∙◌, subst, arith, rules, lit<, nat_lt}
use Rattle.std.specs.List.{flat_map, list_all, AllByRecursion}
use Rattle.std.specs.Char.{is_ascii_digit}
use Rattle.std.specs.Fmt.{decimal}
use Rattle.std.specs.Int.{w64, to_be_bytes}
use Rattle.std.proofs.lemmas.Bool.Decides.{nat_tests}
use Rattle.std.proofs.lemmas.List.{length-map}
use Rattle.fab_names.specs.Names.{is_name_char, IsNameText}
use Rattle.fab_names.specs.Numbers.{SpellsNumber}
use Rattle.fab_names.specs.Places.{place_text}
use Rattle.fab_names.specs.Addresses.{address_text}
use Rattle.fab_names.specs.Members.{SpellsMember, member_text}
use Rattle.fab_names.specs.WorldWideNames.{paired, hex_digit, digits_of, wwn_text}
use Rattle.fab_names.specs.declared.fabric.Fabric.TheVariants.{A, B}
use Rattle.fab_names.specs.declared.member.Member.{Member}
use Rattle.fab_names.specs.declared.member.Member.TheVariants as member
use Rattle.fab_names.proofs.Copies.{and_right}
use Rattle.fab_names.proofs.Numerals.{printed_number, all_digits}
use Rattle.fab_names.proofs.Printed.{printed_spells, wwn_fits, member_again}
use Rattle.fab_names.proofs.Splits.{Lacks}
use Rattle.fab_plans_base.specs.fab_zoning.declared.flag.DefaultFlag.TheVariants.{Permit, Deny}
use Rattle.fab_plans_base.specs.Texts.{lines_of, words_of}
use Rattle.fab_plans_base.specs.Values.{Value, of_fabric, of_name, of_flag, of_member, of_port_member, of_wwn, of_unit, value_text, SpellsValue, SpellsValues}
use Rattle.fab_plans_base.specs.Steps.{PlanStep}
use Rattle.fab_plans_base.specs.Forms.{keyword_text, form_of, Takes, keyword_of, values_of}
use Rattle.fab_plans_base.specs.Plans.{SpellsStep, IsStep, SpellsLines, IsWithinLimits, Spells, spaced, step_text, plan_text}
use Rattle.fab_plans_base.specs.declared.keyword.Keyword.{Keyword}
use Rattle.fab_plans_base.specs.declared.keyword.Keyword.TheVariants.{Zoning, Mapping}
use Rattle.fab_plans_base.specs.declared.zoning_keyword.ZoningKeyword.TheVariants as zoning
use Rattle.fab_plans_base.specs.declared.mapping_keyword.MappingKeyword.TheVariants as mapping
use Rattle.fab_plans_base.proofs.Cuts.{first_word_cut, only_word, first_line_cut}
use Rattle.fab_plans_base.proofs.Unique.{as_many_values, one_plan}

-- each character comes after this one
abbrev pub Above : ℕ → List ℕ → Type 0
Above least = AllByRecursion (λ c. least < c)

-- no character is a space or a line feed
abbrev pub Clear : List ℕ → Type 0
Clear = Above 32

above-append : (k : ℕ) (xs ys : List ℕ) → Above k xs → Above k ys → Above k (xs ++ ys)
above-append k [] ys a b = b
above-append k (x ∷ xs) ys a b = (a.0, above-append k xs ys a.1 b)

above_less : (k n : ℕ) (text : List ℕ) → k ≤ n → Above n text → Above k text
above_less k n [] le h = tt
above_less k n (c ∷ text) le h = (omega (arith, h.0), above_less k n text le h.1)

lacks : (k : ℕ) (text : List ℕ) → Above k text → Lacks k text
lacks k [] above i below = absurd (omega arith)
lacks k (c ∷ text) above zero below = omega (arith, above.0)
lacks k (c ∷ text) above (suc i) below = lacks k text above.1 i (omega arith)

-- each character of a list passes a test that a space and a line feed fail
by_test : (test : ℕ → Bool) → ((c : ℕ) → test c ≡ true → 32 < c) → (text : List ℕ) → list_all test text ≡ true → Clear text
by_test test above [] h = tt
by_test test above (c ∷ text) h = (above c (and_left (test c) (list_all test text) h), by_test test above text (and_right (test c) (list_all test text) h))
  where
    and_left : (a b : Bool) → (a && b) ≡ true → a ≡ true
    and_left true b e = refl
    and_left false b e = absurd cc

name_char_above : (c : ℕ) → is_name_char c ≡ true → 32 < c
name_char_above c h = grind (arith, nat_tests)

digit_above : (c : ℕ) → is_ascii_digit c ≡ true → 32 < c
digit_above c h = grind (arith, nat_tests)

clear_name : (text : List ℕ) → IsNameText text → Clear text
clear_name text h = by_test is_name_char name_char_above text (search rules)

clear_number : (text : List ℕ) (n : ℕ) → SpellsNumber text n → Clear text
clear_number text n h = by_test is_ascii_digit digit_above text (all_digits text n h)

hex_above : (d : ℕ) → 32 < hex_digit d
hex_above d = grind (arith, nat_tests)

clear_digits : (bs : List ℕ) → Clear (digits_of bs)
clear_digits [] = tt
clear_digits (b ∷ bs) = (hex_above _, (hex_above _, clear_digits bs))

clear_paired : (ds : List ℕ) → Clear ds → Clear (paired ds)
clear_paired [] h = tt
clear_paired (a ∷ []) h = h
clear_paired (a ∷ b ∷ []) h = h
clear_paired (a ∷ b ∷ c ∷ ds) h = (h.0, (h.1.0, (lit< tt, clear_paired (c ∷ ds) h.1.1)))

clear_wwn : (n : ℕ) → Clear (wwn_text n)
clear_wwn n = clear_paired (digits_of (to_be_bytes w64 n)) (clear_digits (to_be_bytes w64 n))

clear_literal : (text : List ℕ) → list_all (nat_lt 32) text ≡ true → Clear text
clear_literal text h = by_test (nat_lt 32) (λ c passes. grind (arith, nat_tests)) text h

clear_member : (text : List ℕ) (m : Member) → SpellsMember text m → Clear (member_text m)
clear_member text (member.Port n) s = above-append 32 (codes "wwpn=") (wwn_text n) (clear_literal (codes "wwpn=") refl) (clear_wwn n)
clear_member text (member.Node n) s = above-append 32 (codes "wwnn=") (wwn_text n) (clear_literal (codes "wwnn=") refl) (clear_wwn n)
clear_member text (member.Place p) s =
    let range = s.2.3.in_range in
    let domain = clear_number (decimal p.domain) p.domain (printed_number p.domain (omega (arith, range.few))) in
    let slot = clear_number (decimal p.slot) p.slot (printed_number p.slot (omega (arith, range.slot))) in
    above-append 32 (codes "dp=") (place_text p) (clear_literal (codes "dp=") refl)
    (above-append 32 (decimal p.domain ++ codes ",") (decimal p.slot) (above-append 32 (decimal p.domain) (codes ",") domain (clear_literal (codes ",") refl)) slot)
clear_member text (member.Address n) s = above-append 32 (codes "id=") (address_text n) (clear_literal (codes "id=") refl) (clear_digits (n / 65536 ∷ n / 256 % 256 ∷ n % 256 ∷ []))
clear_member text (member.Alias a) s = above-append 32 (codes "alias=") a (clear_literal (codes "alias=") refl) (clear_name a (subst IsNameText (sym s.2.0) s.2.1))

-- so is that of a value
value_again : (word : List ℕ) (v : Value) → SpellsValue word v → SpellsValue (value_text v) v
value_again word (of_fabric f) s = refl
value_again word (of_name n) s = (refl, subst IsNameText (sym s.0) s.1)
value_again word (of_flag f) s = refl
value_again word (of_member m) s = member_again word m s
value_again word (of_port_member m) s = (member_again word m s.0, s.1)
value_again word (of_wwn w) s = printed_spells w s.1 (wwn_fits word w s.0)
value_again word (of_unit u) s = record { number = printed_number u (omega (arith, s.in_range)); in_range = s.in_range }

clear_value : (word : List ℕ) (v : Value) → SpellsValue word v → Clear (value_text v)
clear_value word (of_fabric A) s = clear_literal (codes "A") refl
clear_value word (of_fabric B) s = clear_literal (codes "B") refl
clear_value word (of_name n) s = clear_name n (subst IsNameText (sym s.0) s.1)
clear_value word (of_flag Permit) s = clear_literal (codes "permit") refl
clear_value word (of_flag Deny) s = clear_literal (codes "deny") refl
clear_value word (of_member m) s = clear_member word m s
clear_value word (of_port_member m) s = clear_member word m s.0
clear_value word (of_wwn w) s = clear_wwn w
clear_value word (of_unit u) s = clear_number (decimal u) u (printed_number u (omega (arith, s.in_range)))

values_again : (words : List (List ℕ)) (vs : List Value) → SpellsValues words vs → SpellsValues (map value_text vs) vs
values_again [] [] s = tt
values_again [] (v ∷ vs) s = absurd s
values_again (w ∷ words) [] s = absurd s
values_again (w ∷ words) (v ∷ vs) s = (value_again w v s.0, values_again words vs s.1)

clear_values : (words : List (List ℕ)) (vs : List Value) → SpellsValues words vs → AllByRecursion (λ v. Clear (value_text v)) vs
clear_values [] [] s = tt
clear_values [] (v ∷ vs) s = absurd s
clear_values (w ∷ words) [] s = absurd s
clear_values (w ∷ words) (v ∷ vs) s = (clear_value w v s.0, clear_values words vs s.1)

clear_keyword : (k : Keyword) → Clear (keyword_text k)
clear_keyword (Zoning zoning.AliasPut) = clear_literal (codes "alias.put") refl
clear_keyword (Zoning zoning.AliasDrop) = clear_literal (codes "alias.drop") refl
clear_keyword (Zoning zoning.ZonePut) = clear_literal (codes "zone.put") refl
clear_keyword (Zoning zoning.ZoneDrop) = clear_literal (codes "zone.drop") refl
clear_keyword (Zoning zoning.SetPut) = clear_literal (codes "set.put") refl
clear_keyword (Zoning zoning.SetDrop) = clear_literal (codes "set.drop") refl
clear_keyword (Zoning zoning.Activate) = clear_literal (codes "activate") refl
clear_keyword (Zoning zoning.Deactivate) = clear_literal (codes "deactivate") refl
clear_keyword (Zoning zoning.Default) = clear_literal (codes "default") refl
clear_keyword (Mapping mapping.HostGroupPut) = clear_literal (codes "hg.put") refl
clear_keyword (Mapping mapping.HostGroupDrop) = clear_literal (codes "hg.drop") refl
clear_keyword (Mapping mapping.GroupNew) = clear_literal (codes "sg.new") refl
clear_keyword (Mapping mapping.GroupDrop) = clear_literal (codes "sg.drop") refl
clear_keyword (Mapping mapping.GroupHost) = clear_literal (codes "sg.host") refl
clear_keyword (Mapping mapping.GroupUnhost) = clear_literal (codes "sg.unhost") refl
clear_keyword (Mapping mapping.GroupTarget) = clear_literal (codes "sg.target") refl
clear_keyword (Mapping mapping.GroupUntarget) = clear_literal (codes "sg.untarget") refl
clear_keyword (Mapping mapping.GroupMap) = clear_literal (codes "sg.map") refl
clear_keyword (Mapping mapping.GroupUnmap) = clear_literal (codes "sg.unmap") refl
clear_keyword (Mapping mapping.GroupExpose) = clear_literal (codes "sg.expose") refl
clear_keyword (Mapping mapping.GroupHide) = clear_literal (codes "sg.hide") refl

-- a line of words, each behind a space but the first, is cut into these words
words_again : (word : List ℕ) (vs : List Value) → Clear word → AllByRecursion (λ v. Clear (value_text v)) vs → words_of (word ++ flat_map spaced vs) ≡ word ∷ map value_text vs
words_again word [] clear all = ap words_of (append-nil word) ∙ only_word word (lacks 32 word clear)
words_again word (v ∷ vs) clear all =
    first_word_cut word (value_text v ++ flat_map spaced vs) (lacks 32 word clear) ∙ ap (λ ws. word ∷ ws) (words_again (value_text v) vs all.0 all.1)

no_feed : (vs : List Value) → AllByRecursion (λ v. Clear (value_text v)) vs → Above 10 (flat_map spaced vs)
no_feed [] all = tt
no_feed (v ∷ vs) all = (lit< tt, above-append 10 (value_text v) (flat_map spaced vs) (above_less 10 32 (value_text v) (omega arith) all.0) (no_feed vs all.1))

-- the printed form of a step, without its line feed
pub line_text : PlanStep → List ℕ
line_text step = keyword_text (keyword_of step) ++ flat_map spaced (values_of step)

pub step_again : (words : List (List ℕ)) (step : PlanStep) → SpellsStep words step → SpellsStep (words_of (line_text step)) step
unfolding line_text
step_again [] step h = absurd h
step_again (first ∷ others) step h =
    let vs = values_of step in
    let count : length others ≡ length (map value_text vs) = as_many_values others vs h.values ∙ sym (same_length vs) in
    subst (λ ws. SpellsStep ws step) (sym (words_again (keyword_text (keyword_of step)) vs (clear_keyword (keyword_of step)) (clear_values others vs h.values))) (record {
      keyword = refl;
      values = values_again others vs h.values;
      count = subst (Takes (form_of (keyword_of step))) count h.count;
    })
  where
    same_length : (vs : List Value) → length (map value_text vs) ≡ length vs
    same_length vs = rw length-map refl

lines_again : (words : List (List ℕ)) (step : PlanStep) (rest : List ℕ) → SpellsStep words step → lines_of (step_text step ++ rest) ≡ line_text step ∷ lines_of rest
unfolding line_text
lines_again [] step rest h = absurd h
lines_again (first ∷ others) step rest h =
    let front = keyword_text (keyword_of step) in
    let behind = flat_map spaced (values_of step) in
    let above = above-append 10 front behind (above_less 10 32 front (omega arith) (clear_keyword (keyword_of step))) (no_feed (values_of step) (clear_values others (values_of step) h.values)) in
    ap lines_of (append_assoc (front ++ behind) (codes "\n") rest) ∙ first_line_cut (front ++ behind) rest (lacks 10 (front ++ behind) above)

plan_again : (steps : List PlanStep) → AllByRecursion IsStep steps → SpellsLines (lines_of (plan_text steps)) steps
plan_again [] h = tt
plan_again (s ∷ steps) ((line, spelled), rest) =
    subst (λ ls. SpellsLines ls (s ∷ steps)) (sym (lines_again (words_of line) s (plan_text steps) spelled)) (step_again (words_of line) s spelled, plan_again steps rest)

-- steps that lines spell are steps
pub spelled_steps : (lines : List (List ℕ)) (steps : List PlanStep) → SpellsLines lines steps → AllByRecursion IsStep steps
spelled_steps [] [] h = tt
spelled_steps [] (s ∷ steps) h = absurd h
spelled_steps (l ∷ lines) [] h = absurd h
spelled_steps (l ∷ lines) (s ∷ steps) h = ((l, h.0), spelled_steps lines steps h.1)

pub printed_again : (steps : List PlanStep) → AllByRecursion IsStep steps → IsWithinLimits steps → Spells (plan_text steps) steps
printed_again steps h within = record {
  lines = plan_again steps h;
  some = within.some;
  few = within.few;
  short = within.short;
  printed_short = within.short;
}

-- equal printed forms are of equal steps
pub one_printed : (steps others : List PlanStep) → AllByRecursion IsStep steps → AllByRecursion IsStep others → plan_text steps ≡ plan_text others → steps ≡ others
one_printed steps others h k e =
    one_plan (lines_of (plan_text others)) steps others (subst (λ text. SpellsLines (lines_of text) steps) e (plan_again steps h)) (plan_again others k)
