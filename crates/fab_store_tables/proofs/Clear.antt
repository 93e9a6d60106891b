-- No column of a configuration's tables holds a space.
use Rattle.std.proofs.Common.{ℕ, ◌≡◌, ◌<◌, ◌^◌, ◌/◌, ◌%◌, suc, zero, Bool, true, false, ◌&&◌, List, [], ◌∷◌, ◌++◌, None, Some, codes, refl, sym, ap, ◌∙◌, subst, arith, rules, lit<, nat_lt}
use Rattle.std.specs.List.{list_all, AllByRecursion}
use Rattle.std.specs.Char.{is_ascii_digit}
use Rattle.std.specs.Fmt.{decimal, signed_decimal}
use Rattle.std.specs.Int.{w64, to_be_bytes}
use Rattle.std.proofs.lemmas.Bool.Decides.{nat_tests}
use Rattle.fab_names.specs.Names.{is_name_char, IsNameText, SpellsName}
use Rattle.fab_names.specs.Fabrics.{SpellsFabric}
use Rattle.fab_names.specs.Numbers.{SpellsNumber}
use Rattle.fab_names.specs.Places.{place_text}
use Rattle.fab_names.specs.Addresses.{address_text}
use Rattle.fab_names.specs.Members.{SpellsMember, SpellsPrinted, member_text}
use Rattle.fab_names.specs.WorldWideNames.{paired, hex_digit, digits_of, wwn_text, SpellsPlain}
use Rattle.fab_names.specs.declared.fabric.Fabric.{Fabric}
use Rattle.fab_names.specs.declared.fabric.Fabric.TheVariants.{A, B}
use Rattle.fab_names.specs.declared.member.Member.{Member}
use Rattle.fab_names.specs.declared.member.Member.TheVariants as member
use Rattle.fab_names.proofs.Copies.{and_right}
use Rattle.fab_names.proofs.Numerals.{printed_number, all_digits}
use Rattle.fab_names.proofs.Splits.{Lacks}
use Rattle.fab_store_rows.specs.declared.config_row.SettingRow.{SettingRow}
use Rattle.fab_store_rows.specs.declared.config_row.SettingRow.TheVariants.{ActiveSet, DefaultZone}
use Rattle.fab_store_rows.specs.declared.config_row.ZoningItem.{ZoningItem}
use Rattle.fab_store_rows.specs.declared.config_row.ZoningItem.TheVariants.{Alias, Zone, Set}
use Rattle.fab_store_rows.specs.declared.config_row.ZoningRow.{ZoningRow}
use Rattle.fab_store_rows.specs.declared.config_row.ActiveRow.{ActiveRow}
use Rattle.fab_store_rows.specs.declared.config_row.GroupRow.{GroupRow}
use Rattle.fab_store_rows.specs.declared.config_row.GroupRow.TheVariants as group
use Rattle.fab_store_rows.specs.declared.config_row.StoragePart.TheVariants as part
use Rattle.fab_store_rows.specs.declared.config_row.PartRow.{PartRow}
use Rattle.fab_store_rows.specs.declared.config_row.PartRow.TheVariants as parts
use Rattle.fab_store_rows.specs.declared.config_row.ConfigRow.{ConfigRow}
use Rattle.fab_store_rows.specs.declared.config_row.ConfigRow.TheVariants as row
use Rattle.fab_store_columns_base.specs.Columns.{ShowsDecimal}
use Rattle.fab_store_columns.specs.MetaLines.{MetaColumns, ShowsSetting, ShowsSettingValue, setting_key}
use Rattle.fab_store_columns.specs.ZoningLines.{ZoningColumns, ShowsZoning, ShowsItem, kind_of_item, ActiveColumns, ShowsActive}
use Rattle.fab_store_columns.specs.GroupLines.{GroupColumns, ShowsGroup, ShowsArray, kind_of_group, PartColumns, ShowsPart, ShowsPartItem, ShowsPartVolume, kind_of_owner, part_word}
use Rattle.fab_store_tables.specs.UndoLines.{ShowsColumns, table_text, meta_columns, zoning_columns, active_columns, group_columns, part_columns}
use Rattle.fab_store_tables.specs.Words.{digit_text}
use Rattle.fab_store_tables.proofs.Digits.{digit_is}

-- no character is a space: each comes after it
abbrev pub Clear : List ℕ → Type 0
Clear = AllByRecursion (λ c. 32 < c)

pub clear_lacks : (text : List ℕ) → Clear text → Lacks 32 text
clear_lacks [] clear i below = absurd (omega arith)
clear_lacks (c ∷ text) clear zero below = omega (arith, clear.0)
clear_lacks (c ∷ text) clear (suc i) below = clear_lacks text clear.1 i (omega arith)

-- ---- characters

clear_both : (xs ys : List ℕ) → Clear xs → Clear ys → Clear (xs ++ ys)
clear_both [] ys a b = b
clear_both (x ∷ xs) ys a b = (a.0, clear_both xs ys a.1 b)

and_left : (a b : Bool) → (a && b) ≡ true → a ≡ true
and_left true b e = refl
and_left false b e = absurd cc

-- each character of a text passes a test that a space fails
by_test : (test : ℕ → Bool) → ((c : ℕ) → test c ≡ true → 32 < c) → (text : List ℕ) → list_all test text ≡ true → Clear text
by_test test above [] h = tt
by_test test above (c ∷ text) h = (above c (and_left (test c) (list_all test text) h), by_test test above text (and_right (test c) (list_all test text) h))

literal : (text : List ℕ) → list_all (nat_lt 32) text ≡ true → Clear text
literal text h = by_test (nat_lt 32) (λ c passes. grind (arith, nat_tests)) text h

name_char_above : (c : ℕ) → is_name_char c ≡ true → 32 < c
name_char_above c h = grind (arith, nat_tests)

digit_above : (c : ℕ) → is_ascii_digit c ≡ true → 32 < c
digit_above c h = grind (arith, nat_tests)

hex_above : (d : ℕ) → 32 < hex_digit d
hex_above d = grind (arith, nat_tests)

-- ---- names, numbers, members

clear_text : (text : List ℕ) → IsNameText text → Clear text
clear_text text h = by_test is_name_char name_char_above text (search rules)

clear_name : (text n : List ℕ) → SpellsName text n → Clear text
clear_name text n s = clear_text text s.1

clear_number : (text : List ℕ) (n : ℕ) → SpellsNumber text n → Clear text
clear_number text n h = by_test is_ascii_digit digit_above text (all_digits text n h)

clear_digits : (bs : List ℕ) → Clear (digits_of bs)
clear_digits [] = tt
clear_digits (b ∷ bs) = (hex_above _, (hex_above _, clear_digits bs))

clear_paired : (ds : List ℕ) → Clear ds → Clear (paired ds)
clear_paired [] h = tt
clear_paired (a ∷ []) h = h
clear_paired (a ∷ b ∷ []) h = h
clear_paired (a ∷ b ∷ c ∷ ds) h = (h.0, (h.1.0, (lit< tt, clear_paired (c ∷ ds) h.1.1)))

clear_wwn : (n : ℕ) → Clear (wwn_text n)
clear_wwn n = clear_paired (digits_of (to_be_bytes w64 n)) (clear_digits (to_be_bytes w64 n))

clear_plain : (text : List ℕ) (n : ℕ) → SpellsPlain text n → Clear text
clear_plain text n s = subst Clear (sym s.1) (clear_digits (to_be_bytes w64 n))

clear_decimal : (most : ℕ) → most < 2 ^ 64 → (text : List ℕ) (n : ℕ) → ShowsDecimal most text n → Clear text
clear_decimal most small text n s = subst Clear (sym s.digits) (clear_number (decimal n) n (printed_number n (omega (arith, s.high))))

member_clear : (text : List ℕ) (m : Member) → SpellsMember text m → Clear (member_text m)
member_clear text (member.Port n) s = clear_both (codes "wwpn=") (wwn_text n) (literal (codes "wwpn=") refl) (clear_wwn n)
member_clear text (member.Node n) s = clear_both (codes "wwnn=") (wwn_text n) (literal (codes "wwnn=") refl) (clear_wwn n)
member_clear text (member.Place p) s =
    let range = s.2.3.in_range in
    let domain = clear_number (decimal p.domain) p.domain (printed_number p.domain (omega (arith, range.few))) in
    let slot = clear_number (decimal p.slot) p.slot (printed_number p.slot (omega (arith, range.slot))) in
    clear_both (codes "dp=") (place_text p) (literal (codes "dp=") refl)
    (clear_both (decimal p.domain ++ codes ",") (decimal p.slot) (clear_both (decimal p.domain) (codes ",") domain (literal (codes ",") refl)) slot)
member_clear text (member.Address n) s = clear_both (codes "id=") (address_text n) (literal (codes "id=") refl) (clear_digits (n / 65536 ∷ n / 256 % 256 ∷ n % 256 ∷ []))
member_clear text (member.Alias a) s = clear_both (codes "alias=") a (literal (codes "alias=") refl) (clear_text a (subst IsNameText (sym s.2.0) s.2.1))

clear_member : (text : List ℕ) (m : Member) → SpellsPrinted text m → Clear text
clear_member text m s = subst Clear (sym s.1) (member_clear text m s.0)

clear_fabric : (text : List ℕ) (f : Fabric) → SpellsFabric text f → Clear text
clear_fabric text A s = subst Clear (sym s) (literal (codes "A") refl)
clear_fabric text B s = subst Clear (sym s) (literal (codes "B") refl)

clear_empty : (text : List ℕ) → text ≡ [] → Clear text
clear_empty text e = subst Clear (sym e) tt

-- ---- settings

clear_key : (r : SettingRow) → Clear (setting_key r)
clear_key (ActiveSet A n) = literal (codes "active.A") refl
clear_key (ActiveSet B n) = literal (codes "active.B") refl
clear_key (DefaultZone A p) = literal (codes "default.A") refl
clear_key (DefaultZone B p) = literal (codes "default.B") refl

clear_value : (text : List ℕ) (r : SettingRow) → ShowsSettingValue text r → Clear text
clear_value text (ActiveSet f None) s = clear_empty text s
clear_value text (ActiveSet f (Some n)) s = clear_name text n s
clear_value text (DefaultZone f true) s = subst Clear (sym s) (literal (codes "permit") refl)
clear_value text (DefaultZone f false) s = subst Clear (sym s) (literal (codes "deny") refl)

clear_setting : (l : MetaColumns) (r : SettingRow) → ShowsSetting l r → AllByRecursion Clear (meta_columns l)
clear_setting l r s = (subst Clear (sym s.key) (clear_key r), (clear_value l.value r s.value, tt))

-- ---- zoning

clear_kind : (r : ZoningItem) → Clear (kind_of_item r)
clear_kind (Alias n m) = literal (codes "alias") refl
clear_kind (Zone n m) = literal (codes "zone") refl
clear_kind (Set n z) = literal (codes "set") refl

clear_item : (text : List ℕ) (r : ZoningItem) → ShowsItem text r → Clear text
clear_item text (Alias n m) s = clear_member text m s
clear_item text (Zone n m) s = clear_member text m s
clear_item text (Set n z) s = clear_name text z s

clear_zoning : (l : ZoningColumns) (r : ZoningRow) → ShowsZoning l r → AllByRecursion Clear (zoning_columns l)
clear_zoning l r s = (
  clear_fabric l.fabric r.fabric s.fabric,
  (subst Clear (sym s.item.kind) (clear_kind r.item), (clear_name l.name _ s.item.name, (clear_item l.item r.item s.item.item, tt))),
)

clear_active : (l : ActiveColumns) (r : ActiveRow) → ShowsActive l r → AllByRecursion Clear (active_columns l)
clear_active l r s = (clear_fabric l.fabric r.fabric s.fabric, (clear_name l.zone r.zone s.zone, (clear_member l.member r.member s.member, tt)))

-- ---- groups and their parts

clear_group_kind : (r : GroupRow) → Clear (kind_of_group r)
clear_group_kind (group.Host r) = literal (codes "host") refl
clear_group_kind (group.Storage r) = literal (codes "storage") refl

clear_array : (text : List ℕ) (r : GroupRow) → ShowsArray text r → Clear text
clear_array text (group.Host r) s = clear_empty text s
clear_array text (group.Storage r) s = clear_name text r.array s

clear_digit : (b : Bool) → Clear (digit_text b)
clear_digit true = literal (codes "1") refl
clear_digit false = literal (codes "0") refl

clear_group : (l : GroupColumns) (r : GroupRow) → ShowsGroup l r → AllByRecursion Clear (group_columns l)
clear_group l r s = (
  subst Clear (sym s.kind) (clear_group_kind r),
  (clear_name l.name _ s.name, (clear_name l.tenant _ s.tenant, (clear_array l.array r s.array, (subst Clear (sym (ap signed_decimal s.exposed ∙ digit_is _)) (clear_digit _), tt)))),
)

clear_owner : (r : PartRow) → Clear (kind_of_owner r)
clear_owner (parts.Host n h) = literal (codes "host") refl
clear_owner (parts.Storage n p) = literal (codes "storage") refl

clear_word : (r : PartRow) → Clear (part_word r)
clear_word (parts.Host n h) = literal (codes "host") refl
clear_word (parts.Storage n (part.HostGroup h)) = literal (codes "hostgroup") refl
clear_word (parts.Storage n (part.Target t)) = literal (codes "target") refl
clear_word (parts.Storage n (part.Unit u v)) = literal (codes "unit") refl

clear_part_item : (text : List ℕ) (r : PartRow) → ShowsPartItem text r → Clear text
clear_part_item text (parts.Host n h) s = clear_name text h s
clear_part_item text (parts.Storage n (part.HostGroup h)) s = clear_name text h s
clear_part_item text (parts.Storage n (part.Target t)) s = clear_plain text t s
clear_part_item text (parts.Storage n (part.Unit u v)) s = clear_decimal _ (lit< tt) text u s

clear_volume : (text : List ℕ) (r : PartRow) → ShowsPartVolume text r → Clear text
clear_volume text (parts.Host n h) s = clear_empty text s
clear_volume text (parts.Storage n (part.HostGroup h)) s = clear_empty text s
clear_volume text (parts.Storage n (part.Target t)) s = clear_empty text s
clear_volume text (parts.Storage n (part.Unit u v)) s = clear_name text v s

clear_part : (l : PartColumns) (r : PartRow) → ShowsPart l r → AllByRecursion Clear (part_columns l)
clear_part l r s = (
  subst Clear (sym s.kind) (clear_owner r),
  (clear_name l.name _ s.name, (subst Clear (sym s.part.part) (clear_word r), (clear_part_item l.item r s.part.item, (clear_volume l.volume r s.part.volume, tt)))),
)

-- ---- rows

pub clear_table : (r : ConfigRow) → Clear (table_text r)
clear_table (row.Setting r) = literal (codes "meta") refl
clear_table (row.Zoning r) = literal (codes "zoning") refl
clear_table (row.Active r) = literal (codes "active") refl
clear_table (row.Group r) = literal (codes "groups") refl
clear_table (row.Part r) = literal (codes "group_parts") refl

pub clear_columns : (columns : List (List ℕ)) (r : ConfigRow) → ShowsColumns columns r → AllByRecursion Clear columns
clear_columns columns (row.Setting r) (l, is, s) = subst (AllByRecursion Clear) (sym is) (clear_setting l r s)
clear_columns columns (row.Zoning r) (l, is, s) = subst (AllByRecursion Clear) (sym is) (clear_zoning l r s)
clear_columns columns (row.Active r) (l, is, s) = subst (AllByRecursion Clear) (sym is) (clear_active l r s)
clear_columns columns (row.Group r) (l, is, s) = subst (AllByRecursion Clear) (sym is) (clear_group l r s)
clear_columns columns (row.Part r) (l, is, s) = subst (AllByRecursion Clear) (sym is) (clear_part l r s)
