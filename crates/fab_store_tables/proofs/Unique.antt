-- A line of changes to undo shows one row at most, and a row is shown by one line.
use Rattle.std.proofs.Common.{ℕ, ◌≡◌, List, [], ◌∷◌, drop, get_or, codes, refl, sym, ap, ◌∙◌, subst, arith}
use Rattle.std.specs.List.{join_with_byte}
use Rattle.std.specs.Fmt.{signed_decimal}
use Rattle.fab_store_rows.specs.declared.config_row.GroupRow.{GroupRow}
use Rattle.fab_store_rows.specs.declared.config_row.ConfigRow.{ConfigRow}
use Rattle.fab_store_rows.specs.declared.config_row.ConfigRow.TheVariants as row
use Rattle.fab_store_rows.specs.declared.record_row.Sign.{Sign}
use Rattle.fab_store_rows.specs.declared.record_row.Sign.TheVariants.{Taken, Added}
use Rattle.fab_store_rows.specs.declared.record_row.UndoRow.{UndoRow}
use Rattle.fab_store_columns_base.specs.Columns.{flag_number}
use Rattle.fab_store_columns.specs.MetaLines.{MetaColumns, ShowsSetting}
use Rattle.fab_store_columns.specs.ZoningLines.{ZoningColumns, ShowsZoning, ActiveColumns, ShowsActive}
use Rattle.fab_store_columns.specs.GroupLines.{GroupColumns, ShowsGroup, PartColumns, ShowsPart, is_exposed}
use Rattle.fab_store_columns.proofs.Unique.{one_name, same_name}
use Rattle.fab_store_columns.proofs.UniqueConfig.{one_setting, one_setting_line, one_zoning, one_zoning_line, one_active, one_active_line, one_group, one_group_line, one_part, one_part_line}
use Rattle.fab_store_tables.specs.UndoLines.{ShowsColumns, ShowsEntry, UndoColumns, ShowsUndo, sign_text, table_text, meta_columns, zoning_columns, active_columns, group_columns, part_columns}
use Rattle.fab_store_tables.proofs.Digits.{digit_is, one_digit}
use Rattle.fab_store_tables.proofs.Entries.{entry_words, first, sixth}

-- the word at a place
at : (n : ℕ) (v w : List (List ℕ)) → v ≡ w → get_or v n [] ≡ get_or w n []
at n v w e = ap (λ (ws : List (List ℕ)). get_or ws n []) e

-- ---- the columns are of one line

meta_line : (l m : MetaColumns) → meta_columns l ≡ meta_columns m → l ≡ m
meta_line l m e =
    let key : l.key ≡ m.key = at 0 (meta_columns l) (meta_columns m) e in
    let value : l.value ≡ m.value = at 1 (meta_columns l) (meta_columns m) e in
    λ i. record { key = key i; value = value i }

zoning_line : (l m : ZoningColumns) → zoning_columns l ≡ zoning_columns m → l ≡ m
zoning_line l m e =
    let fabric : l.fabric ≡ m.fabric = at 0 (zoning_columns l) (zoning_columns m) e in
    let kind : l.kind ≡ m.kind = at 1 (zoning_columns l) (zoning_columns m) e in
    let name : l.name ≡ m.name = at 2 (zoning_columns l) (zoning_columns m) e in
    let item : l.item ≡ m.item = at 3 (zoning_columns l) (zoning_columns m) e in
    λ i. record { fabric = fabric i; kind = kind i; name = name i; item = item i }

active_line : (l m : ActiveColumns) → active_columns l ≡ active_columns m → l ≡ m
active_line l m e =
    let fabric : l.fabric ≡ m.fabric = at 0 (active_columns l) (active_columns m) e in
    let zone : l.zone ≡ m.zone = at 1 (active_columns l) (active_columns m) e in
    let member : l.member ≡ m.member = at 2 (active_columns l) (active_columns m) e in
    λ i. record { fabric = fabric i; zone = zone i; member = member i }

-- the last column of a group is one of two digits
group_line : (l m : GroupColumns) (r s : GroupRow) → ShowsGroup l r → ShowsGroup m s → group_columns l ≡ group_columns m → l ≡ m
group_line l m r s h k e =
    let kind : l.kind ≡ m.kind = at 0 (group_columns l) (group_columns m) e in
    let name : l.name ≡ m.name = at 1 (group_columns l) (group_columns m) e in
    let tenant : l.tenant ≡ m.tenant = at 2 (group_columns l) (group_columns m) e in
    let array : l.array ≡ m.array = at 3 (group_columns l) (group_columns m) e in
    let last : signed_decimal l.exposed ≡ signed_decimal m.exposed = at 4 (group_columns l) (group_columns m) e in
    let answer : is_exposed r ≡ is_exposed s = one_digit (is_exposed r) (is_exposed s) (sym (ap signed_decimal h.exposed ∙ digit_is (is_exposed r)) ∙ last ∙ ap signed_decimal k.exposed ∙ digit_is (is_exposed s)) in
    let exposed : l.exposed ≡ m.exposed = h.exposed ∙ ap flag_number answer ∙ sym k.exposed in
    λ i. record { kind = kind i; name = name i; tenant = tenant i; array = array i; exposed = exposed i }

part_line : (l m : PartColumns) → part_columns l ≡ part_columns m → l ≡ m
part_line l m e =
    let kind : l.kind ≡ m.kind = at 0 (part_columns l) (part_columns m) e in
    let name : l.name ≡ m.name = at 1 (part_columns l) (part_columns m) e in
    let part : l.part ≡ m.part = at 2 (part_columns l) (part_columns m) e in
    let item : l.item ≡ m.item = at 3 (part_columns l) (part_columns m) e in
    let volume : l.volume ≡ m.volume = at 4 (part_columns l) (part_columns m) e in
    λ i. record { kind = kind i; name = name i; part = part i; item = item i; volume = volume i }

-- ---- columns of one table show one row

one_row : (columns : List (List ℕ)) (p q : ConfigRow) → table_text p ≡ table_text q → ShowsColumns columns p → ShowsColumns columns q → p ≡ q
one_row columns (row.Setting x) (row.Setting y) e (l, is, s) (m, same, t) = ap row.Setting (one_setting m x y (subst (λ k. ShowsSetting k x) (meta_line l m (sym is ∙ same)) s) t)
one_row columns (row.Setting x) (row.Zoning y) e h k = absurd (omega (arith, first (codes "meta") (codes "zoning") e))
one_row columns (row.Setting x) (row.Active y) e h k = absurd (omega (arith, first (codes "meta") (codes "active") e))
one_row columns (row.Setting x) (row.Group y) e h k = absurd (omega (arith, first (codes "meta") (codes "groups") e))
one_row columns (row.Setting x) (row.Part y) e h k = absurd (omega (arith, first (codes "meta") (codes "group_parts") e))
one_row columns (row.Zoning x) (row.Setting y) e h k = absurd (omega (arith, first (codes "zoning") (codes "meta") e))
one_row columns (row.Zoning x) (row.Zoning y) e (l, is, s) (m, same, t) = ap row.Zoning (one_zoning m x y (subst (λ k. ShowsZoning k x) (zoning_line l m (sym is ∙ same)) s) t)
one_row columns (row.Zoning x) (row.Active y) e h k = absurd (omega (arith, first (codes "zoning") (codes "active") e))
one_row columns (row.Zoning x) (row.Group y) e h k = absurd (omega (arith, first (codes "zoning") (codes "groups") e))
one_row columns (row.Zoning x) (row.Part y) e h k = absurd (omega (arith, first (codes "zoning") (codes "group_parts") e))
one_row columns (row.Active x) (row.Setting y) e h k = absurd (omega (arith, first (codes "active") (codes "meta") e))
one_row columns (row.Active x) (row.Zoning y) e h k = absurd (omega (arith, first (codes "active") (codes "zoning") e))
one_row columns (row.Active x) (row.Active y) e (l, is, s) (m, same, t) = ap row.Active (one_active m x y (subst (λ k. ShowsActive k x) (active_line l m (sym is ∙ same)) s) t)
one_row columns (row.Active x) (row.Group y) e h k = absurd (omega (arith, first (codes "active") (codes "groups") e))
one_row columns (row.Active x) (row.Part y) e h k = absurd (omega (arith, first (codes "active") (codes "group_parts") e))
one_row columns (row.Group x) (row.Setting y) e h k = absurd (omega (arith, first (codes "groups") (codes "meta") e))
one_row columns (row.Group x) (row.Zoning y) e h k = absurd (omega (arith, first (codes "groups") (codes "zoning") e))
one_row columns (row.Group x) (row.Active y) e h k = absurd (omega (arith, first (codes "groups") (codes "active") e))
one_row columns (row.Group x) (row.Group y) e (l, is, s) (m, same, t) = ap row.Group (one_group m x y (subst (λ k. ShowsGroup k x) (group_line l m x y s t (sym is ∙ same)) s) t)
one_row columns (row.Group x) (row.Part y) e h k = absurd (omega (arith, sixth (codes "groups") (codes "group_parts") e))
one_row columns (row.Part x) (row.Setting y) e h k = absurd (omega (arith, first (codes "group_parts") (codes "meta") e))
one_row columns (row.Part x) (row.Zoning y) e h k = absurd (omega (arith, first (codes "group_parts") (codes "zoning") e))
one_row columns (row.Part x) (row.Active y) e h k = absurd (omega (arith, first (codes "group_parts") (codes "active") e))
one_row columns (row.Part x) (row.Group y) e h k = absurd (omega (arith, sixth (codes "group_parts") (codes "groups") e))
one_row columns (row.Part x) (row.Part y) e (l, is, s) (m, same, t) = ap row.Part (one_part m x y (subst (λ k. ShowsPart k x) (part_line l m (sym is ∙ same)) s) t)

-- ---- and a row is shown by one list of columns

same_columns : (v w : List (List ℕ)) (r : ConfigRow) → ShowsColumns v r → ShowsColumns w r → v ≡ w
same_columns v w (row.Setting r) (l, is, s) (m, same, t) = is ∙ ap meta_columns (one_setting_line l m r s t) ∙ sym same
same_columns v w (row.Zoning r) (l, is, s) (m, same, t) = is ∙ ap zoning_columns (one_zoning_line l m r s t) ∙ sym same
same_columns v w (row.Active r) (l, is, s) (m, same, t) = is ∙ ap active_columns (one_active_line l m r s t) ∙ sym same
same_columns v w (row.Group r) (l, is, s) (m, same, t) = is ∙ ap group_columns (one_group_line l m r s t) ∙ sym same
same_columns v w (row.Part r) (l, is, s) (m, same, t) = is ∙ ap part_columns (one_part_line l m r s t) ∙ sym same

-- ---- entries and lines

one_entry : (entry : List ℕ) (p q : ConfigRow) → ShowsEntry entry p → ShowsEntry entry q → p ≡ q
one_entry entry p q h k =
    let same = sym (entry_words entry p h) ∙ entry_words entry q k in
    one_row k.columns p q (at 0 (table_text p ∷ h.columns) (table_text q ∷ k.columns) same) (subst (λ ws. ShowsColumns ws p) (ap (drop 1) same) h.shown) k.shown

same_entry : (s t : List ℕ) (r : ConfigRow) → ShowsEntry s r → ShowsEntry t r → s ≡ t
same_entry s t r h k = h.joined ∙ ap (λ columns. join_with_byte 32 (table_text r ∷ columns)) (same_columns h.columns k.columns r h.shown k.shown) ∙ sym k.joined

one_sign : (s t : Sign) → sign_text s ≡ sign_text t → s ≡ t
one_sign Taken Taken e = refl
one_sign Taken Added e = absurd (omega (arith, first (codes "-") (codes "+") e))
one_sign Added Taken e = absurd (omega (arith, first (codes "+") (codes "-") e))
one_sign Added Added e = refl

pub one_undo : (l : UndoColumns) (p q : UndoRow) → ShowsUndo l p → ShowsUndo l q → p ≡ q
one_undo l p q h k =
    let plan = one_name l.plan p.plan q.plan h.plan k.plan in
    let sign = one_sign p.sign q.sign (sym h.sign ∙ k.sign) in
    let entry = one_entry l.entry p.row q.row h.entry k.entry in
    λ i. record { plan = plan i; sign = sign i; row = entry i }

pub one_undo_line : (l m : UndoColumns) (r : UndoRow) → ShowsUndo l r → ShowsUndo m r → l ≡ m
one_undo_line l m r h k =
    let plan = same_name l.plan m.plan r.plan h.plan k.plan in
    let sign = h.sign ∙ sym k.sign in
    let entry = same_entry l.entry m.entry r.row h.entry k.entry in
    λ i. record { plan = plan i; sign = sign i; entry = entry i }
