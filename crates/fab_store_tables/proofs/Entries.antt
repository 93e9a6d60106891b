-- An entry is the words of its row, and they show no other.
use Rattle.std.proofs.Common.{ℕ, ◌≡◌, ◌≤◌, List, [], ◌∷◌, Bool, Option, None, Some, MatchOption, drop, length, get_or, codes, sym, ap, ◌∙◌, subst, arith}
use Rattle.std.specs.List.{join_with_byte, AllByRecursion}
use Rattle.std.specs.Fmt.{signed_decimal}
use Rattle.std.proofs.lemmas.List.Splits.{join_with_byte-slice_split}
use Rattle.fab_store_rows.specs.declared.config_row.SettingRow.{SettingRow}
use Rattle.fab_store_rows.specs.declared.config_row.ZoningRow.{ZoningRow}
use Rattle.fab_store_rows.specs.declared.config_row.ActiveRow.{ActiveRow}
use Rattle.fab_store_rows.specs.declared.config_row.GroupRow.{GroupRow}
use Rattle.fab_store_rows.specs.declared.config_row.PartRow.{PartRow}
use Rattle.fab_store_rows.specs.declared.config_row.ConfigRow.{ConfigRow}
use Rattle.fab_store_rows.specs.declared.config_row.ConfigRow.TheVariants as row
use Rattle.fab_store_columns_base.specs.Columns.{flag_number}
use Rattle.fab_store_columns.specs.GroupLines.{ShowsGroup, group_line, is_exposed}
use Rattle.fab_store_tables.specs.UndoLines.{ShowsColumns, ShowsEntry, table_text}
use Rattle.fab_store_tables.specs.Words.{words_of, digit_text}
use Rattle.fab_store_tables.proofs.Cuts.{cut_word, only_word}
use Rattle.fab_store_tables.proofs.Clear.{Clear, clear_lacks, clear_table, clear_columns}
use Rattle.fab_store_tables.proofs.Digits.{digit_is, one_digit}

-- words that are joined by one space are cut again
join_again : (word : List ℕ) (words : List (List ℕ)) → Clear word → AllByRecursion Clear words → words_of (join_with_byte 32 (word ∷ words)) ≡ word ∷ words
join_again word [] clear all = only_word word (clear_lacks word clear)
join_again word (next ∷ words) clear all =
    cut_word word (join_with_byte 32 (next ∷ words)) (clear_lacks word clear) ∙ ap (λ others. word ∷ others) (join_again next words all.0 all.1)

pub entry_words : (entry : List ℕ) (r : ConfigRow) (s : ShowsEntry entry r) → words_of entry ≡ table_text r ∷ s.columns
entry_words entry r s = ap words_of s.joined ∙ join_again (table_text r) s.columns (clear_table r) (clear_columns s.columns r s.shown)

-- a row has more than one column
some_columns : (columns : List (List ℕ)) (r : ConfigRow) → ShowsColumns columns r → 2 ≤ length columns
some_columns columns (row.Setting r) (l, is, s) = omega (arith, ap length is)
some_columns columns (row.Zoning r) (l, is, s) = omega (arith, ap length is)
some_columns columns (row.Active r) (l, is, s) = omega (arith, ap length is)
some_columns columns (row.Group r) (l, is, s) = omega (arith, ap length is)
some_columns columns (row.Part r) (l, is, s) = omega (arith, ap length is)

pub no_entry : (entry : List ℕ) → words_of entry ≡ entry ∷ [] → (r : ConfigRow) → ¬ ShowsEntry entry r
no_entry entry is r s = absurd (omega (arith, ap length is, ap length (entry_words entry r s), some_columns s.columns r s.shown))

pub entry_read : (entry table rest : List ℕ) (o : Option ConfigRow) → words_of entry ≡ table ∷ words_of rest
    → MatchOption o ((r : ConfigRow) → table ≡ table_text r → ¬ ShowsColumns (words_of rest) r) (λ r. (table ≡ table_text r) × ShowsColumns (words_of rest) r)
    → MatchOption o ((r : ConfigRow) → ¬ ShowsEntry entry r) (ShowsEntry entry)
entry_read entry table rest None is h = λ r s.
    let same = sym is ∙ entry_words entry r s in
    h r (ap (λ (ws : List (List ℕ)). get_or ws 0 []) same) (subst (λ ws. ShowsColumns ws r) (sym (ap (drop 1) same)) s.shown)
entry_read entry table rest (Some r) is h = record {
  columns = words_of rest;
  shown = h.1;
  joined = sym (join_with_byte-slice_split 32 entry) ∙ ap (join_with_byte 32) (is ∙ ap (λ word. word ∷ words_of rest) h.0);
}

-- ---- columns of a group

-- a word that is no digit of a flag is no column
pub no_group : (words : List (List ℕ)) (a b c d e : List ℕ) → words ≡ a ∷ b ∷ c ∷ d ∷ e ∷ [] → ((x : Bool) → ¬ (e ≡ digit_text x)) → (r : GroupRow) → ¬ ShowsColumns words (row.Group r)
no_group words a b c d e is none r (l, same, s) =
    none (is_exposed r) (ap (λ (ws : List (List ℕ)). get_or ws 4 []) (sym is ∙ same) ∙ ap signed_decimal s.exposed ∙ digit_is (is_exposed r))

pub group_read : (words : List (List ℕ)) (a b c d e : List ℕ) (o : Option GroupRow) (x : Bool) → words ≡ a ∷ b ∷ c ∷ d ∷ e ∷ [] → e ≡ digit_text x
    → MatchOption o ((r : GroupRow) → ¬ ShowsGroup (group_line a b c d (flag_number x)) r) (ShowsGroup (group_line a b c d (flag_number x)))
    → MatchOption o ((r : GroupRow) → ¬ ShowsColumns words (row.Group r)) (λ r. ShowsColumns words (row.Group r))
group_read words a b c d e None x is digit h = λ r shown.
    let l = shown.0 in
    let same = sym is ∙ shown.1 in
    let s = shown.2 in
    let kind : a ≡ l.kind = ap (λ (ws : List (List ℕ)). get_or ws 0 []) same in
    let name : b ≡ l.name = ap (λ (ws : List (List ℕ)). get_or ws 1 []) same in
    let tenant : c ≡ l.tenant = ap (λ (ws : List (List ℕ)). get_or ws 2 []) same in
    let array : d ≡ l.array = ap (λ (ws : List (List ℕ)). get_or ws 3 []) same in
    let last : e ≡ signed_decimal l.exposed = ap (λ (ws : List (List ℕ)). get_or ws 4 []) same in
    let answer : x ≡ is_exposed r = one_digit x (is_exposed r) (sym digit ∙ last ∙ ap signed_decimal s.exposed ∙ digit_is (is_exposed r)) in
    let exposed : flag_number x ≡ l.exposed = ap flag_number answer ∙ sym s.exposed in
    let line : group_line a b c d (flag_number x) ≡ l = λ i. record { kind = kind i; name = name i; tenant = tenant i; array = array i; exposed = exposed i } in
    h r (subst (λ m. ShowsGroup m r) (sym line) s)
group_read words a b c d e (Some r) x is digit h =
    (group_line a b c d (flag_number x), is ∙ ap (λ w. a ∷ b ∷ c ∷ d ∷ w ∷ []) (digit ∙ sym (digit_is x)), h)

-- ---- columns of one table are of no other

pub first : (s t : List ℕ) → s ≡ t → get_or s 0 0 ≡ get_or t 0 0
first s t e = ap (λ (x : List ℕ). get_or x 0 0) e

pub sixth : (s t : List ℕ) → s ≡ t → get_or s 5 0 ≡ get_or t 5 0
sixth s t e = ap (λ (x : List ℕ). get_or x 5 0) e

pub only_meta : (table : List ℕ) (words : List (List ℕ)) → table ≡ codes "meta" → ((x : SettingRow) → ¬ ShowsColumns words (row.Setting x)) → (r : ConfigRow) → table ≡ table_text r → ¬ ShowsColumns words r
only_meta table words is none (row.Setting x) e = none x
only_meta table words is none (row.Zoning x) e = absurd (omega (arith, first (codes "meta") (codes "zoning") (sym is ∙ e)))
only_meta table words is none (row.Active x) e = absurd (omega (arith, first (codes "meta") (codes "active") (sym is ∙ e)))
only_meta table words is none (row.Group x) e = absurd (omega (arith, first (codes "meta") (codes "groups") (sym is ∙ e)))
only_meta table words is none (row.Part x) e = absurd (omega (arith, first (codes "meta") (codes "group_parts") (sym is ∙ e)))

pub only_zoning : (table : List ℕ) (words : List (List ℕ)) → table ≡ codes "zoning" → ((x : ZoningRow) → ¬ ShowsColumns words (row.Zoning x)) → (r : ConfigRow) → table ≡ table_text r → ¬ ShowsColumns words r
only_zoning table words is none (row.Setting x) e = absurd (omega (arith, first (codes "zoning") (codes "meta") (sym is ∙ e)))
only_zoning table words is none (row.Zoning x) e = none x
only_zoning table words is none (row.Active x) e = absurd (omega (arith, first (codes "zoning") (codes "active") (sym is ∙ e)))
only_zoning table words is none (row.Group x) e = absurd (omega (arith, first (codes "zoning") (codes "groups") (sym is ∙ e)))
only_zoning table words is none (row.Part x) e = absurd (omega (arith, first (codes "zoning") (codes "group_parts") (sym is ∙ e)))

pub only_active : (table : List ℕ) (words : List (List ℕ)) → table ≡ codes "active" → ((x : ActiveRow) → ¬ ShowsColumns words (row.Active x)) → (r : ConfigRow) → table ≡ table_text r → ¬ ShowsColumns words r
only_active table words is none (row.Setting x) e = absurd (omega (arith, first (codes "active") (codes "meta") (sym is ∙ e)))
only_active table words is none (row.Zoning x) e = absurd (omega (arith, first (codes "active") (codes "zoning") (sym is ∙ e)))
only_active table words is none (row.Active x) e = none x
only_active table words is none (row.Group x) e = absurd (omega (arith, first (codes "active") (codes "groups") (sym is ∙ e)))
only_active table words is none (row.Part x) e = absurd (omega (arith, first (codes "active") (codes "group_parts") (sym is ∙ e)))

pub only_groups : (table : List ℕ) (words : List (List ℕ)) → table ≡ codes "groups" → ((x : GroupRow) → ¬ ShowsColumns words (row.Group x)) → (r : ConfigRow) → table ≡ table_text r → ¬ ShowsColumns words r
only_groups table words is none (row.Setting x) e = absurd (omega (arith, first (codes "groups") (codes "meta") (sym is ∙ e)))
only_groups table words is none (row.Zoning x) e = absurd (omega (arith, first (codes "groups") (codes "zoning") (sym is ∙ e)))
only_groups table words is none (row.Active x) e = absurd (omega (arith, first (codes "groups") (codes "active") (sym is ∙ e)))
only_groups table words is none (row.Group x) e = none x
only_groups table words is none (row.Part x) e = absurd (omega (arith, sixth (codes "groups") (codes "group_parts") (sym is ∙ e)))

pub only_parts : (table : List ℕ) (words : List (List ℕ)) → table ≡ codes "group_parts" → ((x : PartRow) → ¬ ShowsColumns words (row.Part x)) → (r : ConfigRow) → table ≡ table_text r → ¬ ShowsColumns words r
only_parts table words is none (row.Setting x) e = absurd (omega (arith, first (codes "group_parts") (codes "meta") (sym is ∙ e)))
only_parts table words is none (row.Zoning x) e = absurd (omega (arith, first (codes "group_parts") (codes "zoning") (sym is ∙ e)))
only_parts table words is none (row.Active x) e = absurd (omega (arith, first (codes "group_parts") (codes "active") (sym is ∙ e)))
only_parts table words is none (row.Group x) e = absurd (omega (arith, sixth (codes "group_parts") (codes "groups") (sym is ∙ e)))
only_parts table words is none (row.Part x) e = none x
