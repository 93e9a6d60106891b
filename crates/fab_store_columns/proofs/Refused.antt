-- Columns of one kind that show nothing of it show no row.
use Rattle.std.proofs.Common.{ℕ, ℤ, ◌≡◌, List, Option, None, Some, MatchOption, codes, get_or, sym, ap, ◌∙◌, subst, arith}
use Rattle.fab_names.specs.Names.{SpellsName}
use Rattle.fab_names.specs.Members.{SpellsPrinted}
use Rattle.fab_names.specs.declared.member.Member.{Member}
use Rattle.fab_store_rows.specs.declared.config_row.ZoningItem.{ZoningItem}
use Rattle.fab_store_rows.specs.declared.config_row.ZoningItem.TheVariants.{Alias, Zone, Set}
use Rattle.fab_store_rows.specs.declared.config_row.HostGroupRow.{HostGroupRow}
use Rattle.fab_store_rows.specs.declared.config_row.GroupRow.{GroupRow}
use Rattle.fab_store_rows.specs.declared.config_row.GroupRow.TheVariants as group
use Rattle.fab_store_rows.specs.declared.config_row.StoragePart.{StoragePart}
use Rattle.fab_store_rows.specs.declared.config_row.PartRow.{PartRow}
use Rattle.fab_store_rows.specs.declared.config_row.PartRow.TheVariants as parts
use Rattle.fab_store_columns.specs.ZoningLines.{ShowsItemAt}
use Rattle.fab_store_columns.specs.GroupLines.{ShowsGroup, group_line, ShowsPartAt, PartColumns, ShowsPart}

-- texts that differ in their first character
differ : (s t : List ℕ) → s ≡ t → get_or s 0 0 ≡ get_or t 0 0
differ s t e = ap (λ (x : List ℕ). get_or x 0 0) e

pub no_alias : (word owner text : List ℕ) → word ≡ codes "alias" → ((n : List ℕ) (m : Member) → SpellsName owner n → ¬ SpellsPrinted text m) → (r : ZoningItem) → ¬ ShowsItemAt word owner text r
no_alias word owner text is none (Alias n m) s = none n m s.name s.item
no_alias word owner text is none (Zone n m) s = absurd (omega (arith, differ (codes "alias") (codes "zone") (sym is ∙ s.kind)))
no_alias word owner text is none (Set n z) s = absurd (omega (arith, differ (codes "alias") (codes "set") (sym is ∙ s.kind)))

pub no_zone : (word owner text : List ℕ) → word ≡ codes "zone" → ((n : List ℕ) (m : Member) → SpellsName owner n → ¬ SpellsPrinted text m) → (r : ZoningItem) → ¬ ShowsItemAt word owner text r
no_zone word owner text is none (Zone n m) s = none n m s.name s.item
no_zone word owner text is none (Alias n m) s = absurd (omega (arith, differ (codes "zone") (codes "alias") (sym is ∙ s.kind)))
no_zone word owner text is none (Set n z) s = absurd (omega (arith, differ (codes "zone") (codes "set") (sym is ∙ s.kind)))

pub no_host_group : (kind name tenant array : List ℕ) (exposed : ℤ) → kind ≡ codes "host" → ((r : HostGroupRow) → ¬ ShowsGroup (group_line (codes "host") name tenant array exposed) (group.Host r)) → (r : GroupRow) → ¬ ShowsGroup (group_line kind name tenant array exposed) r
no_host_group kind name tenant array exposed is none (group.Host r) s = none r (subst (λ k. ShowsGroup (group_line k name tenant array exposed) (group.Host r)) is s)
no_host_group kind name tenant array exposed is none (group.Storage r) s = absurd (omega (arith, differ (codes "host") (codes "storage") (sym is ∙ s.kind)))

pub no_host : (l : PartColumns) → l.kind ≡ codes "host" → ((name host : List ℕ) → ¬ ShowsPartAt l.part l.item l.volume (parts.Host name host)) → (r : PartRow) → ¬ ShowsPart l r
no_host l is none (parts.Host name host) s = none name host s.part
no_host l is none (parts.Storage name p) s = absurd (omega (arith, differ (codes "host") (codes "storage") (sym is ∙ s.kind)))

pub no_storage : (l : PartColumns) → l.kind ≡ codes "storage" → ((name : List ℕ) (p : StoragePart) → ¬ ShowsPartAt l.part l.item l.volume (parts.Storage name p)) → (r : PartRow) → ¬ ShowsPart l r
no_storage l is none (parts.Storage name p) s = none name p s.part
no_storage l is none (parts.Host name host) s = absurd (omega (arith, differ (codes "storage") (codes "host") (sym is ∙ s.kind)))

pub by_host : (kind name tenant array : List ℕ) (exposed : ℤ) (o : Option GroupRow) → kind ≡ codes "host"
    → MatchOption o ((r : HostGroupRow) → ¬ ShowsGroup (group_line (codes "host") name tenant array exposed) (group.Host r)) (ShowsGroup (group_line (codes "host") name tenant array exposed))
    → MatchOption o ((r : GroupRow) → ¬ ShowsGroup (group_line kind name tenant array exposed) r) (ShowsGroup (group_line kind name tenant array exposed))
by_host kind name tenant array exposed None is h = no_host_group kind name tenant array exposed is h
by_host kind name tenant array exposed (Some r) is h = subst (λ k. ShowsGroup (group_line k name tenant array exposed) r) (sym is) h
