-- A change by which no row of the mapping comes touches no storage group, so that no clash comes.
use Rattle.std.proofs.Common.{ℕ, List, Contains}
use Rattle.fab_mapping.specs.Mappings.{MappingRows, HasNoClash}
use Rattle.fab_reach_base.specs.Records.{ConfigRows}
use Rattle.fab_store_rows.specs.Differences.{IsDifference}
use Rattle.fab_store_rows.specs.declared.config_row.ConfigRow.{ConfigRow}
use Rattle.fab_store_rows.specs.declared.config_row.ConfigRow.TheVariants as config
use Rattle.fab_store_drafts.proofs.fab_store_edits.Differing.{led_back, turned}
use Rattle.fab_store_drafts.specs.There.{Touches}
use Rattle.fab_store_drafts.proofs.ClashThere.{no_clash}
use Rattle.fab_plans_rows.specs.Inner.Mapped.{IsOfMapping}

of_mapping : (v : MappingRows) (r : ConfigRow) (n : List ℕ) → Touches v r n → IsOfMapping r
of_mapping v (config.Setting r) n t = absurd t
of_mapping v (config.Zoning r) n t = absurd t
of_mapping v (config.Active r) n t = absurd t
of_mapping v (config.Group r) n t = tt
of_mapping v (config.Part r) n t = tt

pub still_clear : (before after : ConfigRows) (taken added : List ConfigRow) → HasNoClash before.mapping → IsDifference before after taken added → ¬ ((r : ConfigRow) × Contains added r × IsOfMapping r) → HasNoClash after.mapping
still_clear before after taken added clear differs none =
    no_clash before after taken added (led_back after before added taken (turned before after taken added differs)) clear
    (λ n t. absurd (none (t.0, t.1, of_mapping after.mapping t.0 n t.2)))
