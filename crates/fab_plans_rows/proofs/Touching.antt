-- Changes by whose rows no clash comes.
use Rattle.std.proofs.Common.{ℕ, List}
use Rattle.fab_mapping.specs.Mappings.{HasNoClash}
use Rattle.fab_reach_base.specs.Records.{ConfigRows}
use Rattle.fab_store_rows.specs.Differences.{IsDifference}
use Rattle.fab_store_rows.specs.declared.config_row.ConfigRow.{ConfigRow}
use Rattle.fab_store_drafts.proofs.fab_store_edits.Differing.{led_back, turned}
use Rattle.fab_store_drafts.specs.There.{IsClearAt, IsTouched}
use Rattle.fab_store_drafts.proofs.ClashThere.{no_clash}

-- where each storage group that is touched is clear of the others, no clash comes
pub clear_by : (before after : ConfigRows) (taken added : List ConfigRow) → HasNoClash before.mapping → IsDifference before after taken added → ((n : List ℕ) → IsTouched after.mapping added n → IsClearAt after.mapping n) → HasNoClash after.mapping
clear_by before after taken added clear differs there = no_clash before after taken added (led_back after before added taken (turned before after taken added differs)) clear there
