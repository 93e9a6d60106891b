use Rattle.std.proofs.Common.{sym, ◌∙◌, arith}
use mathlib.Core.Bool.{true≢false}
use Rattle.fab_names.proofs.OrderLaws.{name_total}
use Rattle.fab_lemmas.proofs.SeenMaps.{len_entries}
use Rattle.fab_inventory.proofs.Restoring.{placed_from_sound, array_of, capacity_of}
use Rattle.fab_inventory.proofs.restore.are_volumes_sound.Goals as goal

pub returns-then-len-gt-MOST_VOLUMES : goal.returns-then-len-gt-MOST_VOLUMES
returns-then-len-gt-MOST_VOLUMES g c = (λ t. absurd (true≢false (sym t)), λ s. absurd (omega (arith, s.few, len_entries name_total c.args.volumes.now.entries c.len.ensures.ordered, c.len.ensures.len)))

pub returns : goal.returns
returns g c = (
  λ t. let placed = sym c.are_placed.ensures ∙ t in record {
    arrays = array_of c.args.holders.now c.args.volumes.now placed;
    capacities = capacity_of c.args.holders.now c.args.volumes.now placed;
    few = omega (arith, len_entries name_total c.args.volumes.now.entries c.len.ensures.ordered, c.len.ensures.len);
  },
  λ s. c.are_placed.ensures ∙ placed_from_sound c.args.holders.now c.args.volumes.now c.len.ensures.ordered s,
)
