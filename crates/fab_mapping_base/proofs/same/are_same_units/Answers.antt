use Rattle.std.proofs.Common.{ℕ, List, sym, ap, ◌∙◌, length}
use Rattle.std.proofs.lemmas.Bool.Decides.{Decides-eqb}
use Rattle.std.specs.Cmp.{nat_cmp_total}
use Rattle.std.specs.FinMap as map
use Rattle.std.specs.FinSet as set
use Rattle.std.specs.Ordering.{nat_cmp}
use Rattle.fab_mapping_base.proofs.SameKeys.{same_entries, units_decided}
use Rattle.fab_mapping_base.proofs.same.are_same_units.Goals as goal

pub returns-then-len : goal.returns-then-len
returns-then-len g c =
    let one = c.args.one.now.entries in
    let other = c.args.other.now.entries in
    let d = units_decided one other in (
      λ t. ap (λ ks. map.from_entries {R = nat_cmp} ks) (d.0 (sym c.eq.ensures ∙ t)),
      λ is. c.eq.ensures ∙ d.1 (same_entries nat_cmp_total set.nat_cmp-IsAntisymmetric one other c.len.ensures.ordered c.len-2.ensures.ordered is),
    )

pub returns-else-len : goal.returns-else-len
returns-else-len g c =
    let one = c.args.one.now.entries in
    let other = c.args.other.now.entries in (
      λ t. absurd (c.if-len.false ((Decides-eqb c.len.result c.len-2.result).0 t)),
      λ is. absurd (c.if-len.false (
          c.len.ensures.len
          ∙ ap (λ (es : List (ℕ × List ℕ)). length es) (same_entries nat_cmp_total set.nat_cmp-IsAntisymmetric one other c.len.ensures.ordered c.len-2.ensures.ordered is)
          ∙ sym c.len-2.ensures.len)),
    )
