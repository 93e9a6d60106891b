use Rattle.std.proofs.Common.{ℕ, List, sym, ap, ◌∙◌, btree_set_len}
use Rattle.std.proofs.lemmas.Bool.Decides.{Decides-eqb}
use Rattle.std.specs.Cmp.{nat_cmp_total}
use Rattle.std.specs.FinSet as set
use Rattle.std.specs.Ordering.{nat_cmp}
use Rattle.fab_mapping_base.proofs.SameKeys.{same_keys, ports_decided}
use Rattle.fab_mapping_base.proofs.same.are_same_ports.Goals as goal

pub returns-then-len : goal.returns-then-len
returns-then-len g c =
    let one = c.args.one.now.keys in
    let other = c.args.other.now.keys in
    let d = ports_decided one other in (
      λ t. ap (λ ks. set.from_list {R = nat_cmp} ks) (d.0 (sym c.eq.ensures ∙ t)),
      λ is. c.eq.ensures ∙ d.1 (same_keys nat_cmp_total set.nat_cmp-IsAntisymmetric one other c.len.ensures.ordered c.len-2.ensures.ordered is),
    )

pub returns-else-len : goal.returns-else-len
returns-else-len g c =
    let one = c.args.one.now.keys in
    let other = c.args.other.now.keys in (
      λ t. absurd (c.if-len.false ((Decides-eqb c.len.result c.len-2.result).0 t)),
      λ is. absurd (c.if-len.false (
          c.len.ensures.len
          ∙ ap (λ (ks : List (ℕ)). btree_set_len (record { keys = ks })) (same_keys nat_cmp_total set.nat_cmp-IsAntisymmetric one other c.len.ensures.ordered c.len-2.ensures.ordered is)
          ∙ sym c.len-2.ensures.len)),
    )
