use Rattle.std.proofs.Common.{ℕ, List, sym, ap, ◌∙◌, btree_set_len}
use Rattle.std.proofs.lemmas.Bool.Decides.{Decides-eqb}
use Rattle.std.specs.FinSet as set
use Rattle.fab_inventory.specs.fab_names.Orders.{name_cmp}
use Rattle.fab_inventory.proofs.fab_names.OrderLaws.{name_total, name_exact}
use Rattle.fab_mapping_base.proofs.SameKeys.{same_keys, names_decided}
use Rattle.fab_mapping_base.proofs.same.are_same_names.Goals as goal

pub returns-then-len : goal.returns-then-len
returns-then-len g c =
    let one = c.args.one.now.keys in
    let other = c.args.other.now.keys in
    let d = names_decided one other in (
      λ t. ap (λ ks. set.from_list {R = name_cmp} ks) (d.0 (sym c.eq.ensures ∙ t)),
      λ is. c.eq.ensures ∙ d.1 (same_keys name_total name_exact one other c.len.ensures.ordered c.len-2.ensures.ordered is),
    )

pub returns-else-len : goal.returns-else-len
returns-else-len g c =
    let one = c.args.one.now.keys in
    let other = c.args.other.now.keys in (
      λ t. absurd (c.if-len.false ((Decides-eqb c.len.result c.len-2.result).0 t)),
      λ is. absurd (c.if-len.false (
          c.len.ensures.len
          ∙ ap (λ (ks : List (List ℕ)). btree_set_len (record { keys = ks })) (same_keys name_total name_exact one other c.len.ensures.ordered c.len-2.ensures.ordered is)
          ∙ sym c.len-2.ensures.len)),
    )
