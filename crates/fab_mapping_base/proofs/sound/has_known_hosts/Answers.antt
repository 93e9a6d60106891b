use Rattle.std.proofs.Common.{ℕ, List, is_some, refl, rules}
use Rattle.std.specs.BTreeMap.{get}
use Rattle.std.proofs.lemmas.Iterator.Search.{all_from_yields_List}
use Rattle.std.proofs.lemmas.Iterator.Consumers.{YieldsList-from_rest}
use Rattle.fab_inventory.proofs.fab_lemmas.Passing.{members_pass}
use Rattle.fab_inventory.specs.fab_names.Orders.{name_cmp}
use Rattle.fab_inventory.proofs.fab_names.OrderLaws.{name_total, name_exact}
use Rattle.fab_mapping_base.proofs.sound.has_known_hosts.Goals as goal

pub returns : goal.returns
returns g c =
    let p = λ (k : List ℕ). is_some (get name_cmp c.args.host_groups.now k) in
    members_pass name_total name_exact p c.host_groups.result c.args.group.now.host_groups c.all.result c.host_groups.ensures.host_groups
    (all_from_yields_List p _ _ c.all.result c.all.ensures.ran (YieldsList-from_rest c.host_groups.result refl) (λ x b q k. search rules))
