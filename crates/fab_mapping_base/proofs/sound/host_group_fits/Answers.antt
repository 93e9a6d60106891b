use Rattle.std.proofs.Common.{ℕ, List, refl, rules}
use Rattle.std.proofs.lemmas.Iterator.{cases_from_all}
use Rattle.std.proofs.lemmas.Iterator.Consumers.{YieldsList-from_rest}
use Rattle.fab_inventory.specs.Inventories.{IsHost}
use Rattle.fab_inventory.proofs.fab_names.OrderLaws.{name_total, name_exact}
use Rattle.fab_mapping_base.proofs.Passed.{members_have}
use Rattle.fab_mapping_base.proofs.sound.host_group_fits.Goals as goal

pub returns : goal.returns
returns g c =
    let P = IsHost c.args.inventory.now.holders in
    members_have name_total name_exact P c.hosts.result c.args.group.now.hosts c.all.result c.hosts.ensures.hosts
    (cases_from_all _ _ _ P (λ (x : List ℕ). ¬ P x) c.all.ensures.ran (YieldsList-from_rest c.hosts.result refl) (λ x r k. search rules) (λ x r k. search rules))
