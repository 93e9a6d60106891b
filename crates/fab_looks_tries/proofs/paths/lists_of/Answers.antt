use Rattle.fab_looks_tries.specs.Hosts.{IsOnOneFabric, IsWithoutPath, LosesPath}
use Rattle.fab_looks_tries.proofs.Listed.{listed_keys}
use Rattle.fab_names.proofs.OrderLaws.{name_total, name_exact}
use Rattle.fab_looks_tries.proofs.paths.lists_of.Goals as goal

pub returns : goal.returns
returns g c w v losing one none = record {
  all = listed_keys name_total name_exact (LosesPath w v) c.args.losing.now c.in_ok-all.all.items c.in_ok-all.ensures.keys c.in_ok-all.ensures.sorted (λ h. (losing h).0) (λ h. (losing h).1);
  on_one = listed_keys name_total name_exact (λ h. LosesPath w v h × IsOnOneFabric v h) c.args.left.now.on_one c.in_ok-on_one.on_one.items c.in_ok-on_one.ensures.keys c.in_ok-on_one.ensures.sorted
      (λ h y. let k = (one h).0 y in ((losing h).0 k.0, k.1)) (λ h k. (one h).1 ((losing h).1 k.0, k.1));
  without = listed_keys name_total name_exact (λ h. LosesPath w v h × IsWithoutPath v h) c.args.left.now.without c.in_ok-without.without.items c.in_ok-without.ensures.keys c.in_ok-without.ensures.sorted
      (λ h y. let k = (none h).0 y in ((losing h).0 k.0, k.1)) (λ h k. (none h).1 ((losing h).1 k.0, k.1));
}
