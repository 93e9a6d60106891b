use Rattle.std.proofs.Common.{◌≡◌, List, length, sym, ap, ◌∙◌, subst}
use Rattle.fab_looks_tries.specs.Hosts.{AreLosing}
use Rattle.fab_reach_base.specs.Books.{IsGained}
use Rattle.fab_reach_base.specs.Orders.{IsListOf}
use Rattle.fab_reach_base.specs.Records.{Records}
use Rattle.fab_reach_base.specs.Views.{seen}
use Rattle.fab_reach_base.specs.declared.path.Path.{Path}
use Rattle.fab_world.specs.Worlds.{records_of}
use Rattle.fab_looks_tries.proofs.paths.paths_moved.Goals as goal

pub returns : goal.returns
returns g c v ready =
    let w = records_of c.args.world.now in
    let d = c.adopt-delta.ensures.delta w v ready in
    let stands = c.adopt-delta.ensures.stands w v ready c.requires.stands in
    let is : seen c.of-before.result ≡ w = c.of-before.ensures ∙ ap records_of c.world.view_is in
    let lost = subst (λ (x : Records). IsListOf (IsGained v x) c.as_slice.result.now) (sym is) (subst (λ (xs : List Path). IsListOf (IsGained v w) xs) (sym c.as_slice.ensures.value) d.loses) in record {
      gained = (c.adopt-delta.result.gained.items, d.gains, ap length c.as_slice-2.ensures.value);
      lost = (c.adopt-delta.result.lost.items, d.loses, ap length c.as_slice-3.ensures.value);
      hosts = subst (λ (x : Records). AreLosing x v c.in_ok-hosts.hosts) is (c.in_ok-hosts.ensures v stands lost);
    }
