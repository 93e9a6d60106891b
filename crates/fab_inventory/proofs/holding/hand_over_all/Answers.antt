use Rattle.std.proofs.Common.{◌≡◌, ℕ, ap, ◌∙◌, rules, map}
use Rattle.std.specs.Ordering.{nat_cmp}
use Rattle.std.specs.BTreeMap.{is_at}
use Rattle.std.specs.FinSet as set
use Rattle.std.specs.Map.{lookup}
use Rattle.fab_inventory.specs.Holders.{held_after}
use Rattle.fab_inventory.specs.declared.port.Known.{Known}
use Rattle.fab_inventory.proofs.Handing.{map_keyed_pairs, lookup-map_keyed}
use Rattle.std.specs.Cmp.{nat_cmp_total}
use Rattle.fab_lemmas.proofs.SeenMaps.{len_entries}
use Rattle.fab_inventory.proofs.holding.hand_over_all.Goals as goal

pub returns-clause-ports : goal.returns-clause-ports
returns-clause-ports g c q =
    let kept : c.retain.new.self.entries ≡ map (λ (e : ℕ × Known). (e.0, held_after c.args.name c.args.listed.now e.0 e.1)) c.args.ports.now.entries =
    map_keyed_pairs _ (held_after c.args.name c.args.listed.now) _ (λ k v b w f' t. search rules) _ _ c.retain.ensures.filtered in
    ap (lookup (is_at (nat_cmp q))) kept ∙ lookup-map_keyed set.nat_cmp-IsAntisymmetric (held_after c.args.name c.args.listed.now) q c.args.ports.now.entries

pub returns-clause-few : goal.returns-clause-few
returns-clause-few g c = rw (len_entries nat_cmp_total c.retain.new.self.entries c.retain.ensures.ordered, len_entries nat_cmp_total c.args.ports.now.entries c.retain.ensures.was_ordered) c.retain.ensures.bound
