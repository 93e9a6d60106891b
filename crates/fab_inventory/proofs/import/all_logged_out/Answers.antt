use Rattle.std.proofs.Common.{◌≡◌, ℕ, ap, ◌∙◌, rules, map}
use Rattle.std.specs.Ordering.{nat_cmp}
use Rattle.std.specs.BTreeMap.{is_at}
use Rattle.std.specs.Map.{lookup}
use Rattle.std.proofs.lemmas.Map.Made.{map_same_pairs, lookup-map_values}
use Rattle.std.proofs.lemmas.Map.Entries.{entries_from_clone}
use Rattle.fab_inventory.specs.declared.port.Known.{Known}
use Rattle.fab_inventory.specs.Imports.{logged_out}
use Rattle.fab_inventory.proofs.import.all_logged_out.Goals as goal

pub returns : goal.returns
returns g c q =
    let kept : c.retain.new.self.entries ≡ map (λ (e : ℕ × Known). (e.0, logged_out c.args.fabric e.1)) c.in_ok-next.next.entries =
    map_same_pairs _ (logged_out c.args.fabric) _ (λ k v b w f' t. search rules) _ _ c.retain.ensures.filtered in
    let cloned : c.in_ok-next.next.entries ≡ c.args.ports.now.entries = entries_from_clone _ _ (λ x y h. h) (λ x y h. h) _ _ c.in_ok-next.ensures.cases in
    ap (lookup (is_at (nat_cmp q))) (kept ∙ ap (map (λ (e : ℕ × Known). (e.0, logged_out c.args.fabric e.1))) cloned)
    ∙ lookup-map_values (logged_out c.args.fabric) (is_at (nat_cmp q)) c.args.ports.now.entries
