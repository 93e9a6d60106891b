use Rattle.std.proofs.Common.{◌≡◌, ◌∙◌}
use Rattle.std.specs.FinMap as map
use Rattle.std.specs.FinSet as set
use Rattle.std.proofs.lemmas.List.Elements.{same_from_all_zip}
use Rattle.std.proofs.lemmas.Map.Entries.{entries_from_clone}
use Rattle.fab_mapping_base.proofs.storage_group.StorageGroupClone.clone.Goals as goal

pub returns : goal.returns
returns g c =
    let groups : c.in_ok-clone.field-0.keys ≡ c.self.inside.host_groups.keys = same_from_all_zip _ _ _ c.in_ok-clone.ensures.cases (λ x y h. h) in
    let targets : c.in_ok-clone-2.field-0.keys ≡ c.self.inside.targets.keys = same_from_all_zip _ _ _ c.in_ok-clone-2.ensures.cases (λ x y h. h) in
    let units : c.in_ok-clone-3.field-0.entries ≡ c.self.inside.units.entries = entries_from_clone _ _ (λ x y h. h) (λ x y h. h) _ _ c.in_ok-clone-3.ensures.cases in
    record {
      cases = (λ i. record {
        tenant = c.self.inside.tenant;
        array = c.self.inside.array;
        host_groups = set.from_list (groups i);
        targets = set.from_list (targets i);
        units = map.from_entries (units i);
        exposed = c.self.inside.exposed;
      })
          ∙ c.self.view_is;
    }
