use Rattle.std.proofs.Common.{◌≡◌, ◌∙◌, rules}
use Rattle.std.specs.BTreeSet.{BTreeSet}
use Rattle.std.specs.List.{AllZip}
use Rattle.std.proofs.lemmas.Map.Entries.{entries_from_clone}
use Rattle.std.proofs.lemmas.List.Elements.{same_from_all_zip}
use Rattle.fab_names.specs.Orders.{name_cmp, member_cmp}
use Rattle.fab_zoning_rows.specs.fab_lemmas.MapsOfSets.{seen_sets}
use Rattle.fab_zoning.proofs.zoning.Zoning.copy.Goals as goal

-- a set whose keys are clones of another's
same_set : {K : Type 0} (C : K → K → Type 0) → ((x y : K) → C x y → y ≡ x) → (s t : BTreeSet K) → AllZip C s.keys t.keys → t ≡ s
same_set C same s t h = let e = same_from_all_zip C s.keys t.keys h same in λ i. record { keys = e i }

pub returns : goal.returns
returns g c =
    let aliases : c.in_ok-clone.field-0.entries ≡ c.self.inside.aliases.entries = entries_from_clone _ _ (λ x y h. search rules) (λ s t h. same_set _ (λ x y k. search rules) s t h) _ _ c.in_ok-clone.ensures.cases in
    let zones : c.in_ok-clone-2.field-0.entries ≡ c.self.inside.zones.entries = entries_from_clone _ _ (λ x y h. search rules) (λ s t h. same_set _ (λ x y k. search rules) s t h) _ _ c.in_ok-clone-2.ensures.cases in
    let sets : c.in_ok-clone-3.field-0.entries ≡ c.self.inside.sets.entries = entries_from_clone _ _ (λ x y h. search rules) (λ s t h. same_set _ (λ x y k. search rules) s t h) _ _ c.in_ok-clone-3.ensures.cases in
    (λ i. record {
      fabric = c.self.inside.fabric;
      aliases = seen_sets name_cmp member_cmp (aliases i);
      zones = seen_sets name_cmp member_cmp (zones i);
      sets = seen_sets name_cmp name_cmp (sets i);
      active = c.self.inside.active;
      rows = c.in_ok-copy.ensures i;
      flag = c.self.inside.flag;
    })
    ∙ c.self.view_is
