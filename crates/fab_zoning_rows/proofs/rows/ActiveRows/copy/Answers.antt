use Rattle.std.proofs.Common.{◌≡◌, ◌+◌, ap, ◌∙◌, sym, subst, min}
use Rattle.std.specs.FinSet as set
use Rattle.std.specs.BTreeSet.{BTreeSet}
use Rattle.std.specs.List.{AllZip}
use Rattle.std.specs.List.Sorted.{IsStrictlySortedBy}
use Rattle.std.specs.Map.{keys_of}
use Rattle.std.proofs.lemmas.List.Elements.{same_from_all_zip}
use Rattle.std.proofs.lemmas.Map.Entries.{entries_from_clone}
use Rattle.fab_inventory.specs.fab_names.Orders.{member_cmp}
use Rattle.fab_zoning_rows.specs.Limits.{most_rows}
use Rattle.fab_zoning_rows.specs.Views.{seen_rows}
use Rattle.fab_zoning_rows.proofs.rows.ActiveRows.copy.Goals as goal

-- a set whose keys are clones of another's
same_set : {K : Type 0} (C : K → K → Type 0) → ((x y : K) → C x y → y ≡ x) → (s t : BTreeSet K) → AllZip C s.keys t.keys → t ≡ s
same_set C same s t h = let e = same_from_all_zip C s.keys t.keys h same in λ i. record { keys = e i }

pub returns : goal.returns
returns g c =
    ap seen_rows (entries_from_clone _ _ (λ x y h. h) (λ s t h. same_set _ (λ x y k. k) s t h) _ _ c.in_ok-zones_by_member.ensures.cases) ∙ c.self.view_is

pub invariant_of-result : goal.invariant_of-result
invariant_of-result g c =
    let same : c.in_ok-zones_by_member.zones_by_member.entries ≡ c.self.inside.zones_by_member.entries = entries_from_clone _ _ (λ x y h. h) (λ s t h. same_set _ (λ x y k. k) s t h) _ _ c.in_ok-zones_by_member.ensures.cases in
    (subst (λ es. IsStrictlySortedBy member_cmp (keys_of es)) (sym same) c.self.invariant.0, c.self.invariant.1 ∙ ap (λ es. min (set.len (seen_rows es)) (most_rows + 1)) (sym same))
