-- Maps of sets of which no key gets a new set.
use Rattle.std.proofs.Common.{◌≡◌, ◌↔◌, List, ℕ, [], Option, true, sym, ap, subst}
use Rattle.std.specs.BTreeMap.{is_at}
use Rattle.std.specs.BTreeSet.{BTreeSet}
use Rattle.std.specs.Map.{lookup}
use Rattle.fab_names.specs.Orders.{name_cmp}
use Rattle.fab_lemmas.specs.MapsOfSets.{tree_has}
use Rattle.fab_mapping.specs.Mappings.{MappingRows}
use Rattle.fab_reach_base.specs.Gathering.{Index, IsServed, IsIndexOf}
use Rattle.fab_reach_books.specs.Renewed.{set_or, IsRenewedIndex}

pub none_renewed : (m : MappingRows) (new old : Index) → new.entries ≡ [] → IsIndexOf m old → IsRenewedIndex m new old
none_renewed m new old none is host n = subst (λ (o : Option (BTreeSet (List ℕ))). (set_or name_cmp o (tree_has name_cmp name_cmp old host n) n ≡ true) ↔ IsServed m (host, n))
    (sym (ap (λ (es : List (List ℕ × BTreeSet (List ℕ))). lookup (is_at (name_cmp host)) es) none)) (is (host, n))
