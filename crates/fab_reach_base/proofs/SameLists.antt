-- Two listings of one world are one list.
use Rattle.std.proofs.Common.{◌≡◌, List}
use Rattle.std.proofs.lemmas.Map.Made.{is_member-Decides}
use Rattle.fab_mapping.proofs.fab_mapping_base.fab_lemmas.SeenSets.{tie_decides}
pub use Rattle.fab_mapping.proofs.fab_mapping_base.SortedLists.{same_sorted}
use Rattle.fab_reach_base.specs.Orders.{IsListOf}
use Rattle.fab_reach_base.specs.declared.path.Path.{Path}
use Rattle.fab_reach_base.specs.PathOrder.{path_total, path_exact}

-- two ordered lists of what has one property are one
pub one_list : (P : Path → Type 0) (xs ys : List Path) → IsListOf P xs → IsListOf P ys → xs ≡ ys
one_list P xs ys l m = same_sorted path_total path_exact xs ys l.sorted m.sorted
    (λ k h. (is_member-Decides (tie_decides path_total path_exact) ys k).1 (m.complete k (l.sound k ((is_member-Decides (tie_decides path_total path_exact) xs k).0 h))))
    (λ k h. (is_member-Decides (tie_decides path_total path_exact) xs k).1 (l.complete k (m.sound k ((is_member-Decides (tie_decides path_total path_exact) ys k).0 h))))
