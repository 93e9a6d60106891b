-- The counts from which the lines of a report are made, of which private clauses speak.
use Rattle.std.specs.Prelude.{ℕ, ◌≡◌, ◌+◌, List, is_some, unwrap_or}
use Rattle.std.specs.List.{flat_map, list_any}
use Rattle.std.specs.Ordering.{eq_by_cmp}
use Rattle.std.specs.BTreeMap.{BTreeMap, get, IsOrdered}
use Rattle.fab_reach_base.specs.fab_names.Orders.{name_cmp}
use Rattle.fab_reach_base.specs.fab_names.declared.fabric.Fabric.{Fabric}
use Rattle.fab_reach_base.specs.fab_names.declared.fabric.Fabric.TheVariants.{A, B}
use Rattle.fab_reach_base.specs.declared.path.Path.{Path}
use Rattle.fab_files.specs.Reports.{counts_line, paths_over}
use Rattle.fab_files.specs.declared.counts.Counts.{Counts}

-- no path
abbrev pub none_counted : Counts
none_counted = record { over_a = 0; over_b = 0 }

-- one path more
abbrev pub one_more : Fabric → Counts → Counts
one_more A c = record c { over_a = c.over_a + 1 }
one_more B c = record c { over_b = c.over_b + 1 }

-- what is counted of a volume
abbrev pub counts_over : List Path → List ℕ → Counts
counts_over paths volume = record { over_a = paths_over A volume paths; over_b = paths_over B volume paths }

-- each volume of the paths is there, with its counts, and no other
pub record AreCounted (paths : List Path) (m : BTreeMap (List ℕ) Counts) : Type 0 where
  pub counts : (v : List ℕ) → unwrap_or (get name_cmp m v) none_counted ≡ counts_over paths v
  pub there : (v : List ℕ) → is_some (get name_cmp m v) ≡ list_any (λ p. eq_by_cmp name_cmp v p.volume) paths
  pub ordered : IsOrdered name_cmp m

-- the lines of volumes and their counts
abbrev pub entry_line : List ℕ → List ℕ × Counts → List ℕ
entry_line host e = counts_line host e.0 e.1.over_a e.1.over_b

abbrev pub entry_lines : List ℕ → List (List ℕ × Counts) → List ℕ
entry_lines host es = flat_map (entry_line host) es
