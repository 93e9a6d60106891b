-- A report from the counts of its volumes.
use Rattle.std.proofs.Common.{◌≡◌, ℕ, suc, List, [], ◌∷◌, ◌++◌, Bool, true, ◌||◌, Option, Some, unwrap_or, refl, sym, ap, ◌∙◌}
use Rattle.std.specs.Prelude.{slice_get, Contains}
use Rattle.std.specs.List.{flat_map, list_any}
use Rattle.std.specs.Ordering.{eq_by_cmp}
use Rattle.std.specs.BTreeMap.{BTreeMap, keys, is_at}
use Rattle.std.specs.Map.{keys_of}
use Rattle.std.specs.FinSet as set
use Rattle.std.specs.Cmp.{Equal-is}
use Rattle.std.specs.Cmp.Lexicographic.{nat_list_cmp_total}
use Rattle.std.proofs.lemmas.Cmp.{eq_by_cmp_equiv}
use Rattle.std.proofs.lemmas.Map.Entries.{btree_map_get_place}
use Rattle.std.proofs.lemmas.Map.Made.{is_some-lookup}
use Rattle.std.proofs.lemmas.Map.Views.{list_any-from_Contains, Contains-from_any}
use Rattle.fab_reach_base.specs.fab_names.Orders.{name_cmp}
use Rattle.fab_reach_base.specs.declared.path.Path.{Path}
use Rattle.fab_files.specs.Reports.{IsReport, counts_line, report_header, volume_line, volumes_of}
use Rattle.fab_files.specs.Counting.{AreCounted, counts_over, entry_lines, none_counted}
use Rattle.fab_files.specs.declared.counts.Counts.{Counts}

-- a test over the volumes
any_volume : (t : List ℕ → Bool) (paths : List Path) → list_any (λ (p : Path). t p.volume) paths ≡ list_any t (volumes_of paths)
any_volume t [] = refl
any_volume t (p ∷ paths) = ap (λ b. t p.volume || b) (any_volume t paths)

one_name : (x y : List ℕ) → eq_by_cmp name_cmp x y ≡ true → x ≡ y
one_name x y e = set.slice_cmp-IsAntisymmetric set.nat_cmp-IsAntisymmetric x y ((Equal-is (name_cmp x y)).0 e)

module _ (host : List ℕ) (paths : List Path) where
  -- lines from counts are lines of volumes
  lines_from : (es : List (List ℕ × Counts)) → ((i : ℕ) (k : List ℕ) (c : Counts) → slice_get es i ≡ Some (k, c) → c ≡ counts_over paths k)
      → entry_lines host es ≡ flat_map (volume_line host paths) (keys_of es)
  lines_from [] h = refl
  lines_from (e ∷ es) h =
      ap (λ (c : Counts). counts_line host e.0 c.over_a c.over_b ++ entry_lines host es) (h 0 e.0 e.1 refl)
      ∙ ap (λ (t : List ℕ). volume_line host paths e.0 ++ t) (lines_from es (λ i k c at. h (suc i) k c at))

  module _ (m : BTreeMap (List ℕ) Counts) (so : AreCounted paths m) where
    placed : (i : ℕ) (k : List ℕ) (c : Counts) → slice_get m.entries i ≡ Some (k, c) → c ≡ counts_over paths k
    placed i k c at =
        sym (ap (λ (o : Option Counts). unwrap_or o none_counted) (btree_map_get_place nat_list_cmp_total m i k c so.ordered at)) ∙ so.counts k

    there : (v : List ℕ) → list_any (eq_by_cmp name_cmp v) (keys m) ≡ list_any (eq_by_cmp name_cmp v) (volumes_of paths)
    there v = sym (is_some-lookup (is_at (name_cmp v)) m.entries) ∙ so.there v ∙ any_volume (eq_by_cmp name_cmp v) paths

    across : (xs ys : List (List ℕ)) (v : List ℕ) → list_any (eq_by_cmp name_cmp v) xs ≡ list_any (eq_by_cmp name_cmp v) ys → Contains xs v → Contains ys v
    across xs ys v e h = Contains-from_any {eq = eq_by_cmp name_cmp} one_name v ys (sym e ∙ list_any-from_Contains (eq_by_cmp_equiv nat_list_cmp_total) v xs h)

    -- the header and the lines of the counts
    pub told : IsReport host paths (report_header ++ entry_lines host m.entries)
    told = record {
      volumes = keys m;
      listed = record {
        sorted = so.ordered;
        sound = λ v h. across (keys m) (volumes_of paths) v (there v) h;
        complete = λ v h. across (volumes_of paths) (keys m) v (sym (there v)) h;
      };
      lines = ap (λ (t : List ℕ). report_header ++ t) (lines_from m.entries placed);
    }
