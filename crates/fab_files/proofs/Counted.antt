-- Paths counted one after the other.
use Rattle.std.proofs.Common.{◌≡◌, ℕ, ◌+◌, ◌<◌, ◌≤◌, List, Bool, true, false, ◌&&◌, ◌||◌, cond, take, get_or, length, Option, Some, is_some, unwrap_or, refl, sym, ap, ◌∙◌, arith, length-take}
use Rattle.std.specs.List.{list_any}
use Rattle.std.specs.Str.{bytes_eq}
use Rattle.std.specs.Ordering.{eq_by_cmp}
use Rattle.std.specs.BTreeMap.{BTreeMap, get, IsOrdered, Updates}
use Rattle.std.specs.Cmp.Lexicographic.{bytes_decides, nat_list_cmp_total}
use Rattle.std.proofs.lemmas.Cmp.{eq_by_cmp_equiv}
use Rattle.std.proofs.lemmas.List.Sums.{count_by_more_yes, count_by_more_no, count_by-le-length}
use Rattle.std.proofs.lemmas.List.Folds.{list_any_more}
use Rattle.std.proofs.lemmas.Map.Text.{is_eq-slice_cmp}
use Rattle.fab_reach_base.specs.fab_names.Orders.{name_cmp}
use Rattle.fab_reach_base.specs.fab_names.declared.fabric.Fabric.{Fabric}
use Rattle.fab_reach_base.specs.fab_names.declared.fabric.Fabric.TheVariants.{A, B}
use Rattle.fab_reach_base.specs.declared.path.Path.{Path}
use Rattle.fab_reach_base.specs.fab_inventory.Imports.{same_fabric}
use Rattle.fab_files.specs.Reports.{leads_over, paths_over}
use Rattle.fab_files.specs.Counting.{AreCounted, counts_over, none_counted, one_more}
use Rattle.fab_files.specs.declared.counts.Counts.{Counts}

and_false : (b : Bool) → (b && false) ≡ false
and_false true = refl
and_false false = refl

or_true : (b : Bool) → (b || true) ≡ true
or_true true = refl
or_true false = refl

or_false : (b : Bool) → (b || false) ≡ b
or_false true = refl
or_false false = refl

abbrev both : ℕ → ℕ → Counts
both a b = record { over_a = a; over_b = b }

same_counts : (a b c d : ℕ) → a ≡ c → b ≡ d → both a b ≡ both c d
same_counts a b c d h k = ap (λ (x : ℕ). both x b) h ∙ ap (λ (x : ℕ). both c x) k

leads : (f g : Fabric) (v : List ℕ) (p : Path) (t : Bool) → p.fabric ≡ g → bytes_eq p.volume v ≡ t → leads_over f v p ≡ (same_fabric f g && t)
leads f g v p t e h = ap (λ (x : Fabric). same_fabric f x && bytes_eq p.volume v) e ∙ ap (λ (b : Bool). same_fabric f g && b) h

module _ (paths : List Path) (i : ℕ) (d : Path) (lt : i < length paths) where
  abbrev p : Path
  p = get_or paths i d

  -- a path more to the volume
  counted_here : (v : List ℕ) → bytes_eq p.volume v ≡ true → (f : Fabric) → p.fabric ≡ f → counts_over (take (i + 1) paths) v ≡ one_more f (counts_over (take i paths) v)
  counted_here v h A e = same_counts _ _ _ _ (count_by_more_yes (leads_over A v) paths i d lt (leads A A v p true e h)) (count_by_more_no (leads_over B v) paths i d lt (leads B A v p true e h))
  counted_here v h B e = same_counts _ _ _ _ (count_by_more_no (leads_over A v) paths i d lt (leads A B v p true e h)) (count_by_more_yes (leads_over B v) paths i d lt (leads B B v p true e h))

  -- a path to another volume
  counted_not : (v : List ℕ) → bytes_eq p.volume v ≡ false → counts_over (take (i + 1) paths) v ≡ counts_over (take i paths) v
  counted_not v h =
      let off = λ (f : Fabric). leads f p.fabric v p false refl h ∙ and_false (same_fabric f p.fabric) in
      same_counts _ _ _ _ (count_by_more_no (leads_over A v) paths i d lt (off A)) (count_by_more_no (leads_over B v) paths i d lt (off B))

  module _ (m n : BTreeMap (List ℕ) Counts) (so : AreCounted (take i paths) m) (w : Counts) (is : w ≡ one_more p.fabric (unwrap_or (get name_cmp m p.volume) none_counted))
      (put : Updates name_cmp m n p.volume (Some w)) (ordered : IsOrdered name_cmp n) where
    at : (v : List ℕ) (b : Bool) → bytes_eq p.volume v ≡ b → get name_cmp n v ≡ cond b (Some w) (get name_cmp m v)
    at v b e = put.0 v ∙ ap (λ (t : Bool). cond t (Some w) (get name_cmp m v)) (is_eq-slice_cmp p.volume v ∙ e)

    counts_at : (v : List ℕ) (b : Bool) → bytes_eq p.volume v ≡ b → unwrap_or (get name_cmp n v) none_counted ≡ counts_over (take (i + 1) paths) v
    counts_at v true e =
        ap (λ (o : Option Counts). unwrap_or o none_counted) (at v true e)
        ∙ is
        ∙ ap (one_more p.fabric) (so.counts p.volume ∙ ap (counts_over (take i paths)) ((bytes_decides p.volume v).0 e))
        ∙ sym (counted_here v e p.fabric refl)
    counts_at v false e = ap (λ (o : Option Counts). unwrap_or o none_counted) (at v false e) ∙ so.counts v ∙ sym (counted_not v e)

    more : (v : List ℕ) (b : Bool) → bytes_eq p.volume v ≡ b
        → list_any (λ (x : Path). eq_by_cmp name_cmp v x.volume) (take (i + 1) paths) ≡ (list_any (λ (x : Path). eq_by_cmp name_cmp v x.volume) (take i paths) || b)
    more v b e =
        list_any_more (λ (x : Path). eq_by_cmp name_cmp v x.volume) paths i d lt
        ∙ ap (λ (t : Bool). list_any (λ (x : Path). eq_by_cmp name_cmp v x.volume) (take i paths) || t) ((eq_by_cmp_equiv nat_list_cmp_total).symm v p.volume ∙ is_eq-slice_cmp p.volume v ∙ e)

    there_at : (v : List ℕ) (b : Bool) → bytes_eq p.volume v ≡ b → is_some (get name_cmp n v) ≡ list_any (λ (x : Path). eq_by_cmp name_cmp v x.volume) (take (i + 1) paths)
    there_at v true e = ap is_some (at v true e) ∙ sym (more v true e ∙ or_true _)
    there_at v false e = ap is_some (at v false e) ∙ so.there v ∙ sym (more v false e ∙ or_false _)

    -- one path more is counted
    pub counted_more : AreCounted (take (i + 1) paths) n
    counted_more = record {
      counts = λ v. counts_at v (bytes_eq p.volume v) refl;
      there = λ v. there_at v (bytes_eq p.volume v) refl;
      ordered = ordered;
    }

-- there are at most as many paths over a fabric as there are paths
pub few_over : (f : Fabric) (v : List ℕ) (paths : List Path) (i : ℕ) → paths_over f v (take i paths) ≤ i
few_over f v paths i =
    let few = count_by-le-length (leads_over f v) (take i paths) in
    let short = length-take i paths in
    omega (arith, few, short)
