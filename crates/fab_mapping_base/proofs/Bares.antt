-- Sets and maps with nothing in them.
use Rattle.std.proofs.Common.{◌≡◌, List, [], ◌∷◌, length, Option, None, Some, false, cond, arith, refl, sym, ap, ◌∙◌}
use mathlib.Core.Bool.{true≢false}
use Rattle.std.specs.declared.cmp.Ordering.{Ordering}
use Rattle.std.specs.Ordering.{is_eq, eq_by_cmp}
use Rattle.std.specs.Cmp.{IsTotalOrder, tied_itself}
use Rattle.std.specs.List.{list_any}
use Rattle.std.specs.Map.{lookup}
use Rattle.std.specs.BTreeMap.{is_at}
use Rattle.std.specs.FinMap as map
use Rattle.std.specs.FinSet as set
use Rattle.fab_inventory.proofs.fab_lemmas.Tests.{or_left}
use Rattle.fab_inventory.proofs.fab_lemmas.SeenMaps.{get_entries}

module _ {K : Type 0} {R : K → K → Ordering} (o : IsTotalOrder R) where
  pub bare_set : (ks : List K) → length ks ≡ 0 → (x : K) → set.contains (set.from_list {R = R} ks) x ≡ false
  bare_set [] e x = set.contains-from_list o [] x
  bare_set (k ∷ ks) e x = absurd (omega (arith, e))

  pub set_bare : (ks : List K) → ((x : K) → set.contains (set.from_list {R = R} ks) x ≡ false) → length ks ≡ 0
  set_bare [] h = refl
  set_bare (k ∷ ks) h = absurd (true≢false (sym (set.contains-from_list o (k ∷ ks) k ∙ or_left (eq_by_cmp R k k) (list_any (eq_by_cmp R k) ks) (ap is_eq (tied_itself o k))) ∙ h k))

  module _ {X : Type 0} where
    pub bare_map : (es : List (K × X)) → length es ≡ 0 → (q : K) → map.get (map.from_entries {R = R} es) q ≡ None
    bare_map [] e q = get_entries o [] q
    bare_map (k ∷ es) e q = absurd (omega (arith, e))

    pub map_bare : (es : List (K × X)) → ((q : K) → map.get (map.from_entries {R = R} es) q ≡ None) → length es ≡ 0
    map_bare [] h = refl
    map_bare (e ∷ es) h =
        let there : map.get (map.from_entries {R = R} (e ∷ es)) e.0 ≡ Some e.1 = get_entries o (e ∷ es) e.0 ∙ ap (λ b. cond b (Some e.1) (lookup (is_at (R e.0)) es)) (ap is_eq (tied_itself o e.0)) in
        let both : ◌≡◌ {A = Option X} None (Some e.1) = sym (h e.0) ∙ there in
        absurd cc
