-- Items of sets under names, from trees to finite maps.
use Rattle.std.proofs.Common.{ℕ, ◌≡◌, inl, inr, List, [], ◌∷◌, Option, None, Some, Bool, true, false, Result, Ok, Err, OnOk, refl, sym, ap, ◌∙◌}
use Rattle.std.specs.declared.cmp.Ordering.{Ordering}
use Rattle.std.specs.Ordering.{is_eq, eq_by_cmp}
use Rattle.std.specs.Bool.{OnFalse}
use Rattle.std.specs.Option.{option_map}
use Rattle.std.specs.Cmp.{IsTotalOrder, tied_itself}
use Rattle.std.specs.BTreeMap.{BTreeMap, get}
use Rattle.std.specs.BTreeSet.{BTreeSet, contains}
use Rattle.std.specs.List.{list_any}
use Rattle.std.specs.FinSet as set
use Rattle.fab_names.specs.Orders.{name_cmp}
use Rattle.fab_names.proofs.OrderLaws.{name_total}
use Rattle.fab_zoning_rows.specs.fab_lemmas.MapsOfSets.{seen_set, seen_sets}
use Rattle.fab_zoning_rows.proofs.fab_lemmas.Tests.{or_left}
use Rattle.fab_zoning_rows.proofs.fab_lemmas.MapsOfSets.{get_seen, has_seen}
use Rattle.fab_zoning_rows.proofs.fab_lemmas.SeenSets.{contains_seen}
use Rattle.fab_zoning.specs.Edits.{Puts, Takes, IsIn, HasItems, IsItem, HasSome}

module _ {K : Type 0} {R : K → K → Ordering} (o : IsTotalOrder R) where
  abbrev Sets : Type 0
  Sets = BTreeMap (List ℕ) (BTreeSet K)

  pub puts_seen : (t u : Sets) (e : List ℕ × K) → Puts e (IsIn name_cmp R t) (IsIn name_cmp R u) → Puts e (IsItem (seen_sets name_cmp R t.entries)) (IsItem (seen_sets name_cmp R u.entries))
  puts_seen t u e puts d = (
    λ h. elim ((puts d).0 (sym (has_seen R name_total o u d.0 d.1) ∙ h)) [ inl k ↦ inl (has_seen R name_total o t d.0 d.1 ∙ k) | inr k ↦ inr k ],
    λ h. has_seen R name_total o u d.0 d.1 ∙ (puts d).1 (elim h [ inl k ↦ inl (sym (has_seen R name_total o t d.0 d.1) ∙ k) | inr k ↦ inr k ]),
  )

  pub takes_seen : (t u : Sets) (e : List ℕ × K) → Takes e (IsIn name_cmp R t) (IsIn name_cmp R u) → Takes e (IsItem (seen_sets name_cmp R t.entries)) (IsItem (seen_sets name_cmp R u.entries))
  takes_seen t u e takes d = (
    λ h. let k = (takes d).0 (sym (has_seen R name_total o u d.0 d.1) ∙ h) in (has_seen R name_total o t d.0 d.1 ∙ k.0, k.1),
    λ h. has_seen R name_total o u d.0 d.1 ∙ (takes d).1 (sym (has_seen R name_total o t d.0 d.1) ∙ h.0, h.1),
  )

  pub some_down : (t : Sets) → HasSome (seen_sets name_cmp R t.entries) → HasItems name_cmp R t
  some_down t some q s at = let w = some q (seen_set R s) (get_seen R name_total t q ∙ ap (option_map (seen_set R)) at) in (w.0, sym (contains_seen o s w.0) ∙ w.1)

  pub some_up : (t : Sets) → HasItems name_cmp R t → HasSome (seen_sets name_cmp R t.entries)
  some_up t some q s at = by (get name_cmp t q) refl (sym (get_seen R name_total t q) ∙ at)
    where
      by : (a : Option (BTreeSet K)) → get name_cmp t q ≡ a → option_map (seen_set R) a ≡ Some s → (x : K) × (set.contains s x ≡ true)
      by None is e = absurd cc
      by (Some u) is e =
          let w = some q u is in
          let same : seen_set R u ≡ s = one (seen_set R u) s e in
          (w.0, ap (λ (v : set.FinSet R). set.contains v w.0) (sym same) ∙ contains_seen o u w.0 ∙ w.1)
        where
          one : (a b : set.FinSet R) → ◌≡◌ {A = Option (set.FinSet R)} (Some a) (Some b) → a ≡ b
          one a b e = cc

-- a set that is not empty has an item
pub some_key : {K : Type 0} {R : K → K → Ordering} → IsTotalOrder R → (s : BTreeSet K) → ¬ (s.keys ≡ []) → (x : K) × (contains R s x ≡ true)
some_key {K} {R} o s some = by s.keys refl
  where
    by : (ks : List K) → s.keys ≡ ks → (x : K) × (contains R s x ≡ true)
    by [] e = absurd (some e)
    by (k ∷ ks) e = (k, ap (list_any (eq_by_cmp R k)) e ∙ or_left (eq_by_cmp R k k) (list_any (eq_by_cmp R k) ks) (ap is_eq (tied_itself o k)))

-- what a call says, the call above says
pub on_ok : {X E : Type 0} {P Q : Type 0} (r : Result X E) → (P → Q) → OnOk r P → OnOk r Q
on_ok (Ok x) f h = f h
on_ok (Err e) f h = h

-- what a test that says no shows
pub on_false : (b : Bool) (P : Type 0) → (b ≡ false → P) → OnFalse b P
on_false true P f = tt
on_false false P f = f refl
