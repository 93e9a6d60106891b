-- Ports, holders and volumes as the code tests them, and as they are sound.
use Rattle.std.proofs.Common.{ℕ, ◌≡◌, ◌≢◌, ◌≤◌, ◌+◌, inl, inr, List, [], ◌∷◌, ◌++◌, length, Option, None, Some, is_some, Bool, true, false, cond, nat_le, refl, sym, ap, ◌∙◌, subst, arith}
use mathlib.Core.Bool.{true≢false}
use Rattle.std.specs.List.{list_all}
use Rattle.std.specs.List.Sorted.{IsStrictlySortedBy}
use Rattle.std.specs.Map.{keys_of}
use Rattle.std.specs.Option.{option_map, option_and_then}
use Rattle.std.specs.Ordering.{nat_cmp}
use Rattle.std.specs.BTreeMap as tree
use Rattle.std.specs.BTreeMap.{BTreeMap, is_at}
use Rattle.std.specs.Cmp.{nat_cmp_total}
use Rattle.std.specs.Cmp.Lexicographic.{bytes_decides}
use Rattle.std.specs.FinMap as map
use Rattle.fab_names.specs.Orders.{name_cmp}
use Rattle.fab_names.proofs.OrderLaws.{name_total}
use Rattle.fab_lemmas.proofs.SeenMaps.{get_entries}
use Rattle.fab_lemmas.proofs.Passing.{found_passes, each_passes}
use Rattle.fab_lemmas.proofs.Tests.{both, left, right, within, from_within, is_false}
use Rattle.fab_inventory.specs.declared.port.Known.{Known}
use Rattle.fab_inventory.specs.declared.holder.Holder.{Holder}
use Rattle.fab_inventory.specs.declared.holder.Volume.{Volume}
use Rattle.fab_inventory.specs.declared.holder.HolderKind.{HolderKind}
use Rattle.fab_inventory.specs.declared.holder.HolderKind.TheVariants as kind
use Rattle.fab_inventory.specs.Limits.{most_bytes}
use Rattle.fab_inventory.specs.Holders.{holder_in, holder_is, same_name}
use Rattle.fab_inventory.specs.Inventories.{InventoryRows, IsSound, HoldsFew, IsArray, IsCapacity, kind_of}
use Rattle.fab_inventory.specs.Restores.{ArePortsSound, AreAddressesSound, AreHoldersSound, AreVolumesSound}
use Rattle.fab_inventory.specs.RestoreTests.{passes, has_known_holder, is_array_kind, is_placed, count_of, CountsPort, HasFew, HasMost}
use Rattle.fab_inventory.proofs.NameTests.{tie_tells}
use Rattle.fab_inventory.proofs.Holdings.{held, held_more, held_fewer, few_from_held, held_from_few}

-- ---- counts
same_from : (name h : List ℕ) (o : Option (List ℕ)) → o ≡ Some name → name ≡ h → holder_is h o ≡ true
same_from name h o is same = ap (holder_is h) is ∙ (bytes_decides name h).1 same

apart_from : (name h : List ℕ) (o : Option (List ℕ)) → o ≡ Some name → name ≢ h → holder_is h o ≡ false
apart_from name h o is apart = ap (holder_is h) is ∙ is_false (same_name name h) (λ t. apart ((bytes_decides name h).0 t))

-- one more of the holder, and as many of the others
pub counted : (name : List ℕ) (k : Known) (n : ℕ) (f g : List ℕ → Option ℕ) → k.holder ≡ Some name → n ≡ count_of (f name) → ((q : List ℕ) → g q ≡ cond (is_at (name_cmp name) q) (Some (n + 1)) (f q)) → CountsPort k f g
counted name k n f g is count updates h = ap count_of (updates h) ∙ elim (tie_tells name h) [
  | inl t ↦ ap (λ b. count_of (cond b (Some (n + 1)) (f h))) t.0 ∙ ap (λ m. m + 1) (count ∙ ap (λ x. count_of (f x)) t.1) ∙ sym (ap (λ b. cond b (count_of (f h) + 1) (count_of (f h))) (same_from name h k.holder is t.1))
  | inr t ↦ ap (λ b. count_of (cond b (Some (n + 1)) (f h))) t.0 ∙ sym (ap (λ b. cond b (count_of (f h) + 1) (count_of (f h))) (apart_from name h k.holder is t.1))
]

-- the counts are those of these ports
abbrev pub Counts : (List ℕ → Option ℕ) → List (ℕ × Known) → Type 0
Counts f es = (h : List ℕ) → count_of (f h) ≡ length (held h es)

-- and none is too many
abbrev pub AreFew : List (ℕ × Known) → Type 0
AreFew es = (h : List ℕ) → length (held h es) ≤ 64

pub counts_more : (before : List (ℕ × Known)) (q : ℕ) (k : Known) (f g : List ℕ → Option ℕ) → Counts f before → CountsPort k f g → Counts g (before ++ (q, k) ∷ [])
counts_more before q k f g so_far more h = more h ∙ (λ i. cond (holder_is h k.holder) (so_far h i + 1) (so_far h i)) ∙ sym (held_more h before q k)

pub few_more : (before : List (ℕ × Known)) (q : ℕ) (k : Known) (f : List ℕ → Option ℕ) → Counts f before → HasFew k f → AreFew before → AreFew (before ++ (q, k) ∷ [])
few_more before q k f so_far room few h = subst (λ n. n ≤ 64) (sym (held_more h before q k)) (by (holder_is h k.holder) refl)
  where
    by : (b : Bool) → holder_is h k.holder ≡ b → cond b (length (held h before) + 1) (length (held h before)) ≤ 64
    by true is = omega (arith, room h is, so_far h)
    by false is = few h

-- where a holder has as many as it may have, one more is too many
pub too_many : (es before more : List (ℕ × Known)) (q : ℕ) (k : Known) (f : List ℕ → Option ℕ) → IsStrictlySortedBy nat_cmp (keys_of es) → es ≡ (before ++ (q, k) ∷ []) ++ more → Counts f before → HasMost k f
    → ¬ ((h : List ℕ) → HoldsFew (map.from_entries es) h)
too_many es before more q k f sorted whole so_far most all =
    let h : List ℕ = most.0 in
    let few : length (held h es) ≤ 64 = held_from_few h es sorted (all h) in
    let grows : length (held h (before ++ (q, k) ∷ [])) ≤ length (held h es) = subst (λ xs. length (held h (before ++ (q, k) ∷ [])) ≤ length (held h xs)) (sym whole) (held_fewer h (before ++ (q, k) ∷ []) more) in
    let one : length (held h (before ++ (q, k) ∷ [])) ≡ length (held h before) + 1 = held_more h before q k ∙ ap (λ b. cond b (length (held h before) + 1) (length (held h before))) most.1 in
    omega (arith, few, grows, one, most.2, so_far h)

pub all_few : (es before : List (ℕ × Known)) → IsStrictlySortedBy nat_cmp (keys_of es) → before ≡ es → AreFew before → (h : List ℕ) → HoldsFew (map.from_entries es) h
all_few es before sorted is few h = few_from_held h es sorted (subst (λ xs. length (held h xs) ≤ 64) is (few h))

-- ---- holders of ports
module _ (p : BTreeMap ℕ Known) (h : BTreeMap (List ℕ) Holder) where
  look_up : (q : ℕ) → holder_in (map.get (map.from_entries {R = nat_cmp} p.entries)) q ≡ option_and_then (λ (k : Known). k.holder) (tree.get nat_cmp p q)
  look_up q = ap (option_and_then (λ (k : Known). k.holder)) (get_entries nat_cmp_total p.entries q)

  abbrev Holdings : Type 0
  Holdings = (q : ℕ) (x : List ℕ) → holder_in (map.get (map.from_entries {R = nat_cmp} p.entries)) q ≡ Some x → map.contains_key (map.from_entries {R = name_cmp} h.entries) x ≡ true

  pub known_from_sound : tree.IsOrdered nat_cmp p → Holdings → list_all (has_known_holder (tree.get name_cmp h)) (tree.values p) ≡ true
  known_from_sound sorted s = each_passes nat_cmp_total (has_known_holder (tree.get name_cmp h)) p.entries sorted (λ q k is. by q k.holder (look_up q ∙ ap (option_and_then (λ (k : Known). k.holder)) is))
    where
      by : (q : ℕ) (o : Option (List ℕ)) → holder_in (map.get (map.from_entries {R = nat_cmp} p.entries)) q ≡ o → passes (λ x. is_some (tree.get name_cmp h x)) o ≡ true
      by q None e = refl
      by q (Some x) e = ap is_some (sym (get_entries name_total h.entries x)) ∙ s q x e

  pub sound_from_known : list_all (has_known_holder (tree.get name_cmp h)) (tree.values p) ≡ true → Holdings
  sound_from_known known q x e = ap is_some (get_entries name_total h.entries x) ∙ by (tree.get nat_cmp p q) refl (sym (look_up q) ∙ e)
    where
      by : (o : Option Known) → tree.get nat_cmp p q ≡ o → option_and_then (λ (k : Known). k.holder) o ≡ Some x → is_some (tree.get name_cmp h x) ≡ true
      by None is e = absurd cc
      by (Some k) is e = subst (λ o. passes (λ y. is_some (tree.get name_cmp h y)) o ≡ true) e (found_passes nat_cmp (has_known_holder (tree.get name_cmp h)) p.entries known q k is)

-- ---- volumes
array_test : (o : Option HolderKind) → o ≡ Some kind.Array → is_array_kind o ≡ true
array_test None e = absurd cc
array_test (Some kind.Host) e = absurd cc
array_test (Some kind.Array) e = refl

test_array : (o : Option HolderKind) → is_array_kind o ≡ true → o ≡ Some kind.Array
test_array None e = absurd (true≢false (sym e))
test_array (Some kind.Host) e = absurd (true≢false (sym e))
test_array (Some kind.Array) e = refl

module _ (h : BTreeMap (List ℕ) Holder) (v : BTreeMap (List ℕ) Volume) where
  kind_look_up : (a : List ℕ) → kind_of (map.from_entries h.entries) a ≡ option_map (λ (x : Holder). x.kind) (tree.get name_cmp h a)
  kind_look_up a = ap (option_map (λ (x : Holder). x.kind)) (get_entries name_total h.entries a)

  pub placed_from_sound : tree.IsOrdered name_cmp v → AreVolumesSound (map.from_entries h.entries) (map.from_entries v.entries) → list_all (is_placed (tree.get name_cmp h)) (tree.values v) ≡ true
  placed_from_sound sorted s = each_passes name_total (is_placed (tree.get name_cmp h)) v.entries sorted (λ n x is.
      let at : map.get (map.from_entries {R = name_cmp} v.entries) n ≡ Some x = get_entries name_total v.entries n ∙ is in
      let fits = s.capacities n x at in
      both (array_test _ (sym (kind_look_up x.array) ∙ s.arrays n x at)) (both (within 1 x.bytes fits.0) (within x.bytes most_bytes fits.1)))

  module _ (placed : list_all (is_placed (tree.get name_cmp h)) (tree.values v) ≡ true) (n : List ℕ) (x : Volume) (e : map.get (map.from_entries {R = name_cmp} v.entries) n ≡ Some x) where
    at_key : is_placed (tree.get name_cmp h) x ≡ true
    at_key = found_passes name_cmp (is_placed (tree.get name_cmp h)) v.entries placed n x (sym (get_entries name_total v.entries n) ∙ e)

    pub array_of : IsArray (map.from_entries h.entries) x.array
    array_of = kind_look_up x.array ∙ test_array _ (left _ _ at_key)

    pub capacity_of : IsCapacity x.bytes
    capacity_of =
        let fits = right (is_array_kind (option_map (λ (y : Holder). y.kind) (tree.get name_cmp h x.array))) _ at_key in
        (from_within 1 x.bytes (left _ _ fits), from_within x.bytes most_bytes (right (nat_le 1 x.bytes) _ fits))

-- ---- the whole
pub sound_of_parts : (v : InventoryRows) → ArePortsSound v.ports v.holders → AreAddressesSound v.ports → AreHoldersSound v.holders → AreVolumesSound v.holders v.volumes → IsSound v
sound_of_parts v p a h x = record { holdings = p.holdings; addresses = a; arrays = x.arrays; capacities = x.capacities; few_ports = p.few; few_holders = h; few_volumes = x.few; few_held = p.few_held }

pub parts_of_sound : (v : InventoryRows) → IsSound v → ArePortsSound v.ports v.holders × AreAddressesSound v.ports × AreHoldersSound v.holders × AreVolumesSound v.holders v.volumes
parts_of_sound v s = (
  record { holdings = s.holdings; few = s.few_ports; few_held = s.few_held },
  s.addresses,
  s.few_holders,
  record { arrays = s.arrays; capacities = s.capacities; few = s.few_volumes },
)
