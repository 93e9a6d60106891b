-- Each change of an inventory leaves it sound.
use Rattle.std.proofs.Common.{ℕ, ◌≡◌, ◌≢◌, ◌<◌, ◌≤◌, ◌+◌, ◌-◌, ◌⊎◌, inl, inr, List, [], ◌∷◌, length, suc, Contains, Option, None, Some, is_some, Bool, true, false, cond, nat_eq, refl, sym, ap, ◌∙◌, subst, arith, zero, get_or}
use Rattle.std.specs.List.{list_any}
use Rattle.std.specs.Option.{option_map, option_and_then}
use Rattle.std.specs.Ordering.{nat_cmp}
use Rattle.std.specs.FinMap as map
use Rattle.std.proofs.lemmas.Bool.Decides.{eqb_tells, Decides-eqb}
use Rattle.std.proofs.lemmas.Map.Views.{Contains-from_any}
use Rattle.fab_names.specs.Orders.{name_cmp}
use Rattle.fab_names.specs.declared.fabric.Fabric.{Fabric}
use Rattle.fab_names.specs.Places.{Position}
use Rattle.fab_names.proofs.OrderLaws.{name_total}
use Rattle.fab_inventory.specs.declared.port.Known.{Known}
use Rattle.fab_inventory.specs.declared.port.PortRow.{PortRow}
use Rattle.fab_inventory.specs.declared.holder.Holder.{Holder}
use Rattle.fab_inventory.specs.declared.holder.Volume.{Volume}
use Rattle.fab_inventory.specs.Ports.{KnownPorts}
use Rattle.fab_inventory.specs.Imports.{IsImported, IsUnlisted, same_fabric, stays_at, keeps_at, logged_in, logged_out}
use Rattle.fab_inventory.specs.Holders.{holder_in, held_after, other_than, HasNoVolume}
use Rattle.fab_inventory.specs.Inventories.{InventoryRows, no_rows, IsSound, HaveNoAddress, IsArray, IsCapacity, kind_of, CanPutHolder, IsHolderPut, IsHolderDropped, CanPutVolume}
use Rattle.fab_inventory.specs.declared.holder.HolderKind.TheVariants as kind
use Rattle.fab_inventory.proofs.NameTests.{same_name_tells, other_is, tie_tells}

one_more_at_most : (b : Bool) (n most : ℕ) → n ≤ most → (b ≡ false → n < most) → cond b n (n + 1) ≤ most
one_more_at_most true n most h room = h
one_more_at_most false n most h room = let lt : n < most = room refl in omega arith

one_less_at_most : (b : Bool) (n most : ℕ) → n ≤ most → cond b (n - 1) n ≤ most
one_less_at_most true n most h = omega arith
one_less_at_most false n most h = h

-- what an empty inventory has
pub sound_none : IsSound no_rows
sound_none = record {
  holdings = λ q h e. let f : ◌≡◌ {A = Option (List ℕ)} None (Some h) = sym (ap (option_and_then (λ (k : Known). k.holder)) (map.get-empty nat_cmp q)) ∙ e in absurd cc;
  addresses = λ q k e nowhere. let f : ◌≡◌ {A = Option Known} None (Some k) = sym (map.get-empty nat_cmp q) ∙ e in absurd cc;
  arrays = λ n x e. let f : ◌≡◌ {A = Option Volume} None (Some x) = sym (map.get-empty name_cmp n) ∙ e in absurd cc;
  capacities = λ n x e. let f : ◌≡◌ {A = Option Volume} None (Some x) = sym (map.get-empty name_cmp n) ∙ e in absurd cc;
  few_ports = omega (arith, map.len-empty nat_cmp Known);
  few_holders = omega (arith, map.len-empty name_cmp Holder);
  few_volumes = omega (arith, map.len-empty name_cmp Volume);
  few_held = λ h. ([], omega arith, λ q e. let f : ◌≡◌ {A = Option (List ℕ)} None (Some h) = sym (ap (option_and_then (λ (k : Known). k.holder)) (map.get-empty nat_cmp q)) ∙ e in absurd cc);
}

-- ---- holders

-- who holds a port in the end: this holder a listed one, or another the port that it held before
module _ (name : List ℕ) (listed : List ℕ) (old new : KnownPorts) (handed : (q : ℕ) → map.get new q ≡ option_map (held_after name listed q) (map.get old q)) where
  abbrev HeldFrom : ℕ → List ℕ → Option Known → Type 0
  HeldFrom q h o = (Contains listed q × (h ≡ name)) ⊎ ((option_and_then (λ (k : Known). k.holder) o ≡ Some h) × (h ≢ name))

  by_test : (q : ℕ) (h : List ℕ) (k : Known) (t : Bool) → list_any (λ p. nat_eq p q) listed ≡ t → cond t (Some name) (other_than name k.holder) ≡ Some h → HeldFrom q h (Some k)
  by_test q h k true is e = inl (Contains-from_any {eq = λ a b. nat_eq b a} (λ x y same. sym ((Decides-eqb y x).0 same)) q listed is, let f : name ≡ h = cc in sym f)
  by_test q h k false is e = inr (other_is name k.holder h e)

  by_known : (q : ℕ) (h : List ℕ) (o : Option Known) → option_and_then (λ (k : Known). k.holder) (option_map (held_after name listed q) o) ≡ Some h → HeldFrom q h o
  by_known q h None e = absurd cc
  by_known q h (Some k) e = by_test q h k (list_any (λ p. nat_eq p q) listed) refl e

  pub held_from : (q : ℕ) (h : List ℕ) → holder_in (map.get new) q ≡ Some h → HeldFrom q h (map.get old q)
  held_from q h e = by_known q h (map.get old q) (sym (ap (option_and_then (λ (k : Known). k.holder)) (handed q)) ∙ e)

  -- and no port gets an address, or moves
  by_address : (q : ℕ) (k : Known) (o : Option Known) → ((j : Known) → o ≡ Some j → j.at ≡ None → j.address ≡ None) → option_map (held_after name listed q) o ≡ Some k → k.at ≡ None → k.address ≡ None
  by_address q k None was e nowhere = absurd cc
  by_address q k (Some j) was e nowhere =
      let same : held_after name listed q j ≡ k = cc in
      ap (λ (x : Known). x.address) (sym same) ∙ was j refl (ap (λ (x : Known). x.at) same ∙ nowhere)

  pub held_addresses : HaveNoAddress old → HaveNoAddress new
  held_addresses was q k e = by_address q k (map.get old q) (was q) (sym (handed q) ∙ e)

-- what is at a name after an insertion
at_insert : {X : Type 0} (m : map.FinMap name_cmp X) (k q : List ℕ) (v : X) → ((q ≡ k) × (map.get (map.insert m k v) q ≡ Some v)) ⊎ ((q ≢ k) × (map.get (map.insert m k v) q ≡ map.get m q))
at_insert m k q v = elim (tie_tells q k) [
  | inl t ↦ inl (t.1, map.get-insert name_total m k v q ∙ ap (λ b. cond b (Some v) (map.get m q)) t.0)
  | inr t ↦ inr (t.1, map.get-insert name_total m k v q ∙ ap (λ b. cond b (Some v) (map.get m q)) t.0)
]

-- what is at a name after a removal
at_remove : {X : Type 0} (m : map.FinMap name_cmp X) (k q : List ℕ) → ((q ≡ k) × (map.get (map.remove m k) q ≡ None)) ⊎ ((q ≢ k) × (map.get (map.remove m k) q ≡ map.get m q))
at_remove m k q = elim (tie_tells q k) [
  | inl t ↦ inl (t.1, map.get-remove name_total m k q ∙ ap (λ b. cond b None (map.get m q)) t.0)
  | inr t ↦ inr (t.1, map.get-remove name_total m k q ∙ ap (λ b. cond b None (map.get m q)) t.0)
]

pub sound_put_holder : (name : List ℕ) (holder : Holder) (listed : List ℕ) (old new : InventoryRows) → IsSound old → CanPutHolder old name holder.kind listed → IsHolderPut name holder listed old new → map.len new.ports ≤ 4096 → IsSound new
sound_put_holder name holder listed old new sound can put few = record {
  holdings = λ q h e. elim (held_from name listed old.ports new.ports put.ports q h e) [
    | inl a ↦ elim (at_insert old.holders name h holder) [ inl t ↦ ap (λ m. map.contains_key m h) put.holders ∙ ap is_some t.1 | inr t ↦ absurd (t.0 a.1) ]
    | inr b ↦ elim (at_insert old.holders name h holder) [ inl t ↦ absurd (b.1 t.0) | inr t ↦ ap (λ m. map.contains_key m h) put.holders ∙ ap is_some t.1 ∙ sound.holdings q h b.0 ]
  ];
  addresses = held_addresses name listed old.ports new.ports put.ports sound.addresses;
  arrays = λ n x e. still_array n x (sound.arrays n x (ap (λ m. map.get m n) (sym put.volumes) ∙ e));
  capacities = λ n x e. sound.capacities n x (ap (λ m. map.get m n) (sym put.volumes) ∙ e);
  few_ports = few;
  few_holders = subst (λ m. map.len m ≤ 2048) (sym put.holders) (subst (λ n. n ≤ 2048) (sym (map.len-insert name_total old.holders name holder)) (one_more_at_most (map.contains_key old.holders name) (map.len old.holders) 2048 sound.few_holders can.room));
  few_volumes = subst (λ m. map.len m ≤ 4096) (sym put.volumes) sound.few_volumes;
  few_held = λ h. elim (same_name_tells h name) [
    | inl same ↦ (listed, can.few, λ q e. elim (held_from name listed old.ports new.ports put.ports q h e) [ inl a ↦ a.0 | inr b ↦ absurd (b.1 same.1) ])
    | inr apart ↦ let held = sound.few_held h in (held.0, held.1, λ q e. elim (held_from name listed old.ports new.ports put.ports q h e) [ inl a ↦ absurd (apart.1 a.1) | inr b ↦ held.2 q b.0 ])
  ];
}
  where
    still_array : (n : List ℕ) (x : Volume) → IsArray old.holders x.array → IsArray new.holders x.array
    still_array n x was = ap (λ m. kind_of m x.array) put.holders ∙ elim (at_insert old.holders name x.array holder) [
      | inl t ↦ ap (option_map (λ (h : Holder). h.kind)) t.1 ∙ ap Some (sym (can.kind kind.Array (ap (kind_of old.holders) (sym t.0) ∙ was)))
      | inr t ↦ ap (option_map (λ (h : Holder). h.kind)) t.1 ∙ was
    ]

pub sound_drop_holder : (name : List ℕ) (old new : InventoryRows) → IsSound old → HasNoVolume (map.get old.volumes) name → IsHolderDropped name old new → map.len new.ports ≤ 4096 → IsSound new
sound_drop_holder name old new sound unused dropped few = record {
  holdings = λ q h e.
      let b = before q h e in
      elim (at_remove old.holders name h) [ inl t ↦ absurd (b.1 t.0) | inr t ↦ ap (λ m. map.contains_key m h) dropped.holders ∙ ap is_some t.1 ∙ sound.holdings q h b.0 ];
  addresses = held_addresses name [] old.ports new.ports dropped.ports sound.addresses;
  arrays = λ n x e.
      let at : map.get old.volumes n ≡ Some x = ap (λ m. map.get m n) (sym dropped.volumes) ∙ e in
      ap (λ m. kind_of m x.array) dropped.holders ∙ elim (at_remove old.holders name x.array) [ inl t ↦ absurd (unused n (x, at, t.0)) | inr t ↦ ap (option_map (λ (h : Holder). h.kind)) t.1 ∙ sound.arrays n x at ];
  capacities = λ n x e. sound.capacities n x (ap (λ m. map.get m n) (sym dropped.volumes) ∙ e);
  few_ports = few;
  few_holders = subst (λ m. map.len m ≤ 2048) (sym dropped.holders) (subst (λ n. n ≤ 2048) (sym (map.len-remove name_total old.holders name)) (one_less_at_most (map.contains_key old.holders name) (map.len old.holders) 2048 sound.few_holders));
  few_volumes = subst (λ m. map.len m ≤ 4096) (sym dropped.volumes) sound.few_volumes;
  few_held = λ h. let held = sound.few_held h in (held.0, held.1, λ q e. held.2 q (before q h e).0);
}
  where
    before : (q : ℕ) (h : List ℕ) → holder_in (map.get new.ports) q ≡ Some h → (holder_in (map.get old.ports) q ≡ Some h) × (h ≢ name)
    before q h e = elim (held_from name [] old.ports new.ports dropped.ports q h e) [ inl a ↦ absurd (omega (arith, a.0.1)) | inr b ↦ b ]

-- ---- volumes
pub sound_put_volume : (name : List ℕ) (v : Volume) (old : InventoryRows) → IsSound old → CanPutVolume old name v.array v.bytes → IsSound (record old { volumes = map.insert old.volumes name v })
sound_put_volume name v old sound can = record {
  holdings = sound.holdings;
  addresses = sound.addresses;
  arrays = λ n x e. elim (at_insert old.volumes name n v) [
    | inl t ↦ let same : v ≡ x = is_same (sym t.1 ∙ e) in subst (λ (y : Volume). IsArray old.holders y.array) same can.on_array
    | inr t ↦ sound.arrays n x (sym t.1 ∙ e)
  ];
  capacities = λ n x e. elim (at_insert old.volumes name n v) [
    | inl t ↦ let same : v ≡ x = is_same (sym t.1 ∙ e) in subst (λ (y : Volume). IsCapacity y.bytes) same can.capacity
    | inr t ↦ sound.capacities n x (sym t.1 ∙ e)
  ];
  few_ports = sound.few_ports;
  few_holders = sound.few_holders;
  few_volumes = subst (λ n. n ≤ 4096) (sym (map.len-insert name_total old.volumes name v)) (one_more_at_most (map.contains_key old.volumes name) (map.len old.volumes) 4096 sound.few_volumes can.room);
  few_held = sound.few_held;
}
  where
    is_same : {a b : Volume} → Some a ≡ Some b → a ≡ b
    is_same e = cc

pub sound_drop_volume : (name : List ℕ) (old : InventoryRows) → IsSound old → IsSound (record old { volumes = map.remove old.volumes name })
sound_drop_volume name old sound = record {
  holdings = sound.holdings;
  addresses = sound.addresses;
  arrays = λ n x e. sound.arrays n x (there n x e);
  capacities = λ n x e. sound.capacities n x (there n x e);
  few_ports = sound.few_ports;
  few_holders = sound.few_holders;
  few_volumes = subst (λ n. n ≤ 4096) (sym (map.len-remove name_total old.volumes name)) (one_less_at_most (map.contains_key old.volumes name) (map.len old.volumes) 4096 sound.few_volumes);
  few_held = sound.few_held;
}
  where
    there : (n : List ℕ) (x : Volume) → map.get (map.remove old.volumes name) n ≡ Some x → map.get old.volumes n ≡ Some x
    there n x e = elim (at_remove old.volumes name n) [ inl t ↦ let f : ◌≡◌ {A = Option Volume} None (Some x) = sym t.1 ∙ e in absurd cc | inr t ↦ sym t.1 ∙ e ]

-- ---- imports

-- a port is listed, or it is not
pub listed_or_not : (rows : List PortRow) (q : ℕ) → ((r : PortRow) × Contains rows r × (r.name ≡ q)) ⊎ IsUnlisted rows q
listed_or_not [] q = inr (λ r in_r e. omega (arith, in_r.1))
listed_or_not (s ∷ rows) q = elim (eqb_tells s.name q) [
  | inl e ↦ inl (s, (0, omega arith, refl), e.1)
  | inr e ↦ elim (listed_or_not rows q) [
    | inl w ↦ inl (w.0, (suc w.1.0, omega (arith, w.1.1), w.1.2), w.2)
    | inr none ↦ inr (λ r in_r. by r in_r.0 in_r.1 in_r.2 e.1 none)
  ]
]
  where
    by : (r : PortRow) (k : ℕ) → k < length (s ∷ rows) → get_or (s ∷ rows) k r ≡ r → s.name ≢ q → IsUnlisted rows q → r.name ≢ q
    by r zero h at apart none e = apart (ap (λ (x : PortRow). x.name) at ∙ e)
    by r (suc k) h at apart none e = none r (k, omega (arith, h), at) e

-- an import leaves each port its holder
pub same_holder : (f : Fabric) (rows : List PortRow) (old new : KnownPorts) → IsImported f rows old new → (q : ℕ) → holder_in (map.get new) q ≡ holder_in (map.get old) q
same_holder f rows old new imported q = elim (listed_or_not rows q) [
  | inl w ↦ subst (λ p. holder_in (map.get new) p ≡ holder_in (map.get old) p) w.2 (ap (option_and_then (λ (k : Known). k.holder)) (imported.listed w.0 w.1))
  | inr none ↦ ap (option_and_then (λ (k : Known). k.holder)) (imported.others q none) ∙ stays (map.get old q)
]
  where
    stays : (o : Option Known) → option_and_then (λ (k : Known). k.holder) (option_map (logged_out f) o) ≡ option_and_then (λ (k : Known). k.holder) o
    stays None = refl
    stays (Some k) = refl

-- and none that is logged in nowhere an address
pub imported_addresses : (f : Fabric) (rows : List PortRow) (old new : KnownPorts) → IsImported f rows old new → HaveNoAddress old → HaveNoAddress new
imported_addresses f rows old new imported was q k e nowhere = elim (listed_or_not rows q) [
  | inl w ↦
      let same : logged_in f w.0 (map.get old w.0.name) ≡ k = is_same (sym (imported.listed w.0 w.1) ∙ subst (λ p. map.get new p ≡ Some k) (sym w.2) e) in
      let there : ◌≡◌ {A = Option (Fabric × Position)} (Some (f, w.0.place)) None = ap (λ (x : Known). x.at) same ∙ nowhere in
      absurd cc
  | inr none ↦ stays (map.get old q) (was q) (sym (imported.others q none) ∙ e)
]
  where
    is_same : {a b : Known} → Some a ≡ Some b → a ≡ b
    is_same e = cc

    out : (at : Option (Fabric × Position)) (address : Option ℕ) → (at ≡ None → address ≡ None) → stays_at f at ≡ None → keeps_at f at address ≡ None
    out None address was e = was refl
    out (Some p) address was e = by (same_fabric p.0 f) refl
      where
        by : (b : Bool) → same_fabric p.0 f ≡ b → cond b None address ≡ None
        by true is = refl
        by false is = let there : ◌≡◌ {A = Option (Fabric × Position)} (Some p) None = sym (ap (λ t. cond t None (Some p)) is) ∙ e in absurd cc

    stays : (o : Option Known) → ((j : Known) → o ≡ Some j → j.at ≡ None → j.address ≡ None) → option_map (logged_out f) o ≡ Some k → k.address ≡ None
    stays None was e = absurd cc
    stays (Some j) was e =
        let same : logged_out f j ≡ k = is_same e in
        ap (λ (x : Known). x.address) (sym same) ∙ out j.at j.address (was j refl) (ap (λ (x : Known). x.at) same ∙ nowhere)

pub sound_import : (f : Fabric) (rows : List PortRow) (old : InventoryRows) (new : KnownPorts) → IsSound old → IsImported f rows old.ports new → map.len new ≤ 4096 → IsSound (record old { ports = new })
sound_import f rows old new sound imported few = record {
  holdings = λ q h e. sound.holdings q h (sym (same_holder f rows old.ports new imported q) ∙ e);
  addresses = imported_addresses f rows old.ports new imported sound.addresses;
  arrays = sound.arrays;
  capacities = sound.capacities;
  few_ports = few;
  few_holders = sound.few_holders;
  few_volumes = sound.few_volumes;
  few_held = λ h. let held = sound.few_held h in (held.0, held.1, λ q e. held.2 q (sym (same_holder f rows old.ports new imported q) ∙ e));
}

pub trans≤ : {a b c : ℕ} → a ≤ b → b ≤ c → a ≤ c
trans≤ h k = omega arith
