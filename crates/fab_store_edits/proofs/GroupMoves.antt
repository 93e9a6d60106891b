-- One group of a mapping becomes another: what rows then stand.
use Rattle.std.proofs.Common.{ℕ, ◌≡◌, ◌⊎◌, inl, inr, List, Option, None, Some, true, false, refl, sym, ap, ◌∙◌, subst}
use mathlib.Core.Bool.{true≢false}
use Rattle.std.specs.FinMap as map
use Rattle.std.specs.FinSet as set
use Rattle.fab_reach_base.proofs.fab_names.OrderLaws.{name_total, name_exact}
use Rattle.fab_reach_base.specs.fab_names.declared.fabric.Fabric.{Fabric}
use Rattle.fab_reach_base.specs.fab_names.declared.fabric.Fabric.TheVariants.{A, B}
use Rattle.fab_reach_base.specs.fab_names.Orders.{name_cmp}
use Rattle.std.specs.Ordering.{nat_cmp}
use Rattle.fab_reach_base.specs.fab_zoning.Zonings.{FabricZoning, permits}
use Rattle.fab_reach_base.specs.fab_lemmas.Firsts.{HasAt}
use Rattle.fab_reach_base.proofs.fab_lemmas.Adding.{adds_one}
use Rattle.fab_reach_base.specs.fab_mapping_base.Groups.{HostGroupRows, StorageGroupRows, HaveSameHead}
use Rattle.fab_reach_base.specs.fab_mapping.Mappings.{MappingRows}
use Rattle.fab_reach_base.specs.Records.{ConfigRows, zoning_at}
use Rattle.fab_store_rows.specs.declared.config_row.SettingRow.TheVariants.{ActiveSet, DefaultZone}
use Rattle.fab_store_rows.specs.declared.config_row.HostGroupRow.{HostGroupRow}
use Rattle.fab_store_rows.specs.declared.config_row.StorageGroupRow.{StorageGroupRow}
use Rattle.fab_store_rows.specs.declared.config_row.GroupRow.{GroupRow}
use Rattle.fab_store_rows.specs.declared.config_row.GroupRow.TheVariants as group
use Rattle.fab_store_rows.specs.declared.config_row.PartRow.{PartRow}
use Rattle.fab_store_rows.specs.declared.config_row.PartRow.TheVariants as parts
use Rattle.fab_store_rows.specs.declared.config_row.StoragePart.{StoragePart}
use Rattle.fab_store_rows.specs.declared.config_row.StoragePart.TheVariants as part
use Rattle.fab_store_rows.specs.declared.config_row.ConfigRow.{ConfigRow}
use Rattle.fab_store_rows.specs.declared.config_row.ConfigRow.TheVariants as config
use Rattle.fab_store_rows.specs.Standing.{HasItem, IsGroup, IsPart, IsHostHead, IsStorageHead, HasPart, Stands}
use Rattle.fab_store_edits.specs.Rows.{host_head, host_row, part_row}
use Rattle.fab_store_rows.specs.Tidy.{HasNoEmptySet, IsTidy}
use Rattle.fab_store_edits.specs.Inner.Edits.{NoRow, IsPut, IsTaken}
use Rattle.fab_store_edits.specs.Inner.MappingEdits.{BecomesAt, HostsBecome, StorageBecomes, PutsHost, TakesHost, hosts_headed, PutsIn, TakesOf, storage_headed}
use Rattle.fab_store_edits.proofs.PartMoves.{item_gone, item_kept, item_left}
use Rattle.fab_store_edits.proofs.RowTests.{row_or}

pub some_is : {X : Type 0} (a b : X) → ◌≡◌ {A = Option X} (Some a) (Some b) → a ≡ b
some_is a b e = cc

-- there is a value, and it has P
abbrev pub HasIn : {X : Type 0} → Option X → (X → Type 0) → Type 0
HasIn {X} o P = (x : X) × (o ≡ Some x) × P x

-- what stood at a name stands at it, or is one of those that E tells
module _ {X : Type 0} (n : List ℕ) (o p : Option X) (old new : List ℕ → Option X) (at : BecomesAt n o p old new) where
  there_yet : (P : X → Type 0) (E : Type 0) (q : List ℕ) → (q ≡ n → HasIn o P → HasIn p P ⊎ E) → HasAt old P q → HasAt new P q ⊎ E
  there_yet P E q here h = elim (at.off q) [
    | inl same ↦ inl (h.0, same ∙ h.1, h.2)
    | inr e ↦ elim (here e (h.0, sym at.was ∙ ap old (sym e) ∙ h.1, h.2)) [ inl w ↦ inl (w.0, ap new e ∙ at.now ∙ w.1, w.2) | inr x ↦ inr x ]
  ]

  there_back : (P : X → Type 0) (E : Type 0) (q : List ℕ) → (q ≡ n → HasIn p P → HasIn o P ⊎ E) → HasAt new P q → HasAt old P q ⊎ E
  there_back P E q here h = elim (at.off q) [
    | inl same ↦ inl (h.0, sym same ∙ h.1, h.2)
    | inr e ↦ elim (here e (h.0, sym at.now ∙ ap new (sym e) ∙ h.1, h.2)) [ inl w ↦ inl (w.0, ap old e ∙ at.was ∙ w.1, w.2) | inr x ↦ inr x ]
  ]

pub in_some : {X : Type 0} (P : X → Type 0) (g : X) → HasIn (Some g) P → P g
in_some P g h = subst P (sym (some_is g h.0 h.1)) h.2

pub in_none : {X : Type 0} (P : X → Type 0) → ¬ HasIn None P
in_none {X} P h = let e : ◌≡◌ {A = Option X} None (Some h.0) = h.1 in absurd cc

pub here_none : {X : Type 0} (at : List ℕ → Option X) (n : List ℕ) (P : X → Type 0) → at n ≡ None → ¬ HasAt at P n
here_none at n P none h = in_none P (h.0, sym none ∙ h.1, h.2)

pub here_some : {X : Type 0} (at : List ℕ → Option X) (n : List ℕ) (P : X → Type 0) (g : X) → at n ≡ Some g → HasAt at P n → P g
here_some at n P g is h = in_some P g (h.0, sym is ∙ h.1, h.2)

-- ---- another mapping
module _ (c : ConfigRows) (w : MappingRows) (E : ConfigRow → Type 0) where
  same_zoning : (f : Fabric) → zoning_at c f ≡ zoning_at (record c { mapping = w }) f
  same_zoning A = refl
  same_zoning B = refl

  pub map_move : ((r : GroupRow) → IsGroup c.mapping r → IsGroup w r ⊎ E (config.Group r)) → ((r : PartRow) → IsPart c.mapping r → IsPart w r ⊎ E (config.Part r)) → (x : ConfigRow) → Stands c x → Stands (record c { mapping = w }) x ⊎ E x
  map_move groups parts (config.Setting (ActiveSet f k)) h = inl (subst (λ (v : FabricZoning). v.active ≡ k) (same_zoning f) h)
  map_move groups parts (config.Setting (DefaultZone f p)) h = inl (subst (λ (v : FabricZoning). permits v.flag ≡ p) (same_zoning f) h)
  map_move groups parts (config.Zoning r) h = inl (subst (λ (v : FabricZoning). HasItem v r.item) (same_zoning r.fabric) h)
  map_move groups parts (config.Active r) h = inl (subst (λ (v : FabricZoning). set.contains v.rows (r.zone, r.member) ≡ true) (same_zoning r.fabric) h)
  map_move groups parts (config.Group r) h = groups r h
  map_move groups parts (config.Part r) h = parts r h

pub tidy_mapped : (c : ConfigRows) (w : MappingRows) → IsTidy c → IsTidy (record c { mapping = w })
tidy_mapped c w t = record { fabrics = fabrics; no_empty = no_empty }
  where
    fabrics : (f : Fabric) → (zoning_at (record c { mapping = w }) f).fabric ≡ f
    fabrics A = t.fabrics A
    fabrics B = t.fabrics B

    no_empty : (f : Fabric) → HasNoEmptySet (zoning_at (record c { mapping = w }) f)
    no_empty A = t.no_empty A
    no_empty B = t.no_empty B

-- ---- host groups: from one to the other, or the row is one of E
record HostMoves (n : List ℕ) (E : ConfigRow → Type 0) (o p : Option HostGroupRows) : Type 0 where
  heads : (r : HostGroupRow) → r.name ≡ n → HasIn o (IsHostHead r) → HasIn p (IsHostHead r) ⊎ E (config.Group (group.Host r))
  hosts : (k h : List ℕ) → k ≡ n → HasIn o (λ (g : HostGroupRows). set.contains g.hosts h ≡ true) → HasIn p (λ (g : HostGroupRows). set.contains g.hosts h ≡ true) ⊎ E (host_row k h)

module _ (c : ConfigRows) (w : MappingRows) (n : List ℕ) (o p : Option HostGroupRows) (b : HostsBecome n o p c.mapping w) (E : ConfigRow → Type 0) where
  hosts_move : HostMoves n E o p → (x : ConfigRow) → Stands c x → Stands (record c { mapping = w }) x ⊎ E x
  hosts_move m = map_move c w E by_group by_part
    where
      by_group : (r : GroupRow) → IsGroup c.mapping r → IsGroup w r ⊎ E (config.Group r)
      by_group (group.Host r) h = there_yet n o p (map.get c.mapping.host_groups) (map.get w.host_groups) b.at (IsHostHead r) (E (config.Group (group.Host r))) r.name (m.heads r) h
      by_group (group.Storage r) h = inl (subst (λ gs. HasAt (map.get gs) (IsStorageHead r) r.name) (sym b.rest) h)

      by_part : (r : PartRow) → IsPart c.mapping r → IsPart w r ⊎ E (config.Part r)
      by_part (parts.Host k j) h = there_yet n o p (map.get c.mapping.host_groups) (map.get w.host_groups) b.at (λ (g : HostGroupRows). set.contains g.hosts j ≡ true) (E (host_row k j)) k (m.hosts k j) h
      by_part (parts.Storage k d) h = inl (subst (λ gs. HasAt (map.get gs) (HasPart d) k) (sym b.rest) h)

  hosts_move_back : HostMoves n E p o → (x : ConfigRow) → Stands (record c { mapping = w }) x → Stands c x ⊎ E x
  hosts_move_back m = map_move (record c { mapping = w }) c.mapping E by_group by_part
    where
      by_group : (r : GroupRow) → IsGroup w r → IsGroup c.mapping r ⊎ E (config.Group r)
      by_group (group.Host r) h = there_back n o p (map.get c.mapping.host_groups) (map.get w.host_groups) b.at (IsHostHead r) (E (config.Group (group.Host r))) r.name (m.heads r) h
      by_group (group.Storage r) h = inl (subst (λ gs. HasAt (map.get gs) (IsStorageHead r) r.name) b.rest h)

      by_part : (r : PartRow) → IsPart w r → IsPart c.mapping r ⊎ E (config.Part r)
      by_part (parts.Host k j) h = there_back n o p (map.get c.mapping.host_groups) (map.get w.host_groups) b.at (λ (g : HostGroupRows). set.contains g.hosts j ≡ true) (E (host_row k j)) k (m.hosts k j) h
      by_part (parts.Storage k d) h = inl (subst (λ gs. HasAt (map.get gs) (HasPart d) k) b.rest h)

-- ---- storage groups
record StorageMoves (n : List ℕ) (E : ConfigRow → Type 0) (o p : Option StorageGroupRows) : Type 0 where
  heads : (r : StorageGroupRow) → r.name ≡ n → HasIn o (IsStorageHead r) → HasIn p (IsStorageHead r) ⊎ E (config.Group (group.Storage r))
  parts : (k : List ℕ) (d : StoragePart) → k ≡ n → HasIn o (HasPart d) → HasIn p (HasPart d) ⊎ E (part_row k d)

module _ (c : ConfigRows) (w : MappingRows) (n : List ℕ) (o p : Option StorageGroupRows) (b : StorageBecomes n o p c.mapping w) (E : ConfigRow → Type 0) where
  storage_move : StorageMoves n E o p → (x : ConfigRow) → Stands c x → Stands (record c { mapping = w }) x ⊎ E x
  storage_move m = map_move c w E by_group by_part
    where
      by_group : (r : GroupRow) → IsGroup c.mapping r → IsGroup w r ⊎ E (config.Group r)
      by_group (group.Storage r) h = there_yet n o p (map.get c.mapping.groups) (map.get w.groups) b.at (IsStorageHead r) (E (config.Group (group.Storage r))) r.name (m.heads r) h
      by_group (group.Host r) h = inl (subst (λ gs. HasAt (map.get gs) (IsHostHead r) r.name) (sym b.rest) h)

      by_part : (r : PartRow) → IsPart c.mapping r → IsPart w r ⊎ E (config.Part r)
      by_part (parts.Storage k d) h = there_yet n o p (map.get c.mapping.groups) (map.get w.groups) b.at (HasPart d) (E (part_row k d)) k (m.parts k d) h
      by_part (parts.Host k j) h = inl (subst (λ gs. HasAt (map.get gs) (λ (g : HostGroupRows). set.contains g.hosts j ≡ true) k) (sym b.rest) h)

  storage_move_back : StorageMoves n E p o → (x : ConfigRow) → Stands (record c { mapping = w }) x → Stands c x ⊎ E x
  storage_move_back m = map_move (record c { mapping = w }) c.mapping E by_group by_part
    where
      by_group : (r : GroupRow) → IsGroup w r → IsGroup c.mapping r ⊎ E (config.Group r)
      by_group (group.Storage r) h = there_back n o p (map.get c.mapping.groups) (map.get w.groups) b.at (IsStorageHead r) (E (config.Group (group.Storage r))) r.name (m.heads r) h
      by_group (group.Host r) h = inl (subst (λ gs. HasAt (map.get gs) (IsHostHead r) r.name) b.rest h)

      by_part : (r : PartRow) → IsPart w r → IsPart c.mapping r ⊎ E (config.Part r)
      by_part (parts.Storage k d) h = there_back n o p (map.get c.mapping.groups) (map.get w.groups) b.at (HasPart d) (E (part_row k d)) k (m.parts k d) h
      by_part (parts.Host k j) h = inl (subst (λ gs. HasAt (map.get gs) (λ (g : HostGroupRows). set.contains g.hosts j ≡ true) k) b.rest h)

no_more : {P : Type 0} → P ⊎ ⊥ → P
no_more (inl p) = p
no_more (inr e) = absurd e

module _ (c : ConfigRows) (w : MappingRows) where
  -- ---- a host
  pub host_put : (n h : List ℕ) → PutsHost n h c.mapping w → IsPut NoRow (host_row n h) c (record c { mapping = w })
  host_put n h p =
      let g = p.was in
      let new : HostGroupRows = record g { hosts = set.insert g.hosts h } in
      let one = adds_one name_total name_exact g.hosts (set.insert g.hosts h) h refl in
      record {
        there = (new, p.is.at.now, (one h).1 (inr refl));
        kept = hosts_move_back c w n (Some g) (Some new) p.is (λ x. x ≡ host_row n h) (record {
          heads = λ r e k. inl (g, refl, record { tenant = (in_some (IsHostHead r) new k).tenant });
          hosts = λ k j e i. elim ((one j).0 (in_some (λ (x : HostGroupRows). set.contains x.hosts j ≡ true) new i)) [ inl o ↦ inl (g, refl, o) | inr f ↦ inr (λ t. host_row (e t) (f t)) ];
        });
        left = hosts_move c w n (Some g) (Some new) p.is NoRow (record {
          heads = λ r e k. inl (new, refl, record { tenant = (in_some (IsHostHead r) g k).tenant });
          hosts = λ k j e i. inl (new, refl, (one j).1 (inl (in_some (λ (x : HostGroupRows). set.contains x.hosts j ≡ true) g i)));
        });
      }

  pub host_taken : (n h : List ℕ) → TakesHost n h c.mapping w → IsTaken (host_row n h) c (record c { mapping = w })
  host_taken n h (inl p) =
      let g = p.0 in
      let new : HostGroupRows = record g { hosts = set.remove g.hosts h } in
      record {
        gone = λ k. item_gone name_total name_exact g.hosts h (here_some (map.get w.host_groups) n (λ (x : HostGroupRows). set.contains x.hosts h ≡ true) new p.1.at.now k);
        kept = λ x k. no_more (hosts_move_back c w n (Some g) (Some new) p.1 NoRow (record {
          heads = λ r e k. inl (g, refl, record { tenant = (in_some (IsHostHead r) new k).tenant });
          hosts = λ k j e i. inl (g, refl, item_kept name_total name_exact g.hosts h j (in_some (λ (x : HostGroupRows). set.contains x.hosts j ≡ true) new i));
        }) x k);
        left = hosts_move c w n (Some g) (Some new) p.1 (λ x. x ≡ host_row n h) (record {
          heads = λ r e k. inl (new, refl, record { tenant = (in_some (IsHostHead r) g k).tenant });
          hosts = λ k j e i. elim (item_left name_total name_exact g.hosts h j (in_some (λ (x : HostGroupRows). set.contains x.hosts j ≡ true) g i)) [ inl o ↦ inl (new, refl, o) | inr f ↦ inr (λ t. host_row (e t) (f t)) ];
        });
      }
  host_taken n h (inr p) = record {
    gone = here_none (map.get w.host_groups) n (λ (x : HostGroupRows). set.contains x.hosts h ≡ true) p.at.now;
    kept = λ x k. no_more (hosts_move_back c w n None None p NoRow (record { heads = λ r e i. absurd (in_none (IsHostHead r) i); hosts = λ k j e i. absurd (in_none (λ (x : HostGroupRows). set.contains x.hosts j ≡ true) i) }) x k);
    left = hosts_move c w n None None p (λ x. x ≡ host_row n h) (record { heads = λ r e i. absurd (in_none (IsHostHead r) i); hosts = λ k j e i. absurd (in_none (λ (x : HostGroupRows). set.contains x.hosts j ≡ true) i) });
  }

  -- ---- a part
  under : (r : StorageGroupRow) (g h : StorageGroupRows) → HaveSameHead g h → IsStorageHead r g → IsStorageHead r h
  under r g h s k = record { tenant = sym s.tenant ∙ k.tenant; array = sym s.array ∙ k.array; exposed = sym s.exposed ∙ k.exposed }

  turned : (g h : StorageGroupRows) → HaveSameHead g h → HaveSameHead h g
  turned g h s = record { tenant = sym s.tenant; array = sym s.array; exposed = sym s.exposed }

  pub part_put : (n : List ℕ) (d : StoragePart) → PutsIn n d c.mapping w → IsPut NoRow (part_row n d) c (record c { mapping = w })
  part_put n d p = record {
    there = (p.becomes, p.is.at.now, (p.puts.puts d).1 (inr refl));
    kept = storage_move_back c w n (Some p.was) (Some p.becomes) p.is (λ x. x ≡ part_row n d) (record {
      heads = λ r e k. inl (p.was, refl, under r p.becomes p.was (turned p.was p.becomes p.puts.head) (in_some (IsStorageHead r) p.becomes k));
      parts = λ k j e i. elim ((p.puts.puts j).0 (in_some (HasPart j) p.becomes i)) [ inl o ↦ inl (p.was, refl, o) | inr f ↦ inr (λ t. part_row (e t) (f t)) ];
    });
    left = storage_move c w n (Some p.was) (Some p.becomes) p.is NoRow (record {
      heads = λ r e k. inl (p.becomes, refl, under r p.was p.becomes p.puts.head (in_some (IsStorageHead r) p.was k));
      parts = λ k j e i. inl (p.becomes, refl, (p.puts.puts j).1 (inl (in_some (HasPart j) p.was i)));
    });
  }

  part_or : (n : List ℕ) (i j : StoragePart) → (i ≡ j) ⊎ ¬ (i ≡ j)
  part_or n i j = elim (row_or (part_row n i) (part_row n j)) [ inl e ↦ inl (one e) | inr apart ↦ inr (λ e. apart (ap (part_row n) e)) ]
    where
      one : part_row n i ≡ part_row n j → i ≡ j
      one e = cc

  pub part_taken : (n : List ℕ) (d : StoragePart) → TakesOf n d c.mapping w ⊎ StorageBecomes n None None c.mapping w → IsTaken (part_row n d) c (record c { mapping = w })
  part_taken n d (inl p) = record {
    gone = λ k. ((p.takes.takes d).0 (here_some (map.get w.groups) n (HasPart d) p.becomes p.is.at.now k)).1 refl;
    kept = λ x k. no_more (storage_move_back c w n (Some p.was) (Some p.becomes) p.is NoRow (record {
      heads = λ r e k. inl (p.was, refl, under r p.becomes p.was (turned p.was p.becomes p.takes.head) (in_some (IsStorageHead r) p.becomes k));
      parts = λ k j e i. inl (p.was, refl, ((p.takes.takes j).0 (in_some (HasPart j) p.becomes i)).0);
    }) x k);
    left = storage_move c w n (Some p.was) (Some p.becomes) p.is (λ x. x ≡ part_row n d) (record {
      heads = λ r e k. inl (p.becomes, refl, under r p.was p.becomes p.takes.head (in_some (IsStorageHead r) p.was k));
      parts = λ k j e i. elim (part_or n j d) [ inl f ↦ inr (λ t. part_row (e t) (f t)) | inr apart ↦ inl (p.becomes, refl, (p.takes.takes j).1 (in_some (HasPart j) p.was i, apart)) ];
    });
  }
  part_taken n d (inr p) = record {
    gone = here_none (map.get w.groups) n (HasPart d) p.at.now;
    kept = λ x k. no_more (storage_move_back c w n None None p NoRow (record { heads = λ r e i. absurd (in_none (IsStorageHead r) i); parts = λ k j e i. absurd (in_none (HasPart j) i) }) x k);
    left = storage_move c w n None None p (λ x. x ≡ part_row n d) (record { heads = λ r e i. absurd (in_none (IsStorageHead r) i); parts = λ k j e i. absurd (in_none (HasPart j) i) });
  }

  -- ---- heads
  module _ (Goes : ConfigRow → Type 0) where
    pub host_head_put : (r : HostGroupRow) (o : Option HostGroupRows) → HostsBecome r.name o (Some (hosts_headed r o)) c.mapping w → ((g : HostGroupRows) → o ≡ Some g → Goes (host_head r.name g.tenant)) → IsPut Goes (config.Group (group.Host r)) c (record c { mapping = w })
    host_head_put r None p goes =
        let new = hosts_headed r None in
        record {
          there = (new, p.at.now, record { tenant = refl });
          kept = hosts_move_back c w r.name None (Some new) p (λ x. x ≡ config.Group (group.Host r)) (record {
            heads = λ q e k. let h = in_some (IsHostHead q) new k in inr (λ t. config.Group (group.Host (record { name = e t; tenant = sym h.tenant t })));
            hosts = λ k j e i. absurd (true≢false (sym (in_some (λ (x : HostGroupRows). set.contains x.hosts j ≡ true) new i) ∙ set.contains-empty name_cmp j));
          });
          left = hosts_move c w r.name None (Some new) p Goes (record { heads = λ q e i. absurd (in_none (IsHostHead q) i); hosts = λ k j e i. absurd (in_none (λ (x : HostGroupRows). set.contains x.hosts j ≡ true) i) });
        }
    host_head_put r (Some g) p goes =
        let new = hosts_headed r (Some g) in
        record {
          there = (new, p.at.now, record { tenant = refl });
          kept = hosts_move_back c w r.name (Some g) (Some new) p (λ x. x ≡ config.Group (group.Host r)) (record {
            heads = λ q e k. let h = in_some (IsHostHead q) new k in inr (λ t. config.Group (group.Host (record { name = e t; tenant = sym h.tenant t })));
            hosts = λ k j e i. inl (g, refl, in_some (λ (x : HostGroupRows). set.contains x.hosts j ≡ true) new i);
          });
          left = hosts_move c w r.name (Some g) (Some new) p Goes (record {
            heads = λ q e k. let h = in_some (IsHostHead q) g k in inr (subst Goes (λ t. config.Group (group.Host (record { name = sym e t; tenant = h.tenant t }))) (goes g refl));
            hosts = λ k j e i. inl (new, refl, in_some (λ (x : HostGroupRows). set.contains x.hosts j ≡ true) g i);
          });
        }

    pub storage_head_put : (r : StorageGroupRow) (o : Option StorageGroupRows) → StorageBecomes r.name o (Some (storage_headed r o)) c.mapping w
        → ((g : StorageGroupRows) → o ≡ Some g → Goes (config.Group (group.Storage (record { name = r.name; tenant = g.tenant; array = g.array; exposed = g.exposed })))) → IsPut Goes (config.Group (group.Storage r)) c (record c { mapping = w })
    storage_head_put r None p goes =
        let new = storage_headed r None in
        record {
          there = (new, p.at.now, record { tenant = refl; array = refl; exposed = refl });
          kept = storage_move_back c w r.name None (Some new) p (λ x. x ≡ config.Group (group.Storage r)) (record {
            heads = λ q e k. let h = in_some (IsStorageHead q) new k in inr (λ t. config.Group (group.Storage (record { name = e t; tenant = sym h.tenant t; array = sym h.array t; exposed = sym h.exposed t })));
            parts = λ k j e i. absurd (no_part r j (in_some (HasPart j) new i));
          });
          left = storage_move c w r.name None (Some new) p Goes (record { heads = λ q e i. absurd (in_none (IsStorageHead q) i); parts = λ k j e i. absurd (in_none (HasPart j) i) });
        }
      where
        no_part : (r : StorageGroupRow) (j : StoragePart) → ¬ HasPart j (storage_headed r None)
        no_part r (part.HostGroup k) h = true≢false (sym h ∙ set.contains-empty name_cmp k)
        no_part r (part.Target q) h = true≢false (sym h ∙ set.contains-empty nat_cmp q)
        no_part r (part.Unit u v) h = let e : ◌≡◌ {A = Option (List ℕ)} None (Some v) = sym (map.get-empty nat_cmp u) ∙ h in absurd cc
    storage_head_put r (Some g) p goes =
        let new = storage_headed r (Some g) in
        record {
          there = (new, p.at.now, record { tenant = refl; array = refl; exposed = refl });
          kept = storage_move_back c w r.name (Some g) (Some new) p (λ x. x ≡ config.Group (group.Storage r)) (record {
            heads = λ q e k. let h = in_some (IsStorageHead q) new k in inr (λ t. config.Group (group.Storage (record { name = e t; tenant = sym h.tenant t; array = sym h.array t; exposed = sym h.exposed t })));
            parts = λ k j e i. inl (g, refl, unheaded j (in_some (HasPart j) new i));
          });
          left = storage_move c w r.name (Some g) (Some new) p Goes (record {
            heads = λ q e k. let h = in_some (IsStorageHead q) g k in inr (subst Goes (λ t. config.Group (group.Storage (record { name = sym e t; tenant = h.tenant t; array = h.array t; exposed = h.exposed t }))) (goes g refl));
            parts = λ k j e i. inl (new, refl, headed j (in_some (HasPart j) g i));
          });
        }
      where
        headed : (j : StoragePart) → HasPart j g → HasPart j (storage_headed r (Some g))
        headed (part.HostGroup k) h = h
        headed (part.Target q) h = h
        headed (part.Unit u v) h = h

        unheaded : (j : StoragePart) → HasPart j (storage_headed r (Some g)) → HasPart j g
        unheaded (part.HostGroup k) h = h
        unheaded (part.Target q) h = h
        unheaded (part.Unit u v) h = h

  -- ---- a group with no part goes
  pub hosts_dropped : (r : HostGroupRow) (g : HostGroupRows) → HostsBecome r.name (Some g) None c.mapping w → IsHostHead r g → ((h : List ℕ) → set.contains g.hosts h ≡ false) → IsTaken (config.Group (group.Host r)) c (record c { mapping = w })
  hosts_dropped r g p head bare = record {
    gone = here_none (map.get w.host_groups) r.name (IsHostHead r) p.at.now;
    kept = λ x k. no_more (hosts_move_back c w r.name (Some g) None p NoRow (record { heads = λ q e i. absurd (in_none (IsHostHead q) i); hosts = λ k j e i. absurd (in_none (λ (x : HostGroupRows). set.contains x.hosts j ≡ true) i) }) x k);
    left = hosts_move c w r.name (Some g) None p (λ x. x ≡ config.Group (group.Host r)) (record {
      heads = λ q e k. let h = in_some (IsHostHead q) g k in inr (λ t. config.Group (group.Host (record { name = e t; tenant = (sym h.tenant ∙ head.tenant) t })));
      hosts = λ k j e i. absurd (true≢false (sym (in_some (λ (x : HostGroupRows). set.contains x.hosts j ≡ true) g i) ∙ bare j));
    });
  }

  pub storage_dropped : (r : StorageGroupRow) (g : StorageGroupRows) → StorageBecomes r.name (Some g) None c.mapping w → IsStorageHead r g → ((j : StoragePart) → ¬ HasPart j g) → IsTaken (config.Group (group.Storage r)) c (record c { mapping = w })
  storage_dropped r g p head bare = record {
    gone = here_none (map.get w.groups) r.name (IsStorageHead r) p.at.now;
    kept = λ x k. no_more (storage_move_back c w r.name (Some g) None p NoRow (record { heads = λ q e i. absurd (in_none (IsStorageHead q) i); parts = λ k j e i. absurd (in_none (HasPart j) i) }) x k);
    left = storage_move c w r.name (Some g) None p (λ x. x ≡ config.Group (group.Storage r)) (record {
      heads = λ q e k. let h = in_some (IsStorageHead q) g k in inr (λ t. config.Group (group.Storage (record { name = e t; tenant = (sym h.tenant ∙ head.tenant) t; array = (sym h.array ∙ head.array) t; exposed = (sym h.exposed ∙ head.exposed) t })));
      parts = λ k j e i. absurd (bare j (in_some (HasPart j) g i));
    });
  }
