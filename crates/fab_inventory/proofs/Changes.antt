-- What the steps of a change of the code's maps make of an inventory.
use Rattle.std.proofs.Common.{ℕ, ◌≡◌, ◌≤◌, List, [], length, Option, None, Some, Result, Ok, Err, cond, refl, sym, ap, ◌∙◌, subst}
use Rattle.std.specs.Cmp.{nat_cmp_total}
use Rattle.std.specs.Option.{option_map}
use Rattle.std.specs.Result.{OnErr}
use Rattle.std.specs.Ordering.{nat_cmp}
use Rattle.std.specs.BTreeMap as tree
use Rattle.std.specs.BTreeMap.{BTreeMap, is_at}
use Rattle.std.specs.FinMap as map
use Rattle.fab_names.specs.Orders.{name_cmp}
use Rattle.fab_names.proofs.OrderLaws.{name_total, name_exact}
use Rattle.fab_inventory.specs.declared.port.Known.{Known}
use Rattle.fab_inventory.specs.declared.holder.Holder.{Holder}
use Rattle.fab_inventory.specs.declared.holder.HolderKind.{HolderKind}
use Rattle.fab_inventory.specs.declared.holder.Volume.{Volume}
use Rattle.fab_inventory.specs.Holders.{held_after, AreKnown, AreFree, IsPortFault, HasNoVolume}
use Rattle.fab_inventory.specs.declared.fault.InventoryFault.{InventoryFault}
use Rattle.fab_inventory.specs.declared.fault.InventoryFault.TheVariants.{UnknownPort, PortHeld}
use Rattle.fab_inventory.specs.Inventories.{InventoryRows, IsSound, HasNoOtherKind, PutHolderFails, CanPutHolder, IsHolderPut, IsHolderDropped, CanPutVolume}
use Rattle.fab_lemmas.proofs.SeenMaps.{same_look_ups, get_entries, seen_insert, seen_remove}
use Rattle.fab_inventory.proofs.Soundness.{sound_put_holder, sound_drop_holder, sound_put_volume, sound_drop_volume, trans≤}

-- the code's maps, as contracts see them
abbrev pub seen : BTreeMap ℕ Known → BTreeMap (List ℕ) Holder → BTreeMap (List ℕ) Volume → InventoryRows
seen ports holders volumes = record { ports = map.from_entries ports.entries; holders = map.from_entries holders.entries; volumes = map.from_entries volumes.entries }

-- equal entries make equal inventories
pub seen_same : (ports : BTreeMap ℕ Known) (holders : BTreeMap (List ℕ) Holder) (volumes : BTreeMap (List ℕ) Volume) (ports2 : BTreeMap ℕ Known) (holders2 : BTreeMap (List ℕ) Holder) (volumes2 : BTreeMap (List ℕ) Volume)
    → ports2.entries ≡ ports.entries → holders2.entries ≡ holders.entries → volumes2.entries ≡ volumes.entries → seen ports2 holders2 volumes2 ≡ seen ports holders volumes
seen_same ports holders volumes ports2 holders2 volumes2 p h v = λ i. record { ports = map.from_entries (p i); holders = map.from_entries (h i); volumes = map.from_entries (v i) }

-- what holds, holds where a call fails
pub on_err : {T E P : Type 0} (r : Result T E) → P → OnErr r P
on_err (Ok x) p = tt
on_err (Err e) p = p

-- what the code finds of the kind of a holder
abbrev pub tree_kind : BTreeMap (List ℕ) Holder → List ℕ → Option HolderKind
tree_kind holders name = option_map (λ (h : Holder). h.kind) (tree.get name_cmp holders name)

module _ (ports : BTreeMap ℕ Known) (holders : BTreeMap (List ℕ) Holder) (volumes : BTreeMap (List ℕ) Volume) where
  abbrev old : InventoryRows
  old = seen ports holders volumes

  pub port_look_ups : tree.get nat_cmp ports ≡ map.get old.ports
  port_look_ups = same_look_ups nat_cmp_total ports old.ports refl

  pub holder_look_ups : tree.get name_cmp holders ≡ map.get old.holders
  holder_look_ups = same_look_ups name_total holders old.holders refl

  pub volume_look_ups : tree.get name_cmp volumes ≡ map.get old.volumes
  volume_look_ups = same_look_ups name_total volumes old.volumes refl

  -- what is found of a name is what callers see
  pub kind_seen : (P : Option HolderKind → Type 0) (name : List ℕ) → P (tree_kind holders name) → P (option_map (λ (h : Holder). h.kind) (map.get old.holders name))
  kind_seen P name h = subst (λ (f : List ℕ → Option Holder). P (option_map (λ (h : Holder). h.kind) (f name))) holder_look_ups h

  pub known_seen : (listed : List ℕ) → AreKnown (tree.get nat_cmp ports) listed → AreKnown (map.get old.ports) listed
  known_seen listed h = subst (λ f. AreKnown f listed) port_look_ups h

  pub free_seen : (name listed : List ℕ) → AreFree (tree.get nat_cmp ports) name listed → AreFree (map.get old.ports) name listed
  free_seen name listed h = subst (λ f. AreFree f name listed) port_look_ups h

  -- the change that a put makes, and that it leaves the inventory sound
  pub put_made : (name : List ℕ) (holder : Holder) (listed : List ℕ) (next_ports : BTreeMap ℕ Known) (next_holders : BTreeMap (List ℕ) Holder) → IsSound old → CanPutHolder old name holder.kind listed
      → ((q : List ℕ) → tree.get name_cmp next_holders q ≡ cond (is_at (name_cmp name) q) (Some holder) (tree.get name_cmp holders q))
      → ((q : ℕ) → tree.get nat_cmp next_ports q ≡ option_map (held_after name listed q) (tree.get nat_cmp ports q)) → map.len (map.from_entries {R = nat_cmp} next_ports.entries) ≤ map.len old.ports
      → IsHolderPut name holder listed old (seen next_ports next_holders volumes) × IsSound (seen next_ports next_holders volumes)
  put_made name holder listed next_ports next_holders sound can updates handed few =
      let put : IsHolderPut name holder listed old (seen next_ports next_holders volumes) = record {
        holders = seen_insert name_total name_exact holders next_holders name holder updates;
        ports = λ q. get_entries nat_cmp_total next_ports.entries q ∙ handed q ∙ ap (option_map (held_after name listed q)) (sym (get_entries nat_cmp_total ports.entries q));
        volumes = refl;
      } in (put, sound_put_holder name holder listed old (seen next_ports next_holders volumes) sound can put (trans≤ few sound.few_ports))

  -- the change that a drop makes, and that it leaves the inventory sound
  pub drop_made : (name : List ℕ) (next_ports : BTreeMap ℕ Known) (next_holders : BTreeMap (List ℕ) Holder) → IsSound old → HasNoVolume (tree.get name_cmp volumes) name
      → ((q : List ℕ) → tree.get name_cmp next_holders q ≡ cond (is_at (name_cmp name) q) None (tree.get name_cmp holders q))
      → ((q : ℕ) → tree.get nat_cmp next_ports q ≡ option_map (held_after name [] q) (tree.get nat_cmp ports q)) → map.len (map.from_entries {R = nat_cmp} next_ports.entries) ≤ map.len old.ports
      → IsHolderDropped name old (seen next_ports next_holders volumes) × IsSound (seen next_ports next_holders volumes)
  drop_made name next_ports next_holders sound unused updates handed few =
      let dropped : IsHolderDropped name old (seen next_ports next_holders volumes) = record {
        holders = seen_remove name_total name_exact holders next_holders name updates;
        ports = λ q. get_entries nat_cmp_total next_ports.entries q ∙ handed q ∙ ap (option_map (held_after name [] q)) (sym (get_entries nat_cmp_total ports.entries q));
        volumes = refl;
      } in (dropped, sound_drop_holder name old (seen next_ports next_holders volumes) sound (subst (λ f. HasNoVolume f name) volume_look_ups unused) dropped (trans≤ few sound.few_ports))

  -- a volume that is put, and one that is dropped
  pub volume_put_made : (name : List ℕ) (v : Volume) (next : BTreeMap (List ℕ) Volume) → IsSound old → CanPutVolume old name v.array v.bytes
      → ((q : List ℕ) → tree.get name_cmp next q ≡ cond (is_at (name_cmp name) q) (Some v) (tree.get name_cmp volumes q))
      → ((seen ports holders next) ≡ record old { volumes = map.insert old.volumes name v }) × IsSound (seen ports holders next)
  volume_put_made name v next sound can updates =
      let e : (seen ports holders next) ≡ record old { volumes = map.insert old.volumes name v } = λ i. record old { volumes = seen_insert name_total name_exact volumes next name v updates i } in
      (e, subst IsSound (sym e) (sound_put_volume name v old sound can))

  pub volume_drop_made : (name : List ℕ) (next : BTreeMap (List ℕ) Volume) → IsSound old
      → ((q : List ℕ) → tree.get name_cmp next q ≡ cond (is_at (name_cmp name) q) None (tree.get name_cmp volumes q))
      → ((seen ports holders next) ≡ record old { volumes = map.remove old.volumes name }) × IsSound (seen ports holders next)
  volume_drop_made name next sound updates =
      let e : (seen ports holders next) ≡ record old { volumes = map.remove old.volumes name } = λ i. record old { volumes = seen_remove name_total name_exact volumes next name updates i } in
      (e, subst IsSound (sym e) (sound_drop_volume name old sound))

-- what refuses the ports refuses the put
pub port_fails : (v : InventoryRows) (name : List ℕ) (k : HolderKind) (listed : List ℕ) (fault : InventoryFault) → length listed ≤ 64 → HasNoOtherKind v.holders name k → IsPortFault (map.get v.ports) name listed fault → PutHolderFails v name k listed fault
port_fails v name k listed (UnknownPort q) few kind h = (few, kind, h)
port_fails v name k listed (PortHeld q x) few kind h = (few, kind, h)
port_fails v name k listed _ few kind h = absurd h
