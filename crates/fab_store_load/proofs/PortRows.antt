-- Ports by the rows of two tables: theirs, and those of their addresses.
use Rattle.std.proofs.Common.{ℕ, ◌≡◌, List, Option, None, Some, is_some, true, refl, sym, ap, ◌∙◌, subst}
use Rattle.std.specs.BTreeMap as tree
use Rattle.std.specs.BTreeMap.{BTreeMap}
use Rattle.std.specs.FinMap as map
use Rattle.std.specs.Option.{option_map, option_and_then}
use Rattle.std.specs.Ordering.{nat_cmp}
use Rattle.fab_names.specs.Places.{Position}
use Rattle.fab_names.specs.declared.fabric.Fabric.{Fabric}
use Rattle.fab_reach_base.specs.fab_inventory.declared.port.Known.{Known}
use Rattle.fab_reach_base.specs.fab_inventory.declared.port.Seat.{Seat}
use Rattle.fab_reach_base.specs.fab_inventory.Ports.{KnownPorts}
use Rattle.fab_reach_base.specs.fab_inventory.Restores.{AreAddressesSound, AreSeated, seated}
use Rattle.fab_store_rows.specs.declared.inventory_row.PortEntry.{PortEntry}
use Rattle.fab_store_rows.specs.declared.inventory_row.AddressRow.{AddressRow}
use Rattle.fab_store_rows.specs.Standing.{entry_of, entry_at, address_at}
use Rattle.fab_store_load.specs.Inventories.{AreAll}
use Rattle.fab_store_load.specs.Kinds.{port_row, address_row}
use Rattle.fab_store_load.specs.Rows.{AreRows, StandsIn}
use Rattle.fab_store_load.proofs.Saying.{one_look_up}

-- the seat of a port that is known so, and that of a row
abbrev pub seat_of : Known → Seat
seat_of k = record { node = k.node; at = k.at; holder = k.holder }

abbrev pub seat_in : PortEntry → Seat
seat_in r = record { node = r.node; at = r.at; holder = r.holder }

abbrev pub address_of : Option Known → Option ℕ
address_of o = option_and_then (λ (k : Known). k.address) o

-- ---- rows that are all those of ports, as entries, and back
entry_is : (q : ℕ) (s : Seat) (o : Option Known) → option_map (entry_of q) o ≡ Some (port_row (q, s)) → option_map seat_of o ≡ Some s
entry_is q s None e = absurd cc
entry_is q s (Some k) e = let same : entry_of q k ≡ port_row (q, s) = cc in ap (λ r. Some (seat_in r)) same

entry_from : (q : ℕ) (s : Seat) (o : Option Known) → option_map seat_of o ≡ Some s → option_map (entry_of q) o ≡ Some (port_row (q, s))
entry_from q s None e = absurd cc
entry_from q s (Some k) e = let same : seat_of k ≡ s = cc in ap (λ x. Some (port_row (q, x))) same

module _ (ports : KnownPorts) where
  abbrev pub seats : ℕ → Option Seat
  seats q = option_map seat_of (map.get ports q)

  pub seats_say : (rows : List PortEntry) → AreAll rows (λ r. entry_at ports r.name ≡ Some r) → AreRows port_row rows (StandsIn seats)
  seats_say rows all = record {
    sound = λ e there. entry_is e.0 e.1 (map.get ports e.0) ((all (port_row e)).0 there);
    complete = λ e is. (all (port_row e)).1 (entry_from e.0 e.1 (map.get ports e.0) is);
  }

  seats_are_all : (rows : List PortEntry) → AreRows port_row rows (StandsIn seats) → AreAll rows (λ r. entry_at ports r.name ≡ Some r)
  seats_are_all rows h r = (
    λ there. entry_from r.name (seat_in r) (map.get ports r.name) (h.sound (r.name, seat_in r) there),
    λ is. h.complete (r.name, seat_in r) (entry_is r.name (seat_in r) (map.get ports r.name) is),
  )

  pub addresses_say : (rows : List AddressRow) → AreAll rows (λ r. address_at ports r.port ≡ Some r.address) → AreRows address_row rows (StandsIn (address_at ports))
  addresses_say rows all = record { sound = λ e. (all (address_row e)).0; complete = λ e. (all (address_row e)).1 }

  addresses_are_all : (rows : List AddressRow) → AreRows address_row rows (StandsIn (address_at ports)) → AreAll rows (λ r. address_at ports r.port ≡ Some r.address)
  addresses_are_all rows h r = (h.sound (r.port, r.address), h.complete (r.port, r.address))

-- ---- ports in seats, with addresses

-- they have these seats, and these addresses where each is of a seat
seat_back : (o : Option Seat) (x : Option ℕ) → option_map seat_of (seated o x) ≡ o
seat_back None x = refl
seat_back (Some s) x = refl

address_back : (o : Option Seat) (x : Option ℕ) → ((n : ℕ) → x ≡ Some n → (s : Seat) × (o ≡ Some s) × (is_some s.at ≡ true)) → address_of (seated o x) ≡ x
address_back (Some s) x placed = refl
address_back None None placed = refl
address_back None (Some n) placed = let seat = placed n refl in let no : ◌≡◌ {A = Option Seat} None (Some seat.0) = seat.1 in absurd cc

-- and are the ports that have them
whole : (o : Option Known) (t : Option Seat) (x : Option ℕ) → option_map seat_of o ≡ t → address_of o ≡ x → o ≡ seated t x
whole None t x e f = λ i. seated (e i) (f i)
whole (Some k) t x e f = λ i. seated (e i) (f i)

logged_in : (o : Option (Fabric × Position)) → ¬ (o ≡ None) → is_some o ≡ true
logged_in None h = absurd (h refl)
logged_in (Some p) h = refl

module _ (rows : List PortEntry) (addresses : List AddressRow) (s : BTreeMap ℕ Seat) (a : BTreeMap ℕ ℕ) (seats_are : AreRows port_row rows (StandsIn (tree.get nat_cmp s))) (addresses_are : AreRows address_row addresses (StandsIn (tree.get nat_cmp a))) where
  -- the rows are those of the ports that were restored
  module _ (v : KnownPorts) (made : (q : ℕ) → map.get v q ≡ seated (tree.get nat_cmp s q) (tree.get nat_cmp a q)) where
    pub entries_of_made : AreAll rows (λ r. entry_at v r.name ≡ Some r)
    entries_of_made = seats_are_all v rows (subst (λ f. AreRows port_row rows (StandsIn f)) (λ i q. sym (ap (option_map seat_of) (made q) ∙ seat_back (tree.get nat_cmp s q) (tree.get nat_cmp a q)) i) seats_are)

    pub addresses_of_made : AreSeated (tree.get nat_cmp s) (tree.get nat_cmp a) → AreAll addresses (λ r. address_at v r.port ≡ Some r.address)
    addresses_of_made placed = addresses_are_all v addresses
        (subst (λ f. AreRows address_row addresses (StandsIn f)) (λ i q. sym (ap address_of (made q) ∙ address_back (tree.get nat_cmp s q) (tree.get nat_cmp a q) (placed q)) i) addresses_are)

  -- ports with these rows are those
  module _ (m : KnownPorts) (entries_all : AreAll rows (λ r. entry_at m r.name ≡ Some r)) (addresses_all : AreAll addresses (λ r. address_at m r.port ≡ Some r.address)) where
    seat_at : (q : ℕ) → option_map seat_of (map.get m q) ≡ tree.get nat_cmp s q
    seat_at = one_look_up port_row rows (seats m) (tree.get nat_cmp s) (seats_say m rows entries_all) seats_are

    has_address : (q : ℕ) → address_at m q ≡ tree.get nat_cmp a q
    has_address = one_look_up address_row addresses (address_at m) (tree.get nat_cmp a) (addresses_say m addresses addresses_all) addresses_are

    pub only_seated : (q : ℕ) → map.get m q ≡ seated (tree.get nat_cmp s q) (tree.get nat_cmp a q)
    only_seated q = whole (map.get m q) (tree.get nat_cmp s q) (tree.get nat_cmp a q) (seat_at q) (has_address q)

    -- and each address is of one that is logged in, where that is so
    pub are_seated : AreAddressesSound m → AreSeated (tree.get nat_cmp s) (tree.get nat_cmp a)
    are_seated sound q n is = by (map.get m q) refl (seat_at q) (has_address q ∙ is)
      where
        by : (o : Option Known) → map.get m q ≡ o → option_map seat_of o ≡ tree.get nat_cmp s q → address_of o ≡ Some n → (x : Seat) × (tree.get nat_cmp s q ≡ Some x) × (is_some x.at ≡ true)
        by None at e f = absurd cc
        by (Some k) at e f = (seat_of k, sym e, logged_in k.at (λ none. let no : ◌≡◌ {A = Option ℕ} None (Some n) = sym (sound q k at none) ∙ f in absurd cc))
