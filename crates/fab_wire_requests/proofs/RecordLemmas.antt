-- A text has one list of records, and a port list one reading.
use Rattle.std.proofs.Common.{◌≡◌, ◌⊎◌, ℕ, suc, ◌<◌, List, [], ◌∷◌, ◌++◌, length, Option, Some, None, refl, sym, ap, ◌∙◌, subst, arith, inl, inr, Bool, true, false}
use Rattle.csv.specs.Machine.{Read, next_record}
use Rattle.csv.specs.Reading.{default_config, strip_bom, AreRecords, Reached}
use Rattle.csv.specs.declared.parser.Config.{Config}
use Rattle.csv.specs.declared.parser.State.{State}
use Rattle.csv.specs.declared.parser.State.TheVariants as state
use Rattle.fab_names.specs.WorldWideNames.{SpellsWwn}
use Rattle.fab_names.specs.Places.{SpellsPosition}
use Rattle.fab_names.specs.Addresses.{SpellsAddress}
use Rattle.fab_names.proofs.Unique.{one_wwn, one_place, one_address}
use Rattle.fab_inventory.specs.declared.port.PortRow.{PortRow}
use Rattle.fab_wire_requests.specs.PortLists.{Record, header_of, IsAddressPart, SpellsAddressOrNone, SpellsRow, SpellRows, AreAllRecords, ListsPorts}

-- one read gives one record, state and rest
one_read : (o : Option Read) (p q : Read) → o ≡ Some p → o ≡ Some q → p ≡ q
one_read o p q h k = cc

-- all the records begin with the first ones
pub all-front : (cfg : Config) (s : State) (xs : List ℕ) (all front : List Record) (s2 : State) (ys : List ℕ)
    → AreRecords cfg s xs all → Reached cfg s xs front s2 ys → (more : List Record) × (all ≡ front ++ more)
unfolding Reached
all-front cfg s xs all [] s2 ys a f = (all, refl)
all-front cfg s xs [] (r ∷ front) s2 ys (e, es, (h, k), none) (p, n, same, rest) =
    absurd (let again : next_record cfg s [] [] xs ≡ None = rw (h, k) none in cc)
all-front cfg s xs (a ∷ all) (r ∷ front) s2 ys (e, es, (q, m, is, tail), none) (p, n, same, rest) =
    let pq : p ≡ q = one_read (next_record cfg s [] [] xs) p q n m in
    let moved : Reached cfg q.1 q.2 front s2 ys = subst (λ (t : Read). Reached cfg t.1 t.2 front s2 ys) pq rest in
    let more = all-front cfg q.1 q.2 all front s2 ys (e, es, tail, none) moved in
    (more.0, (let ra : r ≡ a = same ∙ ap (λ (t : Read). t.0) pq ∙ sym is in cc (ra, more.1)))

-- of two lists of first records one begins the other
pub two-fronts : (cfg : Config) (s : State) (xs : List ℕ) (f g : List Record) (s2 : State) (ys : List ℕ) (s3 : State) (zs : List ℕ)
    → Reached cfg s xs f s2 ys → Reached cfg s xs g s3 zs → ((more : List Record) × (g ≡ f ++ more)) ⊎ ((more : List Record) × (f ≡ g ++ more))
unfolding Reached
two-fronts cfg s xs [] g s2 ys s3 zs a b = inl (g, refl)
two-fronts cfg s xs (x ∷ f) [] s2 ys s3 zs a b = inr (x ∷ f, refl)
two-fronts cfg s xs (x ∷ f) (y ∷ g) s2 ys s3 zs (p, n, same, rest) (q, m, is, tail) =
    let pq : p ≡ q = one_read (next_record cfg s [] [] xs) p q n m in
    let xy : x ≡ y = same ∙ ap (λ (t : Read). t.0) pq ∙ sym is in
    let moved : Reached cfg q.1 q.2 f s2 ys = subst (λ (t : Read). Reached cfg t.1 t.2 f s2 ys) pq rest in
    elim (two-fronts cfg q.1 q.2 f g s2 ys s3 zs moved tail) [
      | inl h ↦ inl (h.0, cc (xy, h.1))
      | inr h ↦ inr (h.0, cc (xy, h.1))
    ]

-- a text has one list of records
pub one-list : (text : List ℕ) (a b : List Record) → AreAllRecords text a → AreAllRecords text b → a ≡ b
one-list text a b h k =
    let ab = all-front default_config state.StartRecord (strip_bom text) a b k.0 k.1 h k.2 in
    let ba = all-front default_config state.StartRecord (strip_bom text) b a h.0 h.1 k h.2 in
    both_fronts a b ab.0 ba.0 ab.1 ba.1
  where
    both_fronts : (a b m n : List Record) → a ≡ b ++ m → b ≡ a ++ n → a ≡ b
    both_fronts [] [] m n e f = refl
    both_fronts [] (y ∷ b) m n e f = cc
    both_fronts (x ∷ a) [] m n e f = cc
    both_fronts (x ∷ a) (y ∷ b) m n e f =
        let xy : x ≡ y = cc in
        let e2 : a ≡ b ++ m = cc in
        let f2 : b ≡ a ++ n = cc in
        cc (xy, both_fronts a b m n e2 f2)

-- no address is spelled by nothing
empty-none : (n : ℕ) → ¬ (SpellsAddress [] n)
empty-none n s = by s.0.form
  where
    by : ([] ≡ s.0.digits) ⊎ ([] ≡ 48 ∷ 120 ∷ s.0.digits) → ⊥
    by (inl e) = omega (arith, s.0.six, ap length e)
    by (inr e) = omega (arith, ap length e)

one_address_or_none : (field : List ℕ) (a b : Option ℕ) → SpellsAddressOrNone field a → SpellsAddressOrNone field b → a ≡ b
one_address_or_none field None None h k = refl
one_address_or_none field None (Some m) h k = absurd (empty-none m (subst (λ (t : List ℕ). SpellsAddress t m) h k))
one_address_or_none field (Some n) None h k = absurd (empty-none n (subst (λ (t : List ℕ). SpellsAddress t n) k h))
one_address_or_none field (Some n) (Some m) h k = ap Some (one_address field n m h k)

one_part : (addressed : Bool) (others : Record) (a b : Option ℕ) → IsAddressPart addressed others a → IsAddressPart addressed others b → a ≡ b
one_part false others a b h k = h.1 ∙ sym k.1
one_part true others a b h k =
    let e : h.0 ∷ [] ≡ k.0 ∷ [] = sym h.1 ∙ k.1 in
    let same : h.0 ≡ k.0 = cc e in
    one_address_or_none k.0 a b (subst (λ (t : List ℕ). SpellsAddressOrNone t a) same h.2) k.2

one_row : (addressed : Bool) (fields : Record) (r s : PortRow) → SpellsRow addressed fields r → SpellsRow addressed fields s → r ≡ s
one_row addressed fields r s h k =
    let e : h.name ∷ h.node ∷ h.domain ∷ h.slot ∷ h.others ≡ k.name ∷ k.node ∷ k.domain ∷ k.slot ∷ k.others = sym h.all ∙ k.all in
    let e1 : h.name ≡ k.name = cc e in
    let e2 : h.node ≡ k.node = cc e in
    let e3 : h.domain ≡ k.domain = cc e in
    let e4 : h.slot ≡ k.slot = cc e in
    let e5 : h.others ≡ k.others = cc e in
    let name : r.name ≡ s.name = one_wwn k.name r.name s.name (subst (λ (t : List ℕ). SpellsWwn t r.name) e1 h.port_name) k.port_name in
    let node : r.node ≡ s.node = one_wwn k.node r.node s.node (subst (λ (t : List ℕ). SpellsWwn t r.node) e2 h.node_name) k.node_name in
    let place : r.place ≡ s.place =
    let position : SpellsPosition k.domain k.slot r.place = subst (λ (t : List ℕ). SpellsPosition t k.slot r.place) e3 (subst (λ (t : List ℕ). SpellsPosition h.domain t r.place) e4 h.position) in
    one_place (k.domain ++ 44 ∷ k.slot) r.place s.place (k.domain, k.slot, refl, position) (k.domain, k.slot, refl, k.position) in
    let address : r.address ≡ s.address = one_part addressed k.others r.address s.address (subst (λ (t : Record). IsAddressPart addressed t r.address) e5 h.address) k.address in
    λ i. record { name = name i; node = node i; place = place i; address = address i }

one_rows : (addressed : Bool) (records : List Record) (rows others : List PortRow) → SpellRows addressed records rows → SpellRows addressed records others → rows ≡ others
one_rows addressed [] [] [] h k = refl
one_rows addressed [] [] (y ∷ others) h k = absurd k
one_rows addressed [] (x ∷ rows) others h k = absurd h
one_rows addressed (r ∷ records) [] others h k = absurd h
one_rows addressed (r ∷ records) (x ∷ rows) [] h k = absurd k
one_rows addressed (r ∷ records) (x ∷ rows) (y ∷ others) h k = cc (one_row addressed r x y h.0 k.0, one_rows addressed records rows others h.1 k.1)

pub rows-long : (addressed : Bool) (records : List Record) (rows : List PortRow) → SpellRows addressed records rows → length records ≡ length rows
rows-long addressed [] [] h = refl
rows-long addressed [] (x ∷ rows) h = absurd h
rows-long addressed (r ∷ records) [] h = absurd h
rows-long addressed (r ∷ records) (x ∷ rows) h = ap suc (rows-long addressed records rows h.1)

-- each record of rows spells one
pub row-inside : (addressed : Bool) (records : List Record) (bad : Record) (more : List Record) (rows : List PortRow)
    → SpellRows addressed (records ++ bad ∷ more) rows → (row : PortRow) × SpellsRow addressed bad row
row-inside addressed [] bad more [] h = absurd h
row-inside addressed [] bad more (x ∷ rows) h = (x, h.0)
row-inside addressed (r ∷ records) bad more [] h = absurd h
row-inside addressed (r ∷ records) bad more (x ∷ rows) h = row-inside addressed records bad more rows h.1

-- the headers with a column of addresses and without it differ
one_header : (a b : Bool) → header_of a ≡ header_of b → a ≡ b
one_header false false e = refl
one_header false true e = absurd (omega (arith, ap length e))
one_header true false e = absurd (omega (arith, ap length e))
one_header true true e = refl

-- records behind one header, that also stand behind another, spell the same rows under it
pub rows-under : (a b : Bool) (records others : List Record) (rows : List PortRow) → header_of a ∷ records ≡ header_of b ∷ others → SpellRows a records rows → SpellRows b others rows
rows-under a b records others rows e spelled =
    let first : header_of a ≡ header_of b = cc e in
    let rest : records ≡ others = cc e in
    subst (λ (t : List Record). SpellRows b t rows) rest (subst (λ (x : Bool). SpellRows x records rows) (one_header a b first) spelled)

-- of two lists that end in a record, one begins the other: they are as long, or the shorter one's last stands inside the longer one
pub last-inside : (a b more : List Record) (x y : Record) → b ++ y ∷ [] ≡ a ++ x ∷ more → (length a ≡ length b) ⊎ ((z : List Record) × (b ≡ a ++ x ∷ z))
last-inside [] [] more x y e = inl refl
last-inside [] (v ∷ b) more x y e = inr (b, (let f : v ≡ x = cc in cc f))
last-inside (u ∷ a) [] more x y e =
    let f : a ++ x ∷ more ≡ [] = cc in
    absurd (omega (arith, let g : length (a ++ x ∷ more) ≡ 0 = ap length f in g, long a x more))
  where
    long : (a : List Record) (x : Record) (more : List Record) → 0 < length (a ++ x ∷ more)
    long [] x more = omega arith
    long (u ∷ a) x more = omega arith
last-inside (u ∷ a) (v ∷ b) more x y e =
    let f : b ++ y ∷ [] ≡ a ++ x ∷ more = cc in
    let g : v ≡ u = cc in
    elim (last-inside a b more x y f) [
      | inl h ↦ inl (ap suc h)
      | inr h ↦ inr (h.0, cc (g, h.1))
    ]

-- a port list lists one list of rows
pub one_listing : (text : List ℕ) (rows others : List PortRow) → ListsPorts text rows → ListsPorts text others → rows ≡ others
one_listing text rows others (a, records, all, spelled) (b, more, whole, told) =
    let same : header_of a ∷ records ≡ header_of b ∷ more = one-list text (header_of a ∷ records) (header_of b ∷ more) all whole in
    one_rows b more rows others (rows-under a b records more rows same spelled) told
