-- The fields of a record, and one record more of a port list.
use Rattle.std.proofs.Common.{◌≡◌, ◌≢◌, ℕ, zero, suc, ◌+◌, ◌<◌, ◌≤◌, List, [], ◌∷◌, ◌++◌, length, drop, Option, Some, None, option_map, MatchOption, Bor, refl, sym, ap, ◌∙◌, subst, arith, inl, inr, true, false, Bool}
use Rattle.csv.specs.Records.{field_at}
use Rattle.fab_names.specs.WorldWideNames.{SpellsWwn}
use Rattle.fab_names.specs.Places.{SpellsPosition}
use Rattle.fab_names.specs.Addresses.{SpellsAddress}
use Rattle.fab_inventory.specs.declared.port.PortRow.{PortRow}
use Rattle.fab_wire_requests.specs.PortLists.{Record, address_column, four_columns, header_of, IsNoHeader, IsAddressPart, SpellsAddressOrNone, SpellsRow, SpellRows, AreAllRecords, BeginsWith, ListsPorts, IsFaultAt}
use Rattle.fab_wire_requests.specs.RecordFields.{others_of, HasFourOrFive}

-- a record has the fields below its length
pub field-there : (fs : Record) (i : ℕ) → i < length fs → None ≡ field_at fs i → ⊥
unfolding field_at
field-there [] i h e = omega arith
field-there (f ∷ fs) zero h e = cc
field-there (f ∷ fs) (suc i) h e = field-there fs i (omega arith) e

-- four fields and a fifth, if there is one, taken one by one
taken : (fs : Record) (a b c d : List ℕ) (o : Option (Bor (List ℕ))) → 4 ≤ length fs → length fs ≤ 5 → Some a ≡ field_at fs 0 → Some b ≡ field_at fs 1 → Some c ≡ field_at fs 2 → Some d ≡ field_at fs 3
    → option_map (λ (t : Bor (List ℕ)). t.now) o ≡ field_at fs 4 → a ∷ b ∷ c ∷ d ∷ others_of o ≡ fs
unfolding field_at
taken [] a b c d o m n p q r s t = absurd (omega arith)
taken (x ∷ []) a b c d o m n p q r s t = absurd (omega arith)
taken (x ∷ y ∷ []) a b c d o m n p q r s t = absurd (omega arith)
taken (x ∷ y ∷ z ∷ []) a b c d o m n p q r s t = absurd (omega arith)
taken (x ∷ y ∷ z ∷ w ∷ []) a b c d None m n p q r s t = cc
taken (x ∷ y ∷ z ∷ w ∷ []) a b c d (Some f) m n p q r s t = cc
taken (x ∷ y ∷ z ∷ w ∷ v ∷ []) a b c d None m n p q r s t = cc
taken (x ∷ y ∷ z ∷ w ∷ v ∷ []) a b c d (Some f) m n p q r s t = cc
taken (x ∷ y ∷ z ∷ w ∷ v ∷ u ∷ fs) a b c d o m n p q r s t = absurd (omega arith)

pub fields-taken : (fs : Record) (a b c d : List ℕ) (o : Option (Bor (List ℕ))) → HasFourOrFive fs → Some a ≡ field_at fs 0 → Some b ≡ field_at fs 1 → Some c ≡ field_at fs 2 → Some d ≡ field_at fs 3
    → option_map (λ (t : Bor (List ℕ)). t.now) o ≡ field_at fs 4 → a ∷ b ∷ c ∷ d ∷ others_of o ≡ fs
fields-taken fs a b c d o (inl e) p q r s t = taken fs a b c d o (omega (arith, e)) (omega (arith, e)) p q r s t
fields-taken fs a b c d o (inr e) p q r s t = taken fs a b c d o (omega (arith, e)) (omega (arith, e)) p q r s t

-- a row's record has four fields or five
row-long : (fs others : Record) (a b c d : List ℕ) (addressed : Bool) (address : Option ℕ) → fs ≡ a ∷ b ∷ c ∷ d ∷ others → IsAddressPart addressed others address → HasFourOrFive fs
row-long fs others a b c d false address e part = inl (ap length (e ∙ ap (λ (t : Record). a ∷ b ∷ c ∷ d ∷ t) part.0))
row-long fs others a b c d true address e part = inr (ap length (e ∙ ap (λ (t : Record). a ∷ b ∷ c ∷ d ∷ t) part.1))

pub no-row : (fs : Record) → ¬ (HasFourOrFive fs) → (addressed : Bool) (row : PortRow) → ¬ (SpellsRow addressed fs row)
no-row fs none addressed row s = none (row-long fs s.others s.name s.node s.domain s.slot addressed row.address s.all s.address)

-- and so has a header
header-long : (addressed : Bool) → HasFourOrFive (header_of addressed)
header-long false = inl refl
header-long true = inr refl

pub no-header : (fs : Record) → ¬ (HasFourOrFive fs) → IsNoHeader fs
no-header fs none addressed is = none (subst HasFourOrFive (sym is) (header-long addressed))

-- what texts spell, each spells a part of
pub row-parts : (addressed : Bool) (a b c d : List ℕ) (others : Record) (row : PortRow) → SpellsRow addressed (a ∷ b ∷ c ∷ d ∷ others) row
    → SpellsWwn a row.name × SpellsWwn b row.node × SpellsPosition c d row.place × IsAddressPart addressed others row.address
row-parts addressed a b c d others row s =
    let ea : s.name ≡ a = cc s.all in
    let eb : s.node ≡ b = cc s.all in
    let ec : s.domain ≡ c = cc s.all in
    let ed : s.slot ≡ d = cc s.all in
    let eo : s.others ≡ others = cc s.all in (
      subst (λ (t : List ℕ). SpellsWwn t row.name) ea s.port_name,
      subst (λ (t : List ℕ). SpellsWwn t row.node) eb s.node_name,
      subst (λ (t : List ℕ). SpellsPosition t d row.place) ec (subst (λ (t : List ℕ). SpellsPosition s.domain t row.place) ed s.position),
      subst (λ (t : Record). IsAddressPart addressed t row.address) eo s.address,
    )

-- a field that is not empty tells an address where it spells one
pub no-address : (field : List ℕ) → (length field ≡ 0 → ⊥) → ((n : ℕ) → ¬ (SpellsAddress field n)) → (address : Option ℕ) → ¬ (SpellsAddressOrNone field address)
no-address field some none None is = some (ap length is)
no-address field some none (Some n) s = none n s

-- one field in the column of addresses
pub field-part : (addressed : Bool) (field : List ℕ) (o : Option (Option ℕ)) → addressed ≡ true
    → MatchOption o ((address : Option ℕ) → ¬ (SpellsAddressOrNone field address)) (SpellsAddressOrNone field)
    → MatchOption o ((address : Option ℕ) → ¬ (IsAddressPart addressed (field ∷ []) address)) (IsAddressPart addressed (field ∷ []))
field-part false field o e h = cc
field-part true field None e none = λ address part.
    let same : part.0 ≡ field = cc part.1 in none address (subst (λ (t : List ℕ). SpellsAddressOrNone t address) same part.2)
field-part true field (Some address) e spelled = (field, refl, spelled)

-- a fifth field without that column, none with it, and none without it
pub no-column : (addressed : Bool) (field : List ℕ) → addressed ≡ false → (address : Option ℕ) → ¬ (IsAddressPart addressed (field ∷ []) address)
no-column true field e address part = cc
no-column false field e address part = let f : ◌≡◌ {A = Record} (field ∷ []) [] = part.0 in cc

pub no-field : (addressed : Bool) (text : Option (Bor (List ℕ))) → addressed ≡ true → text ≡ None → (address : Option ℕ) → ¬ (IsAddressPart addressed (others_of text) address)
no-field false text e is address part = cc
no-field true (Some t) e is address part = cc
no-field true None e is address part = let f : ◌≡◌ {A = Record} [] (part.0 ∷ []) = part.1 in cc

pub no-part : (addressed : Bool) (text : Option (Bor (List ℕ))) → addressed ≡ false → text ≡ None → IsAddressPart addressed (others_of text) None
no-part true text e is = cc
no-part false (Some t) e is = cc
no-part false None e is = (refl, refl)

-- a header's first four fields and its others
header-others : (a b c d : List ℕ) (others : Record) (addressed : Bool) → a ∷ b ∷ c ∷ d ∷ others ≡ header_of addressed → others ≡ address_column addressed
header-others a b c d others addressed is = ap (λ (t : Record). drop 4 t) is

pub not-named : (a b c d : List ℕ) (others : Record) → (a ∷ b ∷ c ∷ d ∷ others ≡ four_columns others → ⊥) → IsNoHeader (a ∷ b ∷ c ∷ d ∷ others)
not-named a b c d others none addressed is = none (is ∙ ap four_columns (sym (header-others a b c d others addressed is)))

pub named-by : (a b c d : List ℕ) (others : Record) (o : Option Bool) → a ∷ b ∷ c ∷ d ∷ others ≡ four_columns others
    → MatchOption o ((addressed : Bool) → others ≢ address_column addressed) (λ addressed. others ≡ address_column addressed)
    → MatchOption o (IsNoHeader (a ∷ b ∷ c ∷ d ∷ others)) (λ addressed. a ∷ b ∷ c ∷ d ∷ others ≡ header_of addressed)
named-by a b c d others None named none = λ addressed is. none addressed (header-others a b c d others addressed is)
named-by a b c d others (Some addressed) named column = named ∙ ap four_columns column

-- what is read so far: nothing, or a header and then records for these rows
abbrev pub HasRead : Option Bool → List Record → List PortRow → Type 0
HasRead None records rows = (records ≡ []) × (rows ≡ [])
HasRead (Some addressed) records rows = (others : List Record) × (records ≡ header_of addressed ∷ others) × SpellRows addressed others rows

rows-push : (addressed : Bool) (records : List Record) (rows : List PortRow) (r : Record) (row : PortRow)
    → SpellRows addressed records rows → SpellsRow addressed r row → SpellRows addressed (records ++ r ∷ []) (rows ++ row ∷ [])
rows-push addressed [] [] r row h e = (e, tt)
rows-push addressed [] (x ∷ rows) r row h e = absurd h
rows-push addressed (x ∷ records) [] r row h e = absurd h
rows-push addressed (x ∷ records) (y ∷ rows) r row h e = (h.0, rows-push addressed records rows r row h.1 e)

-- a row more
pub read-row : (columns columns2 : Option Bool) (addressed : Bool) (records : List Record) (rows rows2 : List PortRow) (r : Record) (row : PortRow)
    → HasRead columns records rows → columns ≡ Some addressed → columns2 ≡ Some addressed → SpellsRow addressed r row → rows2 ≡ rows ++ row ∷ [] → HasRead columns2 (records ++ r ∷ []) rows2
read-row columns columns2 addressed records rows rows2 r row had is same s k =
    let h : HasRead (Some addressed) records rows = subst (λ (t : Option Bool). HasRead t records rows) is had in
    let more : HasRead (Some addressed) (records ++ r ∷ []) rows2 =
    (h.0 ++ r ∷ [], ap (λ (t : List Record). t ++ r ∷ []) h.1, subst (λ (t : List PortRow). SpellRows addressed (h.0 ++ r ∷ []) t) (sym k) (rows-push addressed h.0 rows r row h.2 s)) in
    subst (λ (t : Option Bool). HasRead t (records ++ r ∷ []) rows2) (sym same) more

-- the header
pub read-header : (columns columns2 : Option Bool) (addressed : Bool) (records : List Record) (rows rows2 : List PortRow) (r : Record)
    → HasRead columns records rows → columns ≡ None → columns2 ≡ Some addressed → r ≡ header_of addressed → rows2 ≡ rows → HasRead columns2 (records ++ r ∷ []) rows2
read-header columns columns2 addressed records rows rows2 r had is new e k =
    let h : HasRead None records rows = subst (λ (t : Option Bool). HasRead t records rows) is had in
    let more : HasRead (Some addressed) (records ++ r ∷ []) rows2 =
    ([], ap (λ (t : List Record). t ++ r ∷ []) h.0 ∙ ap (λ (t : Record). t ∷ []) e, subst (λ (t : List PortRow). SpellRows addressed [] t) (sym (k ∙ h.1)) tt) in
    subst (λ (t : Option Bool). HasRead t (records ++ r ∷ []) rows2) (sym new) more

-- a record that spells no row is the first faulty one
pub bad-row : (columns : Option Bool) (addressed : Bool) (records : List Record) (rows : List PortRow) (r : Record) (text : List ℕ) (n : ℕ)
    → HasRead columns records rows → columns ≡ Some addressed → ((row : PortRow) → ¬ (SpellsRow addressed r row)) → BeginsWith text (records ++ r ∷ []) → n ≡ length rows → IsFaultAt text (n + 2)
bad-row columns addressed records rows r text n had is none k l =
    let h : HasRead (Some addressed) records rows = subst (λ (t : Option Bool). HasRead t records rows) is had in
    let begins : BeginsWith text (header_of addressed ∷ h.0 ++ r ∷ []) = subst (λ (t : List Record). BeginsWith text (t ++ r ∷ [])) h.1 k in
    inr (n, refl, record { addressed = addressed; records = h.0; rows = rows; bad = r; begins = begins; spelled = h.2; none = none; count = l })

-- a first record that is no header is faulty
pub bad-header : (columns : Option Bool) (records : List Record) (rows : List PortRow) (r : Record) (text : List ℕ)
    → HasRead columns records rows → columns ≡ None → IsNoHeader r → BeginsWith text (records ++ r ∷ []) → IsFaultAt text 1
bad-header columns records rows r text had is none k =
    let h : HasRead None records rows = subst (λ (t : Option Bool). HasRead t records rows) is had in
    inl (refl, inr (r, subst (λ (t : List Record). BeginsWith text (t ++ r ∷ [])) h.0 k, none))

-- all records are read: a header and rows, or not even a header
pub all-read : (columns : Option Bool) (addressed : Bool) (records : List Record) (rows : List PortRow) (text : List ℕ)
    → HasRead columns records rows → columns ≡ Some addressed → AreAllRecords text records → ListsPorts text rows
all-read columns addressed records rows text had is all =
    let h : HasRead (Some addressed) records rows = subst (λ (t : Option Bool). HasRead t records rows) is had in
    (addressed, h.0, subst (λ (t : List Record). AreAllRecords text t) h.1 all, h.2)

pub none-read : (columns : Option Bool) (records : List Record) (rows : List PortRow) (text : List ℕ)
    → HasRead columns records rows → columns ≡ None → AreAllRecords text records → IsFaultAt text 1
none-read columns records rows text had is all =
    let h : HasRead None records rows = subst (λ (t : Option Bool). HasRead t records rows) is had in
    inl (refl, inl (subst (λ (t : List Record). AreAllRecords text t) h.0 all))
