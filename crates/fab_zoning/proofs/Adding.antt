-- Rows that are added step by step: what holds of sets in general, at rows, and what each key adds.
use Rattle.std.proofs.Common.{ℕ, ◌≡◌, List, [], ◌∷◌, ◌++◌, true, None, Some, ◌⊎◌, inl, inr, refl, sym, ap, ◌∙◌}
use mathlib.Core.Bool.{true≢false}
use Rattle.std.specs.declared.cmp.Ordering.{Ordering}
use Rattle.std.specs.Cmp.{IsTotalOrder}
use Rattle.std.specs.BTreeMap as tree
use Rattle.std.specs.BTreeMap.{BTreeMap}
use Rattle.std.specs.BTreeSet.{BTreeSet, contains}
use Rattle.std.specs.FinSet as set
use Rattle.fab_names.specs.declared.member.Member.{Member}
use Rattle.fab_names.specs.declared.member.Member.TheVariants as member
use Rattle.fab_names.specs.Orders.{name_cmp, member_cmp}
use Rattle.fab_zoning_rows.specs.fab_lemmas.Adding.{Adds, AddsOnly, Among}
use Rattle.fab_zoning_rows.specs.fab_lemmas.MapsOfSets.{tree_has, in_tree}
use Rattle.fab_zoning_rows.proofs.fab_lemmas.Adding as generic
use Rattle.fab_zoning_rows.specs.Rows.{Row, Rows, row_cmp, IsPlain}
use Rattle.fab_zoning.specs.declared.fault.ZoningFault.{ZoningFault}
use Rattle.fab_zoning.specs.declared.fault.ZoningFault.TheVariants.{Unknown, InUse, Empty, Limit, Memory}
use Rattle.fab_zoning.specs.declared.fault.ZoningLimit.TheVariants.{Aliases, Zones, Sets, Members, Active}
use Rattle.fab_zoning.specs.Inner.Adding.{IsRowsFault, IsResolvedFault, PlainRow, AliasRow, ZoneRow}
use Rattle.fab_zoning_rows.proofs.RowSets.{row_total, row_exact}

-- t has the rows of s and all with P, and no others
abbrev pub AddsRows : (Row → Type 0) → Rows → Rows → Type 0
AddsRows P s t = Adds P (set.contains s) (set.contains t)

-- t has no rows but those of s and some with P
abbrev pub AddsRowsOnly : (Row → Type 0) → Rows → Rows → Type 0
AddsRowsOnly P s t = AddsOnly P (set.contains s) (set.contains t)

adds_none : (P : Row → Type 0) (s : Rows) → ((r : Row) → ¬ P r) → AddsRows P s s
adds_none P s = generic.adds_none P (set.contains s)

adds_as : (P Q : Row → Type 0) (s t : Rows) → ((r : Row) → P r → Q r) → ((r : Row) → Q r → P r) → AddsRows P s t → AddsRows Q s t
adds_as P Q s t = generic.adds_as P Q (set.contains s) (set.contains t)

adds_both : (P Q : Row → Type 0) (s t u : Rows) → AddsRows P s t → AddsRows Q t u → AddsRows (λ r. P r ⊎ Q r) s u
adds_both P Q s t u = generic.adds_both P Q (set.contains s) (set.contains t) (set.contains u)

only_as : (P Q : Row → Type 0) (s t : Rows) → ((r : Row) → P r → Q r) → AddsRowsOnly P s t → AddsRowsOnly Q s t
only_as P Q s t = generic.only_as P Q (set.contains s) (set.contains t)

only_both : (P Q : Row → Type 0) (s t u : Rows) → AddsRows P s t → AddsRowsOnly Q t u → AddsRowsOnly (λ r. P r ⊎ Q r) s u
only_both P Q s t u = generic.only_both P Q (set.contains s) (set.contains t) (set.contains u)

-- an insertion adds its row
pub adds_one : (s t : Rows) (k : Row) → t ≡ set.insert s k → AddsRows (λ r. r ≡ k) s t
adds_one = generic.adds_one row_total row_exact

pub only_from : (P : Row → Type 0) (s t : Rows) → AddsRows P s t → AddsRowsOnly P s t
only_from P s t = generic.only_from P (set.contains s) (set.contains t)

-- ---- over the keys of a set
module _ {K : Type 0} (Q : K → Row → Type 0) where
  abbrev pub Before : List K → Row → Type 0
  Before = generic.Before Q

  pub before_none : (s : Rows) → AddsRows (Before []) s s
  before_none s = generic.before_none Q (set.contains s)

  pub before_more : (before : List K) (x : K) (s t u : Rows) → AddsRows (Before before) s t → AddsRows (Q x) t u → AddsRows (Before (before ++ x ∷ [])) s u
  before_more before x s t u = generic.before_more Q before x (set.contains s) (set.contains t) (set.contains u)

  module _ {R : K → K → Ordering} (o : IsTotalOrder R) (exact : set.IsAntisymmetric R) (s : BTreeSet K) where
    pub before_all : (before : List K) (f g : Rows) → before ≡ s.keys → AddsRows (Before before) f g → AddsRows (Among R s Q) f g
    before_all before f g = generic.before_all Q o exact s before (set.contains f) (set.contains g)

    -- where a step stops, only rows of keys were added
    pub before_stop : (before it more : List K) (x : K) (f g h : Rows) → s.keys ≡ before ++ it → it ≡ x ∷ more → AddsRows (Before before) f g → AddsRowsOnly (Q x) g h → AddsRowsOnly (Among R s Q) f h
    before_stop before it more x f g h = generic.before_stop Q o exact s before it more x (set.contains f) (set.contains g) (set.contains h)

-- ---- what each key adds
pub adds_plain : (zone : List ℕ) (m : Member) (s t : Rows) → IsPlain m → AddsRows (λ r. r ≡ (zone, m)) s t → AddsRows (PlainRow zone m) s t
adds_plain zone m s t plain = adds_as (λ r. r ≡ (zone, m)) (PlainRow zone m) s t (λ r h. (h, plain)) (λ r h. h.0)

pub only_plain : (zone : List ℕ) (m : Member) (s t : Rows) → IsPlain m → AddsRowsOnly (λ r. r ≡ (zone, m)) s t → AddsRowsOnly (PlainRow zone m) s t
only_plain zone m s t plain = only_as (λ r. r ≡ (zone, m)) (PlainRow zone m) s t (λ r h. (h, plain))

pub adds_no_plain : (zone a : List ℕ) (s : Rows) → AddsRows (PlainRow zone (member.Alias a)) s s
adds_no_plain zone a s = adds_none (PlainRow zone (member.Alias a)) s (λ r h. h.1 a refl)

pub adds_no_alias : (aliases : BTreeMap (List ℕ) (BTreeSet Member)) (zone : List ℕ) (m : Member) (s : Rows) → IsPlain m → AddsRows (AliasRow aliases zone m) s s
adds_no_alias aliases zone m s plain = adds_none (AliasRow aliases zone m) s (λ r h. plain h.0 h.1)

one_alias : (a b : List ℕ) → member.Alias a ≡ member.Alias b → b ≡ a
one_alias a b e = cc

module _ (aliases : BTreeMap (List ℕ) (BTreeSet Member)) (zone a : List ℕ) where
  pub adds_unknown : (s : Rows) → tree.get name_cmp aliases a ≡ None → AddsRows (AliasRow aliases zone (member.Alias a)) s s
  adds_unknown s none =
      adds_none (AliasRow aliases zone (member.Alias a)) s (λ r h.
      true≢false (sym h.3 ∙ ap (λ b. tree_has name_cmp member_cmp aliases b h.2) (one_alias a h.0 h.1) ∙ ap (λ o. in_tree member_cmp o h.2) none))

  named : (own : BTreeSet Member) → tree.get name_cmp aliases a ≡ Some own → (r : Row) → Among member_cmp own (PlainRow zone) r → AliasRow aliases zone (member.Alias a) r
  named own at r w = (a, refl, w.0, ap (λ o. in_tree member_cmp o w.0) at ∙ w.1, w.2)

  pub adds_alias : (own : BTreeSet Member) (s t : Rows) → tree.get name_cmp aliases a ≡ Some own → AddsRows (Among member_cmp own (PlainRow zone)) s t → AddsRows (AliasRow aliases zone (member.Alias a)) s t
  adds_alias own s t at =
      adds_as (Among member_cmp own (PlainRow zone)) (AliasRow aliases zone (member.Alias a)) s t (named own at)
      (λ r h. (h.2, sym (ap (λ b. tree_has name_cmp member_cmp aliases b h.2) (one_alias a h.0 h.1) ∙ ap (λ o. in_tree member_cmp o h.2) at) ∙ h.3, h.4))

  pub only_alias : (own : BTreeSet Member) (s t : Rows) → tree.get name_cmp aliases a ≡ Some own → AddsRowsOnly (Among member_cmp own (PlainRow zone)) s t → AddsRowsOnly (AliasRow aliases zone (member.Alias a)) s t
  only_alias own s t at = only_as (Among member_cmp own (PlainRow zone)) (AliasRow aliases zone (member.Alias a)) s t (named own at)

module _ (aliases zones : BTreeMap (List ℕ) (BTreeSet Member)) (z : List ℕ) where
  pub adds_no_zone : (s : Rows) → tree.get name_cmp zones z ≡ None → AddsRows (ZoneRow aliases zones z) s s
  adds_no_zone s none = adds_none (ZoneRow aliases zones z) s (λ r h. true≢false (sym h.1 ∙ ap (λ o. in_tree member_cmp o h.0) none))

  module _ (ms : BTreeSet Member) (at : tree.get name_cmp zones z ≡ Some ms) where
    here : (m : Member) → tree_has name_cmp member_cmp zones z m ≡ contains member_cmp ms m
    here m = ap (λ o. in_tree member_cmp o m) at

    abbrev Either : Row → Type 0
    Either r = Among member_cmp ms (PlainRow z) r ⊎ Among member_cmp ms (AliasRow aliases z) r

    there : (r : Row) → Either r → ZoneRow aliases zones z r
    there r (inl w) = (w.0, here w.0 ∙ w.1, inl w.2)
    there r (inr w) = (w.0, here w.0 ∙ w.1, inr w.2)

    back : (r : Row) → ZoneRow aliases zones z r → Either r
    back r w = elim w.2 [ inl p ↦ inl (w.0, sym (here w.0) ∙ w.1, p) | inr q ↦ inr (w.0, sym (here w.0) ∙ w.1, q) ]

    pub adds_zone : (s t u : Rows) → AddsRows (Among member_cmp ms (PlainRow z)) s t → AddsRows (Among member_cmp ms (AliasRow aliases z)) t u → AddsRows (ZoneRow aliases zones z) s u
    adds_zone s t u a b = adds_as Either (ZoneRow aliases zones z) s u there back (adds_both (Among member_cmp ms (PlainRow z)) (Among member_cmp ms (AliasRow aliases z)) s t u a b)

    pub only_zone_plain : (s t : Rows) → AddsRowsOnly (Among member_cmp ms (PlainRow z)) s t → AddsRowsOnly (ZoneRow aliases zones z) s t
    only_zone_plain s t = only_as (Among member_cmp ms (PlainRow z)) (ZoneRow aliases zones z) s t (λ r w. there r (inl w))

    pub only_zone : (s t u : Rows) → AddsRows (Among member_cmp ms (PlainRow z)) s t → AddsRowsOnly (Among member_cmp ms (AliasRow aliases z)) t u → AddsRowsOnly (ZoneRow aliases zones z) s u
    only_zone s t u a b = only_as Either (ZoneRow aliases zones z) s u there (only_both (Among member_cmp ms (PlainRow z)) (Among member_cmp ms (AliasRow aliases z)) s t u a b)

-- ---- from nothing
-- nothing has no row
pub none_there : (r : Row) → ¬ (set.contains (set.empty {R = row_cmp}) r ≡ true)
none_there r h = true≢false (sym h ∙ set.contains-empty row_cmp r)

-- why rows that were added to none stopped short of all with P
pub stopped : (P : Row → Type 0) (rows : Rows) (fault : ZoningFault) → AddsRowsOnly P set.empty rows → IsRowsFault rows fault → IsResolvedFault P fault
stopped P rows (Limit Active) only many = (rows, many, λ r h. elim (only r h) [ inl none ↦ absurd (none_there r none) | inr p ↦ p ])
stopped P rows Memory only many = tt
stopped P rows (Limit Aliases) only many = absurd many
stopped P rows (Limit Zones) only many = absurd many
stopped P rows (Limit Sets) only many = absurd many
stopped P rows (Limit Members) only many = absurd many
stopped P rows (Unknown name) only many = absurd many
stopped P rows (InUse name by) only many = absurd many
stopped P rows Empty only many = absurd many
