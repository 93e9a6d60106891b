-- The active rows, listed by zone.
use Rattle.std.proofs.Common.{ℕ, ◌≡◌, List, [], ◌∷◌, ◌++◌, Bool, true, false, cond, ◌||◌, refl, sym, ap, ◌∙◌}
use Rattle.std.specs.Ordering.{eq_by_cmp}
use Rattle.std.specs.Cmp.{eq_by_cmp_equiv}
use Rattle.std.specs.List.{list_any}
use Rattle.std.specs.BTreeMap.{is_at}
use Rattle.std.specs.BTreeSet.{BTreeSet, contains, IsOrdered}
use Rattle.std.specs.FinSet as set
use Rattle.std.proofs.lemmas.List.{map-append}
use Rattle.std.proofs.lemmas.List.Folds.{list_any-append}
use Rattle.fab_inventory.specs.fab_names.declared.member.Member.{Member}
use Rattle.fab_inventory.specs.fab_lemmas.Lists.{IsListOf}
use Rattle.fab_inventory.proofs.fab_lemmas.SeenSets.{set_of_list, listed_decides}
use Rattle.fab_zoning_rows.specs.Rows.{Row, Rows, row_cmp, IsRowOf}
use Rattle.fab_zoning_rows.specs.Views.{listed_rows, seen_rows}
use Rattle.fab_zoning_rows.specs.Inner.ByZone.{rows_of_member, AddsListed}
use Rattle.fab_zoning_rows.proofs.RowSets.{row_total, row_exact, listed_push}

-- ---- the rows of one member
or_nothing : (b : Bool) → b ≡ (b || false)
or_nothing true = refl
or_nothing false = refl

one_more : (new had among : Bool) → cond new true (had || among) ≡ (had || (among || (new || false)))
one_more true true among = refl
one_more true false true = refl
one_more true false false = refl
one_more false true among = refl
one_more false false true = refl
one_more false false false = refl

pub listed_none : (s : BTreeSet Row) → AddsListed [] s s
listed_none s r = or_nothing (contains row_cmp s r)

pub listed_more : (m : Member) (before : List (List ℕ)) (zone : List ℕ) (s t u : BTreeSet Row) → AddsListed (rows_of_member m before) s t
    → ((r : Row) → contains row_cmp u r ≡ cond (is_at (row_cmp (zone, m)) r) true (contains row_cmp t r)) → AddsListed (rows_of_member m (before ++ zone ∷ [])) s u
listed_more m before zone s t u so_far updates r =
    let rows : List Row = rows_of_member m before in
    updates r
    ∙ (λ i. cond ((eq_by_cmp_equiv row_total).symm (zone, m) r i) true (so_far r i))
    ∙ one_more (eq_by_cmp row_cmp r (zone, m)) (contains row_cmp s r) (list_any (eq_by_cmp row_cmp r) rows)
    ∙ ap (λ b. contains row_cmp s r || b) (sym (ap (list_any (eq_by_cmp row_cmp r)) (map-append {B = Row} (λ y. (y, m)) before (zone ∷ [])) ∙ list_any-append (eq_by_cmp row_cmp r) rows ((zone, m) ∷ [])))

pub listed_all : (m : Member) (before zones : List (List ℕ)) (s t : BTreeSet Row) → before ≡ zones → AddsListed (rows_of_member m before) s t → AddsListed (rows_of_member m zones) s t
listed_all m before zones s t is adds r = adds r ∙ ap (λ zs. contains row_cmp s r || list_any (eq_by_cmp row_cmp r) (rows_of_member m zs)) is

-- ---- the rows of all members
-- the set has just the rows of these entries
abbrev pub HasListed : List (Member × BTreeSet (List ℕ)) → BTreeSet Row → Type 0
HasListed es s = (r : Row) → contains row_cmp s r ≡ list_any (eq_by_cmp row_cmp r) (listed_rows es)

pub none_listed : (s : BTreeSet Row) → s.keys ≡ [] → HasListed [] s
none_listed s none r = ap (list_any (λ k. is_at (row_cmp r) k)) none

pub more_listed : (before : List (Member × BTreeSet (List ℕ))) (e : Member × BTreeSet (List ℕ)) (s t : BTreeSet Row) → HasListed before s → AddsListed (rows_of_member e.0 e.1.keys) s t → HasListed (before ++ e ∷ []) t
more_listed before e s t so_far adds r =
    adds r
    ∙ ap (λ b. b || list_any (eq_by_cmp row_cmp r) (rows_of_member e.0 e.1.keys)) (so_far r)
    ∙ sym (ap (list_any (eq_by_cmp row_cmp r)) (listed_push before e) ∙ list_any-append (eq_by_cmp row_cmp r) (listed_rows before) (rows_of_member e.0 e.1.keys))

-- a set with just the rows of all entries lists them
pub all_listed : (es before : List (Member × BTreeSet (List ℕ))) (s : BTreeSet Row) → before ≡ es → HasListed before s → IsOrdered row_cmp s → IsListOf row_cmp (IsRowOf (seen_rows es)) s.keys
all_listed es before s is has ordered = record {
  sorted = ordered;
  sound = λ r there. sym (at r) ∙ (listed_decides row_total row_exact s.keys r).1 there;
  complete = λ r active. (listed_decides row_total row_exact s.keys r).0 (at r ∙ active);
}
  where
    same : set.from_list {R = row_cmp} s.keys ≡ seen_rows es
    same = set_of_list row_total row_exact s (listed_rows es) (λ r. has r ∙ ap (λ xs. list_any (eq_by_cmp row_cmp r) (listed_rows xs)) is)

    at : (r : Row) → set.contains (set.from_list {R = row_cmp} s.keys) r ≡ set.contains (seen_rows es) r
    at r = ap (λ (u : Rows). set.contains u r) same
