-- What a walk over lines does to the tables.
use Rattle.std.proofs.Common.{◌≡◌, ◌≢◌, ◌⊎◌, ◌↔◌, List, [], ◌∷◌, ◌++◌, map, Contains, refl, sym, ap, subst, inl, inr}
use Rattle.std.proofs.lemmas.Bool.{cases_eq}
use Rattle.std.proofs.lemmas.List.Elements.{Contains-push_cases, Contains-append_left, Contains-push}
use Rattle.sqlite.specs.Order.{Row}
use Rattle.sqlite.specs.State.{State}
use Rattle.sqlite_rules.specs.Lists.{Has}
use Rattle.sqlite_rules.proofs.ListLemmas.{has_contained, contains_had}
use Rattle.sqlite_rules.proofs.ProbeLemmas.{has_mapped, mapped_has}
use Rattle.fab_store_load.specs.declared.fault.Table.{Table}
use Rattle.fab_store_tables.specs.Tables.{Tables, HaveKeys, IsAmong, table_of, row_of, key_of}
use Rattle.fab_store_tables.specs.declared.stored_line.TableLine.{TableLine}
use Rattle.fab_store_sql.specs.Rows.{Holds, Adds, Removes}
use Rattle.fab_store_sql.specs.Trees.{tree_of, show_of, tables_of}
use Rattle.fab_store_sql.specs.States.{Alters, IsOf, HasKey, HasKeyAmong, Loses, Gains, Walks}
use Rattle.fab_store_sql.proofs.Places.{same_table}

pub held : (show : Row → Row) (rows : List Row) (c : Row) → Holds show rows c → Contains (map show rows) c
held show rows c h = contains_had _ c (subst (λ d. Has (map show rows) d) (sym h.2) (mapped_has show rows h.0 h.1))

pub holds : (show : Row → Row) (rows : List Row) (c : Row) → Contains (map show rows) c → Holds show rows c
holds show rows c h = has_mapped show rows c (has_contained _ c h)

either_table : (a b : Table) → (a ≡ b) ⊎ (a ≢ b)
either_table a b = elim (cases_eq (tree_of a) (tree_of b)) [ inl same ↦ inl (same_table a b same) | inr apart ↦ inr (λ e. apart (ap tree_of e)) ]

-- what holds of the changed table, and of each other one that is as it was, holds of all
module _ (t : Table) (old new : State) (Change : List Row → List Row → Type 0) (h : Alters Change t old new) (Says : Table → List Row → List Row → Type 0) where
  everywhere : Says t (tables_of old.now.trees t) (tables_of new.now.trees t) → ((other : Table) (rows : List Row) → other ≢ t → Says other rows rows) → (other : Table) → Says other (tables_of old.now.trees other) (tables_of new.now.trees other)
  everywhere here apart other = elim (either_table other t) [
    | inl same ↦ subst (λ n. Says n (tables_of old.now.trees n) (tables_of new.now.trees n)) (sym same) here
    | inr far ↦ subst (λ rows. Says other (tables_of old.now.trees other) rows) (sym (ap (map (show_of other)) (h.others other far))) (apart other (tables_of old.now.trees other) far)
  ]

module _ {A : Type 0} (l : TableLine A) (old new : State) where
  pub loses_one : Alters (Removes (show_of (table_of l)) (λ c. key_of (table_of l) c ≡ key_of (table_of l) (row_of l))) (table_of l) old new → Walks (Loses (HasKey l)) old new
  loses_one h =
      let t = table_of l in
      let show = show_of t in
      let Test = λ (c : Row). key_of t c ≡ key_of t (row_of l) in
      record {
        change = λ other r. everywhere t old new (Removes show Test) h (λ n before after. Contains after r ↔ (Contains before r × ¬ HasKey l n r)) (
          λ there. let was = holds show _ r there in (held show _ r (h.change.from r was), λ key. h.change.gone r was key.1),
          λ both. held show _ r (h.change.kept r (holds show _ r both.0) (λ test. both.1 (refl, test))),
        ) (λ n rows far. (λ there. (there, λ key. far (sym key.0)), λ both. both.0)) other;
        inside = h.inside;
      }

  pub gains_one : Alters (Adds (show_of (table_of l)) (row_of l)) (table_of l) old new → Walks (Gains (IsOf l)) old new
  gains_one h =
      let t = table_of l in
      let show = show_of t in
      record {
        change = λ other r. everywhere t old new (Adds show (row_of l)) h (λ n before after. Contains after r ↔ (Contains before r ⊎ IsOf l n r)) (
          λ there. elim (h.change.from r (holds show _ r there)) [ inl is ↦ inr (refl, sym is) | inr was ↦ inl (held show _ r was) ],
          λ either. elim either [
            | inl was ↦ held show _ r (h.change.kept r (holds show _ r was))
            | inr is ↦ subst (Contains (map show (new.now.trees (tree_of t)))) is.1 (held show _ (row_of l) h.change.there)
          ],
        ) (λ n rows far. (λ there. inl there, λ either. elim either [ inl was ↦ was | inr is ↦ absurd (far (sym is.0)) ])) other;
        inside = h.inside;
      }

-- ---- one walk after another

-- what has P or Q has R
abbrev pub Joins : (Table → Row → Type 0) → (Table → Row → Type 0) → (Table → Row → Type 0) → Type 0
Joins P Q R = (t : Table) (r : Row) → R t r ↔ (P t r ⊎ Q t r)

pub loses_more : (P Q R : Table → Row → Type 0) (a b c : Tables) → Joins P Q R → Loses P a b → Loses Q b c → Loses R a c
loses_more P Q R a b c joins p q t r = (
  λ there. let second = (q t r).0 there in let first = (p t r).0 second.0 in (first.0, λ is. elim ((joins t r).0 is) [ inl one ↦ first.1 one | inr two ↦ second.1 two ]),
  λ both. (q t r).1 ((p t r).1 (both.0, λ one. both.1 ((joins t r).1 (inl one))), λ two. both.1 ((joins t r).1 (inr two))),
)

pub gains_more : (P Q R : Table → Row → Type 0) (a b c : Tables) → Joins P Q R → Gains P a b → Gains Q b c → Gains R a c
gains_more P Q R a b c joins p q t r = (
  λ there. elim ((q t r).0 there) [
    | inl was ↦ elim ((p t r).0 was) [ inl old ↦ inl old | inr one ↦ inr ((joins t r).1 (inl one)) ]
    | inr two ↦ inr ((joins t r).1 (inr two))
  ],
  λ either. elim either [
    | inl old ↦ (q t r).1 (inl ((p t r).1 (inl old)))
    | inr is ↦ elim ((joins t r).0 is) [ inl one ↦ (q t r).1 (inl ((p t r).1 (inr one))) | inr two ↦ (q t r).1 (inr two) ]
  ],
)

pub walks_more : (P Q R : Tables → Tables → Type 0) → ((a b c : Tables) → P a b → Q b c → R a c) → (a b c : State) → Walks P a b → Walks Q b c → Walks R a c
walks_more P Q R both a b c p q = record { change = both _ _ _ p.change q.change; inside = q.inside }

-- one line more, behind the others
module _ {A : Type 0} (lines : List (TableLine A)) (l : TableLine A) where
  one_more : (Q : TableLine A → Type 0) → ((m : TableLine A) × Contains (lines ++ l ∷ []) m × Q m) ↔ (((m : TableLine A) × Contains lines m × Q m) ⊎ Q l)
  one_more Q = (
    λ h. elim (Contains-push_cases lines l h.0 h.1) [ inl old ↦ inl (h.0, old, h.2) | inr is ↦ inr (subst Q (sym is) h.2) ],
    λ h. elim h [ inl old ↦ (old.0, Contains-append_left lines (l ∷ []) old.0 old.1, old.2) | inr is ↦ (l, Contains-push lines l, is) ],
  )

  pub joins_keys : Joins (HasKeyAmong lines) (HasKey l) (HasKeyAmong (lines ++ l ∷ []))
  joins_keys t r = one_more (λ m. HasKey m t r)

  pub joins_rows : Joins (IsAmong lines) (IsOf l) (IsAmong (lines ++ l ∷ []))
  joins_rows t r =
      let more = one_more (λ m. IsOf m t r) in (
        λ h. elim (more.0 (h.0, h.1, (h.2, h.3))) [ inl old ↦ inl (old.0, old.1, old.2.0, old.2.1) | inr is ↦ inr is ],
        λ h. elim h [
          | inl old ↦ let m = more.1 (inl (old.0, old.1, (old.2, old.3))) in (m.0, m.1, m.2.0, m.2.1)
          | inr is ↦ let m = more.1 (inr is) in (m.0, m.1, m.2.0, m.2.1)
        ],
      )

-- ---- both walks

-- rows with the keys of rows that are there are these rows
pub changed : {A : Type 0} (removed added : List (TableLine A)) (old mid new : Tables) → HaveKeys old → ((t : Table) (r : Row) → IsAmong removed t r → Contains (old t) r) → Loses (HasKeyAmong removed) old mid → Gains (IsAmong added) mid new
    → (t : Table) (r : Row) → Contains (new t) r ↔ ((Contains (old t) r × ¬ IsAmong removed t r) ⊎ IsAmong added t r)
changed removed added old mid new keys there gone put t r =
    let keyed = λ (h : HasKeyAmong removed t r) (was : Contains (old t) r).
    let here : Contains (old t) (row_of h.0) = there t (row_of h.0) (h.0, h.1, h.2.0, refl) in
    let e : r ≡ row_of h.0 = keys t r (row_of h.0) was here h.2.1 in
    let a : IsAmong removed t r = (h.0, h.1, h.2.0, sym e) in a in (
      λ h. elim ((put t r).0 h) [
        | inl was ↦ let both = (gone t r).0 was in inl (both.0, λ among. both.1 (among.0, among.1, (among.2, ap (key_of t) (sym among.3))))
        | inr is ↦ inr is
      ],
      λ h. elim h [
        | inl both ↦ (put t r).1 (inl ((gone t r).1 (both.0, λ key. both.1 (keyed key both.0))))
        | inr is ↦ (put t r).1 (inr is)
      ],
    )
