-- What CREATE TABLE does inside a transaction.
use Rattle.std.proofs.Common.{◌≡◌, ◌⊎◌, ◌<◌, ◌+◌, ℕ, zero, suc, List, [], ◌∷◌, take, slice_get, Some, false, None, Ok, Err, Result, OnOk, refl, sym, ap, subst, ◌∙◌, inl, inr, arith}
use Rattle.std.proofs.lemmas.Bool.{cases_lt}
use Rattle.sqlite_tied.specs.Compute.{everything}
use Rattle.sqlite.specs.Table.{Table as SqlTable}
use Rattle.sqlite.specs.Schema.{Schema}
use Rattle.sqlite.specs.Command.TheVariants.{CreateTable}
use Rattle.sqlite.specs.Compile.{table_defined_by}
use Rattle.sqlite.specs.Change.{created, next_tree, KeepsRows}
use Rattle.sqlite.specs.Does.{Tally, lacks_sequence}
use Rattle.sqlite.specs.Effect.{Database, IsDatabase}
use Rattle.sqlite.specs.Listing.{understood}
use Rattle.sqlite.specs.declared.error.Error.{Error}
use Rattle.sqlite.specs.State.{State, Writes, ExecutesInside}
use Rattle.sqlite.proofs.Callers.{IsPlain, command_of, statement_of, runs_as}
use Rattle.sqlite_rules.specs.Lists.{Has}
use Rattle.sqlite_rules.proofs.ListLemmas.{all_has}
use Rattle.sqlite_rules.proofs.ProbeLemmas.{mapped_has}
use Rattle.fab_store_load.specs.declared.fault.Table.{Table}
use Rattle.fab_store_load.specs.declared.fault.Table.TheVariants as table
use Rattle.fab_store_load.specs.TableNames.{table_name}
use Rattle.fab_store_sql.specs.Schema.{all_tables, place_of, tree_of, columns_of, places_of, strict_table, made_of}
use Rattle.fab_store_sql.specs.Statements.{create_text}
use Rattle.fab_store_sql.specs.NewDesk.{schema_first, HasFirst, IsOneMore, HasMade}

pub went : {B E R : Type 0} {b : B} {Stops : E → Type 0} → ((stop : E) × Stops stop × (Ok b ≡ Err stop)) ⊎ R → R
went (inl stopped) = absurd (let e = stopped.2 in cc)
went (inr on) = on

pub same_value : {B E : Type 0} {a b : B} → ◌≡◌ {A = Result B E} (Ok a) (Ok b) → a ≡ b
same_value e = cc

-- the table as its text defines it
abbrev defined : Table → SqlTable
defined t = strict_table 0 (table_name t) (columns_of t) (places_of t)

creates_is : (t : Table) → (command_of (understood (schema_first (place_of t)) (create_text t)) ≡ CreateTable) × IsPlain (understood (schema_first (place_of t)) (create_text t)) × (statement_of (create_text t) (understood (schema_first (place_of t)) (create_text t)) ≡ create_text t)
unfolding understood everything
creates_is table.Meta = (refl, (refl, refl), refl)
creates_is table.Ports = (refl, (refl, refl), refl)
creates_is table.Holders = (refl, (refl, refl), refl)
creates_is table.Volumes = (refl, (refl, refl), refl)
creates_is table.Zoning = (refl, (refl, refl), refl)
creates_is table.Active = (refl, (refl, refl), refl)
creates_is table.Groups = (refl, (refl, refl), refl)
creates_is table.GroupParts = (refl, (refl, refl), refl)
creates_is table.Plans = (refl, (refl, refl), refl)
creates_is table.Approvals = (refl, (refl, refl), refl)
creates_is table.Undo = (refl, (refl, refl), refl)
creates_is table.Paths = (refl, (refl, refl), refl)
creates_is table.Addresses = (refl, (refl, refl), refl)

defined_is : (t : Table) → table_defined_by (create_text t) ≡ Ok (defined t)
unfolding understood everything
defined_is table.Meta = refl
defined_is table.Ports = refl
defined_is table.Holders = refl
defined_is table.Volumes = refl
defined_is table.Zoning = refl
defined_is table.Active = refl
defined_is table.Groups = refl
defined_is table.GroupParts = refl
defined_is table.Plans = refl
defined_is table.Approvals = refl
defined_is table.Undo = refl
defined_is table.Paths = refl
defined_is table.Addresses = refl

created_is : (t : Table) → created (schema_first (place_of t)) (defined t) ≡ schema_first (place_of t + 1)
created_is table.Meta = refl
created_is table.Ports = refl
created_is table.Holders = refl
created_is table.Volumes = refl
created_is table.Zoning = refl
created_is table.Active = refl
created_is table.Groups = refl
created_is table.GroupParts = refl
created_is table.Plans = refl
created_is table.Approvals = refl
created_is table.Undo = refl
created_is table.Paths = refl
created_is table.Addresses = refl

next_is : (t : Table) → next_tree (schema_first (place_of t)) ≡ tree_of t
next_is table.Meta = refl
next_is table.Ports = refl
next_is table.Holders = refl
next_is table.Volumes = refl
next_is table.Zoning = refl
next_is table.Active = refl
next_is table.Groups = refl
next_is table.GroupParts = refl
next_is table.Plans = refl
next_is table.Approvals = refl
next_is table.Undo = refl
next_is table.Paths = refl
next_is table.Addresses = refl

uncounted : (t : Table) → lacks_sequence (schema_first (place_of t + 1)) ≡ false
uncounted table.Meta = refl
uncounted table.Ports = refl
uncounted table.Holders = refl
uncounted table.Volumes = refl
uncounted table.Zoning = refl
uncounted table.Active = refl
uncounted table.Groups = refl
uncounted table.GroupParts = refl
uncounted table.Plans = refl
uncounted table.Approvals = refl
uncounted table.Undo = refl
uncounted table.Paths = refl
uncounted table.Addresses = refl

listed_at : (t : Table) → slice_get all_tables (place_of t) ≡ Some t
listed_at table.Meta = refl
listed_at table.Ports = refl
listed_at table.Holders = refl
listed_at table.Volumes = refl
listed_at table.Zoning = refl
listed_at table.Active = refl
listed_at table.Groups = refl
listed_at table.GroupParts = refl
listed_at table.Plans = refl
listed_at table.Approvals = refl
listed_at table.Undo = refl
listed_at table.Paths = refl
listed_at table.Addresses = refl

has_taken : {X : Type 0} (xs : List X) (k n : ℕ) (x : X) → slice_get xs k ≡ Some x → k < n → Has (take n xs) x
has_taken [] k n x is low = absurd (let e = is in cc)
has_taken (y ∷ xs) k zero x is low = absurd (omega (arith, low))
has_taken (y ∷ xs) zero (suc n) x is low = let e : y ≡ x = cc in inl (sym e)
has_taken (y ∷ xs) (suc k) (suc n) x is low = inr (has_taken xs k n x is (omega (arith, low)))

either_place : (a b : Table) → place_of a < place_of b + 1 → (place_of a < place_of b) ⊎ (place_of a ≡ place_of b)
either_place a b low = elim (cases_lt (place_of a) (place_of b)) [ inl below ↦ inl below | inr above ↦ inr (omega (arith, low, above)) ]

pub same_place : (a b : Table) → place_of a ≡ place_of b → a ≡ b
same_place a b e = let is : Some a ≡ Some b = sym (listed_at a) ∙ ap (slice_get all_tables) e ∙ listed_at b in cc

-- one table more
pub creates : (t : Table) (old new : State) (r : Result ℕ Error) → HasFirst (place_of t) old → ExecutesInside 0 (create_text t) [] old new r → OnOk r (IsOneMore t old new × IsDatabase new.now)
creates t old new (Err e) has h = tt
creates t old new (Ok count) has h =
    let schema = schema_first (place_of t) in
    let text = create_text t in
    let w = subst (λ s. Writes old new None CreateTable s [] count) (creates_is t).2 (runs_as text [] old new schema has.schema CreateTable (creates_is t).0 (creates_is t).1 count h.0) in
    let all = went w.changed in
    let first = went all.1 in
    let table = first.1 in
    let both : Ok table.table ≡ Ok (defined t) = sym table.defined ∙ defined_is t in
    let same : table.table ≡ defined t = cc in
    let is_schema : first.0.schema ≡ schema_first (place_of t + 1) = table.is ∙ ap (λ s. created s table.table) has.schema ∙ ap (created schema) same ∙ created_is t in
    let plainly : lacks_sequence first.0.schema ≡ false = ap lacks_sequence is_schema ∙ uncounted t in
    let now : new.now ≡ first.0 = ap (λ (p : Tally × Database). p.1) (same_value all.2) ∙ same_value (rw plainly at first.2) in
    let is_empty : new.now.trees (tree_of t) ≡ [] = subst (λ (d : Database). d.trees (tree_of t) ≡ []) (sym now) (subst (λ n. first.0.trees n ≡ []) (ap next_tree has.schema ∙ next_is t) table.empty) in
    let others : KeepsRows schema.tables old.now.trees new.now.trees = subst (λ (d : Database). KeepsRows schema.tables old.now.trees d.trees) (sym now) (subst (λ (s : Schema). KeepsRows s.tables old.now.trees first.0.trees) has.schema table.others) in (
      record {
        first = record { inside = h.1.mode; schema = ap (λ (d : Database). d.schema) now ∙ is_schema };
        none = is_empty;
        kept = λ other before.
            all_has (λ (u : SqlTable). new.now.trees u.tree ≡ old.now.trees u.tree) schema.tables (made_of other) others
            (mapped_has made_of (take (place_of t) all_tables) other (has_taken all_tables (place_of other) (place_of t) other (listed_at other) before));
      },
      w.sound,
    )

-- where the tables before were empty, all are
pub made_more : (t : Table) (old new : State) → HasMade (place_of t) old → IsOneMore t old new → HasMade (place_of t + 1) new
made_more t old new was more = record {
  inside = more.first.inside;
  schema = more.first.schema;
  empty = λ other low. elim (either_place other t low) [
    | inl before ↦ more.kept other before ∙ was.empty other before
    | inr here ↦ subst (λ u. new.now.trees (tree_of u) ≡ []) (sym (same_place other t here)) more.none
  ];
}

pub made_first : (n : ℕ) (s : State) → HasMade n s → HasFirst n s
made_first n s made = record { inside = made.inside; schema = made.schema }
