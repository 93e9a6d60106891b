-- The parts of the schema, as a test finds them.
use Rattle.std.proofs.Common.{◌≡◌, ◌+◌, ◌≤◌, ◌++◌, ◌∙◌, ℕ, List, [], ◌∷◌, Option, map, take, length, true, refl, sym, ap, Bor, codes, arith}
use Rattle.std.specs.Fmt.{decimal}
use Rattle.std.proofs.lemmas.Fmt.{decimal_digit}
use Rattle.std.proofs.lemmas.List.{take_all}
use Rattle.sqlite_schema.specs.declared.schema.Column.{Column}
use Rattle.sqlite_value.specs.Keys.{plain}
use Rattle.fab_store_load.specs.declared.fault.Table.{Table}
use Rattle.fab_store_load.specs.declared.fault.Table.TheVariants as table
use Rattle.fab_store_load.specs.TableNames.{table_name}
use Rattle.fab_store_sql.specs.Schema.{text_column, number_columns, columns_named, tree_of, places_of, index_name, key_index}

one_digit : decimal 1 ≡ codes "1"
one_digit = decimal_digit 1 (omega arith)

index_named : (t : Table) → codes "sqlite_autoindex_" ++ (table_name t ++ (codes "_" ++ codes "1")) ≡ index_name t
index_named table.Meta = refl
index_named table.Ports = refl
index_named table.Holders = refl
index_named table.Volumes = refl
index_named table.Zoning = refl
index_named table.Active = refl
index_named table.Groups = refl
index_named table.GroupParts = refl
index_named table.Plans = refl
index_named table.Approvals = refl
index_named table.Undo = refl
index_named table.Paths = refl
index_named table.Addresses = refl

pub index_made : (t : Table) → key_index t ≡ record { name = index_name t; tree = tree_of t + 1; table = tree_of t; columns = places_of t; order = plain; is_unique = true }
index_made t = ap (λ n. record { name = n; tree = tree_of t + 1; table = tree_of t; columns = places_of t; order = plain; is_unique = true })
    (ap (λ d. codes "sqlite_autoindex_" ++ (table_name t ++ (codes "_" ++ d))) one_digit ∙ index_named t)

-- texts, and then a number
pub with_number : (found rest : List Column) (texts : List (Bor (List ℕ))) (index : ℕ) (number : Option (List ℕ)) → found ≡ map (λ t. text_column t.now) (take index texts) ++ rest → length texts ≤ index → rest ≡ number_columns number → found ≡ columns_named (map (λ t. t.now) texts) number
with_number found rest texts index number walked end is =
    walked ∙ ap (λ ts. map (λ t. text_column t.now) ts ++ rest) (take_all index texts end) ∙ ap (λ r. map (λ t. text_column t.now) texts ++ r) is ∙ ap (λ xs. xs ++ number_columns number) (sym (mapped_twice texts))
  where
    mapped_twice : (ts : List (Bor (List ℕ))) → map text_column (map (λ t. t.now) ts) ≡ map (λ t. text_column t.now) ts
    mapped_twice [] = refl
    mapped_twice (t ∷ ts) = ap (λ xs. text_column t.now ∷ xs) (mapped_twice ts)
