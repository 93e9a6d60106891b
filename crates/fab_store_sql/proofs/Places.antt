-- The tables by their trees and their places in the schema.
use Rattle.std.proofs.Common.{◌≡◌, ℕ, List, [], ◌∷◌, Some, slice_get, slice_index_or, refl, sym, ap, ◌∙◌, inl, inr}
use Rattle.sqlite.specs.Order.{Row}
use Rattle.sqlite_schema.specs.declared.schema.Keys.{Keys}
use Rattle.sqlite_rules.specs.Lists.{Has}
use Rattle.sqlite_rules.specs.Action.{works}
use Rattle.fab_store_load.specs.declared.fault.Table.{Table}
use Rattle.fab_store_load.specs.declared.fault.Table.TheVariants as table
use Rattle.fab_store_sql.specs.Schema.{made_of, desk_schema, place_of}
use Rattle.fab_store_sql.specs.Trees.{tree_of}

abbrev pub table_at : ℕ → Table
table_at n = slice_index_or (table.Meta ∷ table.Meta ∷ table.Ports ∷ table.Ports ∷ table.Holders ∷ table.Holders ∷ table.Volumes ∷ table.Volumes ∷ table.Zoning ∷ table.Zoning ∷ table.Active ∷ table.Active ∷ table.Groups ∷ table.Groups ∷ table.GroupParts ∷ table.GroupParts ∷ table.Plans ∷ table.Plans ∷ table.Approvals ∷ table.Approvals ∷ table.Undo ∷ table.Undo ∷ table.Paths ∷ table.Paths ∷ table.Addresses ∷ table.Addresses ∷ []) n table.Meta

at_tree : (t : Table) → table_at (tree_of t) ≡ t
at_tree table.Meta = refl
at_tree table.Ports = refl
at_tree table.Holders = refl
at_tree table.Volumes = refl
at_tree table.Zoning = refl
at_tree table.Active = refl
at_tree table.Groups = refl
at_tree table.GroupParts = refl
at_tree table.Plans = refl
at_tree table.Approvals = refl
at_tree table.Undo = refl
at_tree table.Paths = refl
at_tree table.Addresses = refl

-- no two tables have one tree
pub same_table : (a b : Table) → tree_of a ≡ tree_of b → a ≡ b
same_table a b e = sym (at_tree a) ∙ ap table_at e ∙ at_tree b

pub placed : (t : Table) → slice_get desk_schema.tables (place_of t) ≡ Some (made_of t)
placed table.Meta = refl
placed table.Ports = refl
placed table.Holders = refl
placed table.Volumes = refl
placed table.Zoning = refl
placed table.Active = refl
placed table.Groups = refl
placed table.GroupParts = refl
placed table.Plans = refl
placed table.Approvals = refl
placed table.Undo = refl
placed table.Paths = refl
placed table.Addresses = refl

pub listed : (t : Table) → Has desk_schema.tables (made_of t)
listed table.Meta = inl refl
listed table.Ports = inr (inl refl)
listed table.Holders = inr (inr (inl refl))
listed table.Volumes = inr (inr (inr (inl refl)))
listed table.Zoning = inr (inr (inr (inr (inl refl))))
listed table.Active = inr (inr (inr (inr (inr (inl refl)))))
listed table.Groups = inr (inr (inr (inr (inr (inr (inl refl))))))
listed table.GroupParts = inr (inr (inr (inr (inr (inr (inr (inl refl)))))))
listed table.Plans = inr (inr (inr (inr (inr (inr (inr (inr (inl refl))))))))
listed table.Approvals = inr (inr (inr (inr (inr (inr (inr (inr (inr (inl refl)))))))))
listed table.Undo = inr (inr (inr (inr (inr (inr (inr (inr (inr (inr (inl refl))))))))))
listed table.Paths = inr (inr (inr (inr (inr (inr (inr (inr (inr (inr (inr (inl refl)))))))))))
listed table.Addresses = inr (inr (inr (inr (inr (inr (inr (inr (inr (inr (inr (inr (inl refl))))))))))))

-- no foreign key acts on a table
pub free : (t : Table) (keys : Keys) (olds news : List Row) → works desk_schema keys 0 (tree_of t) olds news ≡ []
free table.Meta keys olds news = refl
free table.Ports keys olds news = refl
free table.Holders keys olds news = refl
free table.Volumes keys olds news = refl
free table.Zoning keys olds news = refl
free table.Active keys olds news = refl
free table.Groups keys olds news = refl
free table.GroupParts keys olds news = refl
free table.Plans keys olds news = refl
free table.Approvals keys olds news = refl
free table.Undo keys olds news = refl
free table.Paths keys olds news = refl
free table.Addresses keys olds news = refl
