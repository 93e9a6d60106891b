-- The paths of a host, by the lines of their table.
use Rattle.std.proofs.Common.{ℕ, ℤ, pos, ◌≡◌, List, [], refl, sym, ap, ◌∙◌, subst}
use Rattle.sqlite.specs.Order.{Row, column}
use Rattle.sqlite.specs.declared.types.Value.{Value}
use Rattle.sqlite.specs.declared.types.Value.TheVariants.{Int, Text}
use Rattle.fab_store_columns.specs.RecordLines.{PathColumns, ShowsPath}
use Rattle.fab_store_load.specs.declared.fault.Table.TheVariants as table
use Rattle.fab_reach_base.specs.Orders.{IsListOf}
use Rattle.fab_reach_base.specs.declared.path.Path.{Path}
use Rattle.fab_store_tables.specs.Paths.{IsPathOf}
use Rattle.fab_store_sql.specs.Reading.{AreLinesOf, IsOfHost}
use Rattle.fab_store_base.specs.Worlds.{HasPathOf, ArePathsIn}
use Rattle.fab_store_tables.specs.Columns.{path_row}
use Rattle.fab_store_tables.specs.Tables.{Tables}

text_in : Value → List ℕ
text_in (Text t) = t
text_in _ = []

number_in : Value → ℤ
number_in (Int n) = n
number_in _ = pos 0

back : Row → PathColumns
back r = record { host = text_in (column r 0); fabric = text_in (column r 1); initiator = text_in (column r 2); target = text_in (column r 3); volume = text_in (column r 4); lun = number_in (column r 5) }

back_is : (l : PathColumns) → back (path_row l) ≡ l
unfolding back text_in number_in
back_is l = refl

-- lines with the same columns are one
one_line : (l m : PathColumns) → path_row l ≡ path_row m → l ≡ m
one_line l m e = sym (back_is l) ∙ ap back e ∙ back_is m

same_text : (s t : List ℕ) → ◌≡◌ {A = Value} (Text s) (Text t) → s ≡ t
unfolding text_in
same_text s t e = ap text_in e

module _ (tables : Tables) (host : List ℕ) (lines : List PathColumns) (are : AreLinesOf path_row (IsOfHost host) (tables table.Paths) lines) where
  there_of : (x : Path) → IsPathOf lines x → HasPathOf tables host x
  there_of x (l, there, of) =
      let row = (are (path_row l)).1 (l, there, refl) in
      (path_row l, row.0, record { line = l; is = refl; shown = of.0; shows = of.1; stands = (of.1.host.0 ∙ same_text l.host host row.1, of.2) })

  from_there : (x : Path) → HasPathOf tables host x → IsPathOf lines x
  from_there x (columns, there, s) =
      let of_host : column columns 0 ≡ Text host = ap (λ r. column r 0) s.is ∙ ap Text (sym s.shows.host.0 ∙ s.stands.0) in
      let found = (are columns).0 (there, of_host) in
      let same = one_line found.0 s.line (found.2 ∙ s.is) in
      (found.0, found.1, (s.shown, subst (λ l. ShowsPath l s.shown) (sym same) s.shows, s.stands.1))

  -- the paths that the lines show are those in the table
  pub paths_told : (xs : List Path) → IsListOf (IsPathOf lines) xs → ArePathsIn tables host xs
  paths_told xs h = record { sorted = h.sorted; sound = λ x there. there_of x (h.sound x there); complete = λ x has. h.complete x (from_there x has) }
