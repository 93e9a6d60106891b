-- A line of a table is told by its table and its columns.
use Rattle.std.proofs.Common.{ℕ, ℤ, pos, ◌≡◌, List, [], Option, None, Some, refl, sym, ap, ◌∙◌}
use Rattle.sqlite.specs.Order.{Row, column}
use Rattle.sqlite.specs.declared.types.Value.{Value}
use Rattle.sqlite.specs.declared.types.Value.TheVariants.{Int, Text}
use Rattle.fab_store_load.specs.declared.fault.Table.{Table}
use Rattle.fab_store_load.specs.declared.fault.Table.TheVariants as table
use Rattle.fab_store_tables.specs.Columns.{text_or_null, number_or_null}
use Rattle.fab_store_tables.specs.Tables.{table_of, row_of}
use Rattle.fab_store_tables.specs.declared.stored_line.TableLine.{TableLine}
use Rattle.fab_store_tables.specs.declared.stored_line.TableLine.TheVariants as line

pub text_or_none : Value → Option (List ℕ)
text_or_none (Text t) = Some t
text_or_none _ = None

pub number_or_none : Value → Option ℤ
number_or_none (Int n) = Some n
number_or_none _ = None

pub text_in : Value → List ℕ
text_in (Text t) = t
text_in _ = []

pub number_in : Value → ℤ
number_in (Int n) = n
number_in _ = pos 0

pub text_back : (o : Option (List ℕ)) → text_or_none (text_or_null o) ≡ o
unfolding text_or_none
text_back None = refl
text_back (Some t) = refl

pub number_back : (o : Option ℤ) → number_or_none (number_or_null o) ≡ o
unfolding number_or_none
number_back None = refl
number_back (Some n) = refl

-- the line of the table with these columns
line_of : {A : Type 0} → Table → Row → TableLine A
line_of table.Meta r = line.Meta (record { key = text_in (column r 0); value = text_in (column r 1) })
line_of table.Ports r = line.Port (record { wwpn = text_in (column r 0); wwnn = text_in (column r 1); fabric = text_or_none (column r 2); domain = number_or_none (column r 3); slot = number_or_none (column r 4); holder = text_or_none (column r 5) })
line_of table.Addresses r = line.Address (record { wwpn = text_in (column r 0); address = text_in (column r 1) })
line_of table.Holders r = line.Holder (record { name = text_in (column r 0); kind = text_in (column r 1); tenant = text_in (column r 2) })
line_of table.Volumes r = line.Volume (record { name = text_in (column r 0); array = text_in (column r 1); tenant = text_in (column r 2); bytes = number_in (column r 3) })
line_of table.Zoning r = line.Zoning (record { fabric = text_in (column r 0); kind = text_in (column r 1); name = text_in (column r 2); item = text_in (column r 3) })
line_of table.Active r = line.Active (record { fabric = text_in (column r 0); zone = text_in (column r 1); member = text_in (column r 2) })
line_of table.Groups r = line.Group (record { kind = text_in (column r 0); name = text_in (column r 1); tenant = text_in (column r 2); array = text_in (column r 3); exposed = number_in (column r 4) })
line_of table.GroupParts r = line.Part (record { kind = text_in (column r 0); name = text_in (column r 1); part = text_in (column r 2); item = text_in (column r 3); volume = text_in (column r 4) })
line_of table.Plans r = line.Plan (record { name = text_in (column r 0); author = text_in (column r 1); text = text_in (column r 2); state = text_in (column r 3); position = number_in (column r 4) })
line_of table.Approvals r = line.Approval (record { plan = text_in (column r 0); caller = text_in (column r 1); revision = number_in (column r 2) })
line_of table.Undo r = line.Undo (record { plan = text_in (column r 0); sign = text_in (column r 1); entry = text_in (column r 2) })
line_of table.Paths r = line.Path (record { host = text_in (column r 0); fabric = text_in (column r 1); initiator = text_in (column r 2); target = text_in (column r 3); volume = text_in (column r 4); lun = number_in (column r 5) })

line_back : {A : Type 0} (l : TableLine A) → line_of (table_of l) (row_of l) ≡ l
unfolding line_of text_in number_in
line_back (line.Meta l) = refl
line_back (line.Port l) = λ i. line.Port (record { wwpn = l.wwpn; wwnn = l.wwnn; fabric = text_back l.fabric i; domain = number_back l.domain i; slot = number_back l.slot i; holder = text_back l.holder i })
line_back (line.Address l) = refl
line_back (line.Holder l) = refl
line_back (line.Volume l) = refl
line_back (line.Zoning l) = refl
line_back (line.Active l) = refl
line_back (line.Group l) = refl
line_back (line.Part l) = refl
line_back (line.Plan l) = refl
line_back (line.Approval l) = refl
line_back (line.Undo l) = refl
line_back (line.Path l) = refl

-- lines of one table with one row are one
pub one_table_line : {A : Type 0} (l m : TableLine A) → table_of l ≡ table_of m → row_of l ≡ row_of m → l ≡ m
one_table_line l m tables rows = sym (line_back l) ∙ ap (λ t. line_of t (row_of l)) tables ∙ ap (line_of (table_of m)) rows ∙ line_back m
