-- A line is told by its columns.
use Rattle.std.proofs.Common.{ℕ, ℤ, pos, ◌≡◌, List, [], Option, None, Some, refl, sym, ap, ◌∙◌}
use Rattle.sqlite.specs.Order.{Row, column}
use Rattle.sqlite.specs.declared.types.Value.{Value}
use Rattle.sqlite.specs.declared.types.Value.TheVariants.{Int, Text}
use Rattle.fab_store_tables.specs.Columns.{text_or_null, number_or_null, meta_row, port_row, address_row, holder_row, volume_row, zoning_row, active_row, group_row, part_row, plan_row, approval_row, undo_row, path_row}

-- lines with the same columns are one
abbrev pub IsToldByColumns : {L : Type 0} → (L → Row) → Type 0
IsToldByColumns {L} columns_of = (l m : L) → columns_of l ≡ columns_of m → l ≡ m

by_back : {L : Type 0} (columns_of : L → Row) (back : Row → L) → ((l : L) → back (columns_of l) ≡ l) → IsToldByColumns columns_of
by_back columns_of back is l m e = sym (is l) ∙ ap back e ∙ is m

-- ---- what stands in a column

text_in : Value → List ℕ
text_in (Text t) = t
text_in _ = []

number_in : Value → ℤ
number_in (Int n) = n
number_in _ = pos 0

text_or_none : Value → Option (List ℕ)
text_or_none (Text t) = Some t
text_or_none _ = None

number_or_none : Value → Option ℤ
number_or_none (Int n) = Some n
number_or_none _ = None

text_back : (o : Option (List ℕ)) → text_or_none (text_or_null o) ≡ o
unfolding text_or_none
text_back None = refl
text_back (Some t) = refl

number_back : (o : Option ℤ) → number_or_none (number_or_null o) ≡ o
unfolding number_or_none
number_back None = refl
number_back (Some n) = refl

-- ---- the lines of each table

pub one_meta : IsToldByColumns meta_row
unfolding text_in
one_meta = by_back meta_row (λ r. record { key = text_in (column r 0); value = text_in (column r 1) }) (λ l. refl)

pub one_holder : IsToldByColumns holder_row
unfolding text_in
one_holder = by_back holder_row (λ r. record { name = text_in (column r 0); kind = text_in (column r 1); tenant = text_in (column r 2) }) (λ l. refl)

pub one_volume : IsToldByColumns volume_row
unfolding text_in number_in
one_volume = by_back volume_row (λ r. record { name = text_in (column r 0); array = text_in (column r 1); tenant = text_in (column r 2); bytes = number_in (column r 3) }) (λ l. refl)

pub one_zoning : IsToldByColumns zoning_row
unfolding text_in
one_zoning = by_back zoning_row (λ r. record { fabric = text_in (column r 0); kind = text_in (column r 1); name = text_in (column r 2); item = text_in (column r 3) }) (λ l. refl)

pub one_active : IsToldByColumns active_row
unfolding text_in
one_active = by_back active_row (λ r. record { fabric = text_in (column r 0); zone = text_in (column r 1); member = text_in (column r 2) }) (λ l. refl)

pub one_group : IsToldByColumns group_row
unfolding text_in number_in
one_group = by_back group_row (λ r. record { kind = text_in (column r 0); name = text_in (column r 1); tenant = text_in (column r 2); array = text_in (column r 3); exposed = number_in (column r 4) }) (λ l. refl)

pub one_part : IsToldByColumns part_row
unfolding text_in
one_part = by_back part_row (λ r. record { kind = text_in (column r 0); name = text_in (column r 1); part = text_in (column r 2); item = text_in (column r 3); volume = text_in (column r 4) }) (λ l. refl)

pub one_plan : IsToldByColumns plan_row
unfolding text_in number_in
one_plan = by_back plan_row (λ r. record { name = text_in (column r 0); author = text_in (column r 1); text = text_in (column r 2); state = text_in (column r 3); position = number_in (column r 4) }) (λ l. refl)

pub one_approval : IsToldByColumns approval_row
unfolding text_in number_in
one_approval = by_back approval_row (λ r. record { plan = text_in (column r 0); caller = text_in (column r 1); revision = number_in (column r 2) }) (λ l. refl)

pub one_undo : IsToldByColumns undo_row
unfolding text_in
one_undo = by_back undo_row (λ r. record { plan = text_in (column r 0); sign = text_in (column r 1); entry = text_in (column r 2) }) (λ l. refl)

pub one_path : IsToldByColumns path_row
unfolding text_in number_in
one_path = by_back path_row (λ r. record { host = text_in (column r 0); fabric = text_in (column r 1); initiator = text_in (column r 2); target = text_in (column r 3); volume = text_in (column r 4); lun = number_in (column r 5) }) (λ l. refl)

pub one_address : IsToldByColumns address_row
unfolding text_in
one_address = by_back address_row (λ r. record { wwpn = text_in (column r 0); address = text_in (column r 1) }) (λ l. refl)

pub one_port : IsToldByColumns port_row
unfolding text_in
one_port =
    by_back port_row (λ r. record { wwpn = text_in (column r 0); wwnn = text_in (column r 1); fabric = text_or_none (column r 2); domain = number_or_none (column r 3); slot = number_or_none (column r 4); holder = text_or_none (column r 5) })
    (λ l i. record { wwpn = l.wwpn; wwnn = l.wwnn; fabric = text_back l.fabric i; domain = number_back l.domain i; slot = number_back l.slot i; holder = text_back l.holder i })
