-- The fields of a record, of which the clauses of private functions speak.
use Rattle.std.specs.Prelude.{ℕ, ◌≡◌, ◌⊎◌, List, [], ◌∷◌, Option, Some, None, length}
use Rattle.std.proofs.Common.{Bor}
use Rattle.fab_wire_requests.specs.PortLists.{Record}
use Rattle.fab_wire_requests.specs.declared.port_list.Texts.{Texts}

-- what stands behind the first four fields: one more, or nothing
abbrev pub others_of : Option (Bor (List ℕ)) → Record
others_of None = []
others_of (Some text) = text.now ∷ []

-- texts as the fields of a record
abbrev pub texts_of : Texts → Record
texts_of texts = texts.name.now ∷ texts.node.now ∷ texts.domain.now ∷ texts.slot.now ∷ others_of texts.address

-- a record has four fields, or five
abbrev pub HasFourOrFive : Record → Type 0
HasFourOrFive fields = (length fields ≡ 4) ⊎ (length fields ≡ 5)
