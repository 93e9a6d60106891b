use Rattle.fab_wire_streams.proofs.Texts.{on_ok, string-short}
use Rattle.std.proofs.Common.{ℕ, ◌≤◌, length, arith}
use Rattle.fab_names.specs.Addresses.{address_text}
use Rattle.fab_wire_streams.specs.Bounds.{string_most}
use Rattle.fab_wire_streams.specs.JsonText.{json_text, quoted_json}
use Rattle.fab_wire_streams.specs.Values.{address_data}
use Rattle.fab_wire_streams.proofs.names.AddressJson.put.Goals as goal

pub returns-clause-text : goal.returns-clause-text
unfolding json_text quoted_json address_data
returns-clause-text g c = rw c.letters.ensures.value at c.put_string.ensures

address-short : (n : ℕ) → length (json_text (address_data n)) ≤ string_most 6
unfolding address_data
address-short n = string-short (address_text n) 6 (omega arith)

pub returns-clause-bound : goal.returns-clause-bound
returns-clause-bound g c = on_ok c.put_string.result _ (address-short c.args.self.now)
