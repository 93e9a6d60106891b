use Rattle.std.proofs.Common.{ℕ, ◌≤◌, ◌++◌, List, length, length-append, codes, arith}
use Rattle.serde_json.specs.Data.{string}
use Rattle.fab_names.specs.Addresses.{address_text}
use Rattle.fab_names.specs.WorldWideNames.{wwn_text}
use Rattle.fab_wire_streams.specs.Bounds.{string_most}
use Rattle.fab_wire_streams.specs.JsonText.{json_text}
use Rattle.fab_wire_streams.proofs.Texts.{on_ok, string-text, string-short}
use Rattle.fab_wire_streams.proofs.names.MemberJson.put.Goals as goal

pub returns-in-Port-clause-text : goal.returns-in-Port-clause-text
returns-in-Port-clause-text g c = rw (c.in-Port.is, string-text) (rw (c.as_slice.ensures, c.letters.ensures) at c.put_joined.ensures)

pub returns-in-Node-clause-text : goal.returns-in-Node-clause-text
returns-in-Node-clause-text g c = rw (c.in-Node.is, string-text) (rw (c.as_slice-in-Node.ensures, c.letters-in-Node.ensures) at c.put_joined-in-Node.ensures)

pub returns-in-Address-clause-text : goal.returns-in-Address-clause-text
returns-in-Address-clause-text g c = rw (c.in-Address.is, string-text) (rw (c.as_slice-in-Address.ensures, c.letters-in-Address.ensures.value) at c.put_joined-in-Address.ensures)

wwpn-short : (n : ℕ) → length (json_text (string (codes "wwpn=" ++ wwn_text n))) ≤ string_most 70
wwpn-short n = string-short (codes "wwpn=" ++ wwn_text n) 70 (omega arith)

wwnn-short : (n : ℕ) → length (json_text (string (codes "wwnn=" ++ wwn_text n))) ≤ string_most 70
wwnn-short n = string-short (codes "wwnn=" ++ wwn_text n) 70 (omega arith)

id-short : (n : ℕ) → length (json_text (string (codes "id=" ++ address_text n))) ≤ string_most 70
id-short n = string-short (codes "id=" ++ address_text n) 70 (omega arith)

alias-short : (name : List ℕ) → length name ≤ 64 → length (json_text (string (codes "alias=" ++ name))) ≤ string_most 70
alias-short name h = string-short (codes "alias=" ++ name) 70 (rw length-append (omega arith))

pub returns-in-Port-clause-bound : goal.returns-in-Port-clause-bound
returns-in-Port-clause-bound g c = rw c.in-Port.is (on_ok c.put_joined.result _ (wwpn-short _))

pub returns-in-Node-clause-bound : goal.returns-in-Node-clause-bound
returns-in-Node-clause-bound g c = rw c.in-Node.is (on_ok c.put_joined-in-Node.result _ (wwnn-short _))

pub returns-in-Place-clause-bound : goal.returns-in-Place-clause-bound
returns-in-Place-clause-bound g c = rw c.in-Place.is (on_ok c.put_place.result _ (string-short _ 70 c.put_place.ensures.short))

pub returns-in-Address-clause-bound : goal.returns-in-Address-clause-bound
returns-in-Address-clause-bound g c = rw c.in-Address.is (on_ok c.put_joined-in-Address.result _ (id-short _))

pub returns-in-Alias-clause-bound : goal.returns-in-Alias-clause-bound
returns-in-Alias-clause-bound g c = rw c.in-Alias.is (on_ok c.put_joined-in-Alias.result _ (alias-short _ (rw c.as_bytes.ensures.text at c.as_bytes.ensures.name.short)))
