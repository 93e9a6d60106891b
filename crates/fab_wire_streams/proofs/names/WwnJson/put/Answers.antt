use Rattle.fab_wire_streams.proofs.Texts.{on_ok, string-short}
use Rattle.std.proofs.Common.{ℕ, ◌≤◌, length, arith}
use Rattle.fab_names.specs.WorldWideNames.{wwn_text}
use Rattle.fab_wire_streams.specs.Bounds.{string_most}
use Rattle.fab_wire_streams.specs.JsonText.{json_text, quoted_json}
use Rattle.fab_wire_streams.specs.Values.{wwn_data}
use Rattle.fab_wire_streams.proofs.names.WwnJson.put.Goals as goal

pub returns-clause-text : goal.returns-clause-text
unfolding json_text quoted_json wwn_data
returns-clause-text g c = rw c.letters.ensures at c.put_string.ensures

wwn-short : (n : ℕ) → length (json_text (wwn_data n)) ≤ string_most 23
unfolding wwn_data
wwn-short n = string-short (wwn_text n) 23 (omega arith)

pub returns-clause-bound : goal.returns-clause-bound
returns-clause-bound g c = on_ok c.put_string.result _ (wwn-short c.args.self.now)
