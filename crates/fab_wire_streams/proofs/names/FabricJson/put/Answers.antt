use Rattle.fab_wire_streams.proofs.Texts.{on_ok, string-short}
use Rattle.std.proofs.Common.{◌≤◌, length, arith}
use Rattle.serde_json.specs.Data.{string}
use Rattle.fab_names.specs.Fabrics.{fabric_text}
use Rattle.fab_names.specs.declared.fabric.Fabric.{Fabric}
use Rattle.fab_names.specs.declared.fabric.Fabric.TheVariants.{A, B}
use Rattle.fab_wire_streams.specs.Bounds.{string_most}
use Rattle.fab_wire_streams.specs.JsonText.{json_text}
use Rattle.fab_wire_streams.proofs.names.FabricJson.put.Goals as goal

fabric-short : (f : Fabric) → length (json_text (string (fabric_text f))) ≤ string_most 1
fabric-short A = string-short (fabric_text A) 1 (omega arith)
fabric-short B = string-short (fabric_text B) 1 (omega arith)

pub returns-clause-bound : goal.returns-clause-bound
returns-clause-bound g c = on_ok c.put_string.result _ (fabric-short c.args.self.now)
