-- Pairs of ports, and why they may communicate or may not, as texts.
use Rattle.std.specs.Prelude.{ℕ, List, [], ◌∷◌, ◌++◌, Option, None, Some, true, false, codes, decimal}
use Rattle.std.specs.List.{flat_map}
use Rattle.serde_json.specs.Data.{Data, boolean, object, no_members, member}
use Rattle.fab_names.specs.Fabrics.{fabric_text}
use Rattle.fab_names.specs.WorldWideNames.{wwn_text}
use Rattle.fab_looks_ways.specs.declared.ends.Ends.{Ends}
use Rattle.fab_looks_ways.specs.declared.pairing.Pair.{Pair}
use Rattle.fab_looks_ways.specs.declared.ties.Tie.{Tie}
use Rattle.fab_looks_ways.specs.declared.ties.Tie.TheVariants as tie
use Rattle.fab_looks_ways.specs.declared.zoned.Zoned.{Zoned}
use Rattle.fab_looks_ways.specs.declared.zoned.Zoned.TheVariants as zoned
use Rattle.fab_wire_answers.specs.Parts.{word}
use Rattle.fab_wire_streams.specs.Values.{maybe_member, record_of, whole, wwn_data}

-- ---- as JSON

-- how many zones, and the name of a single one
abbrev pub zones_data : ℕ → Option (List ℕ) → Data
zones_data count zone = object (member (codes "count") (whole count) (maybe_member word (codes "zone") zone no_members))

-- the zones of a port
abbrev pub zoned_data : Zoned → Data
zoned_data zoned.Nowhere = zones_data 0 None
zoned_data (zoned.One z) = zones_data 1 (Some z)
zoned_data (zoned.Many n) = zones_data n None

-- a pair that a zone joins
abbrev pub zone_data : Ends → List ℕ → Data
zone_data e z =
    record_of (
    (codes "fabric", word (fabric_text e.fabric)) ∷ (codes "initiator", wwn_data e.initiator) ∷ (codes "joined", boolean true)
    ∷ (codes "target", wwn_data e.target) ∷ (codes "why", word (codes "zone")) ∷ (codes "zone", word z) ∷ [])

-- one that the default zone joins
abbrev pub default_data : Ends → Data
default_data e =
    record_of (
    (codes "fabric", word (fabric_text e.fabric)) ∷ (codes "initiator", wwn_data e.initiator) ∷ (codes "joined", boolean true)
    ∷ (codes "target", wwn_data e.target) ∷ (codes "why", word (codes "default")) ∷ [])

-- one that nothing joins
abbrev pub apart_data : Ends → Zoned → Zoned → Data
apart_data e a b =
    record_of (
    (codes "fabric", word (fabric_text e.fabric)) ∷ (codes "initiator", wwn_data e.initiator) ∷ (codes "initiator_zones", zoned_data a) ∷ (codes "joined", boolean false)
    ∷ (codes "target", wwn_data e.target) ∷ (codes "target_zones", zoned_data b) ∷ [])

abbrev pub tie_data : Ends → Tie → Data
tie_data e (tie.Zone z) = zone_data e z
tie_data e tie.Default = default_data e
tie_data e (tie.Apart a b) = apart_data e a b

abbrev pub pair_data : Pair → Data
pair_data x = tie_data x.ends x.tie

-- ---- for people

unfoldable pub in_text : List ℕ → List ℕ
in_text z = codes "zone " ++ z

unfoldable pub many_text : ℕ → List ℕ
many_text n = decimal n ++ codes " zones"

-- the zones of a port: none, a single one, or how many
abbrev pub zoned_text : Zoned → List ℕ
zoned_text zoned.Nowhere = codes "no zone"
zoned_text (zoned.One z) = in_text z
zoned_text (zoned.Many n) = many_text n

unfoldable pub zone_words : List ℕ → List ℕ
zone_words z = codes "  zone " ++ (z ++ (10 ∷ []))

-- what stands before the zones of the initiator, and before those of the target
unfoldable pub before_initiator : List ℕ
before_initiator = codes "  NO COMMON ZONE: initiator in "

unfoldable pub before_target : List ℕ
before_target = codes "; target in "

abbrev pub apart_text : Zoned → Zoned → List ℕ
apart_text a b = (before_initiator ++ zoned_text a) ++ (before_target ++ zoned_text b)

abbrev pub apart_words : Zoned → Zoned → List ℕ
apart_words a b = apart_text a b ++ 10 ∷ []

-- why the ports may communicate or may not
abbrev pub tie_text : Tie → List ℕ
tie_text (tie.Zone z) = zone_words z
tie_text tie.Default = codes "  default zone\n"
tie_text (tie.Apart a b) = apart_words a b

-- a fabric, and two ports
unfoldable pub ends_text : Ends → List ℕ
ends_text e = codes "pair " ++ (fabric_text e.fabric ++ (codes " " ++ (wwn_text e.initiator ++ (codes " -> " ++ wwn_text e.target))))

-- a pair
abbrev pub pair_line : Pair → List ℕ
pair_line x = ends_text x.ends ++ tie_text x.tie

abbrev pub pair_lines : List Pair → List ℕ
pair_lines xs = flat_map pair_line xs
