-- The text of JSON (RFC 8259), as serde_json has it.
use Rattle.std.specs.Prelude.{ℕ, List, Bool}
use Rattle.json.specs.Print.{quoted}
use Rattle.serde_json.specs.Data.{Data, Members}
use Rattle.serde_json.specs.Written.{compact_text, members_text}

-- the compact text of a value
unfoldable pub json_text : Data → List ℕ
json_text d = compact_text d

-- the text of members, after others or as the first, with the closing brace
unfoldable pub members_json : Bool → Members → List ℕ
members_json later ms = members_text later ms

-- a text between quotes, with its escapes
unfoldable pub quoted_json : List ℕ → List ℕ
quoted_json s = quoted s
