-- The header lines of a head.
use Rattle.std.specs.Prelude.{ℕ, List, Bool, map, filter, length, All}
use Rattle.std.specs.Char.{to_ascii_lowercase}
use Rattle.std.specs.Str.{bytes_eq}
use Rattle.httparse.specs.Spans.{header_bytes, IsHeaderWithin}
use Rattle.httparse.specs.declared.spans.HeaderSpan.{HeaderSpan}

-- a header line: its name, and its value without the spaces and tabs around it
abbrev pub Line : Type 0
Line = List ℕ × List ℕ

-- two header names are the same but for the case of ASCII letters
abbrev pub are_same_name : List ℕ → List ℕ → Bool
are_same_name a b = bytes_eq (map to_ascii_lowercase a) (map to_ascii_lowercase b)

-- the values of the lines of a name, in order
abbrev pub values_of : List ℕ → List Line → List (List ℕ)
values_of name lines = map (λ (line : Line). line.1) (filter (λ (line : Line). are_same_name line.0 name) lines)

-- the lines that spans of a buffer cover
abbrev pub lines_of : List ℕ → List HeaderSpan → List Line
lines_of buf headers = map (header_bytes buf) headers

-- the spans lie within the buffer
abbrev pub AreWithin : List ℕ → List HeaderSpan → Type 0
AreWithin buf headers = All (IsHeaderWithin (length buf)) headers
