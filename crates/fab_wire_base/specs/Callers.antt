-- Who asks.
use Rattle.std.specs.Prelude.{ℕ, List, Bool, if◌then◌else◌, Option, Some, None, codes}
use Rattle.fab_wire_base.specs.Lines.{Line, values_of}
use Rattle.fab_wire_base.specs.Fields.{token_of}

-- a token, where it is a caller's
abbrev pub known_token : (List ℕ → Bool) → Option (List ℕ) → Option (List ℕ)
known_token knows None = None
known_token knows (Some token) = if knows token then Some token else None

-- the token of the caller that header lines name
abbrev pub caller_of : (List ℕ → Bool) → List Line → Option (List ℕ)
caller_of knows lines = known_token knows (token_of (values_of (codes "authorization") lines))
