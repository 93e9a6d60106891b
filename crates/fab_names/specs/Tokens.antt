-- The form of a token: that of a bearer token (RFC 6750, b64token), with `=` at any place.
use Rattle.std.specs.Prelude.{◌≡◌, ℕ, ◌≤◌, Bool, true, ◌||◌, ◌==◌, List, length, codes}
use Rattle.std.specs.List.{list_all, list_any}
use Rattle.std.specs.Char.{is_ascii_alphanumeric}

-- a letter, a digit, or one of these marks
abbrev pub is_token_char : ℕ → Bool
is_token_char c = is_ascii_alphanumeric c || list_any (λ mark. mark == c) (codes "-._~+/=")

-- how many bytes a token has at most
abbrev pub most_token_bytes : ℕ
most_token_bytes = 128

-- some such characters, and no more than there may be
pub record IsTokenText (text : List ℕ) : Type 0 where
  pub some : 1 ≤ length text
  pub short : length text ≤ most_token_bytes
  pub chars : list_all is_token_char text ≡ true
