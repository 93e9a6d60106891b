-- The limits of a request.
use Rattle.std.specs.Prelude.{ℕ}

-- how many bytes a head has at most
abbrev pub most_head : ℕ
most_head = 8192

-- more header lines than a head of so many bytes can have, since each takes three bytes at least
abbrev pub most_lines : ℕ
most_lines = 2731

-- how many bytes a body has at most
abbrev pub most_body : ℕ
most_body = 1048576
