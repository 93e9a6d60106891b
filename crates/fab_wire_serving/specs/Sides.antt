-- What is known of the two sides of a connection.
use Rattle.std.specs.Prelude.{ℕ, List, Option, Some}
use Rattle.fab_wire_streams.specs.Counting.{inner_of, failures_of}
use Rattle.fab_wire_streams.specs.declared.counted.Counted.{Counted}

-- a reader or a writer: its bytes, if it tells them (those that a reader has left, those that a writer holds), how many of
-- its calls have failed, and from when on each fails, if there is such a time
pub record Side : Type 0 where
  pub bytes : Option (List ℕ)
  pub failures : ℕ
  pub until : Option ℕ

-- what is read from, and what is written to
pub record Sides : Type 0 where
  pub input : Side
  pub sent : Side

abbrev pub side_of : {T : Type 0} → (T → Option (List ℕ)) → (T → Option ℕ) → Counted T → Side
side_of bytes until t = record { bytes = bytes (inner_of t); failures = failures_of t; until = until (inner_of t) }

abbrev pub sides : {R W : Type 0} → (R → Option (List ℕ)) → (R → Option ℕ) → (W → Option (List ℕ)) → (W → Option ℕ) → Counted R → Counted W → Sides
sides remaining reads_until contents writes_until reader writer = record { input = side_of remaining reads_until reader; sent = side_of contents writes_until writer }

-- the sides as a connection begins: these bytes, no call has failed, and the connection is given up at this time
abbrev pub begun_sides : Option (List ℕ) → Option (List ℕ) → ℕ → Sides
begun_sides input sent until = record {
  input = record { bytes = input; failures = 0; until = Some until };
  sent = record { bytes = sent; failures = 0; until = Some until };
}
