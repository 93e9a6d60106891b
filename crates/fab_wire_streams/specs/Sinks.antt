-- What a writer and a count took of a text.
use Rattle.std.specs.Prelude.{ℕ, ◌≡◌, ◌+◌, ◌-◌, ◌^◌, List, length, min, Option}
use Rattle.std.specs.Io.KnownBytes.{Appends}
use Rattle.fab_wire_streams.specs.Counting.{inner_of, failures_of}
use Rattle.fab_wire_streams.specs.Failures.{one_more}
use Rattle.fab_wire_streams.specs.Sent.{AppendsBeginning}
use Rattle.fab_wire_streams.specs.declared.counted.Counted.{Counted}
use Rattle.fab_wire_streams.specs.declared.sink.Size.{Size}

-- the text was appended, and no write failed
pub record Wrote {W : Type 0} (contents : W → Option (List ℕ)) (a : Counted W) (x : List ℕ) (b : Counted W) : Type 0 where
  pub bytes : Appends (contents (inner_of a)) (contents (inner_of b)) x
  pub count : failures_of b ≡ failures_of a

-- a beginning of the text was appended, and one write failed
pub record WroteSome {W : Type 0} (contents : W → Option (List ℕ)) (a : Counted W) (x : List ℕ) (b : Counted W) : Type 0 where
  pub bytes : AppendsBeginning (contents (inner_of a)) (contents (inner_of b)) x
  pub count : failures_of b ≡ one_more (failures_of a)

-- how many bytes were counted
abbrev pub bytes_of : Size → ℕ
bytes_of s = s.bytes

-- the count rose by the text's length, or stands at its greatest
abbrev pub Counts : Size → List ℕ → Size → Type 0
Counts a x b = min (bytes_of b) (2 ^ 64 - 1) ≡ min (bytes_of a + length x) (2 ^ 64 - 1)
