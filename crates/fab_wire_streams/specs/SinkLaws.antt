-- A writer and a count take texts in turn as one.
use Rattle.std.specs.Prelude.{ℕ, ◌++◌, List, [], Option, Some, None, refl}
use Rattle.std.proofs.Common.{sym, ap, ◌∙◌, append-nil, length-append, arith}
use Rattle.std.specs.Io.KnownBytes.{Appends}
use Rattle.fab_wire_streams.specs.Counting.{inner_of}
use Rattle.fab_wire_streams.specs.Failures.{one_more}
use Rattle.fab_wire_streams.specs.Taking.{IsSink}
use Rattle.fab_wire_streams.specs.Sinks.{Wrote, WroteSome, Counts}
use Rattle.fab_wire_streams.specs.declared.counted.Counted.{Counted}
use Rattle.fab_wire_streams.specs.declared.sink.Size.{Size}
use Rattle.fab_wire_streams.specs.SentLaws.{Appends-append, AppendsBeginning-append, AppendsBeginning-behind}

nothing_appended : (a : Option (List ℕ)) → Appends a a []
nothing_appended None = tt
nothing_appended (Some xs) = sym (append-nil xs)

wrote_none : {W : Type 0} (contents : W → Option (List ℕ)) (a : Counted W) → Wrote contents a [] a
wrote_none contents a = record { bytes = nothing_appended (contents (inner_of a)); count = refl }

wrote_both : {W : Type 0} (contents : W → Option (List ℕ)) (a b c : Counted W) (x y : List ℕ) → Wrote contents a x b → Wrote contents b y c → Wrote contents a (x ++ y) c
wrote_both contents a b c x y h k = record {
  bytes = Appends-append (contents (inner_of a)) (contents (inner_of b)) (contents (inner_of c)) x y h.bytes k.bytes;
  count = k.count ∙ h.count;
}

wrote_early : {W : Type 0} (contents : W → Option (List ℕ)) (a b : Counted W) (x y : List ℕ) → WroteSome contents a x b → WroteSome contents a (x ++ y) b
wrote_early contents a b x y h = record {
  bytes = AppendsBeginning-append (contents (inner_of a)) (contents (inner_of b)) x y h.bytes;
  count = h.count;
}

wrote_late : {W : Type 0} (contents : W → Option (List ℕ)) (a b c : Counted W) (x y : List ℕ) → Wrote contents a x b → WroteSome contents b y c → WroteSome contents a (x ++ y) c
wrote_late contents a b c x y h k = record {
  bytes = AppendsBeginning-behind (contents (inner_of a)) (contents (inner_of b)) (contents (inner_of c)) x y h.bytes k.bytes;
  count = k.count ∙ ap one_more h.count;
}

counts_none : (a : Size) → Counts a [] a
counts_none a = omega arith

counts_both : (a b c : Size) (x y : List ℕ) → Counts a x b → Counts b y c → Counts a (x ++ y) c
counts_both a b c x y h k = rw length-append (omega (arith, h, k))

-- a writer
pub writes : {W : Type 0} (contents : W → Option (List ℕ)) → IsSink (Wrote contents) (WroteSome contents)
writes contents = record { none = wrote_none contents; both = wrote_both contents; early = wrote_early contents; late = wrote_late contents }

-- a count of bytes, which is never cut off
pub counts : IsSink Counts (λ a x b. ⊥)
counts = record { none = counts_none; both = counts_both; early = λ a b x y h. h; late = λ a b c x y h k. k }
