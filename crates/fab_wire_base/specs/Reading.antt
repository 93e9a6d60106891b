-- What reading a head comes to.
use Rattle.std.specs.Prelude.{ℕ, ◌≡◌, ◌<◌, ◌≤◌, List, [], length, take, Option, IfSome}
use Rattle.std.specs.Io.KnownBytes.{Consumes}
use Rattle.httparse.specs.Spans.{IsRequestOf, IsRequestWithin, RequestOverflows}
use Rattle.httparse.specs.Grammar.{HasNoRequest, MayBecomeRequest}
use Rattle.httparse.specs.declared.spans.HeaderSpan.{HeaderSpan}
use Rattle.fab_wire_streams.specs.Failures.{one_more}
use Rattle.fab_wire_base.specs.Limits.{most_lines}
use Rattle.fab_wire_base.specs.Heads.{HasNoHead}
use Rattle.fab_wire_base.specs.declared.head.HeadRead.{HeadRead}
use Rattle.fab_wire_base.specs.declared.head.HeadRead.TheVariants.{Head, BadHead, Empty, ReadFailed}
use Rattle.fab_wire_base.specs.declared.head.Parsed.{Parsed}
use Rattle.fab_wire_base.specs.declared.head.Parsed.TheVariants.{Whole, Partial, Never}

-- the first bytes of the buffer were read and begin with a head, which the spans cover; or the input has no head, or is empty; or a read failed
abbrev pub ReadsHead : Option (List ℕ) → Option (List ℕ) → List ℕ → List HeaderSpan → HeadRead → Type 0
ReadsHead old new buf headers (Head spans filled) =
    (filled ≤ length buf) × Consumes old new (take filled buf) × IsRequestOf (take filled buf) headers spans × IsRequestWithin (take filled buf) headers spans
ReadsHead old new buf headers BadHead = IfSome old (λ input. (0 < length input) × HasNoHead input)
ReadsHead old new buf headers Empty = IfSome old (λ input. input ≡ [])
ReadsHead old new buf headers ReadFailed = Unit {0}

-- the count of failures, which only a failed read raises
abbrev pub failures_after_head : HeadRead → ℕ → ℕ
failures_after_head (Head spans filled) before = before
failures_after_head BadHead before = before
failures_after_head Empty before = before
failures_after_head ReadFailed before = one_more before

-- the bytes so far begin with a head, or with none yet though they may become one, or can't begin with one of few enough lines
abbrev pub IsParsed : List ℕ → List HeaderSpan → Parsed → Type 0
IsParsed got headers (Whole spans) = IsRequestOf got headers spans × IsRequestWithin got headers spans
IsParsed got headers Partial = HasNoRequest got × MayBecomeRequest got
IsParsed got headers Never = RequestOverflows most_lines got
