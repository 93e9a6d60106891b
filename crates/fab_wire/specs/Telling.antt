-- What telling an answer comes to.
use Rattle.std.specs.Prelude.{ℕ, ◌≡◌, List, Option, codes, decimal}
use Rattle.std.specs.Io.KnownBytes.{Appends}
use Rattle.fab_wire_streams.specs.Failures.{one_more}
use Rattle.fab_wire_streams.specs.Sent.{AppendsBeginning}
use Rattle.fab_wire_answers.specs.Messages.{status_of, text, told_of}
use Rattle.fab_wire_answers.specs.declared.answers.Answer.{Answer}
use Rattle.fab_wire.specs.declared.outcome.Outcome.{Outcome}
use Rattle.fab_wire.specs.declared.outcome.Outcome.TheVariants as outcome

-- the text of an outcome in a log: its status where an answer was written
abbrev pub outcome_text : Outcome → List ℕ
outcome_text (outcome.Answered status) = decimal status
outcome_text outcome.Unsent = codes "unsent"
outcome_text outcome.ReadFailed = codes "read-failed"
outcome_text outcome.Empty = codes "empty"

-- the whole answer was written and the status is its status, or a beginning of it was written
abbrev pub TellsOutcome : {A : Type 0} → Option (List ℕ) → Option (List ℕ) → Answer A → Outcome → Type 0
TellsOutcome old new a (outcome.Answered status) = (status ≡ status_of (told_of a)) × Appends old new (text (told_of a))
TellsOutcome old new a outcome.Unsent = AppendsBeginning old new (text (told_of a))
TellsOutcome old new a outcome.ReadFailed = ⊥
TellsOutcome old new a outcome.Empty = ⊥

-- the count of failures, which only a failed write raises
abbrev pub failures_after_outcome : Outcome → ℕ → ℕ
failures_after_outcome (outcome.Answered status) before = before
failures_after_outcome outcome.Unsent before = one_more before
failures_after_outcome outcome.ReadFailed before = before
failures_after_outcome outcome.Empty before = before
