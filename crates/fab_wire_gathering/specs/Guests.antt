-- What is known of the request of a guest, and of its answer.
use Rattle.std.specs.Prelude.{ℕ, zero, suc, ◌≡◌, ◌≤◌, ◌⊎◌, ◌++◌, length, ⊤, List, Option, Some, None, Bool, true, false, Vec}
use Rattle.std.specs.declared.alloc.Global.{Global}
use Rattle.fab_wire_deadlines.specs.declared.deadline.Deadline.{Deadline}
use Rattle.fab_wire_gathering.specs.declared.guest.Ending.{Ending}
use Rattle.fab_wire_gathering.specs.declared.guest.Ending.TheVariants as ending
use Rattle.fab_wire_gathering.specs.declared.guest.Guest.{Guest}
use Rattle.fab_wire_gathering.specs.declared.guest.Stage.{Stage}
use Rattle.fab_wire_gathering.specs.declared.guest.Stage.TheVariants as stage

-- how long bytes that nobody reads are taken behind an answer at most, in nanoseconds: a second
abbrev pub most_lingering : ℕ
most_lingering = 1_000_000_000

-- how many pieces of them are taken at most
abbrev pub most_takings : ℕ
most_takings = 4096

-- how many bytes are read at most before it is known how many there have to be
abbrev pub most_first : ℕ
most_first = 8192

-- what is read of a request: the bytes that were gathered, and no others; where there was no memory for all of them, that
-- is not known
abbrev pub read_of : Ending → List ℕ → Option (List ℕ)
read_of ending.Whole bytes = Some bytes
read_of ending.Ended bytes = Some bytes
read_of ending.Failed bytes = Some bytes
read_of ending.Starved bytes = None

-- what is read of the request of a guest
abbrev pub gathered_of : Guest → Option (List ℕ)
gathered_of guest = read_of guest.ending guest.bytes.items

-- how the bytes of its request ended
abbrev pub ending_of : Guest → Ending
ending_of guest = guest.ending

-- its request waits for its turn, and ended so
abbrev pub WaitsSo : Ending → Guest → Type 0
WaitsSo how guest = (guest.stage ≡ stage.Waits) × (guest.ending ≡ how)

-- one that is given up: its request has failed to come and waits for its turn, or its answer is not sent, or it is gone
abbrev pub given_up_stage : Stage → Stage
given_up_stage stage.Sends = stage.Waits
given_up_stage stage.Takes = stage.Unsent
given_up_stage (stage.Leaves left) = stage.Gone
given_up_stage other = other

abbrev pub given_up_ending : Stage → Ending → Ending
given_up_ending stage.Sends how = ending.Failed
given_up_ending other how = how

abbrev pub given_up : Guest → Guest
given_up guest = record guest { stage = given_up_stage guest.stage; ending = given_up_ending guest.stage guest.ending }

-- whether something is still to come of one, or to be sent to it
abbrev pub goes_on : Stage → Bool
goes_on stage.Sends = true
goes_on stage.Takes = true
goes_on (stage.Leaves left) = true
goes_on other = false

-- one that is to take this answer of this number until the deadline, and has taken nothing of it
abbrev pub answered : Vec ℕ Global → ℕ → Deadline → Guest → Guest
answered answer number deadline guest = record guest { bytes = answer; sent = 0; number = number; deadline = deadline; stage = stage.Takes }

-- one more piece is taken behind a request, of so many that are left to take
abbrev pub one_taken : ℕ → Stage
one_taken zero = stage.Gone
one_taken (suc left) = stage.Leaves left

-- one that has its answer: nothing came of it, or a piece, or it is gone; with others nothing is done
abbrev pub TakesRest : Stage → Stage → Type 0
TakesRest (stage.Leaves left) after = (after ≡ stage.Leaves left) ⊎ (after ≡ one_taken left) ⊎ (after ≡ stage.Gone)
TakesRest other after = after ≡ other

-- so many pieces are left to take of the rest at most, or it is gone
abbrev pub LeavesWithin : ℕ → Stage → Type 0
LeavesWithin most (stage.Leaves left) = left ≤ most
LeavesWithin most stage.Gone = ⊤
LeavesWithin most other = ⊥

-- of one that sends bytes are added to those that have come, if any, and it sends on or waits for its turn, with a number then;
-- its deadline is the same, and so is what was sent to it
pub record HasSent (guest after : Guest) : Type 0 where
  pub bytes : (more : List ℕ) × (after.bytes.items ≡ guest.bytes.items ++ more)
  pub stages : (after.stage ≡ stage.Sends) ⊎ (after.stage ≡ stage.Waits)
  pub number : after.stage ≡ stage.Sends → after.number ≡ guest.number
  pub rest : after ≡ record guest { bytes = after.bytes; stage = after.stage; ending = after.ending; heard = after.heard; wanted = after.wanted; number = after.number }

-- one that takes keeps its answer, and takes on, has taken all of it or did not take all; what is sent of it, and no more, changes
pub record TakesMore (guest after : Guest) : Type 0 where
  pub stages : (after.stage ≡ stage.Takes) ⊎ ((after.stage ≡ stage.Taken) ⊎ (after.stage ≡ stage.Unsent))
  pub whole : after.stage ≡ stage.Taken → length after.bytes.items ≤ after.sent
  pub rest : after ≡ record guest { stage = after.stage; sent = after.sent }

-- what one who goes on comes to, by its stage: of one whose rest is taken more is taken, or it is gone, and nothing else changes;
-- one of which nothing is to come, and to which nothing is to be sent, is as it was
abbrev pub ComesTo : Stage → Guest → Guest → Type 0
ComesTo stage.Sends guest after = HasSent guest after
ComesTo stage.Takes guest after = TakesMore guest after
ComesTo (stage.Leaves left) guest after = LeavesWithin left after.stage × (after ≡ record guest { stage = after.stage })
ComesTo other guest after = after ≡ guest
