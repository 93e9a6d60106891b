-- The table of refusals.
use Rattle.std.specs.Prelude.{ℕ, List, codes}
use Rattle.fab_wire_answers.specs.declared.codes.Code.{Code}
use Rattle.fab_wire_answers.specs.declared.codes.Code.TheVariants as code

-- a line of the table: a number, a name, and a status (RFC 9110, section 15)
pub record Line : Type 0 where
  pub number : ℕ
  pub name : List ℕ
  pub status : ℕ

abbrev pub line : ℕ → List ℕ → ℕ → Line
line number name status = record { number = number; name = name; status = status }

-- the table
abbrev pub line_of : Code → Line
line_of code.NoCaller = line 1 (codes "no-caller") 401
line_of code.BadHead = line 2 (codes "bad-head") 400
line_of code.NoRoute = line 3 (codes "no-route") 404
line_of code.BadMethod = line 4 (codes "bad-method") 405
line_of code.NoLength = line 5 (codes "no-length") 411
line_of code.TooLarge = line 6 (codes "too-large") 413
line_of code.BadBody = line 7 (codes "bad-body") 400
line_of code.Denied = line 8 (codes "denied") 403
line_of code.NotFound = line 9 (codes "not-found") 404
line_of code.Exists = line 10 (codes "exists") 409
line_of code.InUse = line 11 (codes "in-use") 409
line_of code.UnknownName = line 12 (codes "unknown-name") 409
line_of code.WrongArray = line 13 (codes "wrong-array") 409
line_of code.UnitClash = line 14 (codes "unit-clash") 409
line_of code.Limit = line 15 (codes "limit") 409
line_of code.WrongState = line 16 (codes "wrong-state") 409
line_of code.NotLast = line 17 (codes "not-last") 409
line_of code.Gone = line 18 (codes "gone") 409
line_of code.OwnPlan = line 19 (codes "own-plan") 409
line_of code.PortClash = line 20 (codes "port-clash") 409
line_of code.Memory = line 21 (codes "memory") 503
line_of code.Store = line 22 (codes "store") 503
line_of code.Halted = line 23 (codes "halted") 503
