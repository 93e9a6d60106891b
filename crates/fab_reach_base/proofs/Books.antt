-- Lists of paths.
use Rattle.std.proofs.Common.{List}
use Rattle.fab_reach_base.specs.Orders.{IsListOf}
use Rattle.fab_reach_base.specs.declared.path.Path.{Path}

-- the same list, said otherwise
pub list_as : (P Q : Path → Type 0) (xs : List Path) → ((x : Path) → P x → Q x) → ((x : Path) → Q x → P x) → IsListOf P xs → IsListOf Q xs
list_as P Q xs to from l = record { sorted = l.sorted; sound = λ x h. to x (l.sound x h); complete = λ x q. l.complete x (from x q) }
