-- What the log shows of a connection.
use Rattle.std.specs.Prelude.{ℕ, List}
use Rattle.std.specs.Fmt.{decimal}
use Rattle.fab_wire_log.specs.declared.shown.Shown.{Shown}
use Rattle.fab_wire_log.specs.declared.shown.Shown.TheVariants.{Status, Word}

-- its text
abbrev pub shown_text : Shown → List ℕ
shown_text (Status n) = decimal n
shown_text (Word w) = w.now
