-- How a command ended that was answered.
use Rattle.fab_wire_answers.specs.declared.answers.Answer.{Answer}
use Rattle.fab_wire_answers.specs.declared.answers.Answer.TheVariants as answer
use Rattle.fab_desk_base.specs.declared.reply.Reply.TheVariants as reply
use Rattle.fab_files_base.specs.declared.printing.End.{End}
use Rattle.fab_files_base.specs.declared.printing.End.TheVariants.{Done, Refused}

-- an answer says that something was refused, or that it was done
abbrev pub end_of : {A : Type 0} → Answer A → End
end_of (answer.Refused why) = Refused
end_of (answer.Replied (reply.Refused why)) = Refused
end_of (answer.Replied other) = Done
