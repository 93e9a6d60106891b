use Rattle.fab_program_desks.proofs.tasks.do_at.Goals as goal

pub returns-in-Ok : goal.returns-in-Ok
returns-in-Ok g c = rw c.in-Ok.is (
  c.answer_task-answer.result,
  c.answer_task-answer.new.desk,
  c.answer_task-answer.ensures,
  c.print_answer.ensures,
)
