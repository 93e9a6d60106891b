use Rattle.std.proofs.Common.{refl, inl, inr}
use Rattle.fab_wire_streams.specs.Counting.{inner_of, failures_of}
use Rattle.fab_wire_base.specs.Hearing.{request_of}
use Rattle.fab_wire_base.specs.Spelling.{refused}
use Rattle.fab_wire.proofs.Told.{answered, asked_answered}
use Rattle.fab_wire.proofs.serving.serve_one.Goals as goal

pub returns-in-Refused : goal.returns-in-Refused
returns-in-Refused g c =
    let input = g.R.Read.remaining (inner_of c.args.reader.now) in
    let input' = g.R.Read.remaining (inner_of c.hear.new.reader) in
    let sent = g.W.Write.contents (inner_of c.args.writer.now) in
    let sent' = g.W.Write.contents (inner_of c.tell_answer.new.writer) in
    let heard = rw c.of.ensures at c.in-Refused.ensures.spelled in
    answered g.S.Store input input' sent sent' (failures_of c.args.reader.now) (failures_of c.hear.new.reader) (failures_of c.args.writer.now) (failures_of c.tell_answer.new.writer)
    c.args.desk.now c.args.desk.now c.args.moment c.refusal.result c.tell_answer.result
    (inr (refused c.in-Refused.why, heard, (c.refusal.ensures, refl))) c.in-Refused.ensures.count c.tell_answer.ensures.told c.tell_answer.ensures.count

pub returns-in-Memory : goal.returns-in-Memory
returns-in-Memory g c =
    let input = g.R.Read.remaining (inner_of c.args.reader.now) in
    let input' = g.R.Read.remaining (inner_of c.hear.new.reader) in
    let sent = g.W.Write.contents (inner_of c.args.writer.now) in
    let sent' = g.W.Write.contents (inner_of c.tell_answer-in-Memory.new.writer) in
    answered g.S.Store input input' sent sent' (failures_of c.args.reader.now) (failures_of c.hear.new.reader) (failures_of c.args.writer.now) (failures_of c.tell_answer-in-Memory.new.writer)
    c.args.desk.now c.args.desk.now c.args.moment c.want.result c.tell_answer-in-Memory.result
    (inl (c.want.ensures, c.in-Memory.ensures.spelled, refl)) c.in-Memory.ensures.count c.tell_answer-in-Memory.ensures.told c.tell_answer-in-Memory.ensures.count

pub returns-in-Asked : goal.returns-in-Asked
returns-in-Asked g c =
    let input = g.R.Read.remaining (inner_of c.args.reader.now) in
    let input' = g.R.Read.remaining (inner_of c.hear.new.reader) in
    let sent = g.W.Write.contents (inner_of c.args.writer.now) in
    let sent' = g.W.Write.contents (inner_of c.tell_answer-in-Asked.new.writer) in
    let heard = rw c.of.ensures at c.in-Asked.ensures.spelled in
    answered g.S.Store input input' sent sent' (failures_of c.args.reader.now) (failures_of c.hear.new.reader) (failures_of c.args.writer.now) (failures_of c.tell_answer-in-Asked.new.writer)
    c.args.desk.now c.answer_to.new.desk c.args.moment c.answer_to.result c.tell_answer-in-Asked.result
    (asked_answered g.S.Store input c.args.desk.now c.answer_to.new.desk c.args.moment (request_of c.in-Asked.asked) c.answer_to.result heard c.answer_to.ensures)
    c.in-Asked.ensures.count c.tell_answer-in-Asked.ensures.told c.tell_answer-in-Asked.ensures.count
