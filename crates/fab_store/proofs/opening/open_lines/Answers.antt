use Rattle.std.proofs.Common.{sym, subst}
use Rattle.std.proofs.lemmas.Bool.{both_ways}
use Rattle.fab_store.specs.Loading.{HaveNamesOnce, TellOther}
use Rattle.fab_store.proofs.Written.{written, damaged, told_other}
use Rattle.fab_store.proofs.opening.open_lines.Goals as goal

pub returns-in-Some-clause-fault : goal.returns-in-Some-clause-fault
returns-in-Some-clause-fault g c =
    let told = subst (λ lines. TellOther lines c.in-Some.schema) c.as_slice.ensures.value c.in-Some.ensures in
    told_other c.args.lines.now c.in-Some.schema c.schema_fault.result told c.schema_fault.ensures

pub returns-in-Ok-clause-world : goal.returns-in-Ok-clause-world
returns-in-Ok-clause-world g c = (c.in-Ok.ensures.sound, written g.row.A.Denot c.in-Ok.world c.in-Ok.ensures.lined)

pub returns-in-Ok-true-clause-fault : goal.returns-in-Ok-true-clause-fault
returns-in-Ok-true-clause-fault g c =
    damaged g.row.A.Denot c.args.lines.now c.in-Err-Damaged.table (λ n. subst (λ lines. ¬ TellOther lines n) c.as_slice.ensures.value (c.in_default.ensures n))
    (subst HaveNamesOnce c.as_slice-in-Err-Damaged.ensures.value (c.in-Ok-true.ensures.0 c.in-Ok-true.field-0-test)) (rw c.in-Err-Damaged.field-0-is at c.in-Err-Damaged.ensures.err)

pub returns-in-Ok-false-clause-twice : goal.returns-in-Ok-false-clause-twice
returns-in-Ok-false-clause-twice g c is once =
    both_ways c.in-Ok-false.field-0 c.in-Ok-false.field-0-test (c.in-Ok-false.ensures.1 (subst HaveNamesOnce (sym c.as_slice-in-Err-Damaged.ensures.value) once))
