use Rattle.std.proofs.Common.{◌∙◌, sym, ap, string_bytes}
use Rattle.fab_policy_base.specs.Words.{is_word_of}
use Rattle.fab_policy_base.specs.declared.fault.PolicyFault.TheVariants as fault
use Rattle.fab_policy_text.proofs.OtherKeys.{all_pass, one_fails}
use Rattle.fab_policy_text.proofs.read.only.Goals as goal

pub returns-in-Some-clause-fault : goal.returns-in-Some-clause-fault
returns-in-Some-clause-fault c m =
    let found = one_fails (is_word_of c.args.keys.now) c.in-Some.key.now c.args.table.now.entries (sym c.in-Some.ensures) in
    record { text = string_bytes c.in-Some.key.now; there = found.0; other = found.1; unknown = c.unknown.ensures m ∙ ap fault.Unknown c.as_str.ensures.value }

pub returns-in-None-clause-ok : goal.returns-in-None-clause-ok
returns-in-None-clause-ok c text there = all_pass (is_word_of c.args.keys.now) text c.args.table.now.entries (sym c.in-None.ensures) there
