use Rattle.std.proofs.Common.{◌≡◌, ◌∙◌, ℕ, List, Some, ap}
use Rattle.clap.specs.Words.{Rule, new_rule, rule_of}
use Rattle.clap.specs.declared.builder.action.ArgAction.TheVariants.{SetTrue}
use Rattle.fab_program_words.specs.Options.{option_name}
use Rattle.fab_program_options.proofs.Grown.{flag_made}
use Rattle.fab_program_options.proofs.commands.flagged.Goals as goal

pub returns-clause-rule : goal.returns-clause-rule
returns-clause-rule c =
    let r = c.args.is_required in
    let long : List ℕ = c.name-2.result.now in
    let made : rule_of c.help-2.result ≡ record (rule_of c.new.result) { long = Some long; action = Some SetTrue; required = r } = rw (c.help-2.ensures, c.required.ensures, c.action.ensures, c.long.ensures) (flag_made c.new.result c.name-2.result c.help.result r) in
    made
    ∙ ap (λ (x : Rule). record x { long = Some long; action = Some SetTrue; required = r }) c.new.ensures.rule
    ∙ ap (λ (id : List ℕ). record (new_rule id) { long = Some long; action = Some SetTrue; required = r }) c.name.ensures
    ∙ ap (λ (name : List ℕ). record (new_rule (option_name c.args.option)) { long = Some name; action = Some SetTrue; required = r }) c.name-2.ensures
