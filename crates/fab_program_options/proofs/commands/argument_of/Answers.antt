use Rattle.std.proofs.Common.{◌∙◌, sym, ap}
use Rattle.fab_program_options.specs.CommandLine.{option_rule, rule_by}
use Rattle.fab_program_words.specs.Options.{option_name}
use Rattle.fab_program_words.specs.declared.options.OptionShape.{OptionShape}
use Rattle.fab_program_options.proofs.commands.argument_of.Goals as goal

pub returns-in-Value-clause-rule : goal.returns-in-Value-clause-rule
unfolding option_rule
returns-in-Value-clause-rule c = c.valued.ensures.rule ∙ ap (λ (s : OptionShape). rule_by s c.args.is_required (option_name c.args.option)) (sym c.in-Value.is ∙ c.shape.ensures)

pub returns-in-Place-clause-rule : goal.returns-in-Place-clause-rule
unfolding option_rule
returns-in-Place-clause-rule c = c.placed.ensures.rule ∙ ap (λ (s : OptionShape). rule_by s c.args.is_required (option_name c.args.option)) (sym c.in-Place.is ∙ c.shape.ensures)

pub returns-in-Flag-clause-rule : goal.returns-in-Flag-clause-rule
unfolding option_rule
returns-in-Flag-clause-rule c = c.flagged.ensures.rule ∙ ap (λ (s : OptionShape). rule_by s c.args.is_required (option_name c.args.option)) (sym c.in-Flag.is ∙ c.shape.ensures)
