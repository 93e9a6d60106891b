-- How a command grows, of which private clauses speak.
use Rattle.std.specs.Prelude.{◌≡◌, ◌++◌, List}
use Rattle.clap.specs.Words.{App, Rule, app_of}
use Rattle.clap.specs.declared.builder.command.Command.TheViews.{out-Command}
use Rattle.clap.specs.declared.builder.command.Command.{Command}

-- some rules more
abbrev pub with_rules : App → List Rule → App
with_rules app rules = record app { top = record app.top { rules = app.top.rules ++ rules } }

-- a command has some rules more than another
pub record Gains (old : Command) (rules : List Rule) (new : Command) : Type 0 where
  pub app : app_of new ≡ with_rules (app_of old) rules
  pub globals : (out-Command new).has_globals ≡ (out-Command old).has_globals
