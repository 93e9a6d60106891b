-- The options of the command line: their names, how they stand in the words, and their values.
use Rattle.std.specs.Prelude.{List, Option, codes}
use Rattle.clap.specs.Words.{Row, Text, first_of}
use Rattle.fab_program_words.specs.declared.options.OptionKind.{OptionKind}
use Rattle.fab_program_words.specs.declared.options.OptionKind.TheVariants.{Db, Policy, Listen, Count, Now, Token, Fabric, File, Host, Plan, Volume, Kind, Json, PlanFile, Ports, State, Port, Rules, Caller, Action, Fabrics, Tenants, Author, Approved, Revision, MostLost}
use Rattle.fab_program_words.specs.declared.options.OptionShape.{OptionShape}
use Rattle.fab_program_words.specs.declared.options.OptionShape.TheVariants as shape

abbrev pub option_name : OptionKind → Text
option_name Db = codes "db"
option_name Policy = codes "policy"
option_name Listen = codes "listen"
option_name Count = codes "count"
option_name Now = codes "now"
option_name Token = codes "token"
option_name Fabric = codes "fabric"
option_name File = codes "file"
option_name Host = codes "host"
option_name Plan = codes "plan"
option_name Volume = codes "volume"
option_name Kind = codes "kind"
option_name Json = codes "json"
option_name PlanFile = codes "plan"
option_name Ports = codes "ports"
option_name State = codes "state"
option_name Port = codes "port"
option_name Rules = codes "rules"
option_name Caller = codes "caller"
option_name Action = codes "action"
option_name Fabrics = codes "fabric"
option_name Tenants = codes "tenants"
option_name Author = codes "author"
option_name Approved = codes "approved"
option_name Revision = codes "revision"
option_name MostLost = codes "most-lost"

-- a kind of list stands without a word before it, and JSON and rules are asked for by a word alone
abbrev pub shape_of : OptionKind → OptionShape
shape_of Kind = shape.Place
shape_of Json = shape.Flag
shape_of Rules = shape.Flag
shape_of other = shape.Value

-- the value of an option
abbrev pub value_of : OptionKind → List Row → Option Text
value_of option rows = first_of (option_name option) rows
