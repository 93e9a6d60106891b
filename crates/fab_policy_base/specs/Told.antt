-- How a fault of a policy's text is told.
use Rattle.std.specs.Prelude.{ℕ, List, ◌++◌, codes}
use Rattle.fab_policy_base.specs.Words.{key_word}
use Rattle.fab_policy_base.specs.declared.fault.PolicyFault.{PolicyFault}
use Rattle.fab_policy_base.specs.declared.fault.PolicyFault.TheVariants as fault

-- the line that tells the fault, with the key or the name that it is about
abbrev pub fault_text : PolicyFault → List ℕ
fault_text fault.Text = codes "the text is no TOML"
fault_text (fault.Missing key) = codes "`" ++ key_word key ++ codes "` is missing"
fault_text (fault.WrongType key) = codes "`" ++ key_word key ++ codes "` has a wrong value"
fault_text (fault.Unknown name) = codes "`" ++ name ++ codes "` is not known"
fault_text (fault.Repeated name) = codes "`" ++ name ++ codes "` is repeated"
fault_text (fault.Limit key) = codes "`" ++ key_word key ++ codes "` is too long"
fault_text fault.Memory = codes "out of memory"
