-- The lines on standard error that tell why the program could not do what was asked.
use Rattle.std.specs.Prelude.{ℕ, List, [], ◌∷◌, codes, decimal}
use Rattle.std.specs.List.{flat_map}
use Rattle.fab_store_load.specs.TableNames.{table_name}
use Rattle.fab_store_load.specs.declared.fault.OpenFault.{OpenFault}
use Rattle.fab_store_load.specs.declared.fault.OpenFault.TheVariants as opening
use Rattle.fab_program_outside.specs.declared.faults.Fault.{Fault}
use Rattle.fab_program_outside.specs.declared.faults.Fault.TheVariants.{File, Policy, Store, Memory, Listen, Stream, Clock, Damaged, NewerSchema}

-- the word that names the fault
abbrev pub word_of : Fault → List ℕ
word_of File = codes "file"
word_of Policy = codes "policy"
word_of Store = codes "store"
word_of Memory = codes "memory"
word_of Listen = codes "listen"
word_of Stream = codes "stream"
word_of Clock = codes "clock"
word_of (Damaged t) = codes "damaged"
word_of (NewerSchema n) = codes "newer-schema"

-- a line of one word
unfoldable pub word_line : List ℕ → List ℕ
word_line word = flat_map (λ piece. piece) (codes "sandesk: " ∷ word ∷ codes "\n" ∷ [])

-- a line of a word and what it is about
unfoldable pub detail_line : List ℕ → List ℕ → List ℕ
detail_line word detail = flat_map (λ piece. piece) (codes "sandesk: " ∷ word ∷ codes " " ∷ detail ∷ codes "\n" ∷ [])

-- the line of a fault: its word, and behind it the damaged table or the newer schema
abbrev pub line_of : Fault → List ℕ
line_of (Damaged t) = detail_line (word_of (Damaged t)) (table_name t)
line_of (NewerSchema n) = detail_line (word_of (NewerSchema n)) (decimal n)
line_of other = word_line (word_of other)

-- the line of words that have not their text form
abbrev pub words_line : List ℕ
words_line = word_line (codes "words")

-- the fault of tables that are not those of a desk, or could not be read
abbrev pub fault_of_opening : OpenFault → Fault
fault_of_opening (opening.Damaged table) = Damaged table
fault_of_opening (opening.NewerSchema schema) = NewerSchema schema
fault_of_opening (opening.OldSchema schema) = Store
fault_of_opening opening.Store = Store
fault_of_opening opening.Memory = Memory
