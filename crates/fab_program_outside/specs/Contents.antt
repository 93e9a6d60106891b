-- What files contain, and what stands at paths.
use Rattle.std.specs.Prelude.{ℕ, ◌≡◌, ◌<◌, ◌+◌, ◌^◌, ◌⊎◌, List, length, take, Option, Some, None, IfSome, Result, Ok, Err, IsUtf8}
use Rattle.fab_policy_base.specs.Policies.{PolicyRows}
use Rattle.fab_policy_text.specs.Shapes.{IsMemory}
use Rattle.fab_policy_text.specs.Tables.{SpellsPolicy}
use Rattle.fab_policy_base.specs.declared.PolicyFault.{PolicyFault}
use Rattle.fab_policy_base.specs.declared.PolicyFault.TheVariants as why
use Rattle.fab_wire_streams.specs.Counting.{failures_of}
use Rattle.fab_wire_streams.specs.declared.counted.Counted.{Counted}
use Rattle.fab_program_outside.specs.declared.faults.Fault.{Fault}
use Rattle.fab_program_outside.specs.declared.faults.Fault.TheVariants.{File, Policy, Memory}
use Rattle.fab_program_outside.specs.declared.files.Size.{Size}
use Rattle.fab_program_outside.specs.declared.files.Size.TheVariants.{Nothing, Bytes}

-- ---- what stands at a path

-- nothing is there, or an empty file
abbrev pub IsEmpty : Size → Type 0
IsEmpty size = (size ≡ Nothing) ⊎ (size ≡ Bytes 0)

abbrev pub IsFree : (Size → Type 0) → Type 0
IsFree Measures = (size : Size) × Measures size × IsEmpty size

abbrev pub IsUsed : (Size → Type 0) → Type 0
IsUsed Measures = (size : Size) × Measures size × ¬ IsEmpty size

-- ---- the bytes of a file

-- how many bytes a file may have that the program reads whole
abbrev pub most_file : ℕ
most_file = 2 ^ 20

-- there are more
abbrev pub IsTooLarge : List ℕ → Type 0
IsTooLarge bytes = most_file < length bytes

-- the bytes that a reader gives, where it tells them: all of them, or the first, one more than a file may have
abbrev pub HasFirst : Option (List ℕ) → List ℕ → Type 0
HasFirst whole bytes = IfSome whole (λ all. bytes ≡ take (most_file + 1) all)

-- a read failed, by how many had failed before and have failed now; or there was no memory
abbrev pub IsReadFault : (before after : ℕ) → Fault → Type 0
IsReadFault before after fault = ((before < after) × (fault ≡ File)) ⊎ (fault ≡ Memory)

module _ {F : Type 0} (remaining : F → Option (List ℕ)) (Opens : Option F → Type 0) where
  -- a file was opened that has the bytes
  abbrev pub HasContent : List ℕ → Type 0
  HasContent bytes = (file : F) × Opens (Some file) × HasFirst (remaining file) bytes

module _ {F : Type 0} (Opens : Option F → Type 0) where
  -- no file was opened; or one was, and was not read to its end, as the count of its failed reads tells
  abbrev pub IsUnread : Fault → Type 0
  IsUnread fault = (Opens None × (fault ≡ File)) ⊎ ((file : F) × Opens (Some file) × (read : Counted F) × IsReadFault 0 (failures_of read) fault)

-- ---- the policy of a file

-- the fault of a text that spells no policy, and of want of memory
abbrev pub fault_of_policy : PolicyFault → Fault
fault_of_policy why.Memory = Memory
fault_of_policy other = Policy

-- what reading a policy from a text comes to
abbrev pub IsPolicyFrom : List ℕ → Result PolicyRows Fault → Type 0
IsPolicyFrom text (Ok policy) = SpellsPolicy text policy
IsPolicyFrom text (Err fault) = (refusal : PolicyFault) × (fault ≡ fault_of_policy refusal) × (¬ IsMemory refusal → (policy : PolicyRows) → ¬ SpellsPolicy text policy)

-- there are too many bytes, or they are no text
abbrev pub IsNoPolicyText : List ℕ → Type 0
IsNoPolicyText bytes = IsTooLarge bytes ⊎ ¬ IsUtf8 bytes

-- what the bytes of a file come to: no more of them than a file may have, which are text, spell a policy
abbrev pub IsPolicyOf : List ℕ → Result PolicyRows Fault → Type 0
IsPolicyOf bytes came = (IsNoPolicyText bytes × (came ≡ Err Policy)) ⊎ (¬ IsNoPolicyText bytes × IsPolicyFrom bytes came)

-- what the policy of a file comes to
abbrev pub IsPolicyAt : {F : Type 0} → (F → Option (List ℕ)) → (Option F → Type 0) → Result PolicyRows Fault → Type 0
IsPolicyAt remaining Opens came =
    ((fault : Fault) × IsUnread Opens fault × (came ≡ Err fault)) ⊎ ((bytes : List ℕ) × HasContent remaining Opens bytes × IsPolicyOf bytes came)
