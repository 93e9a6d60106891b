-- What is read of a reader that is cut off, and of a file.
use Rattle.std.proofs.Common.{◌≡◌, ◌∙◌, ap, subst, inr, ℕ, List, [], ◌++◌, take, Option, Some, None, IfSome, Result, Ok, Err, MatchResult}
use Rattle.std.specs.Option.{option_map}
use Rattle.fab_wire_streams.specs.Counting.{inner_of, failures_of}
use Rattle.fab_wire_streams.specs.declared.counted.Counted.{Counted}
use Rattle.fab_program_outside.specs.Contents.{HasContent, HasFirst, IsReadFault, IsUnread}
use Rattle.fab_program_outside.specs.declared.faults.Fault.{Fault}

-- what is read of the first bytes are the first bytes
pub first_of : (whole : Option (List ℕ)) (most : ℕ) (old bytes : List ℕ) → old ≡ [] → IfSome (option_map (take most) whole) (λ xs. bytes ≡ old ++ xs) → IfSome whole (λ all. bytes ≡ take most all)
first_of None most old bytes empty read = tt
first_of (Some all) most old bytes empty read = read ∙ ap (λ xs. xs ++ take most all) empty

-- what is read of a reader whose failed reads are counted is read of the file that was opened
pub read_of : {F V : Type 0} (known : F → Option (List ℕ)) (Opens : Option F → Type 0) (items : V → List ℕ) (file : F) (before after : Counted F) (came : Result V Fault)
    → Opens (Some file) → inner_of before ≡ file → failures_of before ≡ 0
    → MatchResult came (λ bytes. HasFirst (known (inner_of before)) (items bytes)) (IsReadFault (failures_of before) (failures_of after))
    → MatchResult came (λ bytes. HasContent known Opens (items bytes)) (IsUnread Opens)
read_of known Opens items file before after (Ok bytes) opened inner none read = (file, opened, subst (λ f. HasFirst (known f) (items bytes)) inner read)
read_of known Opens items file before after (Err fault) opened inner none read = inr (file, opened, after, subst (λ (n : ℕ). IsReadFault n (failures_of after) fault) none read)
