-- The keys of a table, as entries of a map and as members.
use Rattle.std.proofs.Common.{◌≡◌, ℕ, Bool, true, false, not, List, [], ◌∷◌, Option, Some, None, cond, String, Global, string_bytes, Ordering, Less, Equal, Greater, nat_cmp, is_eq, refl, sym, ap, ◌∙◌}
use Rattle.std.specs.Prelude.{find, is_some}
use Rattle.std.specs.Map.{keys_of}
use Rattle.std.specs.Ordering.{match_ordering}
use Rattle.std.specs.Cmp.{tied_itself}
use Rattle.std.specs.Cmp.Lexicographic.{slice_cmp, same_text}
use Rattle.std.proofs.lemmas.Cmp.{nat_list_cmp_total}
use Rattle.std.proofs.lemmas.Map.Text.{is_eq-slice_cmp}
use Rattle.std.proofs.lemmas.Option.{same_Some}
use Rattle.toml.specs.Data.{Data, get_member}
use Rattle.toml.specs.View.{view, members_view}
use Rattle.toml.specs.declared.value.Value.{Value}

abbrev pub Entry : Type 0
Entry = String Global × Value

-- where all keys pass the test, so does the one that is looked up: here or further on
passes_here : {P S : Type 0} (o : Ordering) (b : Bool) (s : S) (others : Option S) (d : Data) (rest : Option Data) → cond (not b) (Some s) others ≡ None → is_some (match_ordering o rest (Some d) rest) ≡ true → (others ≡ None → is_some rest ≡ true → P) → (o ≡ Equal → b ≡ true → P) → P
passes_here o false s others d rest none there more here = cc
passes_here Less true s others d rest none there more here = more none there
passes_here Equal true s others d rest none there more here = here refl refl
passes_here Greater true s others d rest none there more here = more none there

-- each key that is there passes, where no entry's fails
pub all_pass : (t : List ℕ → Bool) (k : List ℕ) (es : List Entry) → find (λ s. not (t (string_bytes s))) (keys_of es) ≡ None → is_some (get_member k (members_view es)) ≡ true → t k ≡ true
all_pass t k [] none there = cc
all_pass t k (e ∷ es) none there =
    passes_here (slice_cmp nat_cmp k (string_bytes e.0)) (t (string_bytes e.0)) e.0 _ (view e.1) (get_member k (members_view es)) none there
    (all_pass t k es)
    (λ equal yes. ap t (same_text k (string_bytes e.0) (sym (ap is_eq equal) ∙ is_eq-slice_cmp k (string_bytes e.0))) ∙ yes)

found_here : (o : Ordering) (d : Data) (rest : Option Data) → o ≡ Equal → is_some (match_ordering o rest (Some d) rest) ≡ true
found_here Equal d rest e = refl
found_here Less d rest e = cc
found_here Greater d rest e = cc

found_later : (o : Ordering) (d : Data) (rest : Option Data) → is_some rest ≡ true → is_some (match_ordering o rest (Some d) rest) ≡ true
found_later Equal d rest e = refl
found_later Less d rest e = e
found_later Greater d rest e = e

fails_here : {P S : Type 0} (b : Bool) (s x : S) (others : Option S) → cond (not b) (Some s) others ≡ Some x → (others ≡ Some x → P) → (s ≡ x → b ≡ false → P) → P
fails_here true s x others h more here = more h
fails_here false s x others h more here = here (same_Some s x h) refl

-- an entry whose key fails is there
pub one_fails : (t : List ℕ → Bool) (s : String Global) (es : List Entry) → find (λ s. not (t (string_bytes s))) (keys_of es) ≡ Some s → (is_some (get_member (string_bytes s) (members_view es)) ≡ true) × (t (string_bytes s) ≡ false)
one_fails t s [] h = cc
one_fails t s (e ∷ es) h =
    let o = slice_cmp nat_cmp (string_bytes s) (string_bytes e.0) in
    fails_here (t (string_bytes e.0)) e.0 s _ h
    (λ later. let more = one_fails t s es later in (found_later o (view e.1) _ more.0, more.1))
    (λ same no. (found_here o (view e.1) _ (ap (λ x. slice_cmp nat_cmp (string_bytes s) (string_bytes x)) same ∙ tied_itself nat_list_cmp_total (string_bytes s)), ap (λ x. t (string_bytes x)) (sym same) ∙ no))
