-- What a line that spells a step says of its lists.
use Rattle.std.proofs.Common.{ℕ, ◌≡◌, ◌<◌, ◌≤◌, List, [], ◌∷◌, length, map, All, arith, suc, refl, subst, ap}
use Rattle.std.proofs.lemmas.List.{length-map}
use Rattle.std.proofs.lemmas.List.Elements.{All-nil, All-cons}
use Rattle.fab_reach_base.specs.fab_names.declared.fabric.Fabric.{Fabric}
use Rattle.fab_reach_base.specs.fab_names.declared.member.Member.{Member}
use Rattle.fab_reach_base.specs.fab_names.declared.member.Member.TheVariants as member
use Rattle.fab_reach_base.specs.fab_zoning_rows.Rows.{IsPlain}
use Rattle.fab_reach_base.specs.fab_zoning.Steps.{IsListing}
use Rattle.fab_plans_text.specs.fab_plans_base.Texts.{words_of}
use Rattle.fab_plans_text.specs.fab_plans_base.Steps.{PlanStep, alias_put, zone_put, set_put, host_group_put, group_map}
use Rattle.fab_plans_text.specs.fab_plans_base.Values.{Value, of_fabric, of_name, of_unit, of_member, of_port_member, NamesPorts, SpellsValues}
use Rattle.fab_plans_text.specs.fab_plans_base.Forms.{form_of, Takes, keyword_of, values_of}
use Rattle.fab_plans_text.specs.fab_plans_base.Plans.{SpellsStep, IsStep}
use Rattle.fab_plans_text.proofs.Measures.{words_taken}

-- as many words as values
as_many : (words : List (List ℕ)) (vs : List Value) → SpellsValues words vs → length words ≡ length vs
as_many [] [] h = refl
as_many [] (v ∷ vs) h = absurd h
as_many (w ∷ words) [] h = absurd h
as_many (w ∷ words) (v ∷ vs) h = ap suc (as_many words vs h.1)

-- as many values follow as words may
taken : (step : PlanStep) (words : List (List ℕ)) → SpellsStep words step → Takes (form_of (keyword_of step)) (length (values_of step))
taken step [] h = absurd h
taken step (first ∷ others) h = subst (Takes (form_of (keyword_of step))) (as_many others (values_of step) h.values) h.count

-- two values and a list of so many items
counted : {X : Type 0} (make : X → Value) (v w : Value) (xs : List X) → (2 < length (v ∷ w ∷ map make xs)) × (length (v ∷ w ∷ map make xs) ≤ 257) → IsListing (length xs)
counted make v w xs h = (omega (arith, length-map xs make, h.0), omega (arith, length-map xs make, h.1))

-- lists have 1 to 255 items
pub alias_listing : (f : Fabric) (n : List ℕ) (ms : List Member) → IsStep (alias_put f n ms) → IsListing (length ms)
alias_listing f n ms h = counted of_port_member (of_fabric f) (of_name n) ms (words_taken (alias_put f n ms) h)

pub zone_listing : (f : Fabric) (n : List ℕ) (ms : List Member) → IsStep (zone_put f n ms) → IsListing (length ms)
zone_listing f n ms h = counted of_member (of_fabric f) (of_name n) ms (words_taken (zone_put f n ms) h)

pub set_listing : (f : Fabric) (n : List ℕ) (zs : List (List ℕ)) → IsStep (set_put f n zs) → IsListing (length zs)
set_listing f n zs h = counted of_name (of_fabric f) (of_name n) zs (words_taken (set_put f n zs) h)

pub host_listing : (n t : List ℕ) (hs : List (List ℕ)) → IsStep (host_group_put n t hs) → IsListing (length hs)
host_listing n t hs h = counted of_name (of_name n) (of_name t) hs (words_taken (host_group_put n t hs) h)

-- the members of an alias are no aliases
plain : (m : Member) → NamesPorts m → IsPlain m
plain (member.Port w) h a = λ e. cc
plain (member.Node w) h a = λ e. cc
plain (member.Place p) h a = λ e. cc
plain (member.Address n) h a = λ e. cc
plain (member.Alias b) h a = absurd h

all_plain : (words : List (List ℕ)) (ms : List Member) → SpellsValues words (map of_port_member ms) → All IsPlain ms
all_plain words [] h = All-nil IsPlain
all_plain [] (m ∷ ms) h = absurd h
all_plain (w ∷ words) (m ∷ ms) h = All-cons IsPlain m ms (plain m h.0.1) (all_plain words ms h.1)

plain_words : (f : Fabric) (n : List ℕ) (ms : List Member) (others : List (List ℕ)) → SpellsValues others (of_fabric f ∷ of_name n ∷ map of_port_member ms) → All IsPlain ms
plain_words f n ms [] h = absurd h
plain_words f n ms (w ∷ []) h = absurd h.1
plain_words f n ms (w ∷ x ∷ words) h = all_plain words ms h.1.1

plain_line : (f : Fabric) (n : List ℕ) (ms : List Member) (words : List (List ℕ)) → SpellsStep words (alias_put f n ms) → All IsPlain ms
plain_line f n ms [] h = absurd h
plain_line f n ms (first ∷ others) h = plain_words f n ms others h.values

pub alias_plain : (f : Fabric) (n : List ℕ) (ms : List Member) → IsStep (alias_put f n ms) → All IsPlain ms
alias_plain f n ms h = plain_line f n ms (words_of h.0) h.1

-- a unit is no greater than the last
unit_words : (n : List ℕ) (u : ℕ) (x : List ℕ) (others : List (List ℕ)) → SpellsValues others (of_name n ∷ of_unit u ∷ of_name x ∷ []) → u ≤ 16383
unit_words n u x [] h = absurd h
unit_words n u x (a ∷ []) h = absurd h.1
unit_words n u x (a ∷ b ∷ words) h = h.1.0.in_range

unit_line : (n : List ℕ) (u : ℕ) (x : List ℕ) (words : List (List ℕ)) → SpellsStep words (group_map n u x) → u ≤ 16383
unit_line n u x [] h = absurd h
unit_line n u x (first ∷ others) h = unit_words n u x others h.values

pub unit_within : (n : List ℕ) (u : ℕ) (x : List ℕ) → IsStep (group_map n u x) → u ≤ 16383
unit_within n u x h = unit_line n u x (words_of h.0) h.1
