-- Readings of a text from the readings of its parts.
use Rattle.std.proofs.Common.{ℕ, ◌≡◌, List, ◌∷◌, ◌++◌, Option, Some, None, MatchOption, IsSomeAnd, Result, Ok, Err, MatchResult, OnErr, IfOk, IfErr, sym, ap, ◌∙◌, subst, arith, codes, get_or, drop}
use Rattle.std.specs.Result.{IsOkAnd}
use Rattle.fab_names.specs.Names.{IsNameText}
use Rattle.fab_names.specs.WorldWideNames.{SpellsWwn, SpellsPrintedWwn}
use Rattle.fab_names.specs.Addresses.{SpellsAddress, SpellsPrintedAddress}
use Rattle.fab_names.specs.Places.{Position, SpellsPosition, SpellsPlace}
use Rattle.fab_names.specs.Members.{SpellsMember, SpellsPrinted}
use Rattle.fab_names.specs.declared.member.Member.{Member}
use Rattle.fab_names.specs.declared.member.Member.TheVariants as member
use Rattle.fab_names.proofs.Numerals.{not_in_number}
use Rattle.fab_names.proofs.Splits.{Lacks, one_cut}

pub on_err : {X E : Type 0} {P Q : Type 0} (r : Result X E) → (P → Q) → OnErr r P → OnErr r Q
on_err (Ok x) f h = tt
on_err (Err e) f h = f h

pub if_err : {X E : Type 0} (P Q : E → Type 0) (r : Result X E) → ((e : E) → P e → Q e) → IfErr r P → IfErr r Q
if_err P Q (Ok x) f h = tt
if_err P Q (Err e) f h = f e h

-- what `map` with a constructor gives
abbrev pub IsMapped : {X Y E : Type 0} → (X → Y) → Result X E → Result Y E → Type 0
IsMapped make r s = MatchResult r (λ x. IsOkAnd s (λ y. y ≡ make x)) (λ e. s ≡ Err e)

pub mapped_ok : {X Y E : Type 0} {P : X → Type 0} (Q : Y → Type 0) (make : X → Y) (r : Result X E) (s : Result Y E) → IsMapped make r s → ((x : X) → P x → Q (make x)) → IfOk r P → IfOk s Q
mapped_ok Q make (Ok x) (Ok y) h f p = subst Q (sym h) (f x p)
mapped_ok Q make (Ok x) (Err e) h f p = tt
mapped_ok Q make (Err e) (Ok y) h f p = absurd cc
mapped_ok Q make (Err e) (Err g) h f p = tt

pub mapped_err : {X Y E : Type 0} {P Q : Type 0} (make : X → Y) (r : Result X E) (s : Result Y E) → IsMapped make r s → (P → Q) → OnErr r P → OnErr s Q
mapped_err make (Ok x) (Ok y) h f p = tt
mapped_err make (Ok x) (Err e) h f p = absurd h
mapped_err make (Err e) (Ok y) h f p = tt
mapped_err make (Err e) (Err g) h f p = f p

pub mapped_fault : {X Y E : Type 0} (P Q : E → Type 0) (make : X → Y) (r : Result X E) (s : Result Y E) → IsMapped make r s → ((e : E) → P e → Q e) → IfErr r P → IfErr s Q
mapped_fault P Q make (Ok x) (Ok y) h f p = tt
mapped_fault P Q make (Ok x) (Err e) h f p = absurd h
mapped_fault P Q make (Err e) (Ok y) h f p = tt
mapped_fault P Q make (Err e) (Err g) h f p = let same : e ≡ g = cc in f g (subst P same p)

-- what `map` of an option gives
pub mapped_option : {X Y : Type 0} {P : X → Type 0} (Q : Y → Type 0) (make : X → Y) (r : Option X) (s : Option Y) → MatchOption r (s ≡ None) (λ x. IsSomeAnd s (λ y. y ≡ make x)) → ((x : X) → P x → Q (make x)) → (((x : X) → ¬ P x) → (y : Y) → ¬ Q y)
    → MatchOption r ((x : X) → ¬ P x) P → MatchOption s ((y : Y) → ¬ Q y) Q
mapped_option {Y = Y} Q make None s h there none p = subst (λ (o : Option Y). MatchOption o ((y : Y) → ¬ Q y) Q) (sym h) (none p)
mapped_option Q make (Some x) (Some y) h there none p = subst Q (sym h) (there x p)
mapped_option Q make (Some x) None h there none p = absurd h

-- no printed form of a member by its N_Port_Name, by its Node_Name, or by its address
pub no_printed_port : (text rest : List ℕ) → text ≡ codes "wwpn=" ++ rest → ((n : ℕ) → ¬ SpellsPrintedWwn rest n) → (m : Member) → ¬ SpellsPrinted text m
no_printed_port text rest is none (member.Port n) s = let same : s.0.0 ≡ rest = ap (drop 5) (sym s.0.1 ∙ is) in none n (subst (λ t. SpellsWwn t n) same s.0.2, ap (drop 5) (sym is ∙ s.1))
no_printed_port text rest is none (member.Node n) s = omega (arith, ap (λ (t : List ℕ). get_or t 2 0) (sym is ∙ s.0.1))
no_printed_port text rest is none (member.Place p) s = omega (arith, ap (λ (t : List ℕ). get_or t 0 0) (sym is ∙ s.0.1))
no_printed_port text rest is none (member.Address x) s = omega (arith, ap (λ (t : List ℕ). get_or t 0 0) (sym is ∙ s.0.1))
no_printed_port text rest is none (member.Alias a) s = omega (arith, ap (λ (t : List ℕ). get_or t 0 0) (sym is ∙ s.0.1))

pub no_printed_node : (text rest : List ℕ) → text ≡ codes "wwnn=" ++ rest → ((n : ℕ) → ¬ SpellsPrintedWwn rest n) → (m : Member) → ¬ SpellsPrinted text m
no_printed_node text rest is none (member.Port n) s = omega (arith, ap (λ (t : List ℕ). get_or t 2 0) (sym is ∙ s.0.1))
no_printed_node text rest is none (member.Node n) s = let same : s.0.0 ≡ rest = ap (drop 5) (sym s.0.1 ∙ is) in none n (subst (λ t. SpellsWwn t n) same s.0.2, ap (drop 5) (sym is ∙ s.1))
no_printed_node text rest is none (member.Place p) s = omega (arith, ap (λ (t : List ℕ). get_or t 0 0) (sym is ∙ s.0.1))
no_printed_node text rest is none (member.Address x) s = omega (arith, ap (λ (t : List ℕ). get_or t 0 0) (sym is ∙ s.0.1))
no_printed_node text rest is none (member.Alias a) s = omega (arith, ap (λ (t : List ℕ). get_or t 0 0) (sym is ∙ s.0.1))

pub no_printed_address : (text rest : List ℕ) → text ≡ codes "id=" ++ rest → ((n : ℕ) → ¬ SpellsPrintedAddress rest n) → (m : Member) → ¬ SpellsPrinted text m
no_printed_address text rest is none (member.Port n) s = omega (arith, ap (λ (t : List ℕ). get_or t 0 0) (sym is ∙ s.0.1))
no_printed_address text rest is none (member.Node n) s = omega (arith, ap (λ (t : List ℕ). get_or t 0 0) (sym is ∙ s.0.1))
no_printed_address text rest is none (member.Place p) s = omega (arith, ap (λ (t : List ℕ). get_or t 0 0) (sym is ∙ s.0.1))
no_printed_address text rest is none (member.Address x) s = let same : s.0.0 ≡ rest = ap (drop 3) (sym s.0.1 ∙ is) in none x (subst (λ t. SpellsAddress t x) same s.0.2, ap (drop 3) (sym is ∙ s.1))
no_printed_address text rest is none (member.Alias a) s = omega (arith, ap (λ (t : List ℕ). get_or t 0 0) (sym is ∙ s.0.1))

-- a text spells no place where the parts around its first comma spell none
pub no_place : (text domain slot : List ℕ) → text ≡ domain ++ 44 ∷ slot → Lacks 44 domain → ((p : Position) → ¬ SpellsPosition domain slot p) → (p : Position) → ¬ SpellsPlace text p
no_place text domain slot is first none p (domain2, slot2, is2, spelled) =
    let cut = one_cut 44 domain slot domain2 slot2 first (not_in_number 44 (λ h. omega arith) domain2 p.domain spelled.domain_number) (sym is ∙ is2) in
    none p (subst (λ d. SpellsPosition d slot p) (sym cut.0) (subst (λ s. SpellsPosition domain2 s p) (sym cut.1) spelled))

-- what follows the word of a kind decides
pub no_port : (text rest : List ℕ) → text ≡ codes "wwpn=" ++ rest → ((n : ℕ) → ¬ SpellsWwn rest n) → (m : Member) → ¬ SpellsMember text m
no_port text rest is none (member.Port n) s = let same : s.0 ≡ rest = ap (drop 5) (sym s.1 ∙ is) in none n (subst (λ t. SpellsWwn t n) same s.2)
no_port text rest is none (member.Node n) s = omega (arith, ap (λ (t : List ℕ). get_or t 2 0) (sym is ∙ s.1))
no_port text rest is none (member.Place p) s = omega (arith, ap (λ (t : List ℕ). get_or t 0 0) (sym is ∙ s.1))
no_port text rest is none (member.Address x) s = omega (arith, ap (λ (t : List ℕ). get_or t 0 0) (sym is ∙ s.1))
no_port text rest is none (member.Alias a) s = omega (arith, ap (λ (t : List ℕ). get_or t 0 0) (sym is ∙ s.1))

pub no_node : (text rest : List ℕ) → text ≡ codes "wwnn=" ++ rest → ((n : ℕ) → ¬ SpellsWwn rest n) → (m : Member) → ¬ SpellsMember text m
no_node text rest is none (member.Port n) s = omega (arith, ap (λ (t : List ℕ). get_or t 2 0) (sym is ∙ s.1))
no_node text rest is none (member.Node n) s = let same : s.0 ≡ rest = ap (drop 5) (sym s.1 ∙ is) in none n (subst (λ t. SpellsWwn t n) same s.2)
no_node text rest is none (member.Place p) s = omega (arith, ap (λ (t : List ℕ). get_or t 0 0) (sym is ∙ s.1))
no_node text rest is none (member.Address x) s = omega (arith, ap (λ (t : List ℕ). get_or t 0 0) (sym is ∙ s.1))
no_node text rest is none (member.Alias a) s = omega (arith, ap (λ (t : List ℕ). get_or t 0 0) (sym is ∙ s.1))

pub no_place_member : (text rest : List ℕ) → text ≡ codes "dp=" ++ rest → ((p : Position) → ¬ SpellsPlace rest p) → (m : Member) → ¬ SpellsMember text m
no_place_member text rest is none (member.Port n) s = omega (arith, ap (λ (t : List ℕ). get_or t 0 0) (sym is ∙ s.1))
no_place_member text rest is none (member.Node n) s = omega (arith, ap (λ (t : List ℕ). get_or t 0 0) (sym is ∙ s.1))
no_place_member text rest is none (member.Place p) s = let same : s.0 ≡ rest = ap (drop 3) (sym s.1 ∙ is) in none p (subst (λ t. SpellsPlace t p) same s.2)
no_place_member text rest is none (member.Address x) s = omega (arith, ap (λ (t : List ℕ). get_or t 0 0) (sym is ∙ s.1))
no_place_member text rest is none (member.Alias a) s = omega (arith, ap (λ (t : List ℕ). get_or t 0 0) (sym is ∙ s.1))

pub no_address : (text rest : List ℕ) → text ≡ codes "id=" ++ rest → ((n : ℕ) → ¬ SpellsAddress rest n) → (m : Member) → ¬ SpellsMember text m
no_address text rest is none (member.Port n) s = omega (arith, ap (λ (t : List ℕ). get_or t 0 0) (sym is ∙ s.1))
no_address text rest is none (member.Node n) s = omega (arith, ap (λ (t : List ℕ). get_or t 0 0) (sym is ∙ s.1))
no_address text rest is none (member.Place p) s = omega (arith, ap (λ (t : List ℕ). get_or t 0 0) (sym is ∙ s.1))
no_address text rest is none (member.Address x) s = let same : s.0 ≡ rest = ap (drop 3) (sym s.1 ∙ is) in none x (subst (λ t. SpellsAddress t x) same s.2)
no_address text rest is none (member.Alias a) s = omega (arith, ap (λ (t : List ℕ). get_or t 0 0) (sym is ∙ s.1))

pub no_alias : (text rest : List ℕ) → text ≡ codes "alias=" ++ rest → ¬ IsNameText rest → (m : Member) → ¬ SpellsMember text m
no_alias text rest is none (member.Port n) s = omega (arith, ap (λ (t : List ℕ). get_or t 0 0) (sym is ∙ s.1))
no_alias text rest is none (member.Node n) s = omega (arith, ap (λ (t : List ℕ). get_or t 0 0) (sym is ∙ s.1))
no_alias text rest is none (member.Place p) s = omega (arith, ap (λ (t : List ℕ). get_or t 0 0) (sym is ∙ s.1))
no_alias text rest is none (member.Address x) s = omega (arith, ap (λ (t : List ℕ). get_or t 0 0) (sym is ∙ s.1))
no_alias text rest is none (member.Alias a) s = let same : s.0 ≡ rest = ap (drop 6) (sym s.1 ∙ is) in none (subst IsNameText same s.2.1)
