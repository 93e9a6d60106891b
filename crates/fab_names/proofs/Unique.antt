-- A text spells one value at most.
use Rattle.std.proofs.Common.{ℕ, ◌≡◌, List, get_or, length, drop, refl, sym, ap, ◌∙◌, subst, arith, inl, inr}
use Rattle.fab_names.specs.WorldWideNames.{SpellsDigits, SpellsWwn, number_of}
use Rattle.fab_names.specs.Addresses.{IsSixOf, SpellsSix, SpellsAddress}
use Rattle.fab_names.specs.Addresses.{number_of as six_number}
use Rattle.fab_names.specs.Places.{Position, SpellsPlace}
use Rattle.fab_names.specs.Numbers.{SpellsNumber}
use Rattle.fab_names.specs.Fabrics.{SpellsFabric}
use Rattle.fab_names.specs.Members.{SpellsMember}
use Rattle.fab_names.specs.declared.fabric.Fabric.{Fabric}
use Rattle.fab_names.specs.declared.fabric.Fabric.TheVariants.{A, B}
use Rattle.fab_names.specs.declared.member.Member.{Member}
use Rattle.fab_names.specs.declared.member.Member.TheVariants as member
use Rattle.fab_names.proofs.Digits.{one_reading}
use Rattle.fab_names.proofs.Numerals.{one_number, not_in_number}
use Rattle.fab_names.proofs.Splits.{one_cut}

pub one_fabric : (text : List ℕ) (f g : Fabric) → SpellsFabric text f → SpellsFabric text g → f ≡ g
one_fabric text A A s t = refl
one_fabric text A B s t = absurd (omega (arith, ap (λ (x : List ℕ). get_or x 0 0) (sym s ∙ t)))
one_fabric text B A s t = absurd (omega (arith, ap (λ (x : List ℕ). get_or x 0 0) (sym s ∙ t)))
one_fabric text B B s t = refl

pub one_number_of_digits : (text : List ℕ) (n m : ℕ) → SpellsDigits text n → SpellsDigits text m → n ≡ m
one_number_of_digits text n m s t = sym s.value ∙ ap number_of (one_reading s.digits t.digits text s.sixteen t.sixteen s.form t.form) ∙ t.value

pub one_wwn : (text : List ℕ) (n m : ℕ) → SpellsWwn text n → SpellsWwn text m → n ≡ m
one_wwn text n m s t = one_number_of_digits text n m s.0 t.0

pub one_place : (text : List ℕ) (p q : Position) → SpellsPlace text p → SpellsPlace text q → p ≡ q
one_place text p q (d, s, is, spelled) (e, t, is2, spelled2) =
    let cut = one_cut 44 d s e t (not_in_number 44 (λ h. omega arith) d p.domain spelled.domain_number) (not_in_number 44 (λ h. omega arith) e q.domain spelled2.domain_number) (sym is ∙ is2) in
    let domain : p.domain ≡ q.domain = one_number e p.domain q.domain (subst (λ x. SpellsNumber x p.domain) cut.0 spelled.domain_number) spelled2.domain_number in
    let slot : p.slot ≡ q.slot = one_number t p.slot q.slot (subst (λ x. SpellsNumber x p.slot) cut.1 spelled.slot_number) spelled2.slot_number in
    λ i. record { domain = domain i; slot = slot i }

-- a text has one list of six digits at most
pub one_six : (ds es t : List ℕ) → length ds ≡ 6 → length es ≡ 6 → IsSixOf ds t → IsSixOf es t → ds ≡ es
one_six ds es t h k (inl a) (inl b) = sym a ∙ b
one_six ds es t h k (inl a) (inr b) = absurd (omega (arith, h, k, ap length (sym a ∙ b)))
one_six ds es t h k (inr a) (inl b) = absurd (omega (arith, h, k, ap length (sym a ∙ b)))
one_six ds es t h k (inr a) (inr b) = ap (drop 2) (sym a ∙ b)

pub one_number_of_six : (text : List ℕ) (n m : ℕ) → SpellsSix text n → SpellsSix text m → n ≡ m
one_number_of_six text n m s t = sym s.value ∙ ap six_number (one_six s.digits t.digits text s.six t.six s.form t.form) ∙ t.value

pub one_address : (text : List ℕ) (n m : ℕ) → SpellsAddress text n → SpellsAddress text m → n ≡ m
one_address text n m s t = one_number_of_six text n m s.0 t.0

-- a member's text is that of one member
pub one_member : (text : List ℕ) (m k : Member) → SpellsMember text m → SpellsMember text k → m ≡ k
one_member text (member.Port n) (member.Port m) s t = let same : s.0 ≡ t.0 = ap (drop 5) (sym s.1 ∙ t.1) in ap member.Port (one_wwn t.0 n m (subst (λ z. SpellsWwn z n) same s.2) t.2)
one_member text (member.Port n) (member.Node m) s t = absurd (omega (arith, ap (λ (x : List ℕ). get_or x 2 0) (sym s.1 ∙ t.1)))
one_member text (member.Port n) (member.Place q) s t = absurd (omega (arith, ap (λ (x : List ℕ). get_or x 0 0) (sym s.1 ∙ t.1)))
one_member text (member.Port n) (member.Address y) s t = absurd (omega (arith, ap (λ (x : List ℕ). get_or x 0 0) (sym s.1 ∙ t.1)))
one_member text (member.Port n) (member.Alias b) s t = absurd (omega (arith, ap (λ (x : List ℕ). get_or x 0 0) (sym s.1 ∙ t.1)))
one_member text (member.Node n) (member.Port m) s t = absurd (omega (arith, ap (λ (x : List ℕ). get_or x 2 0) (sym s.1 ∙ t.1)))
one_member text (member.Node n) (member.Node m) s t = let same : s.0 ≡ t.0 = ap (drop 5) (sym s.1 ∙ t.1) in ap member.Node (one_wwn t.0 n m (subst (λ z. SpellsWwn z n) same s.2) t.2)
one_member text (member.Node n) (member.Place q) s t = absurd (omega (arith, ap (λ (x : List ℕ). get_or x 0 0) (sym s.1 ∙ t.1)))
one_member text (member.Node n) (member.Address y) s t = absurd (omega (arith, ap (λ (x : List ℕ). get_or x 0 0) (sym s.1 ∙ t.1)))
one_member text (member.Node n) (member.Alias b) s t = absurd (omega (arith, ap (λ (x : List ℕ). get_or x 0 0) (sym s.1 ∙ t.1)))
one_member text (member.Place p) (member.Port m) s t = absurd (omega (arith, ap (λ (x : List ℕ). get_or x 0 0) (sym s.1 ∙ t.1)))
one_member text (member.Place p) (member.Node m) s t = absurd (omega (arith, ap (λ (x : List ℕ). get_or x 0 0) (sym s.1 ∙ t.1)))
one_member text (member.Place p) (member.Place q) s t = let same : s.0 ≡ t.0 = ap (drop 3) (sym s.1 ∙ t.1) in ap member.Place (one_place t.0 p q (subst (λ z. SpellsPlace z p) same s.2) t.2)
one_member text (member.Place p) (member.Address y) s t = absurd (omega (arith, ap (λ (x : List ℕ). get_or x 0 0) (sym s.1 ∙ t.1)))
one_member text (member.Place p) (member.Alias b) s t = absurd (omega (arith, ap (λ (x : List ℕ). get_or x 0 0) (sym s.1 ∙ t.1)))
one_member text (member.Address x) (member.Port m) s t = absurd (omega (arith, ap (λ (x : List ℕ). get_or x 0 0) (sym s.1 ∙ t.1)))
one_member text (member.Address x) (member.Node m) s t = absurd (omega (arith, ap (λ (x : List ℕ). get_or x 0 0) (sym s.1 ∙ t.1)))
one_member text (member.Address x) (member.Place q) s t = absurd (omega (arith, ap (λ (x : List ℕ). get_or x 0 0) (sym s.1 ∙ t.1)))
one_member text (member.Address x) (member.Address y) s t = let same : s.0 ≡ t.0 = ap (drop 3) (sym s.1 ∙ t.1) in ap member.Address (one_address t.0 x y (subst (λ z. SpellsAddress z x) same s.2) t.2)
one_member text (member.Address x) (member.Alias b) s t = absurd (omega (arith, ap (λ (x : List ℕ). get_or x 0 0) (sym s.1 ∙ t.1)))
one_member text (member.Alias a) (member.Port m) s t = absurd (omega (arith, ap (λ (x : List ℕ). get_or x 0 0) (sym s.1 ∙ t.1)))
one_member text (member.Alias a) (member.Node m) s t = absurd (omega (arith, ap (λ (x : List ℕ). get_or x 0 0) (sym s.1 ∙ t.1)))
one_member text (member.Alias a) (member.Place q) s t = absurd (omega (arith, ap (λ (x : List ℕ). get_or x 0 0) (sym s.1 ∙ t.1)))
one_member text (member.Alias a) (member.Address y) s t = absurd (omega (arith, ap (λ (x : List ℕ). get_or x 0 0) (sym s.1 ∙ t.1)))
one_member text (member.Alias a) (member.Alias b) s t = let same : s.0 ≡ t.0 = ap (drop 6) (sym s.1 ∙ t.1) in ap member.Alias (s.2.0 ∙ same ∙ sym t.2.0)
