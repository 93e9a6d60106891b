use Rattle.std.proofs.Common.{◌≡◌, length, ap, sym, ◌∙◌, refl, List, ℕ, string_bytes}
use Rattle.std.specs.Prelude.{codes}
use Rattle.serde_json.specs.Data.{object, member, no_members}
use Rattle.serde_json.specs.View.{view}
use Rattle.fab_wire_requests.proofs.ReadLemmas.{three-entries, three-are, bytes-are, outer-keys}
use Rattle.fab_wire_requests.proofs.volume.volume_members.Goals as goal

pub returns-then-not-has_keys : goal.returns-then-not-has_keys
returns-then-not-has_keys c x y z h = let k = c.if-not-has_keys.ensures.1 (three-entries _ c.in-Some.map.now.entries _ _ _ c.in-Some.ensures x y z h) in cc

pub returns-then-not-is_key : goal.returns-then-not-is_key
returns-then-not-is_key c x y z h =
    let n : length c.in-Some.map.now.entries ≡ 3 = c.if-not-has_keys.ensures.0 refl in
    let t = three-are _ c.in-Some.map.now.entries _ _ c.in-Some.ensures n c.in-Some-first_key_value.ensures.first c.in-Some-last_key_value.ensures.last in
    let e = sym t.2 ∙ h in
    let k = c.if-not-is_key.ensures.1 (outer-keys _ _ _ _ _ _ _ _ _ _ _ _ e).0 in cc

pub returns-then-not-is_key-2 : goal.returns-then-not-is_key-2
returns-then-not-is_key-2 c x y z h =
    let n : length c.in-Some.map.now.entries ≡ 3 = c.if-not-has_keys.ensures.0 refl in
    let t = three-are _ c.in-Some.map.now.entries _ _ c.in-Some.ensures n c.in-Some-first_key_value.ensures.first c.in-Some-last_key_value.ensures.last in
    let e = sym t.2 ∙ h in
    let k = c.if-not-is_key-2.ensures.1 (outer-keys _ _ _ _ _ _ _ _ _ _ _ _ e).1 in cc

pub returns : goal.returns
returns c =
    let n : length c.in-Some.map.now.entries ≡ 3 = c.if-not-has_keys.ensures.0 refl in
    let t = three-are _ c.in-Some.map.now.entries _ _ c.in-Some.ensures n c.in-Some-first_key_value.ensures.first c.in-Some-last_key_value.ensures.last in
    let a = view c.in-Some-first_key_value.a.now in
    let b = view c.in-Some-last_key_value.c.now in
    bytes-are _ a t.1 b _ t.0
    (t.2 ∙ ap (λ (u : List ℕ). object (member u a (member t.0 t.1 (member (string_bytes c.in-Some-last_key_value.three.now) b no_members)))) (c.if-not-is_key.ensures.0 refl)
    ∙ ap (λ (u : List ℕ). object (member (codes "array") a (member t.0 t.1 (member u b no_members)))) (c.if-not-is_key-2.ensures.0 refl))
    (sym c.in-Some-get.ensures)
