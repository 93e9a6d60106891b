use Rattle.std.proofs.Common.{◌≡◌, length, ap, ◌∙◌, refl, List, ℕ, string_bytes}
use Rattle.serde_json.specs.Data.{object, member, no_members}
use Rattle.serde_json.specs.View.{view}
use Rattle.fab_wire_requests.proofs.ReadLemmas.{two-entries, members-are, keys-are}
use Rattle.fab_wire_requests.proofs.holder.two_members.Goals as goal

pub returns-then-not-has_keys : goal.returns-then-not-has_keys
returns-then-not-has_keys c a b h = let k = c.if-not-has_keys.ensures.1 (two-entries _ c.in-Some.map.now.entries _ _ c.in-Some.ensures a b h) in cc

pub returns-then-not-is_key : goal.returns-then-not-is_key
returns-then-not-is_key c a b h =
    let n : length c.in-Some.map.now.entries ≡ 2 = c.if-not-has_keys.ensures.0 refl in
    let keys = keys-are _ c.in-Some.map.now.entries _ _ _ _ a b c.in-Some.ensures n c.in-Some-first_key_value.ensures.first c.in-Some-last_key_value.ensures.last h in
    let k = c.if-not-is_key.ensures.1 keys.0 in cc

pub returns-then-not-is_key-2 : goal.returns-then-not-is_key-2
returns-then-not-is_key-2 c a b h =
    let n : length c.in-Some.map.now.entries ≡ 2 = c.if-not-has_keys.ensures.0 refl in
    let keys = keys-are _ c.in-Some.map.now.entries _ _ _ _ a b c.in-Some.ensures n c.in-Some-first_key_value.ensures.first c.in-Some-last_key_value.ensures.last h in
    let k = c.if-not-is_key-2.ensures.1 keys.1 in cc

pub returns : goal.returns
returns c =
    let n : length c.in-Some.map.now.entries ≡ 2 = c.if-not-has_keys.ensures.0 refl in
    let a = view c.in-Some-first_key_value.a.now in
    let b = view c.in-Some-last_key_value.b.now in
    members-are _ c.in-Some.map.now.entries _ _ c.in-Some.ensures n c.in-Some-first_key_value.ensures.first c.in-Some-last_key_value.ensures.last
    ∙ ap (λ (t : List ℕ). object (member t a (member (string_bytes c.in-Some-last_key_value.two.now) b no_members))) (c.if-not-is_key.ensures.0 refl)
    ∙ ap (λ (t : List ℕ). object (member c.args.first.now a (member t b no_members))) (c.if-not-is_key-2.ensures.0 refl)
