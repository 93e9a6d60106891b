use Rattle.std.proofs.Common.{◌≡◌, ◌∙◌, ap, Some, lit<, inl, inr, ◌∷◌, ◌++◌, codes}
use Rattle.std.proofs.lemmas.Str.Pattern.{split_parts}
use Rattle.fab_names.specs.Members.{SpellsMember}
use Rattle.fab_names.specs.Faults.{IsWwnFault, IsPlaceFault, IsAddressFault, IsNameFault, IsMemberFault}
use Rattle.fab_names.specs.declared.member.Member.TheVariants as member
use Rattle.fab_names.proofs.Readings.{mapped_ok, mapped_err, mapped_fault, no_port, no_node, no_place_member, no_address, no_alias}
use Rattle.fab_names.proofs.member.Member.read.Goals as goal

pub returns-in-wwpn-clause-ok : goal.returns-in-wwpn-clause-ok
returns-in-wwpn-clause-ok c =
    let cut = split_parts 61 c.args.text.now (Some (c.in-Some.kind, c.in-Some.value)) c.in-Some.ensures.cases (lit< tt) in
    let text : c.args.text.now ≡ codes "wwpn=" ++ c.in-Some.value.now = cut.0 ∙ ap (λ t. t ++ 61 ∷ c.in-Some.value.now) c.in-wwpn.is in
    mapped_ok (SpellsMember c.args.text.now) member.Port c.read.result c.map.result c.map.ensures.cases (λ n s. (c.in-Some.value.now, text, s)) c.read.ensures.ok

pub returns-in-wwpn-clause-err : goal.returns-in-wwpn-clause-err
returns-in-wwpn-clause-err c =
    let cut = split_parts 61 c.args.text.now (Some (c.in-Some.kind, c.in-Some.value)) c.in-Some.ensures.cases (lit< tt) in
    let text : c.args.text.now ≡ codes "wwpn=" ++ c.in-Some.value.now = cut.0 ∙ ap (λ t. t ++ 61 ∷ c.in-Some.value.now) c.in-wwpn.is in
    mapped_err member.Port c.read.result c.map.result c.map.ensures.cases (no_port c.args.text.now c.in-Some.value.now text) c.read.ensures.err

pub returns-in-wwpn-clause-fault : goal.returns-in-wwpn-clause-fault
returns-in-wwpn-clause-fault c =
    let cut = split_parts 61 c.args.text.now (Some (c.in-Some.kind, c.in-Some.value)) c.in-Some.ensures.cases (lit< tt) in
    let text : c.args.text.now ≡ codes "wwpn=" ++ c.in-Some.value.now = cut.0 ∙ ap (λ t. t ++ 61 ∷ c.in-Some.value.now) c.in-wwpn.is in
    mapped_fault (IsWwnFault c.in-Some.value.now) (IsMemberFault c.args.text.now) member.Port c.read.result c.map.result c.map.ensures.cases (λ e f. inr (c.in-Some.value.now, inl (text, f))) c.read.ensures.fault

pub returns-in-wwnn-clause-ok : goal.returns-in-wwnn-clause-ok
returns-in-wwnn-clause-ok c =
    let cut = split_parts 61 c.args.text.now (Some (c.in-Some.kind, c.in-Some.value)) c.in-Some.ensures.cases (lit< tt) in
    let text : c.args.text.now ≡ codes "wwnn=" ++ c.in-Some.value.now = cut.0 ∙ ap (λ t. t ++ 61 ∷ c.in-Some.value.now) c.in-wwnn.is in
    mapped_ok (SpellsMember c.args.text.now) member.Node c.read-in-wwnn.result c.map-in-wwnn.result c.map-in-wwnn.ensures.cases (λ n s. (c.in-Some.value.now, text, s)) c.read-in-wwnn.ensures.ok

pub returns-in-wwnn-clause-err : goal.returns-in-wwnn-clause-err
returns-in-wwnn-clause-err c =
    let cut = split_parts 61 c.args.text.now (Some (c.in-Some.kind, c.in-Some.value)) c.in-Some.ensures.cases (lit< tt) in
    let text : c.args.text.now ≡ codes "wwnn=" ++ c.in-Some.value.now = cut.0 ∙ ap (λ t. t ++ 61 ∷ c.in-Some.value.now) c.in-wwnn.is in
    mapped_err member.Node c.read-in-wwnn.result c.map-in-wwnn.result c.map-in-wwnn.ensures.cases (no_node c.args.text.now c.in-Some.value.now text) c.read-in-wwnn.ensures.err

pub returns-in-wwnn-clause-fault : goal.returns-in-wwnn-clause-fault
returns-in-wwnn-clause-fault c =
    let cut = split_parts 61 c.args.text.now (Some (c.in-Some.kind, c.in-Some.value)) c.in-Some.ensures.cases (lit< tt) in
    let text : c.args.text.now ≡ codes "wwnn=" ++ c.in-Some.value.now = cut.0 ∙ ap (λ t. t ++ 61 ∷ c.in-Some.value.now) c.in-wwnn.is in
    mapped_fault (IsWwnFault c.in-Some.value.now) (IsMemberFault c.args.text.now) member.Node c.read-in-wwnn.result c.map-in-wwnn.result c.map-in-wwnn.ensures.cases (λ e f. inr (c.in-Some.value.now, inr (inl (text, f)))) c.read-in-wwnn.ensures.fault

pub returns-in-dp-clause-ok : goal.returns-in-dp-clause-ok
returns-in-dp-clause-ok c =
    let cut = split_parts 61 c.args.text.now (Some (c.in-Some.kind, c.in-Some.value)) c.in-Some.ensures.cases (lit< tt) in
    let text : c.args.text.now ≡ codes "dp=" ++ c.in-Some.value.now = cut.0 ∙ ap (λ t. t ++ 61 ∷ c.in-Some.value.now) c.in-dp.is in
    mapped_ok (SpellsMember c.args.text.now) member.Place c.read-in-dp.result c.map-in-dp.result c.map-in-dp.ensures.cases (λ n s. (c.in-Some.value.now, text, s)) c.read-in-dp.ensures.ok

pub returns-in-dp-clause-err : goal.returns-in-dp-clause-err
returns-in-dp-clause-err c =
    let cut = split_parts 61 c.args.text.now (Some (c.in-Some.kind, c.in-Some.value)) c.in-Some.ensures.cases (lit< tt) in
    let text : c.args.text.now ≡ codes "dp=" ++ c.in-Some.value.now = cut.0 ∙ ap (λ t. t ++ 61 ∷ c.in-Some.value.now) c.in-dp.is in
    mapped_err member.Place c.read-in-dp.result c.map-in-dp.result c.map-in-dp.ensures.cases (no_place_member c.args.text.now c.in-Some.value.now text) c.read-in-dp.ensures.err

pub returns-in-dp-clause-fault : goal.returns-in-dp-clause-fault
returns-in-dp-clause-fault c =
    let cut = split_parts 61 c.args.text.now (Some (c.in-Some.kind, c.in-Some.value)) c.in-Some.ensures.cases (lit< tt) in
    let text : c.args.text.now ≡ codes "dp=" ++ c.in-Some.value.now = cut.0 ∙ ap (λ t. t ++ 61 ∷ c.in-Some.value.now) c.in-dp.is in
    mapped_fault (IsPlaceFault c.in-Some.value.now) (IsMemberFault c.args.text.now) member.Place c.read-in-dp.result c.map-in-dp.result c.map-in-dp.ensures.cases (λ e f. inr (c.in-Some.value.now, inr (inr (inl (text, f))))) c.read-in-dp.ensures.fault

pub returns-in-id-clause-ok : goal.returns-in-id-clause-ok
returns-in-id-clause-ok c =
    let cut = split_parts 61 c.args.text.now (Some (c.in-Some.kind, c.in-Some.value)) c.in-Some.ensures.cases (lit< tt) in
    let text : c.args.text.now ≡ codes "id=" ++ c.in-Some.value.now = cut.0 ∙ ap (λ t. t ++ 61 ∷ c.in-Some.value.now) c.in-id.is in
    mapped_ok (SpellsMember c.args.text.now) member.Address c.read-in-id.result c.map-in-id.result c.map-in-id.ensures.cases (λ n s. (c.in-Some.value.now, text, s)) c.read-in-id.ensures.ok

pub returns-in-id-clause-err : goal.returns-in-id-clause-err
returns-in-id-clause-err c =
    let cut = split_parts 61 c.args.text.now (Some (c.in-Some.kind, c.in-Some.value)) c.in-Some.ensures.cases (lit< tt) in
    let text : c.args.text.now ≡ codes "id=" ++ c.in-Some.value.now = cut.0 ∙ ap (λ t. t ++ 61 ∷ c.in-Some.value.now) c.in-id.is in
    mapped_err member.Address c.read-in-id.result c.map-in-id.result c.map-in-id.ensures.cases (no_address c.args.text.now c.in-Some.value.now text) c.read-in-id.ensures.err

pub returns-in-id-clause-fault : goal.returns-in-id-clause-fault
returns-in-id-clause-fault c =
    let cut = split_parts 61 c.args.text.now (Some (c.in-Some.kind, c.in-Some.value)) c.in-Some.ensures.cases (lit< tt) in
    let text : c.args.text.now ≡ codes "id=" ++ c.in-Some.value.now = cut.0 ∙ ap (λ t. t ++ 61 ∷ c.in-Some.value.now) c.in-id.is in
    mapped_fault (IsAddressFault c.in-Some.value.now) (IsMemberFault c.args.text.now) member.Address c.read-in-id.result c.map-in-id.result c.map-in-id.ensures.cases (λ e f. inr (c.in-Some.value.now, inr (inr (inr (inl (text, f)))))) c.read-in-id.ensures.fault

pub returns-in-alias-clause-ok : goal.returns-in-alias-clause-ok
returns-in-alias-clause-ok c =
    let cut = split_parts 61 c.args.text.now (Some (c.in-Some.kind, c.in-Some.value)) c.in-Some.ensures.cases (lit< tt) in
    let text : c.args.text.now ≡ codes "alias=" ++ c.in-Some.value.now = cut.0 ∙ ap (λ t. t ++ 61 ∷ c.in-Some.value.now) c.in-alias.is in
    mapped_ok (SpellsMember c.args.text.now) member.Alias c.read-in-alias.result c.map-in-alias.result c.map-in-alias.ensures.cases (λ n s. (c.in-Some.value.now, text, s)) c.read-in-alias.ensures.ok

pub returns-in-alias-clause-err : goal.returns-in-alias-clause-err
returns-in-alias-clause-err c =
    let cut = split_parts 61 c.args.text.now (Some (c.in-Some.kind, c.in-Some.value)) c.in-Some.ensures.cases (lit< tt) in
    let text : c.args.text.now ≡ codes "alias=" ++ c.in-Some.value.now = cut.0 ∙ ap (λ t. t ++ 61 ∷ c.in-Some.value.now) c.in-alias.is in
    mapped_err member.Alias c.read-in-alias.result c.map-in-alias.result c.map-in-alias.ensures.cases (no_alias c.args.text.now c.in-Some.value.now text) c.read-in-alias.ensures.err

pub returns-in-alias-clause-fault : goal.returns-in-alias-clause-fault
returns-in-alias-clause-fault c =
    let cut = split_parts 61 c.args.text.now (Some (c.in-Some.kind, c.in-Some.value)) c.in-Some.ensures.cases (lit< tt) in
    let text : c.args.text.now ≡ codes "alias=" ++ c.in-Some.value.now = cut.0 ∙ ap (λ t. t ++ 61 ∷ c.in-Some.value.now) c.in-alias.is in
    mapped_fault (IsNameFault c.in-Some.value.now) (IsMemberFault c.args.text.now) member.Alias c.read-in-alias.result c.map-in-alias.result c.map-in-alias.ensures.cases (λ e f. inr (c.in-Some.value.now, inr (inr (inr (inr (text, f)))))) c.read-in-alias.ensures.fault
