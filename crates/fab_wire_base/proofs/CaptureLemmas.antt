-- What matchit's walk takes of a path for a parameter.
use Rattle.std.proofs.Common.{◌≡◌, ℕ, suc, ◌+◌, ◌-◌, ◌<◌, ◌≤◌, List, [], ◌∷◌, ◌++◌, length, drop, take, get_or, Bool, true, false, cond, ◌&&◌, ltb, ◌==◌, refl, sym, ap, ap₂, ◌∙◌, subst, arith, append_assoc, append-nil, length-append, add-one}
use Rattle.std.specs.Prelude.{leb}
use mathlib.Core.Logic.{inl, inr}
use Rattle.std.proofs.lemmas.Bool.Decides.{nat_tests}
use Rattle.std.specs.List.{AllByRecursion}
use Rattle.matchit.specs.Rows.{param_token}
use Rattle.matchit.specs.Seek.{segment, has_slash}
use Rattle.matchit.specs.Params.{next_at, wild_from, wild_stop, part_of, after_token, walk, named}
use Rattle.matchit.specs.Seek.{same_text}
use Rattle.std.proofs.Common.{Some, None}
use Rattle.fab_wire_base.specs.Segments.{to_slash, from_slash_on, segment_at}
use Rattle.fab_wire_base.specs.Matching.{IsPart, Matches}

-- bytes that stand for themselves in a pattern
abbrev pub AreLiterals : List ℕ → Type 0
AreLiterals bytes = AllByRecursion (λ b. b < 256) bytes

-- where the walk finds the next parameter
pub wild : (lits t : List ℕ) (len token at : ℕ) → AreLiterals lits → at + length lits ≤ len → wild_from (lits ++ 256 ∷ t) len token at ≡ (token + length lits, at + length lits)
wild [] t len token at h k =
    let a : token ≡ token + 0 = omega arith in
    let b : at ≡ at + 0 = omega arith in
    ap₂ (λ (x y : ℕ). (x, y)) a b
wild (b ∷ lits) t len token at h k =
    let low : ltb b param_token ≡ true = grind (arith, nat_tests, h.0) in
    let on : next_at len at ≡ at + 1 = grind (arith, nat_tests) in
    let a : token + 1 + length lits ≡ token + suc (length lits) = omega arith in
    let e : at + 1 + length lits ≡ at + suc (length lits) = omega arith in
    ap (λ v. cond v (wild_from (lits ++ 256 ∷ t) len (token + 1) (next_at len at)) (token, at)) low
    ∙ ap (λ x. wild_from (lits ++ 256 ∷ t) len (token + 1) x) on
    ∙ wild lits t len (token + 1) (at + 1) h.1 (omega arith)
    ∙ ap₂ (λ (x y : ℕ). (x, y)) a e

segment-part : (part more : List ℕ) → has_slash part ≡ false → length (segment (part ++ 47 ∷ more)) ≡ length part + 1
segment-part [] more h = refl
segment-part (b ∷ part) more h = segment-part-at (b == 47) b part more (segment-part part more) h
  where
    segment-part-at : (s : Bool) (b : ℕ) (part more : List ℕ) → (has_slash part ≡ false → length (segment (part ++ 47 ∷ more)) ≡ length part + 1)
        → cond s true (has_slash part) ≡ false → length (cond s (b ∷ []) (b ∷ segment (part ++ 47 ∷ more))) ≡ length (b ∷ part) + 1
    segment-part-at true b part more ih h = cc
    segment-part-at false b part more ih h = let e = ih h in omega arith

drop-front : (xs ys : List ℕ) → drop (length xs) (xs ++ ys) ≡ ys
drop-front [] ys = refl
drop-front (x ∷ xs) ys = drop-front xs ys

take-front : (xs ys : List ℕ) → take (length xs) (xs ++ ys) ≡ xs
take-front [] ys = refl
take-front (x ∷ xs) ys = ap (λ (t : List ℕ). x ∷ t) (take-front xs ys)

get-front : (xs : List ℕ) (y : ℕ) (ys : List ℕ) → get_or (xs ++ y ∷ ys) (length xs) 0 ≡ y
get-front [] y ys = refl
get-front (x ∷ xs) y ys = get-front xs y ys

drop-past : (xs : List ℕ) (y : ℕ) (ys : List ℕ) → drop (suc (length xs)) (xs ++ y ∷ ys) ≡ ys
drop-past [] y ys = refl
drop-past (x ∷ xs) y ys = drop-past xs y ys

drop-next : (xs : List ℕ) (y : ℕ) (ys : List ℕ) → drop (length xs + 1) (xs ++ y ∷ ys) ≡ ys
drop-next xs y ys = rw add-one (drop-past xs y ys)

both-true : (a b : Bool) (x : List ℕ) → a ≡ true → b ≡ true → cond (a && b) x [] ≡ x
both-true true true x e f = refl
both-true true false x e f = cc
both-true false b x e f = cc

third-false : (a b c : Bool) (x y : ℕ) → c ≡ false → cond (a && b && c) x y ≡ y
third-false true true c x y e = rw e refl
third-false true false c x y e = refl
third-false false b c x y e = refl

all-true : (a b c : Bool) (x y : ℕ) → a ≡ true → b ≡ true → c ≡ true → cond (a && b && c) x y ≡ x
all-true true true true x y e f g = refl
all-true true true false x y e f g = cc
all-true true false c x y e f g = cc
all-true false b c x y e f g = cc

-- a part between two places
pub part-between : (before part rest : List ℕ) → part_of (before ++ (part ++ rest)) (length before) (length before + length part) ≡ part
part-between before part rest =
    let n : length (before ++ (part ++ rest)) ≡ length before + (length part + length rest) = simp length-append in
    let a : leb (length before) (length before + length part) ≡ true = grind (arith, nat_tests) in
    let b : leb (length before + length part) (length (before ++ (part ++ rest))) ≡ true = grind (arith, nat_tests) in
    let m : length before + length part - length before ≡ length part = omega arith in
    both-true _ _ _ a b ∙ ap (λ k. take k (drop (length before) (before ++ (part ++ rest)))) m
    ∙ ap (λ (t : List ℕ). take (length part) t) (drop-front before (part ++ rest)) ∙ take-front part rest

-- a parameter at the end of a pattern takes all that is left
pub stop-end : (done path : List ℕ) (at : ℕ) → wild_stop (done ++ 256 ∷ []) (length done) path at ≡ length path
stop-end done path at =
    let n : length (done ++ 256 ∷ []) ≡ length done + 1 = simp length-append in
    let c : ltb (length done + 1) (length (done ++ 256 ∷ [])) ≡ false = grind (arith, nat_tests) in
    third-false (ltb (length done) (length (done ++ 256 ∷ []))) (get_or (done ++ 256 ∷ []) (length done) 0 == param_token) _
    (at + length (segment (drop at path)) - length (segment (drop (length done + 1) (done ++ 256 ∷ [])))) _ c

-- and else what stands before the slash
pub stop-slash : (done t before part more : List ℕ) → has_slash part ≡ false
    → wild_stop (done ++ 256 ∷ 47 ∷ t) (length done) (before ++ (part ++ 47 ∷ more)) (length before) ≡ length before + length part
stop-slash done t before part more h =
    let n : length (done ++ 256 ∷ 47 ∷ t) ≡ length done + suc (suc (length t)) = length-append done (256 ∷ 47 ∷ t) in
    let a : ltb (length done) (length (done ++ 256 ∷ 47 ∷ t)) ≡ true = grind (arith, nat_tests) in
    let b : (get_or (done ++ 256 ∷ 47 ∷ t) (length done) 0 == param_token) ≡ true = rw (get-front done 256 (47 ∷ t)) refl in
    let c : ltb (length done + 1) (length (done ++ 256 ∷ 47 ∷ t)) ≡ true = grind (arith, nat_tests) in
    let p : length (segment (drop (length before) (before ++ (part ++ 47 ∷ more)))) ≡ length part + 1 = ap (λ (x : List ℕ). length (segment x)) (drop-front before (part ++ 47 ∷ more)) ∙ segment-part part more h in
    let q : length (segment (drop (length done + 1) (done ++ 256 ∷ 47 ∷ t))) ≡ 1 = ap (λ (x : List ℕ). length (segment x)) (drop-next done 256 (47 ∷ t)) in
    all-true _ _ _ _ _ a b c ∙ omega (arith, p, q)

-- what matches literals begins with them
pub split : (lits t path : List ℕ) → AreLiterals lits → Matches (lits ++ t) path → (rest : List ℕ) × (path ≡ lits ++ rest) × Matches t rest
split [] t path h m = (path, refl, m)
split (b ∷ lits) t path h (inl m) = let r = split lits t m.0 h.1 m.2 in (r.0, m.1 ∙ ap (λ (x : List ℕ). b ∷ x) r.1, r.2)
split (b ∷ lits) t path h (inr (inl m)) = absurd (omega (arith, h.0, m.0))
split (b ∷ lits) t path h (inr (inr e)) = absurd (omega (arith, h.0, e))

-- a parameter takes a part
pub part-taken : (t path : List ℕ) → AreLiterals path → Matches (256 ∷ t) path → (part : List ℕ) × (rest : List ℕ) × (path ≡ part ++ rest) × IsPart part × Matches t rest
part-taken t path h (inl m) = absurd (let low : AreLiterals (256 ∷ m.0) = subst AreLiterals m.1 h in omega (arith, low.0))
part-taken t path h (inr (inl m)) = m.1
part-taken t path h (inr (inr e)) = absurd (omega (arith, e))

literals-behind : (xs ys : List ℕ) → AreLiterals (xs ++ ys) → AreLiterals ys
literals-behind [] ys h = h
literals-behind (x ∷ xs) ys h = literals-behind xs ys h.1

-- the segment of a part
pub to_slash-part : (part more : List ℕ) → has_slash part ≡ false → to_slash (part ++ 47 ∷ more) ≡ part
to_slash-part [] more h = refl
to_slash-part (b ∷ part) more h = at-byte (b == 47) b part more (to_slash-part part more) h
  where
    at-byte : (s : Bool) (b : ℕ) (part more : List ℕ) → (has_slash part ≡ false → to_slash (part ++ 47 ∷ more) ≡ part) → cond s true (has_slash part) ≡ false → cond s [] (b ∷ to_slash (part ++ 47 ∷ more)) ≡ b ∷ part
    at-byte true b part more ih h = cc
    at-byte false b part more ih h = ap (λ (t : List ℕ). b ∷ t) (ih h)

pub to_slash-all : (part : List ℕ) → has_slash part ≡ false → to_slash part ≡ part
to_slash-all [] h = refl
to_slash-all (b ∷ part) h = at-byte (b == 47) b part (to_slash-all part) h
  where
    at-byte : (s : Bool) (b : ℕ) (part : List ℕ) → (has_slash part ≡ false → to_slash part ≡ part) → cond s true (has_slash part) ≡ false → cond s [] (b ∷ to_slash part) ≡ b ∷ part
    at-byte true b part ih h = cc
    at-byte false b part ih h = ap (λ (t : List ℕ). b ∷ t) (ih h)

wild-first : (lits t path : List ℕ) → AreLiterals lits → length lits ≤ length path → wild_from (lits ++ 256 ∷ t) (length path) 0 0 ≡ (length lits, length lits)
wild-first lits t path h k =
    let a : 0 + length lits ≡ length lits = omega arith in
    wild lits t (length path) 0 0 h (omega arith) ∙ ap₂ (λ (x y : ℕ). (x, y)) a a

-- a parameter at the end of a path is its segment
pub end-captures : (lits text name path : List ℕ) (place : ℕ × ℕ) → AreLiterals lits → AreLiterals path → same_text (part_of text place.0 place.1) name ≡ true
    → ((x : List ℕ) → segment_at 2 (lits ++ x) ≡ to_slash x) → Matches (lits ++ 256 ∷ []) path
    → named name (walk (lits ++ 256 ∷ []) text path (place ∷ []) 0 0) ≡ Some (segment_at 2 path)
end-captures lits text name path place h low same seg m =
    let s = split lits (256 ∷ []) path h m in
    let t = part-taken [] s.0 (literals-behind lits s.0 (subst AreLiterals s.1 low)) s.2 in
    let is : path ≡ lits ++ (t.0 ++ []) = s.1 ∙ ap (λ (x : List ℕ). lits ++ x) (t.2 ∙ ap (λ (x : List ℕ). t.0 ++ x) t.4) in
    let k : length (lits ++ (t.0 ++ [])) ≡ length lits + (length t.0 + 0) = simp length-append in
    let n : length path ≡ length lits + length t.0 = omega (arith, ap length is, k) in
    let w = wild-first lits [] path h (omega arith) in
    let part : part_of path (length lits) (wild_stop (lits ++ 256 ∷ []) (length lits) path (length lits)) ≡ t.0 =
    ap (λ k. part_of path (length lits) k) (stop-end lits path (length lits) ∙ n) ∙ ap (λ (x : List ℕ). part_of x (length lits) (length lits + length t.0)) is ∙ part-between lits t.0 [] in
    let to : segment_at 2 path ≡ t.0 = ap (λ (x : List ℕ). segment_at 2 x) is ∙ seg (t.0 ++ []) ∙ ap to_slash (append-nil t.0) ∙ to_slash-all t.0 t.3.plain in
    ap (λ v. cond v (Some (part_of path (wild_from (lits ++ 256 ∷ []) (length path) 0 0).1 (wild_stop (lits ++ 256 ∷ []) (wild_from (lits ++ 256 ∷ []) (length path) 0 0).0 path (wild_from (lits ++ 256 ∷ []) (length path) 0 0).1))) None) same
    ∙ ap (λ (v : ℕ × ℕ). Some (part_of path v.1 (wild_stop (lits ++ 256 ∷ []) v.0 path v.1))) w
    ∙ ap Some (part ∙ sym to)

-- a parameter before a slash is its segment
pub slash-captures : (lits t text name path : List ℕ) (place : ℕ × ℕ) (places : List (ℕ × ℕ)) → AreLiterals lits → AreLiterals path → same_text (part_of text place.0 place.1) name ≡ true
    → ((x : List ℕ) → segment_at 2 (lits ++ x) ≡ to_slash x) → Matches (lits ++ 256 ∷ 47 ∷ t) path
    → named name (walk (lits ++ 256 ∷ 47 ∷ t) text path (place ∷ places) 0 0) ≡ Some (segment_at 2 path)
slash-captures lits t text name path place places h low same seg m =
    let s = split lits (256 ∷ 47 ∷ t) path h m in
    let u = part-taken (47 ∷ t) s.0 (literals-behind lits s.0 (subst AreLiterals s.1 low)) s.2 in
    let v = split (47 ∷ []) t u.1 (omega arith, tt) u.4 in
    let is : path ≡ lits ++ (u.0 ++ 47 ∷ v.0) = s.1 ∙ ap (λ (x : List ℕ). lits ++ x) (u.2 ∙ ap (λ (x : List ℕ). u.0 ++ x) v.1) in
    let k : length (lits ++ (u.0 ++ 47 ∷ v.0)) ≡ length lits + (length u.0 + suc (length v.0)) = simp length-append in
    let n : length path ≡ length lits + (length u.0 + suc (length v.0)) = omega (arith, ap length is, k) in
    let w = wild-first lits (47 ∷ t) path h (omega arith) in
    let stop : wild_stop (lits ++ 256 ∷ 47 ∷ t) (length lits) path (length lits) ≡ length lits + length u.0 =
    ap (λ (x : List ℕ). wild_stop (lits ++ 256 ∷ 47 ∷ t) (length lits) x (length lits)) is ∙ stop-slash lits t lits u.0 v.0 u.3.plain in
    let part : part_of path (length lits) (wild_stop (lits ++ 256 ∷ 47 ∷ t) (length lits) path (length lits)) ≡ u.0 =
    ap (λ k. part_of path (length lits) k) stop ∙ ap (λ (x : List ℕ). part_of x (length lits) (length lits + length u.0)) is ∙ part-between lits u.0 (47 ∷ v.0) in
    let to : segment_at 2 path ≡ u.0 = ap (λ (x : List ℕ). segment_at 2 x) is ∙ seg (u.0 ++ 47 ∷ v.0) ∙ to_slash-part u.0 v.0 u.3.plain in
    let rest = walk (lits ++ 256 ∷ 47 ∷ t) text path places (after_token (wild_from (lits ++ 256 ∷ 47 ∷ t) (length path) 0 0).0)
    (wild_stop (lits ++ 256 ∷ 47 ∷ t) (wild_from (lits ++ 256 ∷ 47 ∷ t) (length path) 0 0).0 path (wild_from (lits ++ 256 ∷ 47 ∷ t) (length path) 0 0).1) in
    ap (λ b. cond b (Some (part_of path (wild_from (lits ++ 256 ∷ 47 ∷ t) (length path) 0 0).1 (wild_stop (lits ++ 256 ∷ 47 ∷ t) (wild_from (lits ++ 256 ∷ 47 ∷ t) (length path) 0 0).0 path (wild_from (lits ++ 256 ∷ 47 ∷ t) (length path) 0 0).1))) (named name rest)) same
    ∙ ap (λ (p : ℕ × ℕ). Some (part_of path p.1 (wild_stop (lits ++ 256 ∷ 47 ∷ t) p.0 path p.1))) w
    ∙ ap Some (part ∙ sym to)

abbrev pub all_low : List ℕ → Bool
all_low [] = true
all_low (b ∷ bytes) = ltb b 256 && all_low bytes

both : (a b : Bool) → (a && b) ≡ true → (a ≡ true) × (b ≡ true)
both true b h = (refl, h)
both false b h = cc

pub low-literals : (bytes : List ℕ) → all_low bytes ≡ true → AreLiterals bytes
low-literals [] h = tt
low-literals (b ∷ bytes) h = let t = both (ltb b 256) (all_low bytes) h in let e : ltb b 256 ≡ true = t.0 in (grind (arith, nat_tests), low-literals bytes t.1)

from_slash_on-part : (part more : List ℕ) → has_slash part ≡ false → from_slash_on (part ++ 47 ∷ more) ≡ more
from_slash_on-part [] more h = refl
from_slash_on-part (b ∷ part) more h = at-byte (b == 47) b part more (from_slash_on-part part more) h
  where
    at-byte : (s : Bool) (b : ℕ) (part more : List ℕ) → (has_slash part ≡ false → from_slash_on (part ++ 47 ∷ more) ≡ more) → cond s true (has_slash part) ≡ false → cond s (part ++ 47 ∷ more) (from_slash_on (part ++ 47 ∷ more)) ≡ more
    at-byte true b part more ih h = cc
    at-byte false b part more ih h = ih h

-- a second parameter, at the end of a path, is its segment
pub second-captures : (lits text name path : List ℕ) (p q : ℕ × ℕ) → AreLiterals lits → length lits ≤ 100 → AreLiterals path → same_text (part_of text p.0 p.1) name ≡ false → same_text (part_of text q.0 q.1) name ≡ true
    → ((x : List ℕ) → segment_at 3 (lits ++ x) ≡ to_slash (from_slash_on x)) → Matches (lits ++ 256 ∷ 47 ∷ 256 ∷ []) path
    → named name (walk (lits ++ 256 ∷ 47 ∷ 256 ∷ []) text path (p ∷ q ∷ []) 0 0) ≡ Some (segment_at 3 path)
second-captures lits text name path p q h short low other same seg m =
    let pattern : List ℕ = lits ++ 256 ∷ 47 ∷ 256 ∷ [] in
    let s = split lits (256 ∷ 47 ∷ 256 ∷ []) path h m in
    let u = part-taken (47 ∷ 256 ∷ []) s.0 (literals-behind lits s.0 (subst AreLiterals s.1 low)) s.2 in
    let v = split (47 ∷ []) (256 ∷ []) u.1 (omega arith, tt) u.4 in
    let low-rest : AreLiterals u.1 = literals-behind u.0 u.1 (subst AreLiterals u.2 (literals-behind lits s.0 (subst AreLiterals s.1 low))) in
    let low-last : AreLiterals v.0 = literals-behind (47 ∷ []) v.0 (subst AreLiterals v.1 low-rest) in
    let x = part-taken [] v.0 low-last v.2 in
    let last : v.0 ≡ x.0 = x.2 ∙ ap (λ (t : List ℕ). x.0 ++ t) x.4 ∙ append-nil x.0 in
    let is : path ≡ lits ++ (u.0 ++ 47 ∷ x.0) = s.1 ∙ ap (λ (t : List ℕ). lits ++ t) (u.2 ∙ ap (λ (t : List ℕ). u.0 ++ t) (v.1 ∙ ap (λ (t : List ℕ). 47 ∷ t) last)) in
    let before : List ℕ = lits ++ (u.0 ++ 47 ∷ []) in
    let cut : lits ++ (u.0 ++ 47 ∷ x.0) ≡ before ++ (x.0 ++ []) = simp (append_assoc, append-nil) in
    let k : length (lits ++ (u.0 ++ 47 ∷ x.0)) ≡ length lits + (length u.0 + suc (length x.0)) = simp length-append in
    let n : length path ≡ length lits + (length u.0 + suc (length x.0)) = omega (arith, ap length is, k) in
    let w = wild-first lits (47 ∷ 256 ∷ []) path h (omega arith) in
    let stop : wild_stop pattern (length lits) path (length lits) ≡ length lits + length u.0 =
    ap (λ (t : List ℕ). wild_stop pattern (length lits) t (length lits)) is ∙ stop-slash lits (256 ∷ []) lits u.0 x.0 u.3.plain in
    let tok : after_token (length lits) ≡ length lits + 1 = omega arith in
    let w2 : wild_from (drop (length lits + 1) pattern) (length path) (length lits + 1) (length lits + length u.0) ≡ (length lits + 1 + 1, length lits + length u.0 + 1) =
    ap (λ (d : List ℕ). wild_from d (length path) (length lits + 1) (length lits + length u.0)) (drop-next lits 256 (47 ∷ 256 ∷ []))
    ∙ wild (47 ∷ []) [] (length path) (length lits + 1) (length lits + length u.0) (omega arith, tt) (omega (arith, n)) in
    let done : List ℕ = lits ++ 256 ∷ 47 ∷ [] in
    let pat : pattern ≡ done ++ 256 ∷ [] = sym (append_assoc lits (256 ∷ 47 ∷ []) (256 ∷ [])) in
    let len : length done ≡ length lits + 1 + 1 = omega (arith, length-append lits (256 ∷ 47 ∷ [])) in
    let stop2 : wild_stop pattern (length lits + 1 + 1) path (length lits + length u.0 + 1) ≡ length path =
    ap₂ (λ (t : List ℕ) (i : ℕ). wild_stop t i path (length lits + length u.0 + 1)) pat (sym len) ∙ stop-end done path (length lits + length u.0 + 1) in
    let b : length before ≡ length lits + length u.0 + 1 = let a : length (lits ++ (u.0 ++ 47 ∷ [])) ≡ length lits + (length u.0 + 1) = simp length-append in omega arith in
    let all : length path ≡ length before + length x.0 = omega (arith, n, b) in
    let part : part_of path (length lits + length u.0 + 1) (wild_stop pattern (length lits + 1 + 1) path (length lits + length u.0 + 1)) ≡ x.0 =
    ap₂ (λ (i j : ℕ). part_of path i j) (sym b) (stop2 ∙ all) ∙ ap (λ (t : List ℕ). part_of t (length before) (length before + length x.0)) (is ∙ cut) ∙ part-between before x.0 [] in
    let to : segment_at 3 path ≡ x.0 = ap (λ (t : List ℕ). segment_at 3 t) is ∙ seg (u.0 ++ 47 ∷ x.0) ∙ ap to_slash (from_slash_on-part u.0 x.0 u.3.plain) ∙ to_slash-all x.0 x.3.plain in
    ap (λ c. cond c (Some (part_of path (wild_from pattern (length path) 0 0).1 (wild_stop pattern (wild_from pattern (length path) 0 0).0 path (wild_from pattern (length path) 0 0).1)))
    (named name (walk pattern text path (q ∷ []) (after_token (wild_from pattern (length path) 0 0).0) (wild_stop pattern (wild_from pattern (length path) 0 0).0 path (wild_from pattern (length path) 0 0).1)))) other
    ∙ ap (λ (z : ℕ × ℕ). named name (walk pattern text path (q ∷ []) (after_token z.0) (wild_stop pattern z.0 path z.1))) w
    ∙ ap₂ (λ (t a : ℕ). named name (walk pattern text path (q ∷ []) t a)) tok stop
    ∙ ap (λ c. cond c (Some (part_of path (wild_from (drop (length lits + 1) pattern) (length path) (length lits + 1) (length lits + length u.0)).1 (wild_stop pattern (wild_from (drop (length lits + 1) pattern) (length path) (length lits + 1) (length lits + length u.0)).0 path (wild_from (drop (length lits + 1) pattern) (length path) (length lits + 1) (length lits + length u.0)).1))) None) same
    ∙ ap (λ (z : ℕ × ℕ). Some (part_of path z.1 (wild_stop pattern z.0 path z.1))) w2
    ∙ ap Some (part ∙ sym to)
