-- What an input spells, from its head and the bytes behind it.
use Rattle.std.proofs.Common.{◌≡◌, ℕ, ◌<◌, ◌≤◌, inr, List, [], ◌++◌, length, take, drop, Option, Some, None, IfSome, refl, sym, subst, Bool, true, false, arith, map, get_or, ◌∙◌, length-append}
use Rattle.std.specs.Prelude.{nat_le, IsUtf8}
use Rattle.std.proofs.lemmas.Bool.Decides.{nat_tests}
use Rattle.std.specs.Io.KnownBytes.{Consumes}
use Rattle.httparse.specs.Grammar.{print_request}
use Rattle.httparse.specs.Spans.{IsRequestOf, IsRequestWithin, IsHeaderWithin, span_bytes, name_and_value}
use Rattle.httparse.proofs.GrammarLemmas.{ReadsRequest-append}
use Rattle.httparse.specs.declared.spans.HeaderSpan.{HeaderSpan}
use Rattle.httparse.specs.declared.spans.RequestSpans.{RequestSpans}
use Rattle.fab_wire_base.specs.Limits.{most_head}
use Rattle.fab_wire_base.specs.Lines.{Line, lines_of, AreWithin}
use Rattle.fab_wire_base.specs.Asking.{Asking, asks, HeadAsks}
use Rattle.fab_wire_base.specs.Spelling.{Spelling, Request, request, refused, asked, SpellsBehind, Spells}
use Rattle.fab_wire_base.specs.Hearing.{IsHeard, IsHeardOf, IsHeardOfKnown, IsKept, failures_after_heard}
use Rattle.fab_wire_base.specs.declared.kinds.Kind.{Kind}
use Rattle.fab_wire_base.specs.declared.requests.Refusal.TheVariants as no
use Rattle.fab_wire_base.specs.declared.hear.Heard.{Heard}
use Rattle.fab_wire_base.specs.declared.hear.Heard.TheVariants as heard
use Rattle.fab_wire_base.proofs.SpellingLemmas.{head-some}

-- what a head asks for, where its method, its target and what it asks for are given otherwise
pub asked-same : (knows : List ℕ → Bool) (m n t u : List ℕ) (lines : List Line) (a b : Asking) → m ≡ n → t ≡ u → a ≡ b → HeadAsks knows m t lines a → HeadAsks knows n u lines b
asked-same knows m n t u lines a b p q r h = rw (← p, ← q, ← r) h

-- a head that has been read, and what it asks for, spell for the whole input
pub spells-read : (knows : List ℕ → Bool) (got more : List ℕ) (headers : List HeaderSpan) (spans : RequestSpans) (asking : Asking) (s : Spelling)
    → IsRequestOf got headers spans → length got ≤ most_head → spans.len ≤ length got
    → HeadAsks knows (span_bytes got spans.method) (span_bytes got spans.path) (lines_of got (take spans.headers headers)) asking
    → SpellsBehind (span_bytes got spans.path) (drop spans.len got ++ more) asking s → Spells knows (got ++ more) s
spells-read knows got more headers spans asking s (h, at) small within asks_it behind =
    let short : length (print_request h) ≤ most_head = omega (arith, at.len) in
    let same : HeadAsks knows h.method h.target (lines_of got (take spans.headers headers)) asking = rw (at.method, at.path) at asks_it in
    let named : HeadAsks knows h.method h.target (map name_and_value h.fields) asking = subst (λ (ls : List Line). HeadAsks knows h.method h.target ls asking) at.fields same in
    inr (inr (h, drop spans.len got ++ more, (ReadsRequest-append got h (drop spans.len got) more at.reads, short), (asking, named, rw at.path at behind)))

-- the target of a head is text
pub target-text : (got : List ℕ) (headers : List HeaderSpan) (spans : RequestSpans) (target : List ℕ) → IsRequestOf got headers spans → target ≡ span_bytes got spans.path → IsUtf8 target
target-text got headers spans target (h, at) e = subst IsUtf8 (sym (e ∙ at.path)) at.reads.0.target_text

-- the header lines of a head lie within the bytes that begin with it
pub lines-within : (got : List ℕ) (headers : List HeaderSpan) (spans : RequestSpans) → IsRequestWithin got headers spans → AreWithin got (take spans.headers headers)
lines-within got headers spans w k d h =
    let at : IsHeaderWithin spans.len (get_or (take spans.headers headers) k d) = w.section.headers_fit k d h in
    let fits : spans.len ≤ length got = w.section.len_fits in
    ((at.0.0, omega (arith, at, fits)), (at.1.0, omega (arith, at, fits)))

-- what holds of every value holds of the value that is there
pub IfSome-all : {X : Type 0} (o : Option X) (P : X → Type 0) → ((x : X) → P x) → IfSome o P
IfSome-all None P f = tt
IfSome-all (Some x) P f = f x

-- what follows from a fact of the value that is there
pub IfSome-map : {X : Type 0} (o : Option X) (P Q : X → Type 0) → ((x : X) → P x → Q x) → IfSome o P → IfSome o Q
IfSome-map None P Q f h = tt
IfSome-map (Some x) P Q f h = f x h

-- what is heard of an input of which some bytes have been read is heard of all of it
pub heard-behind : {A : Type 0} (old new : Option (List ℕ)) (knows : List ℕ → Bool) (got : List ℕ) (answer : Heard A) → Consumes old new got
    → IfSome new (λ more. IsHeardOf knows got more answer) → IfSome old (λ input. IsHeard knows input answer)
heard-behind None new knows got answer h k = tt
heard-behind (Some xs) None knows got answer h k = absurd h
heard-behind (Some xs) (Some ys) knows got answer h k = subst (λ (input : List ℕ). IsHeard knows input answer) (sym h) k

-- a request that is kept is no failed read
pub kept-count : {A : Type 0} (answer : Heard A) (q : Request) (n m : ℕ) → IsKept q answer → n ≡ m → n ≡ failures_after_heard answer m
kept-count (heard.Asked kept) q n m is e = e
kept-count heard.Memory q n m is e = e
kept-count other q n m is e = absurd is

-- bytes that begin with a head are some
pub some-read : (got more : List ℕ) (headers : List HeaderSpan) (spans : RequestSpans) → IsRequestOf got headers spans → 0 < length (got ++ more)
some-read got more headers spans (h, at) = let some : 0 < length got = head-some got h (drop spans.len got) at.reads in simp length-append (omega arith)

-- what is kept of a request that an input spells is heard of it
pub kept-heard : {A : Type 0} (answer : Heard A) (knows : List ℕ → Bool) (input : List ℕ) (q : Request) → 0 < length input → Spells knows input (asked q) → IsKept q answer → IsHeard knows input answer
kept-heard (heard.Asked kept) knows input q some spelled is = subst (λ p. Spells knows input (asked p)) (sym is) spelled
kept-heard heard.Memory knows input q some spelled is = some
kept-heard other knows input q some spelled is = absurd is

-- and by a known caller
pub kept-known : {A : Type 0} (answer : Heard A) (knows : List ℕ → Bool) (q : Request) → knows q.token ≡ true → IsKept q answer → IsHeardOfKnown knows answer
kept-known (heard.Asked kept) knows q known is = subst (λ (p : Request). knows p.token ≡ true) (sym is) known
kept-known heard.Memory knows q known is = tt
kept-known other knows q known is = absurd is

-- all of a body is there
pub behind-whole : (token : List ℕ) (k : Kind) (target rest : List ℕ) (size : ℕ) → size ≤ length rest → SpellsBehind target rest (asks token k (Some size)) (asked (request token k target (take size rest)))
behind-whole token k target rest size h = let e : nat_le size (length rest) ≡ true = grind (arith, nat_tests) in rw e refl

-- a body is too short
pub behind-short : (token : List ℕ) (what : Kind) (target rest : List ℕ) (size : ℕ) → length rest < size
    → SpellsBehind target rest (asks token what (Some size)) (refused (no.BadBody 0))
behind-short token what target rest size h = let e : nat_le size (length rest) ≡ false = grind (arith, nat_tests) in rw e refl

-- what is kept behind a head without a body is heard of the input
pub heard-bare : {A : Type 0} (answer : Heard A) (knows : List ℕ → Bool) (got more : List ℕ) (headers : List HeaderSpan) (spans : RequestSpans) (token : List ℕ) (k : Kind)
    → IsRequestOf got headers spans → length got ≤ most_head → spans.len ≤ length got
    → HeadAsks knows (span_bytes got spans.method) (span_bytes got spans.path) (lines_of got (take spans.headers headers)) (asks token k None)
    → IsKept (request token k (span_bytes got spans.path) []) answer → IsHeardOf knows got more answer
heard-bare answer knows got more headers spans token k head short within judged kept =
    kept-heard answer knows (got ++ more) _ (some-read got more headers spans head)
    (spells-read knows got more headers spans (asks token k None) _ head short within judged refl) kept

-- the same behind a head and a body
pub heard-whole : {A : Type 0} (answer : Heard A) (knows : List ℕ → Bool) (got more : List ℕ) (headers : List HeaderSpan) (spans : RequestSpans) (token : List ℕ) (k : Kind) (size : ℕ) (body : List ℕ)
    → IsRequestOf got headers spans → length got ≤ most_head → spans.len ≤ length got
    → HeadAsks knows (span_bytes got spans.method) (span_bytes got spans.path) (lines_of got (take spans.headers headers)) (asks token k (Some size))
    → size ≤ length (drop spans.len got ++ more) → body ≡ take size (drop spans.len got ++ more)
    → IsKept (request token k (span_bytes got spans.path) body) answer → IsHeardOf knows got more answer
heard-whole answer knows got more headers spans token k size body head short within judged fits whole kept =
    kept-heard answer knows (got ++ more) _ (some-read got more headers spans head)
    (spells-read knows got more headers spans (asks token k (Some size)) _ head short within judged (behind-whole token k (span_bytes got spans.path) (drop spans.len got ++ more) size fits))
    (subst (λ (b : List ℕ). IsKept (request token k (span_bytes got spans.path) b) answer) whole kept)
