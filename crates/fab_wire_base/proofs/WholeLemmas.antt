-- What a beginning tells of an input.
use Rattle.std.proofs.Common.{rules, ◌≡◌, ℕ, ◌+◌, ◌-◌, ◌<◌, ◌≤◌, inl, inr, List, [], ◌∷◌, ◌++◌, length, take, drop, Option, Some, None, refl, sym, subst, ap, Bool, true, false, arith, map, length-append, append_assoc, append-nil, get_or, lit<, lit≤, suc, zero}
use Rattle.std.specs.Prelude.{nat_le, if◌then◌else◌}
use Rattle.std.proofs.lemmas.Bool.Decides.{nat_tests}
use Rattle.std.proofs.lemmas.List.{take-append-le, length-drop}
use Rattle.std.proofs.lemmas.List.Elements.{All-cons, All-nil}
use Rattle.std.proofs.lemmas.Str.{IsUtf8-from_ascii}
use Rattle.std.specs.Prelude.{IsTrue}
use Rattle.httparse.specs.Grammar.{HasNoRequest, IsField, IsRequestHead, lf, MayBecomeRequest, RequestHead, is_token_byte, is_uri_byte, print_request}
use Rattle.httparse.specs.Spans.{IsRequestOf, RequestOverflows, span_bytes, name_and_value}
use Rattle.httparse.proofs.GrammarLemmas.{ReadsRequest-append}
use Rattle.httparse.specs.declared.spans.HeaderSpan.{HeaderSpan}
use Rattle.httparse.specs.declared.spans.RequestSpans.{RequestSpans}
use Rattle.fab_wire_base.specs.Limits.{most_head, most_lines, most_body}
use Rattle.fab_wire_base.specs.Lines.{Line, lines_of}
use Rattle.fab_wire_base.specs.Asking.{Asking, refuses, asks, HeadAsks, by_head, by_caller, by_route, by_method, by_length, by_size}
use Rattle.fab_wire_base.specs.Callers.{caller_of}
use Rattle.fab_wire_base.specs.Table.{kind_at, form_of, is_body}
use Rattle.fab_wire_base.specs.Spelling.{request, refused, asked, SpellsBehind, Spells}
use Rattle.fab_wire_base.specs.declared.fields.Length.{Length}
use Rattle.fab_wire_base.specs.declared.fields.Length.TheVariants as len
use Rattle.fab_wire_base.specs.declared.kinds.Kind.{Kind}
use Rattle.fab_wire_base.specs.declared.kinds.Route.{Route}
use Rattle.fab_wire_base.specs.declared.requests.Refusal.{Refusal}
use Rattle.fab_wire_base.specs.declared.requests.Refusal.TheVariants as no
use Rattle.fab_wire_base.proofs.HeadLemmas.{full-refused, head-refused}
use Rattle.fab_wire_base.proofs.HearLemmas.{spells-read, behind-whole}
use Rattle.fab_wire_base.proofs.SpellingLemmas.{head-some, spells_one}
use Rattle.fab_wire_base.specs.Whole.{IsWhole, Lacks, BeginningsTell}

-- what a beginning spells that is whole, each input spells that begins so
pub beginnings-tell : BeginningsTell
beginnings-tell knows bytes more s (t, h) k =
    let first : Spells knows bytes t = subst (λ x. Spells knows x t) append-nil-of (h []) in
    subst (Spells knows (bytes ++ more)) (spells_one knows bytes t s first k) (h more)
  where
    append-nil-of : bytes ++ [] ≡ bytes
    append-nil-of = search rules

-- no head begins the first bytes, and they are as many as a head may have
pub full-whole : (knows : List ℕ → Bool) (got behind : List ℕ) → length got ≡ most_head → HasNoRequest got → IsWhole knows (got ++ behind)
full-whole knows got behind e n = (
  refused no.BadHead,
  λ more. rw (append_assoc got behind more)
      (inr (inl (let none = full-refused (Some (got ++ (behind ++ more))) (Some (behind ++ more)) 0 0 got (record { consumes = refl; count = refl; none = λ _. n }) e in (none.0, none.1, refl)))),
)

-- no head can begin with the first bytes
pub never-whole : (knows : List ℕ → Bool) (got behind : List ℕ) → 0 < length got → RequestOverflows most_lines got → IsWhole knows (got ++ behind)
never-whole knows got behind some over = (
  refused no.BadHead,
  λ more. rw (append_assoc got behind more)
      (inr (inl (let none = head-refused (Some (got ++ (behind ++ more))) (Some (behind ++ more)) got refl some over in (none.0, none.1, refl)))),
)

-- a head is refused
pub refused-whole : (knows : List ℕ → Bool) (got behind : List ℕ) (headers : List HeaderSpan) (spans : RequestSpans) (why : Refusal)
    → IsRequestOf got headers spans → length got ≤ most_head → spans.len ≤ length got
    → HeadAsks knows (span_bytes got spans.method) (span_bytes got spans.path) (lines_of got (take spans.headers headers)) (refuses why)
    → IsWhole knows (got ++ behind)
refused-whole knows got behind headers spans why head short within judged =
    (refused why, λ more. rw (append_assoc got behind more) (spells-read knows got (behind ++ more) headers spans (refuses why) (refused why) head short within judged refl))

-- a head asks for no body
pub bare-whole : (knows : List ℕ → Bool) (got behind : List ℕ) (headers : List HeaderSpan) (spans : RequestSpans) (token : List ℕ) (k : Kind)
    → IsRequestOf got headers spans → length got ≤ most_head → spans.len ≤ length got
    → HeadAsks knows (span_bytes got spans.method) (span_bytes got spans.path) (lines_of got (take spans.headers headers)) (asks token k None)
    → IsWhole knows (got ++ behind)
bare-whole knows got behind headers spans token k head short within judged = (
  asked (request token k (span_bytes got spans.path) []),
  λ more. rw (append_assoc got behind more)
      (spells-read knows got (behind ++ more) headers spans (asks token k None) _ head short within judged refl),
)

-- how many bytes stand behind a head
pub behind-length : (n : ℕ) (got behind : List ℕ) → length (drop n got ++ behind) ≡ (length got - n) + length behind
behind-length n got behind = simp (length-append, length-drop) refl

-- a head asks for a body, and all of it is there
pub body-whole : (knows : List ℕ → Bool) (got behind : List ℕ) (headers : List HeaderSpan) (spans : RequestSpans) (token : List ℕ) (k : Kind) (size : ℕ)
    → IsRequestOf got headers spans → length got ≤ most_head → spans.len ≤ length got
    → HeadAsks knows (span_bytes got spans.method) (span_bytes got spans.path) (lines_of got (take spans.headers headers)) (asks token k (Some size))
    → size ≤ length (drop spans.len got ++ behind) → IsWhole knows (got ++ behind)
body-whole knows got behind headers spans token k size head short within judged fits =
    let have = drop spans.len got ++ behind in (
      asked (request token k (span_bytes got spans.path) (take size have)),
      λ more. rw (append_assoc got behind more)
          (spells-read knows got (behind ++ more) headers spans (asks token k (Some size)) _ head short within judged
          (let same : take size (drop spans.len got ++ (behind ++ more)) ≡ take size have = rw (← append_assoc (drop spans.len got) behind more) (take-append-le size have more fits) in
          let longer : size ≤ length (drop spans.len got ++ (behind ++ more)) = rw (← append_assoc (drop spans.len got) behind more) (simp length-append (omega (arith, fits, length-append (drop spans.len got) behind))) in
          subst (λ (b : List ℕ). SpellsBehind (span_bytes got spans.path) (drop spans.len got ++ (behind ++ more)) (asks token k (Some size)) (asked (request token k (span_bytes got spans.path) b))) same
          (behind-whole token k (span_bytes got spans.path) (drop spans.len got ++ (behind ++ more)) size longer))),
    )

-- a head asks for a body, and some of it is lacking
pub body-lacks : (knows : List ℕ → Bool) (got behind : List ℕ) (headers : List HeaderSpan) (spans : RequestSpans) (token : List ℕ) (k : Kind) (size : ℕ)
    → IsRequestOf got headers spans → length got ≤ most_head → spans.len ≤ length got
    → HeadAsks knows (span_bytes got spans.method) (span_bytes got spans.path) (lines_of got (take spans.headers headers)) (asks token k (Some size))
    → length (drop spans.len got ++ behind) < size → Lacks knows (got ++ behind) (spans.len + size)
body-lacks knows got behind headers spans token k size (h, at) small within asks_it lacking =
    let short : length (print_request h) ≤ most_head = omega (arith, at.len) in
    let same : HeadAsks knows h.method h.target (lines_of got (take spans.headers headers)) (asks token k (Some size)) = rw (at.method, at.path) at asks_it in
    let named : HeadAsks knows h.method h.target (map name_and_value h.fields) (asks token k (Some size)) = subst (λ (ls : List Line). HeadAsks knows h.method h.target ls (asks token k (Some size))) at.fields same in
    inr (h, drop spans.len got ++ behind, token, k, size, (ReadsRequest-append got h (drop spans.len got) behind at.reads, short), named, lacking, ap (λ n. n + size) at.len)

-- no head begins no bytes
pub none-empty : (got : List ℕ) → length got ≡ 0 → HasNoRequest got
none-empty got e h rest k = absurd (omega (arith, e, head-some got h rest k))

-- a short head: G / HTTP/1.1 and an empty line
abbrev short_head : RequestHead
short_head = record { blank = []; method = 71 ∷ []; target = 47 ∷ []; minor = 1; line_end = lf; fields = []; last = lf }

slash-ascii : (i : ℕ) → get_or (47 ∷ []) i 0 < 128
slash-ascii zero = lit< tt
slash-ascii (suc i) = lit< tt

is-short_head : IsRequestHead short_head
unfolding is_token_byte
is-short_head = record {
  method = (lit< tt, All-cons (λ b. IsTrue (is_token_byte b)) 71 [] refl (All-nil (λ b. IsTrue (is_token_byte b))));
  target = (lit< tt, All-cons (λ b. IsTrue (is_uri_byte b)) 47 [] refl (All-nil (λ b. IsTrue (is_uri_byte b))));
  target_text = IsUtf8-from_ascii (47 ∷ []) slash-ascii;
  minor = lit≤ tt;
  fields = All-nil IsField;
}

-- bytes may follow no bytes that make a head
pub empty-may : (got : List ℕ) → length got ≡ 0 → MayBecomeRequest got
empty-may [] e = inl (print_request short_head, short_head, (is-short_head, sym (append-nil (print_request short_head))))
empty-may (b ∷ got) e = absurd (omega (arith, e))

-- no head begins the bytes, more of them may make one, and there is room for more
pub head-lacks : (knows : List ℕ → Bool) (got behind : List ℕ) → length got < most_head → length behind ≡ 0 → HasNoRequest got → MayBecomeRequest got → Lacks knows (got ++ behind) (length got + 1)
head-lacks knows got [] small e n may =
    let same : got ++ [] ≡ got = search rules in
    rw same (inl ((λ head rest k. n head rest k.0), may, small, refl))
head-lacks knows got (b ∷ behind) small e n may = absurd (omega (arith, e))

-- a body that is asked for has a limit
abbrev SizeFits : Asking → Type 0
SizeFits (refuses why) = Unit {0}
SizeFits (asks token k None) = Unit {0}
SizeFits (asks token k (Some size)) = size ≤ most_body

fits-if : (b : Bool) (x y : Asking) → SizeFits x → SizeFits y → SizeFits (if b then x else y)
fits-if true x y h k = h
fits-if false x y h k = k

fits-size : (token : List ℕ) (k : Kind) (length : Length) → SizeFits (by_size token k length)
fits-size token k len.Missing = tt
fits-size token k (len.Is size) = at (nat_le size most_body) refl
  where
    at : (b : Bool) → nat_le size most_body ≡ b → SizeFits (if b then asks token k (Some size) else refuses no.TooLarge)
    at true e = grind (arith, nat_tests)
    at false e = tt
fits-size token k len.Bad = tt

fits-length : (token : List ℕ) (k : Kind) (coded : Bool) (length : Length) → SizeFits (by_length token k coded length)
fits-length token k coded length = fits-if (is_body (form_of k)) _ _ (fits-if coded _ _ tt (fits-size token k length)) tt

fits-method : (token : List ℕ) (r : Route) (k : Option Kind) (coded : Bool) (length : Length) → SizeFits (by_method token r k coded length)
fits-method token r None coded length = tt
fits-method token r (Some k) coded length = fits-length token k coded length

fits-route : (token : List ℕ) (r : Option Route) (method : List ℕ) (coded : Bool) (length : Length) → SizeFits (by_route token r method coded length)
fits-route token None method coded length = tt
fits-route token (Some r) method coded length = fits-method token r (kind_at r method) coded length

fits-caller : (caller : Option (List ℕ)) (r : Option Route) (method : List ℕ) (coded : Bool) (length : Length) → SizeFits (by_caller caller r method coded length)
fits-caller None r method coded length = tt
fits-caller (Some token) r method coded length = fits-route token r method coded length

fits-head : (length : Length) (caller : Option (List ℕ)) (r : Option Route) (method : List ℕ) (coded : Bool) → SizeFits (by_head length caller r method coded)
fits-head len.Bad caller r method coded = tt
fits-head len.Missing caller r method coded = fits-caller caller r method coded len.Missing
fits-head (len.Is size) caller r method coded = fits-caller caller r method coded (len.Is size)

pub asked-size : (knows : List ℕ → Bool) (method target : List ℕ) (lines : List Line) (token : List ℕ) (k : Kind) (size : ℕ) → HeadAsks knows method target lines (asks token k (Some size)) → size ≤ most_body
asked-size knows method target lines token k size (l, h, e) = subst SizeFits (sym e) (fits-head l (caller_of knows lines) _ method _)
