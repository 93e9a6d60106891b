-- What is heard of an input.
use Rattle.std.specs.Prelude.{ℕ, ◌≡◌, ◌<◌, List, ◌++◌, Bool, true, length}
use Rattle.fab_wire_streams.specs.Failures.{one_more}
use Rattle.fab_wire_base.specs.Spelling.{Request, request, nothing, refused, asked, Spells}
use Rattle.fab_wire_base.specs.declared.hear.Asked.{Asked}
use Rattle.fab_wire_base.specs.declared.hear.Heard.{Heard}
use Rattle.fab_wire_base.specs.declared.hear.Heard.TheVariants as heard

-- the request that was heard
abbrev pub request_of : {A : Type 0} → Asked A → Request
request_of q = request q.token.items q.kind q.target.items q.body.items

-- what is heard of an input is what it spells, where these tokens are known; a failed read stands for nothing, and want of memory for any input but the empty one
abbrev pub IsHeard : {A : Type 0} → (List ℕ → Bool) → List ℕ → Heard A → Type 0
IsHeard knows input heard.Nothing = Spells knows input nothing
IsHeard knows input (heard.Refused why) = Spells knows input (refused why)
IsHeard knows input (heard.Asked q) = Spells knows input (asked (request_of q))
IsHeard knows input heard.ReadFailed = Unit {0}
IsHeard knows input heard.Memory = 0 < length input

-- the same of an input of which these bytes have been read, and more are left
abbrev pub IsHeardOf : {A : Type 0} → (List ℕ → Bool) → List ℕ → List ℕ → Heard A → Type 0
IsHeardOf knows got more answer = IsHeard knows (got ++ more) answer

-- who asks is known
abbrev pub IsHeardOfKnown : {A : Type 0} → (List ℕ → Bool) → Heard A → Type 0
IsHeardOfKnown knows (heard.Asked q) = knows q.token.items ≡ true
IsHeardOfKnown knows other = Unit {0}

-- the request is heard, or there was no memory
abbrev pub IsKept : {A : Type 0} → Request → Heard A → Type 0
IsKept q (heard.Asked kept) = request_of kept ≡ q
IsKept q heard.Memory = Unit {0}
IsKept q other = ⊥

-- the count of failures, which only a failed read raises
abbrev pub failures_after_heard : {A : Type 0} → Heard A → ℕ → ℕ
failures_after_heard heard.Nothing before = before
failures_after_heard (heard.Refused why) before = before
failures_after_heard (heard.Asked q) before = before
failures_after_heard heard.ReadFailed before = one_more before
failures_after_heard heard.Memory before = before
