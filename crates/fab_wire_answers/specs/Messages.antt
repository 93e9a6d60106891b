-- Answers as bytes (RFC 9112).
use Rattle.std.specs.Prelude.{ℕ, ◌≡◌, ◌-◌, ◌^◌, List, [], ◌∷◌, ◌++◌, length, codes, decimal, unwrap_or, nat_lt, if◌then◌else◌}
use Rattle.std.specs.List.{flat_map}
use Rattle.http.specs.StatusCode.{reason_phrase}
use Rattle.fab_wire_base.specs.Table.{allow_line_of}
use Rattle.fab_wire_base.specs.declared.requests.Refusal.TheVariants as no
use Rattle.fab_desk_base.specs.declared.fault.DeskFault.TheVariants as fault
use Rattle.fab_desk_base.specs.declared.reply.Reply.TheVariants as reply
use Rattle.fab_wire_streams.specs.JsonText.{json_text}
use Rattle.fab_wire_answers.specs.declared.answers.Answer.{Answer}
use Rattle.fab_wire_answers.specs.declared.answers.Answer.TheVariants as answer
use Rattle.fab_wire_answers.specs.declared.codes.Code.TheVariants as code
use Rattle.fab_wire_answers.specs.Bodies.{body_of, fault_body}
use Rattle.fab_wire_answers.specs.Codes.{line_of}
use Rattle.fab_wire_answers.specs.Faults.{code_of_wire, code_of_fault}

-- the status of an answer
abbrev pub status_of : {A : Type 0} → Answer A → ℕ
status_of (answer.Refused why) = (line_of (code_of_wire why)).status
status_of (answer.Replied (reply.Refused why)) = (line_of (code_of_fault why)).status
status_of (answer.Replied other) = 200

-- the header line that an answer has beside those of every answer
abbrev pub own_line_of : {A : Type 0} → Answer A → List ℕ
own_line_of (answer.Refused no.NoCaller) = codes "WWW-Authenticate: Bearer\r\n"
own_line_of (answer.Refused (no.BadMethod route)) = allow_line_of route
own_line_of (answer.Replied (reply.Refused fault.NoCaller)) = codes "WWW-Authenticate: Bearer\r\n"
own_line_of other = []

-- the phrase of a status, as the crate http has it
unfoldable pub phrase_of : ℕ → List ℕ
phrase_of status = unwrap_or (reason_phrase status) []

-- the head lines of an answer with a body of so many bytes
unfoldable pub head_text : ℕ → List ℕ → ℕ → List ℕ
head_text status own_line len =
    flat_map (λ piece. piece) (codes "HTTP/1.1 " ∷ decimal status ∷ codes " " ∷ phrase_of status
    ∷ codes "\r\nContent-Type: application/json\r\nContent-Length: " ∷ decimal len ∷ codes "\r\n" ∷ own_line ∷ codes "Connection: close\r\n\r\n" ∷ [])

-- the head lines with this length, and the body
abbrev pub message : {A : Type 0} → Answer A → ℕ → List ℕ
message a len = head_text (status_of a) (own_line_of a) len ++ json_text (body_of a)

-- how many bytes the body has
abbrev pub body_len_of : {A : Type 0} → Answer A → ℕ
body_len_of a = length (json_text (body_of a))

-- the text of an answer
abbrev pub text : {A : Type 0} → Answer A → List ℕ
text a = message a (body_len_of a)

-- the answer of want of memory
abbrev pub want_of_memory : {A : Type 0} → Answer A
want_of_memory = answer.Replied (reply.Refused fault.Memory)

-- its text
abbrev pub memory_text : List ℕ
memory_text = let body = json_text (fault_body fault.Memory) in head_text (line_of code.Memory).status [] (length body) ++ body

-- the answer that is written: that of want of memory where the body has more bytes than any machine holds
abbrev pub told_of : {A : Type 0} → Answer A → Answer A
told_of a = if nat_lt (body_len_of a) (2 ^ 64 - 1) then a else want_of_memory

-- the phrases of the statuses of answers
abbrev pub phrases : List (ℕ × List ℕ)
phrases =
    (200, codes "OK") ∷ (400, codes "Bad Request") ∷ (401, codes "Unauthorized") ∷ (403, codes "Forbidden") ∷ (404, codes "Not Found")
    ∷ (405, codes "Method Not Allowed") ∷ (409, codes "Conflict") ∷ (411, codes "Length Required") ∷ (413, codes "Payload Too Large")
    ∷ (503, codes "Service Unavailable") ∷ []

-- each status of a list has its phrase
abbrev pub HavePhrases : List (ℕ × List ℕ) → Type 0
HavePhrases [] = Unit {0}
HavePhrases ((status, phrase) ∷ others) = (phrase_of status ≡ phrase) × HavePhrases others

-- the phrases of the answers are those of the crate http
abbrev pub PhrasesAreStandard : Type 0
PhrasesAreStandard = HavePhrases phrases
