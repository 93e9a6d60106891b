-- The text that an answer is printed as.
use Rattle.std.specs.Prelude.{ℕ, ◌≡◌, List, [], ◌∷◌, ◌++◌, Option, Some, None}
use Rattle.fab_reach_base.specs.fab_names.declared.fabric.Fabric.{Fabric}
use Rattle.fab_reach_base.specs.fab_zoning.declared.flag.DefaultFlag.{DefaultFlag}
use Rattle.fab_reach_base.specs.declared.path.Path.{Path}
use Rattle.fab_wire_streams.specs.JsonText.{json_text}
use Rattle.fab_desk_base.specs.declared.reply.ZoneMembers.{ZoneMembers}
use Rattle.fab_desk_base.specs.declared.reply.Shown.TheVariants as shown
use Rattle.fab_desk_base.specs.declared.reply.Reply.TheVariants as reply
use Rattle.fab_wire_answers.specs.Bodies.{body_of}
use Rattle.fab_wire_answers.specs.declared.answers.Answer.{Answer}
use Rattle.fab_wire_answers.specs.declared.answers.Answer.TheVariants as answer
use Rattle.fab_files.specs.PathLists.{csv_text}
use Rattle.fab_files.specs.Reports.{IsReport}
use Rattle.fab_files.specs.ActiveSets.{active_lines}
use Rattle.fab_files.specs.declared.forms.Form.{Form}
use Rattle.fab_files.specs.declared.forms.Form.TheVariants.{Json, Paths, Report, Active}

-- its JSON and a line feed
abbrev pub json_line : {A : Type 0} → Answer A → List ℕ
json_line a = json_text (body_of a) ++ 10 ∷ []

-- the host and its paths that it shows, if it shows some host's
abbrev pub paths_in : {A : Type 0} → Answer A → Option (List ℕ × List Path)
paths_in (answer.Replied (reply.Shown (shown.Paths host paths))) = Some (host, paths.items)
paths_in other = None

-- the fabric, the active set, what the default zone does, and the zones, if it shows these
abbrev pub active_in : {A : Type 0} → Answer A → Option (Fabric × Option (List ℕ) × DefaultFlag × List (ZoneMembers A))
active_in (answer.Replied (reply.Shown (shown.Active f active flag zones))) = Some (f, active, flag, zones.items)
active_in other = None

-- paths as CSV, or another text where there are none
abbrev pub csv_or : List ℕ → Option (List ℕ × List Path) → List ℕ
csv_or other (Some p) = csv_text p.0 p.1
csv_or other None = other

abbrev pub paths_text : {A : Type 0} → Answer A → List ℕ
paths_text a = csv_or (json_line a) (paths_in a)

-- an active set, or another text where there is none
abbrev pub active_or : {A : Type 0} → List ℕ → Option (Fabric × Option (List ℕ) × DefaultFlag × List (ZoneMembers A)) → List ℕ
active_or other (Some p) = active_lines p.0 p.1 p.2 p.3
active_or other None = other

abbrev pub active_text : {A : Type 0} → Answer A → List ℕ
active_text a = active_or (json_line a) (active_in a)

-- the report on paths, or another text where there are none
abbrev pub IsReportOr : List ℕ → Option (List ℕ × List Path) → List ℕ → Type 0
IsReportOr other (Some p) text = IsReport p.0 p.1 text
IsReportOr other None text = text ≡ other

-- the text of an answer in a form; what does not fit the form is its JSON
abbrev pub IsPrinted : {A : Type 0} → Form → Answer A → List ℕ → Type 0
IsPrinted Json a text = text ≡ json_line a
IsPrinted Paths a text = text ≡ paths_text a
IsPrinted Report a text = IsReportOr (json_line a) (paths_in a) text
IsPrinted Active a text = text ≡ active_text a

-- a sink took that text
abbrev pub Prints : {S A : Type 0} → (S → List ℕ → S → Type 0) → Form → Answer A → S → S → Type 0
Prints took form a old new = (text : List ℕ) × IsPrinted form a text × took old text new
