-- What a look-up finds is the row of its route, and the path matches its pattern.
use Rattle.std.proofs.Common.{◌≡◌, List, ℕ, [], ◌∷◌, refl, sym, subst, ap, ◌∙◌, Some}
use mathlib.Core.Logic.{inl, inr}
use Rattle.matchit.proofs.OnLiterals.{matchit_on_literals}
use Rattle.matchit.specs.Params.{walk, named}
use Rattle.matchit.specs.Seek.{first}
use Rattle.matchit.specs.Router.{RouteOf}
use Rattle.fab_wire_base.specs.Routes.{Table, with_route, table_from, desk_table}
use Rattle.fab_wire_base.specs.Matching.{IsRowOf, Matches, scan_of}
use Rattle.fab_wire_base.specs.Captures.{captured}
use Rattle.fab_wire_base.specs.declared.kinds.Route.{Route}
use Rattle.fab_wire_base.proofs.MatchLemmas.{seek-found}

-- what is found is the row of its route
record Agrees (t : List ℕ) (found : RouteOf Route) : Type 0 where
  pattern : t ≡ (scan_of found.value).pattern
  own : found.pattern ≡ (scan_of found.value).pattern
  text : found.text ≡ (scan_of found.value).text
  names : found.names ≡ (scan_of found.value).names

abbrev AllAgree : Table → Type 0
AllAgree [] = Unit {0}
AllAgree (row ∷ rows) = Agrees row.0 row.1 × AllAgree rows

table-agrees : AllAgree desk_table
unfolding matchit_on_literals with_route table_from scan_of
table-agrees = (record { pattern = refl; own = refl; text = refl; names = refl }, (record { pattern = refl; own = refl; text = refl; names = refl }, (record { pattern = refl; own = refl; text = refl; names = refl }, (record { pattern = refl; own = refl; text = refl; names = refl }, (record { pattern = refl; own = refl; text = refl; names = refl }, (record { pattern = refl; own = refl; text = refl; names = refl }, (record { pattern = refl; own = refl; text = refl; names = refl }, (record { pattern = refl; own = refl; text = refl; names = refl }, (record { pattern = refl; own = refl; text = refl; names = refl }, (record { pattern = refl; own = refl; text = refl; names = refl }, (record { pattern = refl; own = refl; text = refl; names = refl }, (record { pattern = refl; own = refl; text = refl; names = refl }, (record { pattern = refl; own = refl; text = refl; names = refl }, (record { pattern = refl; own = refl; text = refl; names = refl }, (record { pattern = refl; own = refl; text = refl; names = refl }, (record { pattern = refl; own = refl; text = refl; names = refl }, (record { pattern = refl; own = refl; text = refl; names = refl }, (record { pattern = refl; own = refl; text = refl; names = refl }, tt))))))))))))))))))

row-agrees : (rows : Table) (t : List ℕ) (found : RouteOf Route) → AllAgree rows → IsRowOf t found rows → Agrees t found
row-agrees [] t found h r = absurd r
row-agrees (row ∷ rows) t found h (inl r) = subst (λ (f : RouteOf Route). Agrees t f) (sym r.1) (subst (λ (u : List ℕ). Agrees u row.1) (sym r.0) h.0)
row-agrees (row ∷ rows) t found h (inr r) = row-agrees rows t found h.1 r

-- the path that is found matches, and a name captures what the walk of its route's scan takes
pub record IsAt (path : List ℕ) (found : RouteOf Route) : Type 0 where
  pub matches : Matches (scan_of found.value).pattern path
  pub takes : (name : List ℕ) → captured found name path ≡ named name (walk (scan_of found.value).pattern (scan_of found.value).text path (scan_of found.value).names 0 0)

pub found-at : (path : List ℕ) (found : RouteOf Route) → first desk_table path ≡ Some found → IsAt path found
found-at path found e =
    let h = seek-found found path 0 desk_table e in
    let a = row-agrees desk_table h.pattern found table-agrees h.row in
    record {
      matches = subst (λ (t : List ℕ). Matches t path) a.pattern h.matches;
      takes = λ name.
          ap (λ (t : List ℕ). named name (walk t found.text path found.names 0 0)) a.own
          ∙ ap (λ (t : List ℕ). named name (walk (scan_of found.value).pattern t path found.names 0 0)) a.text
          ∙ ap (λ (t : List (ℕ × ℕ)). named name (walk (scan_of found.value).pattern (scan_of found.value).text path t 0 0)) a.names;
    }
