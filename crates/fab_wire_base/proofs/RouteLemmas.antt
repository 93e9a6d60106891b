-- One route more, and the segments of a path.
use Rattle.std.proofs.Common.{◌≡◌, ℕ, ◌+◌, ◌-◌, ◌<◌, ◌≤◌, zero, suc, List, [], ◌∷◌, Result, Ok, Err, OnOk, refl, sym, ap, ◌∙◌, length, drop, get_or, add-one, arith, ◌&&◌, Bool, true, false, Some, IfErr}
use Rattle.std.specs.Prelude.{is_none}
use Rattle.matchit.proofs.OnLiterals.{matchit_on_literals}
use Rattle.matchit.specs.declared.error.InsertError.TheVariants.{Conflict, OutOfMemory, InvalidParamSegment, InvalidParam, InvalidCatchAll}
use Rattle.std.proofs.lemmas.Grind.{common_steps}
use Rattle.matchit.specs.Route.{Scan, parse_route}
use Rattle.matchit.specs.Router.{InsertsRead, nearest}
use Rattle.matchit.specs.declared.error.InsertError.{InsertError}
use Rattle.fab_wire_base.specs.declared.kinds.Route.{Route}
use Rattle.fab_wire_base.specs.Table.{all_routes, path_of}
use Rattle.fab_wire_base.specs.Routes.{Table, with_scan, with_route, fits_scan, fits, table_from}
use Rattle.fab_wire_base.specs.Segments.{from_slash_on, segment_at}

by-scan : (read : Result Scan InsertError) (r : Route) (old new : Table) (done : Result (Unit {0}) InsertError) → InsertsRead read r old new done → OnOk done (new ≡ with_scan read r old)
by-scan (Ok s) r old new (Ok u) h = h.1
by-scan (Ok s) r old new (Err e) h = tt
by-scan (Err f) r old new (Ok u) h = h.0
by-scan (Err f) r old new (Err e) h = tt

-- an insert that succeeds gives the table with the route
pub adds : (path : List ℕ) (r : Route) (old new : Table) (done : Result (Unit {0}) InsertError) → path ≡ path_of r → InsertsRead (parse_route path) r old new done → OnOk done (new ≡ with_route r old)
unfolding with_route
adds path r old new done e h = by-scan (parse_route (path_of r)) r old new done (rw e at h)

only-memory : (read : Result Scan InsertError) (r : Route) (old new : Table) (done : Result (Unit {0}) InsertError) → fits_scan read old ≡ true → InsertsRead read r old new done → IfErr done (λ e. e ≡ OutOfMemory)
only-memory (Ok s) r old new (Ok u) f h = tt
only-memory (Ok s) r old new (Err (Conflict with)) f h = let e : nearest s.pattern old ≡ Some h.1.0 = h.1.1 in absurd (let g : is_none (Some h.1.0) ≡ true = rw e at f in cc g)
only-memory (Ok s) r old new (Err OutOfMemory) f h = refl
only-memory (Ok s) r old new (Err InvalidParamSegment) f h = absurd h.1
only-memory (Ok s) r old new (Err InvalidParam) f h = absurd h.1
only-memory (Ok s) r old new (Err InvalidCatchAll) f h = absurd h.1
only-memory (Err f) r old new done e h = cc

-- an insert of a route that fits fails for memory alone
pub fails-for-memory : (path : List ℕ) (r : Route) (old new : Table) (done : Result (Unit {0}) InsertError) → path ≡ path_of r → fits r old ≡ true → InsertsRead (parse_route path) r old new done → IfErr done (λ e. e ≡ OutOfMemory)
unfolding fits
fails-for-memory path r old new done e f h = only-memory (parse_route (path_of r)) r old new done f (rw e at h)

-- each route fits those before it
unfoldable pub all_fit : Table → List Route → Bool
all_fit table [] = true
all_fit table (r ∷ routes) = fits r table && all_fit (with_route r table) routes

pub routes_fit : all_fit [] all_routes ≡ true
unfolding matchit_on_literals with_route fits all_fit
routes_fit = refl

both : (a b : Bool) → (a && b) ≡ true → (a ≡ true) × (b ≡ true)
both true b h = (refl, h)
both false b h = cc

fit-suc : (table : Table) (rs : List Route) (i : ℕ) (d : Route) → i < length rs → all_fit table (drop i rs) ≡ true → (fits (get_or rs i d) table ≡ true) × (all_fit (with_route (get_or rs i d) table) (drop (suc i) rs) ≡ true)
unfolding all_fit
fit-suc table [] i d h k = absurd (omega arith)
fit-suc table (x ∷ rs) zero d h k = both (fits x table) (all_fit (with_route x table) rs) k
fit-suc table (x ∷ rs) (suc i) d h k = fit-suc table rs i d (omega arith) k

-- the next route fits
pub next-fits : (table : Table) (rs : List Route) (i : ℕ) (d : Route) → i < length rs → all_fit table (drop i rs) ≡ true → fits (get_or rs i d) table ≡ true
next-fits table rs i d h k = (fit-suc table rs i d h k).0

-- and those behind it
pub fit-more : (old new : Table) (rs : List Route) (i : ℕ) (d : Route) → i < length rs → new ≡ with_route (get_or rs i d) old → all_fit old (drop i rs) ≡ true → all_fit new (drop (i + 1) rs) ≡ true
fit-more old new rs i d h e k = rw (e, add-one) ((fit-suc old rs i d h k).1)

table-suc : (table : Table) (rs : List Route) (i : ℕ) (d : Route) → i < length rs → table_from table (drop i rs) ≡ table_from (with_route (get_or rs i d) table) (drop (suc i) rs)
unfolding table_from
table-suc table [] i d h = absurd (omega arith)
table-suc table (x ∷ rs) zero d h = refl
table-suc table (x ∷ rs) (suc i) d h = table-suc table rs i d (omega arith)

-- one route more is in the table
pub table-more : (old new all : Table) (rs : List Route) (i : ℕ) (d : Route) → i < length rs
    → new ≡ with_route (get_or rs i d) old → table_from old (drop i rs) ≡ all → table_from new (drop (i + 1) rs) ≡ all
table-more old new all rs i d h e k = rw (e, add-one) (sym (table-suc old rs i d h) ∙ k)

drop-all : (i : ℕ) (rs : List Route) → length rs ≤ i → drop i rs ≡ []
drop-all i [] h = grind (arith, common_steps)
drop-all zero (x ∷ rs) h = absurd (omega arith)
drop-all (suc i) (x ∷ rs) h = drop-all i rs (omega arith)

-- all the routes are in the table
pub table-done : (table all : Table) (i : ℕ) (rs : List Route) → length rs ≤ i → table_from table (drop i rs) ≡ all → table ≡ all
unfolding table_from
table-done table all i rs h k = (let e : drop i rs ≡ [] = drop-all i rs h in sym (ap (λ t. table_from table t) e)) ∙ k

-- one slash less to go
pub segment-step : (n i : ℕ) (rest : List ℕ) → i < n → segment_at (n - i) rest ≡ segment_at (n - (i + 1)) (from_slash_on rest)
segment-step n i rest h =
    let e : n - i ≡ suc (n - (i + 1)) = omega arith in
    ap (λ k. segment_at k rest) e
