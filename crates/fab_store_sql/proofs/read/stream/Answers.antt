use Rattle.std.proofs.Common.{rules, ◌≡◌, ◌∷◌, ◌++◌, [], None, Some, sym, ap, subst, ◌∙◌, arith}
use Rattle.std.specs.Prelude.{option_copied}
use Rattle.std.proofs.lemmas.List.{map-append}
use Rattle.sqlite.proofs.Callers.{unchanged_then}
use Rattle.sqlite.specs.Given.{GivesOn, row_if}
use Rattle.sqlite.specs.Held.{state}
use Rattle.sqlite.specs.State.{HasCleanDisk, Survives, FailsToQuery, CommitsShowing, Shown}
use Rattle.sqlite.specs.Values.{bound}
use Rattle.fab_store_sql.specs.Reading.{AreStreamed}
use Rattle.fab_store_sql.specs.Trees.{show_of}
use Rattle.fab_store_sql.proofs.Showings.{shown_since, failed_same, nothing_kept, stays_from}
use Rattle.fab_store_sql.proofs.read.stream.Goals as goal

pub returns-in-Err-clause-survives : goal.returns-in-Err-clause-survives
returns-in-Err-clause-survives g c =
    let old = state g.S.Store c.args.conn.now in
    let new = state g.S.Store c.query.follows.lender-at-none in
    let held = c.query.follows.holds-at-none in
    let kept : Survives old new (CommitsShowing c.args.text.now (bound c.args.params.now) old) = search rules in
    nothing_kept c.args.text.now (bound c.args.params.now) old new c.requires.plain kept

pub returns-in-Err-clause-stays : goal.returns-in-Err-clause-stays
returns-in-Err-clause-stays g c clean =
    let old = state g.S.Store c.args.conn.now in
    let new = state g.S.Store c.query.follows.lender-at-none in
    let held = c.query.follows.holds-at-none in
    let failed : FailsToQuery c.args.text.now (bound c.args.params.now) old new c.in-Err.error = search rules in
    stays_from old new (failed_same c.args.text.now (bound c.args.params.now) old new c.in-Err.error c.requires.plain failed)

pub returns-in_default-clause-shown : goal.returns-in_default-clause-shown
returns-in_default-clause-shown g c clean =
    let text = c.args.text.now in
    let params = bound c.args.params.now in
    let old = state g.S.Store c.args.conn.now in
    let mid = state g.S.Store c.rows.rows.conn.now in
    let now = c.advance.new.self.conn.now in
    let late : HasCleanDisk (state g.S.Store now) = search rules in
    let was = c.rows.invariant.given (omega (arith, c.advance.ensures.survives.clean)) in
    let none : row_if c.advance.new.self.has_row now ≡ None = sym c.get.ensures ∙ ap option_copied c.in_default.is in
    let shown : Shown text params mid (state g.S.Store now) was.0 = subst (GivesOn g.S.Store text params c.rows.rows.conn.now now was.0) none (c.in-Ok-advance.ensures.ok late text params was.0 was.1) in
    let told : AreStreamed g.L.Line.row (show_of g.L.Line.place) text params old (state g.S.Store now) c.rows.lines.items =
    record { rows = was.0; shown = shown_since text params old mid (state g.S.Store now) was.0 was.2 c.requires.plain shown; told = was.3 } in
    search rules

pub rows-preserved : goal.rows-preserved
rows-preserved g c =
    let text = c.args.text.now in
    let params = bound c.args.params.now in
    let old = state g.S.Store c.args.conn.now in
    let mid = state g.S.Store c.rows.rows.conn.now in
    let now = c.advance.new.self.conn.now in
    let some : row_if c.advance.new.self.has_row now ≡ Some c.in-Some.row.now = sym c.get.ensures ∙ ap option_copied c.in-Some.is in
    record {
      reference = search rules;
      survives = search rules;
      outside = λ outside. c.advance.ensures.mode (c.rows.invariant.outside outside);
      given = λ clean.
          let was = c.rows.invariant.given (omega (arith, c.advance.ensures.survives.clean)) in (
            was.0 ++ c.in-Some.row.now ∷ [],
            subst (GivesOn g.S.Store text params c.rows.rows.conn.now now was.0) some (c.in-Ok-advance.ensures.ok clean text params was.0 was.1),
            unchanged_then old mid (state g.S.Store now) was.2 (c.in-Ok-advance.ensures.same clean),
            c.in_ok-take.ensures ∙ ap (λ rows. rows ++ show_of g.L.Line.place c.in-Some.row.now ∷ []) was.3 ∙ sym (map-append (show_of g.L.Line.place) was.0 (c.in-Some.row.now ∷ [])),
          );
    }
