use Rattle.std.proofs.Common.{◌≡◌, ℕ, Result, Ok, Err, OnErr, refl, sym, ap, subst}
use Rattle.fab_reach_base.specs.Books.{IsDelta}
use Rattle.fab_reach_base.specs.Records.{Records}
use Rattle.fab_reach_base.specs.Serving.{IsServing}
use Rattle.fab_reach_base.specs.Views.{seen}
use Rattle.fab_reach_books.specs.Rows.{IsRowDiff}
use Rattle.fab_reach_books.specs.Sights.{SightRows}
use Rattle.fab_reach_books.proofs.book.PathBook.advance.Goals as goal

-- what is true of the world of a new sight, and of the world that it was made of
at_sight : (P : Records → Type 0) (s : SightRows) (w : Records) → s ≡ record { world = w; asked = 0 } → P w → P s.world
at_sight P s w is h = subst P (sym (ap (λ (x : SightRows). x.world) is)) h

at_world : (P : Records → ℕ → Type 0) (s : SightRows) (w : Records) → s ≡ record { world = w; asked = 0 } → P s.world s.asked → P w 0
at_world P s w is h = subst (λ (x : SightRows). P x.world x.asked) is h

-- what holds anyway
still_err : {X E : Type 0} (P : Type 0) (r : Result X E) → P → OnErr r P
still_err P (Ok x) h = tt
still_err P (Err e) h = h

pub prepare-requires-clause-stands : goal.prepare-requires-clause-stands
prepare-requires-clause-stands g c = c.requires.stands

pub prepare-requires-clause-sound : goal.prepare-requires-clause-sound
prepare-requires-clause-sound g c = at_sight IsServing c.new-sight.result (seen c.args.after.now) c.new-sight.ensures c.requires.sound

pub prepare-requires-clause-diff : goal.prepare-requires-clause-diff
prepare-requires-clause-diff g c =
    at_sight (λ w. IsRowDiff (seen c.args.before.now) w c.in_ok-diff.diff.gone.items c.in_ok-diff.diff.come.items) c.new-sight.result (seen c.args.after.now) c.new-sight.ensures c.in_ok-diff.ensures

pub returns-clause-ok : goal.returns-clause-ok
returns-clause-ok g c =
    at_world (λ w n. g.Self.PathBook.stands c.adopt.new.self w) c.new-sight.result (seen c.args.after.now) c.new-sight.ensures
    (c.adopt.ensures.stands (seen c.args.before.now) c.new-sight.result.world c.in_ok-ready.ensures.leads)

pub returns-clause-delta : goal.returns-clause-delta
returns-clause-delta g c =
    at_world (λ w n. IsDelta (seen c.args.before.now) w c.adopt.result.gained.items c.adopt.result.lost.items) c.new-sight.result (seen c.args.after.now) c.new-sight.ensures
    (c.adopt.ensures.delta (seen c.args.before.now) c.new-sight.result.world c.in_ok-ready.ensures.leads)

pub returns-clause-bounds : goal.returns-clause-bounds
returns-clause-bounds g c =
    let old = g.Self.PathBook.count c.args.self.now in
    let mid = g.Self.PathBook.count c.prepare.new.self in
    subst (λ (n : ℕ). g.Self.PathBook.bounds (seen c.args.before.now) (seen c.args.after.now) old n) (sym c.adopt.ensures.uncounted)
    (g.met.Self.PathBook.metered (seen c.args.before.now) (seen c.args.after.now) c.prepare.new.sight.asked old mid
    (at_world (λ w n. g.Self.PathBook.counts (seen c.args.before.now) w n c.prepare.new.sight.asked old mid) c.new-sight.result (seen c.args.after.now) c.new-sight.ensures c.in_ok-ready.ensures.counts))

pub returns-in_err-ready-clause-err : goal.returns-in_err-ready-clause-err
returns-in_err-ready-clause-err g c = still_err (g.Self.PathBook.stands c.prepare.new.self (seen c.args.before.now)) c.from_residual-in_err-ready.result c.prepare.ensures.stays

pub returns-in_err-ready-clause-uncounted : goal.returns-in_err-ready-clause-uncounted
returns-in_err-ready-clause-uncounted g c =
    still_err (g.Self.PathBook.count c.prepare.new.self ≡ g.Self.PathBook.count c.args.self.now) c.from_residual-in_err-ready.result c.in_err-ready.ensures.uncounted

pub returns-in_err-diff-clause-err : goal.returns-in_err-diff-clause-err
returns-in_err-diff-clause-err g c = still_err (g.Self.PathBook.stands c.args.self.now (seen c.args.before.now)) c.from_residual.result c.requires.stands

pub returns-in_err-diff-clause-uncounted : goal.returns-in_err-diff-clause-uncounted
returns-in_err-diff-clause-uncounted g c = still_err (g.Self.PathBook.count c.args.self.now ≡ g.Self.PathBook.count c.args.self.now) c.from_residual.result refl
