use Rattle.std.proofs.Common.{rules, ◌≡◌, inr, false, subst, ℕ, Bool}
use Rattle.std.specs.Time.{instant_nanos}
use Rattle.fab_wire_gathering.specs.Ends.{FreesLeaver, GivesUpSilent}
use Rattle.fab_wire_gathering.proofs.gathering.Gathering.make_way.Goals as goal

pub returns-then-not-free_leaving : goal.returns-then-not-free_leaving
returns-then-not-free_leaving c =
    let none : c.free_leaving.result ≡ false = search rules in
    let mid = c.free_leaving.new.self.seats.items in
    inr (
      mid,
      subst (λ (frees : Bool). FreesLeaver _ c.args.self.now.seats.items mid frees) none c.free_leaving.ensures.free,
      subst (λ (waited : ℕ). GivesUpSilent _ (instant_nanos c.args.now) waited mid c.give_up_silent.new.self.seats.items) c.free_leaving.ensures.waited c.give_up_silent.ensures,
    )
