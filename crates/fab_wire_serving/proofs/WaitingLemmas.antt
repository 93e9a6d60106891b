-- Turns whose lines wait, become others, and come into the log in their order.
use Rattle.std.proofs.Common.{◌≡◌, ℕ, ◌+◌, ◌⊎◌, inl, inr, refl, sym, subst, arith, List, [], ◌∷◌, ◌++◌, length, length-append, Result, Ok, Err, OnOk, Option, Some, IfSome}
use Rattle.std.specs.Prelude.{codes}
use Rattle.std.specs.Time.{instant_nanos}
use Rattle.fab_wire_streams.specs.declared.counted.Counted.{Counted}
use Rattle.fab_wire_log.specs.Lines.{line_text, Notes, Lasted}
use Rattle.fab_wire_log.specs.Pending.{IsMarked, AreMarked, AreNoted, Advances}
use Rattle.fab_wire_log.specs.Shown.{shown_text}
use Rattle.fab_wire_log.specs.declared.pending.Line.{Line}
use Rattle.fab_wire_log.proofs.PendingLemmas.{marked_length, advances_twice}
use Rattle.fab_wire_serving.specs.Coming.{CameSo, came_text}
use Rattle.fab_wire_serving.specs.Sides.{Sides}
use Rattle.fab_wire_serving.specs.Turns.{IsTurn, AreTurns}
use Rattle.fab_wire_serving.specs.Waiting.{IsPlayed, IsWaiting, AreWaiting, ArePlayed, IsTurnTaken}
use Rattle.fab_wire_serving.specs.declared.connection.Came.{Came}
use Rattle.fab_wire_serving.specs.declared.connection.Came.TheVariants.{Served, Unsent}
use Rattle.fab_wire_serving.specs.declared.server.Server as server
use Rattle.fab_wire_serving.proofs.TurnLemmas.{one-more}

module _ {S Store Fault Outcome W : Type 0} (g : server.Ghosts S Store Fault Outcome) (opens : Result Store Fault → Type 0)
    (gives : Option ℕ → Type 0) (tells : ℕ → Type 0) (fails : Type 0) (contents : W → Option (List ℕ)) (most : ℕ) where
  -- an answer that was not taken
  came_unsent : (P : Outcome → Sides → Type 0) (came : Came Outcome) → CameSo P came → CameSo P Unsent
  came_unsent P (Served outcome) h = (outcome, (h.0, h.1))
  came_unsent P Unsent h = h

  played_unsent : (s : S) (moment : ℕ) (text : List ℕ) (t : S) → IsPlayed g opens gives tells fails contents most s moment text t → IsPlayed g opens gives tells fails contents most s moment (codes "unsent") t
  played_unsent s moment text t (given, (restored, came, is_restored, (began, told, came_so), is)) =
      (given, (restored, Unsent, is_restored, (began, told, came_unsent _ came came_so), refl))

  played_shown : (s : S) (moment : ℕ) (text text' : List ℕ) (t : S) → (text' ≡ text) ⊎ (text' ≡ codes "unsent")
      → IsPlayed g opens gives tells fails contents most s moment text t → IsPlayed g opens gives tells fails contents most s moment text' t
  played_shown s moment text text' t (inl e) h = subst (λ (x : List ℕ). IsPlayed g opens gives tells fails contents most s moment x t) (sym e) h
  played_shown s moment text text' t (inr e) h = subst (λ (x : List ℕ). IsPlayed g opens gives tells fails contents most s moment x t) (sym e) (played_unsent s moment text t h)

  -- a turn whose line became another
  waiting_marked : (s : S) (x y : Line) (t : S) → IsMarked tells fails x y → IsWaiting g opens gives tells fails contents most s x t → IsWaiting g opens gives tells fails contents most s y t
  waiting_marked s x y t (inl e) h = subst (λ (w : Line). IsWaiting g opens gives tells fails contents most s w t) (sym e) h
  waiting_marked s x y t (inr (moment, start, shown, timed)) (played, told, before) = (
    subst (λ (m : ℕ). IsPlayed g opens gives tells fails contents most s m (shown_text y.shown) t) (sym moment)
        (played_shown s x.moment (shown_text x.shown) (shown_text y.shown) t shown played),
    rw start told,
    timed,
  )

  pub all_waiting_marked : (s : S) (xs ys : List Line) (t : S) → AreMarked tells fails xs ys → AreWaiting g opens gives tells fails contents most s xs t → AreWaiting g opens gives tells fails contents most s ys t
  all_waiting_marked s [] [] t h k = k
  all_waiting_marked s [] (y ∷ ys) t h k = absurd h
  all_waiting_marked s (x ∷ xs) [] t h k = absurd h
  all_waiting_marked s (x ∷ xs) (y ∷ ys) t h k = (k.0, waiting_marked s x y k.0 h.0 k.1, all_waiting_marked k.0 xs ys t h.1 k.2)

  -- a turn whose line came into the log
  turn_noted : (s : S) (log : Counted W) (line : Line) (milliseconds : ℕ) (t : S) (log' : Counted W) → IsWaiting g opens gives tells fails contents most s line t
      → line.milliseconds ≡ Some milliseconds → Notes contents log log' (line_text line.moment (shown_text line.shown) milliseconds)
      → IsTurn g opens gives tells fails contents most s log line.moment t log'
  turn_noted s log line milliseconds t log' ((given, (restored, came, is_restored, in_time, is)), told, timed) known noted =
      let lasted : Lasted tells fails (instant_nanos line.start) milliseconds = subst (λ (o : Option ℕ). IfSome o (λ n. Lasted tells fails (instant_nanos line.start) n)) known timed in
      let text : Notes contents log log' (line_text line.moment (came_text g.shows came) milliseconds) = subst (λ (x : List ℕ). Notes contents log log' (line_text line.moment x milliseconds)) is noted in
      (given, (restored, came, is_restored, in_time, (instant_nanos line.start, told, (milliseconds, lasted, text))))

  -- turns whose lines came into the log, one after the other
  turns_noted : (s : S) (log : Counted W) (moments : List ℕ) (middle : S) (mid : Counted W) (front rest : List Line) (t : S) (last : Counted W)
      → AreTurns g opens gives tells fails contents most s log moments middle mid → AreWaiting g opens gives tells fails contents most middle (front ++ rest) t
      → AreNoted contents mid front last
      → (moments' : List ℕ) × (middle' : S) × AreTurns g opens gives tells fails contents most s log moments' middle' last × AreWaiting g opens gives tells fails contents most middle' rest t
      × (length moments' ≡ length moments + length front)
  turns_noted s log moments middle mid [] rest t last turns waiting noted =
      (moments, middle, subst (λ (w : Counted W). AreTurns g opens gives tells fails contents most s log moments middle w) (sym noted) turns, waiting, omega arith)
  turns_noted s log moments middle mid (line ∷ front) rest t last turns waiting noted =
      let turn = turn_noted middle mid line noted.1 waiting.0 noted.0 waiting.1 noted.2 noted.3 in
      let more = one-more g opens gives tells fails contents most s log moments line.moment middle mid waiting.0 noted.0 turns turn in
      let rec = turns_noted s log (moments ++ (line.moment ∷ [])) waiting.0 noted.0 front rest t last more waiting.2 noted.4 in
      let e = length-append moments (line.moment ∷ []) in
      let f = rec.4 in
      (rec.0, rec.1, rec.2, rec.3, omega (arith, e, f))

  -- the lines advance, and the turns are the same
  pub played_advances : (s : S) (log : Counted W) (count : ℕ) (t : S) (mid : Counted W) (lines : List Line) (last : Counted W) (lines' : List Line)
      → ArePlayed g opens gives tells fails contents most s log count t mid lines → Advances tells fails contents mid lines last lines'
      → ArePlayed g opens gives tells fails contents most s log count t last lines'
  played_advances s log count t mid lines last lines' (moments, middle, turns, waiting, counted) (noted, marked, logged) =
      let became = all_waiting_marked middle lines (noted ++ lines') t marked waiting in
      let all = turns_noted s log moments middle mid noted lines' t last turns became logged in
      let e = marked_length tells fails lines (noted ++ lines') marked in
      let f = length-append noted lines' in
      let n = all.4 in
      (all.0, all.1, all.2, all.3, omega (arith, counted, e, f, n))

  waiting_behind : (s : S) (lines : List Line) (line : Line) (t u : S) → AreWaiting g opens gives tells fails contents most s lines t → IsWaiting g opens gives tells fails contents most t line u
      → AreWaiting g opens gives tells fails contents most s (lines ++ (line ∷ [])) u
  waiting_behind s [] line t u h k = (u, subst (λ (x : S). IsWaiting g opens gives tells fails contents most x line u) h k, refl)
  waiting_behind s (x ∷ lines) line t u h k = (h.0, h.1, waiting_behind h.0 lines line t u h.2 k)

  -- one more turn
  played_behind : (s : S) (log : Counted W) (count : ℕ) (t : S) (mid : Counted W) (lines : List Line) (line : Line) (u : S)
      → ArePlayed g opens gives tells fails contents most s log count t mid lines → IsWaiting g opens gives tells fails contents most t line u
      → ArePlayed g opens gives tells fails contents most s log (count + 1) u mid (lines ++ (line ∷ []))
  played_behind s log count t mid lines line u (moments, middle, turns, waiting, counted) turn =
      let e = length-append lines (line ∷ []) in
      (moments, middle, turns, waiting_behind middle lines line t u waiting turn, omega (arith, counted, e))

  pub turn_taken : (s : S) (log : Counted W) (count : ℕ) (t : S) (mid : Counted W) (lines : List Line) (u : S) (last : Counted W) (lines' : List Line)
      → ArePlayed g opens gives tells fails contents most s log count t mid lines → IsTurnTaken g opens gives tells fails contents most t mid lines u last lines'
      → ArePlayed g opens gives tells fails contents most s log (count + 1) u last lines'
  turn_taken s log count t mid lines u last lines' played (between, others, line, before, turn, after) =
      let first = played_advances s log count t mid lines between others played before in
      let second = played_behind s log count t between others line u first turn in
      played_advances s log (count + 1) u between (others ++ (line ∷ [])) last lines' second after

  -- no line waits any more
  pub all_noted : (s : S) (log : Counted W) (count : ℕ) (t : S) (last : Counted W) → ArePlayed g opens gives tells fails contents most s log count t last []
      → (moments : List ℕ) × AreTurns g opens gives tells fails contents most s log moments t last × (length moments ≡ count)
  all_noted s log count t last (moments, middle, turns, waiting, counted) =
      (moments, subst (λ (x : S). AreTurns g opens gives tells fails contents most s log moments x last) (sym waiting) turns, omega (arith, counted))

  -- the lines advance before a turn is taken
  pub taken_behind : (s : S) (log : Counted W) (lines : List Line) (mid : Counted W) (lines' : List Line) (t : S) (last : Counted W) (lines'' : List Line)
      → Advances tells fails contents log lines mid lines' → IsTurnTaken g opens gives tells fails contents most s mid lines' t last lines''
      → IsTurnTaken g opens gives tells fails contents most s log lines t last lines''
  taken_behind s log lines mid lines' t last lines'' before (between, others, line, advance, turn, after) =
      (between, others, line, advances_twice tells fails contents log lines mid lines' between others before advance, turn, after)

-- what follows of a call that succeeded
pub on_ok_map : {A E : Type 0} (r : Result A E) (P Q : Type 0) → (P → Q) → OnOk r P → OnOk r Q
on_ok_map (Ok x) P Q f h = f h
on_ok_map (Err e) P Q f h = tt
