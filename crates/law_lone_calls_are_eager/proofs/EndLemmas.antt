-- After a call while nobody else acts all calls ended again.
use Rattle.std.proofs.Common.{◌≡◌, IsTrue, List, [], ◌∷◌, map, length, replicate, slice_set, Option, Some, None, is_none, refl, sym, ap, ◌∙◌, subst, ℕ, Bool}
use Rattle.std.specs.List.{All}
use Rattle.std.proofs.lemmas.Grind.{fold-append}
use Rattle.std.proofs.lemmas.List.Elements.{All-head, All-tail, All-replicate}
use Rattle.law_home_commutes.specs.Calls.{Begin}
use Rattle.law_home_commutes.specs.GicCall.declared.event.Moment.TheVariants.{End}
use Rattle.law_home_commutes.specs.Histories.{Ideal, Call, Course, begun, gone_on, course_of, opening_course, last_of}
use Rattle.law_eager_is_history.specs.Moments.{moment_of}
use Rattle.law_eager_is_history.proofs.CourseLemmas.{state_after, call_after, in_call, calls_off, call_course, signals_along}
use Rattle.law_lone_calls_are_eager.specs.LoneCalls.{lone_call}
use Rattle.law_lone_calls_are_eager.specs.Laws.{CallsEndAgain}
use Rattle.law_lone_calls_are_eager.proofs.RunLemmas.{events_of, LoneRun, lone_run}

abbrev with_calls : Ideal → List (Option Call) → (ℕ → Bool) → Course
with_calls state calls signals = record { ideal = state; calls = calls; signals = signals }

-- no call is open
all_none : (calls : List (Option Call)) → All (λ call. IsTrue (is_none call)) calls → calls ≡ replicate (length calls) None
all_none [] all = refl
all_none (None ∷ calls) all = ap (λ xs. None ∷ xs) (all_none calls (All-tail (λ call. IsTrue (is_none call)) None calls all))
all_none (Some call ∷ calls) all = absurd (let no = All-head (λ call. IsTrue (is_none call)) (Some call) calls all in cc)

pub calls_end_again : CallsEndAgain
calls_end_again guest moments actor operation piece answer is =
    subst (λ (c : Course). All (λ call. IsTrue (is_none call)) c.calls) (sym (fold-append gone_on (opening_course guest) moments (lone_call actor operation piece answer)))
    (subst (All (λ call. IsTrue (is_none call))) (sym calls_are) (All-replicate (λ (call : Option Call). IsTrue (is_none call)) (length (course_of (opening_course guest) moments).calls) None refl))
  where
    run : LoneRun guest moments actor operation piece answer
    run = lone_run guest moments actor operation piece answer is

    -- the course while the call is open, and as it ends
    first : ℕ → Bool
    first = (gone_on (course_of (opening_course guest) moments) (Begin actor operation)).signals

    begins : gone_on (course_of (opening_course guest) moments) (Begin actor operation) ≡ in_call (length (course_of (opening_course guest) moments).calls) first actor (begun (last_of guest moments) operation) (last_of guest moments)
    begins = ap (λ calls. with_calls (last_of guest moments) (slice_set calls actor (Some (begun (last_of guest moments) operation))) first) (all_none (course_of (opening_course guest) moments).calls is.whole)

    goes : course_of (gone_on (course_of (opening_course guest) moments) (Begin actor operation)) (map (moment_of actor) piece)
        ≡ in_call (length (course_of (opening_course guest) moments).calls) (signals_along (length (course_of (opening_course guest) moments).calls) actor (events_of piece) (last_of guest moments) (begun (last_of guest moments) operation) first) actor (call_after actor (events_of piece) (last_of guest moments) (begun (last_of guest moments) operation)) (state_after actor (events_of piece) (last_of guest moments))
    goes =
        ap (λ c. course_of c (map (moment_of actor) piece)) begins
        ∙ ap (λ xs. course_of (in_call (length (course_of (opening_course guest) moments).calls) first actor (begun (last_of guest moments) operation) (last_of guest moments)) (map (moment_of actor) xs)) run.piece_is
        ∙ call_course (length (course_of (opening_course guest) moments).calls) first actor (events_of piece) (last_of guest moments) (begun (last_of guest moments) operation) run.there

    calls_are : (course_of (course_of (opening_course guest) moments) (lone_call actor operation piece answer)).calls ≡ replicate (length (course_of (opening_course guest) moments).calls) None
    calls_are =
        ap (λ (c : Course). c.calls) (fold-append gone_on (gone_on (course_of (opening_course guest) moments) (Begin actor operation)) (map (moment_of actor) piece) (End actor answer ∷ []))
        ∙ ap (λ (c : Course). slice_set c.calls actor None) goes
        ∙ calls_off (call_after actor (events_of piece) (last_of guest moments) (begun (last_of guest moments) operation)) (length (course_of (opening_course guest) moments).calls) actor
