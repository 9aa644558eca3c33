-- What an actor is in, and what it wants, by its own steps.
use Rattle.std.proofs.Common.{◌≡◌, ℕ, ◌<◌, ◌&&◌, not, true≢false, true, false, IsTrue, List, [], ◌∷◌, fold, Option, Some, None, is_some, refl, sym, ap, ◌∙◌, subst}
use Rattle.std.proofs.lemmas.Bool.{and_parts}
use Rattle.law_serial_is_eager.specs.Words.{Key, GuestShape}
use Rattle.law_serial_is_eager.specs.Calls.{Operation, View}
use Rattle.law_serial_is_eager.specs.Histories.{names, IdealGuest}
use Rattle.law_serial_is_eager.specs.Core.{actor_count, Act, begins, makes, ends, CoreMoment, are_parts, has_registers, own_acts, Progress, opening_progress, progressed, progress_in, progress_of, stepped, IsProper, IsProperRun}
use Rattle.law_serial_is_eager.specs.LawCoreIsHistory.Whole.{AreEnded, within_after}
use Rattle.law_serial_is_eager.proofs.LawScansMissNone.ProgressLemmas.{operation_on}
use Rattle.law_serial_is_eager.proofs.AloneRuns.{none_wanted}
use Rattle.law_serial_is_eager.proofs.WantLemmas.{wants_none}

-- an actor is in a part where its own list says so
within_of : (shape : GuestShape) (actor : ℕ) (acts : List Act) (p : Progress) → is_some (progress_of shape actor p acts).operation ≡ fold within_after (is_some p.operation) acts
within_of shape actor [] p = refl
within_of shape actor (begins operation lrs ∷ acts) p = within_of shape actor acts (progressed shape actor p (begins operation lrs))
within_of shape actor (makes made ∷ acts) p = within_of shape actor acts (stepped shape actor made p) ∙ ap (λ o. fold within_after (is_some o) acts) (operation_on shape actor made p)
within_of shape actor (ends answer ∷ acts) p = within_of shape actor acts (progressed shape actor p (ends answer))

pub within_is : (guest : IdealGuest) (number : ℕ) (moments : List CoreMoment) (actor : ℕ) → is_some (progress_in guest number moments actor).operation ≡ fold within_after false (own_acts actor moments)
within_is guest number moments actor = within_of guest.shape actor (own_acts actor moments) (opening_progress guest number actor)

none_of : {X : Type 0} (o : Option X) → is_some o ≡ false → o ≡ None
none_of None e = refl
none_of (Some x) e = absurd (true≢false e)

-- where all parts ended it is in none
pub ended_none : (guest : IdealGuest) (number : ℕ) (moments : List CoreMoment) (actor : ℕ) → actor < actor_count guest.shape → AreEnded guest.shape moments → (progress_in guest number moments actor).operation ≡ None
ended_none guest number moments actor there ended = none_of (progress_in guest number moments actor).operation (within_is guest number moments actor ∙ ended actor there)

-- an actor wants nothing where it is in no part, or in one for a call that names no interrupt
pub record WantsLittle (shape : GuestShape) (actor : ℕ) (p : Progress) : Type 0 where
  pub out : p.operation ≡ None → p.wants ≡ []
  pub none : (operation : Operation) → p.operation ≡ Some operation → ((view : View) (key : Key) → names shape view actor operation key ≡ false) → p.wants ≡ []

no_some : {X : Type 0} {T : Type 0} (x : X) → Some x ≡ None → T
no_some x e = absurd (cc)

wants_little : (shape : GuestShape) (actor : ℕ) (acts : List Act) (p : Progress) → IsProper shape actor p acts → IsTrue (are_parts shape actor (is_some p.operation) acts) → WantsLittle shape actor p → WantsLittle shape actor (progress_of shape actor p acts)
wants_little shape actor [] p proper parts little = little
wants_little shape actor (begins operation lrs ∷ acts) p proper parts little =
    let fit = and_parts (not (is_some p.operation) && has_registers shape actor lrs) (are_parts shape actor true acts) parts in
    let nothing = little.out (of p.operation (and_parts (not (is_some p.operation)) (has_registers shape actor lrs) fit.0).0) in
    wants_little shape actor acts (progressed shape actor p (begins operation lrs)) proper.1 fit.1 (record { out = λ e. nothing; none = λ operation e names_none. nothing })
  where
    of : (o : Option Operation) → IsTrue (not (is_some o)) → o ≡ None
    of None h = refl
    of (Some operation) h = absurd (true≢false (sym h))
wants_little shape actor (makes made ∷ acts) p proper parts little =
    let fit = and_parts (is_some p.operation) (are_parts shape actor (is_some p.operation) acts) parts in
    let same = operation_on shape actor made p in
    wants_little shape actor acts (stepped shape actor made p) proper.1 (subst (λ o. IsTrue (are_parts shape actor (is_some o) acts)) (sym same) fit.1)
    (record {
      out = λ e. absurd (true≢false (sym fit.0 ∙ ap is_some (sym same ∙ e)));
      none = λ operation e names_none. wants_none shape actor made p operation names_none (sym same ∙ e) proper.0.want (little.none operation (sym same ∙ e) names_none);
    })
wants_little shape actor (ends answer ∷ acts) p proper parts little =
    let fit = and_parts (is_some p.operation) (are_parts shape actor false acts) parts in
    let nothing = none_wanted p.wants proper.0.want in
    wants_little shape actor acts (progressed shape actor p (ends answer)) proper.1 fit.1 (record { out = λ e. nothing; none = λ operation e names_none. nothing })

-- so it is at every moment of every proper run
pub own_wants : (guest : IdealGuest) (number : ℕ) (moments : List CoreMoment) → IsProperRun guest number moments → (actor : ℕ) → actor < actor_count guest.shape → WantsLittle guest.shape actor (progress_in guest number moments actor)
own_wants guest number moments proper actor there =
    wants_little guest.shape actor (own_acts actor moments) (opening_progress guest number actor) (proper.proper actor there) (proper.parted.parts actor there) (record { out = λ e. refl; none = λ operation e names_none. refl })
