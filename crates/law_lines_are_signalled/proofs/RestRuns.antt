-- A run at the end of which no actor is in a part.
use Rattle.std.proofs.Common.{◌≡◌, ℕ, true≢false, [], ◌<◌, ◌&&◌, ◌==◌, not, IsTrue, List, None, is_none, is_some, false, refl, sym, ap, ◌∙◌}
use Rattle.std.proofs.lemmas.Bool.{and_parts, eqb-true}
use Rattle.std.proofs.lemmas.Nat.Bits.{bit_at-zero}
use Rattle.law_serial_is_eager.specs.Words.{GuestShape, has_bit}
use Rattle.law_serial_is_eager.specs.Histories.{IdealGuest, CanOpen}
use Rattle.law_serial_is_eager.specs.Core.{Local, CoreState, after_moment, Act, begins, makes, ends, CoreMoment, Progress, progressed, actor_count, is_settled, owes_no_kick, owes_no_mark, has_no_cand, owes_nothing, opening, end_of_moments, progress_in, seat_at, IsProperRun}
use Rattle.law_serial_is_eager.specs.LawScansMissNone.Index.{owes_kick}
use Rattle.law_serial_is_eager.specs.LawLoneAccessesFindAll.Lone.{AreAtEase, IsAlone}
use Rattle.law_serial_is_eager.specs.LawRegistersStand.Followed.{Followed}
use Rattle.law_serial_is_eager.proofs.LawScansMissNone.Frame.{IsActing, IsAt, IsKeptBy, follow, runs_keep}
use Rattle.law_serial_is_eager.proofs.LawLoneAccessesFindAll.HereLemmas.{end_is, p_is}
use Rattle.law_serial_is_eager.proofs.AloneRuns.{none_wanted}
use Rattle.law_serial_is_eager.proofs.LawScansMissNone.ProgressLemmas.{operation_on}

-- An actor that is in no part wants nothing.

abbrev Rests : CoreState → Followed → Progress → Type 0
Rests state at p = p.operation ≡ None → p.wants ≡ []

rests_kept : (shape : GuestShape) (actor : ℕ) → IsKeptBy shape actor Rests
rests_kept shape actor = record { other = λ state at progress other act apart here acts rests. rests; own = own }
  where
    own :
        (state : CoreState) (at : Followed) (progress : ℕ → Progress) (act : Act) → IsAt shape state at progress → IsActing shape state progress actor act → Rests state at (progress actor)
        → Rests (after_moment shape state (record { actor = actor; act = act })) (follow shape state at (record { actor = actor; act = act })) (progressed shape actor (progress actor) act)
    own state at progress (begins operation lrs) here acts rests none = absurd (cc)
    own state at progress (makes made) here acts rests none = absurd (true≢false (sym acts.fit ∙ ap is_some (sym (operation_on shape actor made (progress actor)) ∙ none)))
    own state at progress (ends answer) here acts rests none = none_wanted (progress actor).wants acts.proper.want

pub rests_unwanted : (guest : IdealGuest) (number : ℕ) (moments : List CoreMoment) (actor : ℕ) → CanOpen guest → IsProperRun guest number moments → (progress_in guest number moments actor).operation ≡ None → (progress_in guest number moments actor).wants ≡ []
rests_unwanted guest number moments actor good proper none = (runs_keep guest number actor Rests good (rests_kept guest.shape actor) (λ h. refl) moments proper).keeps none

-- an actor that owes nothing owes nobody a kick
pub no_kick : (local : Local) (vcpu : ℕ) → IsTrue (is_settled local) → owes_kick vcpu local ≡ false
no_kick local vcpu settled =
    let marks = (and_parts (owes_nothing local && not local.turn && not local.ctlr) (is_none local.line) settled).0 in
    let free = (and_parts (owes_nothing local && not local.turn) (not local.ctlr) marks).0 in
    let owes = (and_parts (owes_nothing local) (not local.turn) free).0 in
    let kicks = (and_parts (owes_no_kick local) (owes_no_mark local) (and_parts (owes_no_kick local && owes_no_mark local) (has_no_cand local) owes).0).0 in
    ap (λ set. has_bit set vcpu) (eqb-true local.owes.0 0 kicks) ∙ ap (λ bit. bit == 1) (bit_at-zero vcpu)

module _ (guest : IdealGuest) (number : ℕ) (moments : List CoreMoment) (vcpu : ℕ) (good : CanOpen guest) (proper : IsProperRun guest number moments) (ease : AreAtEase guest number moments) where
  -- each actor has settled all
  pub settled_all : (actor : ℕ) → actor < actor_count guest.shape → IsTrue (is_settled (seat_at (end_of_moments guest.shape (opening guest number) moments) actor).local)
  settled_all actor there = (end_is guest number good moments proper).rests actor there (ap (λ (q : Progress). q.operation) (p_is guest number moments good proper actor) ∙ ease.nobody actor there)

  -- and a vCPU is alone
  pub is_alone : vcpu < actor_count guest.shape → IsAlone guest number moments vcpu
  is_alone there = record { nobody = λ actor within differ. ease.nobody actor within; owes_none = no_kick (seat_at (end_of_moments guest.shape (opening guest number) moments) vcpu).local vcpu (settled_all vcpu there) }

  -- no access waits for an interrupt
  pub none_waits : (actor : ℕ) → actor < actor_count guest.shape → (progress_in guest number moments actor).wants ≡ []
  none_waits actor within = rests_unwanted guest number moments actor good proper (ease.nobody actor within)
