-- What is so of a vCPU that is alone.
use Rattle.std.proofs.Common.{◌≡◌, ◌≢◌, ℕ, ◌<◌, ◌==◌, ◌&&◌, inl, inr, true≢false, Bool, true, false, IsTrue, List, [], Option, Some, None, is_some, refl, sym, ap, ◌∙◌, subst}
use Rattle.std.specs.Option.{option_map_or}
use Rattle.std.proofs.lemmas.Bool.{cases_eq, and_parts, eqb-true}
use Rattle.law_late_ones_leave.specs.Words.{Key, GuestShape, has_interrupt}
use Rattle.law_late_ones_leave.specs.Histories.{Turn, changes_of, doing_of, IdealGuest, CanOpen}
use Rattle.law_late_ones_leave.specs.Core.{actor_count, CoreState, opening, seat_at, end_of_moments, CoreMoment, Progress, opening_progress, progress_in, IsProperRun, has_key}
use Rattle.law_late_ones_leave.specs.LawScansMissNone.Excuse.{followed_in, is_current, IsExcused}
use Rattle.law_late_ones_leave.specs.LawRegistersStand.Followed.{Followed}
use Rattle.law_late_ones_leave.specs.LawScansMissNone.Index.{owes_kick}
use Rattle.law_late_ones_leave.specs.LawScansMissNone.Waiting.{record_in}
use Rattle.law_late_ones_leave.proofs.LawScansMissNone.Frame.{IsAt, progress_on}
use Rattle.law_late_ones_leave.proofs.LawScansMissNone.WantRuns.{wants_are_kept}
use Rattle.law_lone_accesses_find_all.specs.Lone.{IsAlone}
use Rattle.law_lone_accesses_find_all.proofs.HereLemmas.{end_is, p_is}

module _ (guest : IdealGuest) (number : ℕ) (moments : List CoreMoment) (vcpu : ℕ) (good : CanOpen guest) (proper : IsProperRun guest number moments) (few : vcpu < guest.shape.vcpus) (alone : IsAlone guest number moments vcpu) where
  abbrev shape : GuestShape
  shape = guest.shape

  abbrev state : CoreState
  state = end_of_moments guest.shape (opening guest number) moments

  abbrev at : Followed
  at = followed_in guest number moments

  abbrev p : ℕ → Progress
  p = progress_in guest number moments

  here : IsAt shape state at (progress_on shape (opening_progress guest number) moments)
  here = end_is guest number good moments proper

  -- a call that goes on is the vCPU's
  nobody_else : (turn : Turn) → turn.actor < actor_count shape → IsTrue (is_current at.track turn) → turn.actor ≡ vcpu
  nobody_else turn there current = elim (cases_eq turn.actor vcpu) [
    | inl e ↦ e
    | inr differ ↦
        let none : (doing_of at.track turn.actor).operation ≡ None = here.calls turn.actor there ∙ ap (λ (q : Progress). q.operation) (p_is guest number moments good proper turn.actor) ∙ alone.nobody turn.actor there differ in
        absurd (true≢false (sym current ∙ ap (λ o. is_some o && (doing_of at.track turn.actor).number == turn.number) none))
  ]

  -- each change was told
  pub none_excused : (key : Key) → IsExcused shape state at.track vcpu key → ⊥
  none_excused key excused = elim (cases_eq excused.actor vcpu) [
    | inl e ↦ true≢false (sym (subst (λ n. IsTrue (owes_kick vcpu (seat_at state n).local)) e excused.owes) ∙ alone.owes_none)
    | inr differ ↦ by (changes_of shape at.track key).last excused.last differ
  ]
    where
      by : (o : Option Turn) → IsTrue (option_map_or (λ turn. turn.actor == excused.actor && is_current at.track turn) o false) → excused.actor ≢ vcpu → ⊥
      by None h differ = true≢false (sym h)
      by (Some turn) h differ =
          let both = and_parts (turn.actor == excused.actor) (is_current at.track turn) h in
          let same = eqb-true turn.actor excused.actor both.0 in
          differ (sym same ∙ nobody_else turn (subst (λ n. n < actor_count shape) (sym same) excused.there) both.1)

  -- where no actor wants an interrupt, no access waits for one
  pub not_wanted : ((actor : ℕ) → actor < actor_count shape → (p actor).wants ≡ []) → (key : Key) → IsTrue (has_interrupt shape key) → (record_in shape state key).want ≡ false
  not_wanted none key there = of (record_in shape state key).want refl
    where
      of : (b : Bool) → (record_in shape state key).want ≡ b → b ≡ false
      of false e = refl
      of true e = let wanted = wants_are_kept guest number moments good proper.parted key there e in absurd (true≢false (sym wanted.wants ∙ ap (has_key key) (none wanted.actor wanted.there)))
