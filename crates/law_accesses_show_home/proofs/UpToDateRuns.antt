-- What is up to date stays so while interrupts only move and actors read.
use Rattle.std.proofs.Common.{◌≡◌, ℕ, ◌<◌, ◌==◌, ◌&&◌, ◌||◌, inl, inr, true≢false, not, Bool, true, false, IsTrue, All, List, [], ◌∷◌, cond, filter, fold, length, Contains, Option, Some, None, is_some, refl, sym, ap, ◌∙◌, subst}
use Rattle.std.specs.List.{list_any}
use Rattle.std.proofs.lemmas.List.{append-nil}
use Rattle.std.proofs.lemmas.List.Elements.{All-head, All-tail}
use Rattle.std.proofs.lemmas.List.Sums.{fold-append}
use Rattle.law_home_commutes.specs.Words.{Key, GuestShape, has_interrupt, is_same_key, IsShape}
use Rattle.law_home_commutes.specs.Calls.{Event, Reach, Take, Leave, Found, Moment, Begin, Happens, Entry, CanHappen}
use Rattle.law_home_commutes.specs.GicCall.declared.event.Event.TheVariants.{Read}
use Rattle.law_home_commutes.specs.GicCall.declared.event.Moment.TheVariants.{End}
use Rattle.law_home_commutes.specs.Histories.{Track, Turn, after_changes, after_leaving, changes_of, changed_by, has_left_all, Call, Course, GoesOn, IsNext, call_of, course_of, gone_on, opening_course, is_allowed, Ideal, Standing, is_home, is_of, standing_at}
use Rattle.law_home_commutes.proofs.LawHistories.StandLemmas.{of_key, standing_of_key, any_nowhere, any_somewhere, none_filtered}
use Rattle.law_home_commutes.proofs.LawHistories.CourseLemmas.{goes_before}
use Rattle.law_home_commutes.proofs.SpotLemmas.{Spot, IsSpot, IsTidy}
use Rattle.law_scans_miss_none.proofs.VcpuRefill.ElementLemmas.{Contains-here, Contains-nothing}
use Rattle.law_scans_miss_none.specs.LawRegistersStand.Followed.{Followed, follows, opening_followed, followed_by}
use Rattle.law_scans_miss_none.proofs.TrackLemmas.{since_reach}
use Rattle.law_accesses_show_home.specs.UpToDate.{IsUpToDate, StaysUpToDate, changes_nothing, moves_or_reads}
use Rattle.law_accesses_show_home.proofs.DoneLemmas.{turns_before}
use Rattle.law_accesses_show_home.proofs.DoneRuns.{IsAlongDone, in_range, moment_done, opens_done}
use Rattle.law_accesses_show_home.proofs.ListLemmas.{none_passes, some_in_range}
use Rattle.law_accesses_show_home.proofs.StayEvents.{since_is}
use Rattle.law_accesses_show_home.proofs.StoodLemmas.{Stood, came, stood, stood_by}

-- no change is on its way to an interface
abbrev AreTold : GuestShape → Followed → Type 0
AreTold shape at = (key : Key) → IsTrue (has_interrupt shape key) → (vcpu : ℕ) (entry : Entry) → of_key at.ideal key vcpu ≡ standing_of_key key entry ∷ [] → (changes_of shape at.track key).since ≡ []

-- nothing that is to leave is late
abbrev HaveLeft : GuestShape → Followed → Type 0
HaveLeft shape at = (vcpu : ℕ) → vcpu < shape.vcpus → IsTrue (has_left_all at.track vcpu)

-- What is to leave.

none_of : {X : Type 0} (p q : X → Bool) (xs : List X) → list_any p xs ≡ false → list_any p (filter q xs) ≡ false
none_of p q [] h = refl
none_of p q (x ∷ xs) h = of (q x) refl (none_of p q xs (or_false (p x) (list_any p xs) h).1)
  where
    or_false : (a b : Bool) → (a || b) ≡ false → (a ≡ false) × (b ≡ false)
    or_false false b h = (refl, h)
    or_false true b h = absurd (true≢false h)

    of : (b : Bool) → q x ≡ b → list_any p (filter q xs) ≡ false → list_any p (cond b (x ∷ filter q xs) (filter q xs)) ≡ false
    of true e rest = ap (λ a. a || list_any p (filter q xs)) (or_false (p x) (list_any p xs) h).0 ∙ rest
    of false e rest = rest

is_not : (b : Bool) → IsTrue (not b) → b ≡ false
is_not false h = refl
is_not true h = absurd (true≢false (sym h))

leaves_so : (ideal : Ideal) (event : Event) (track : Track) (vcpu : ℕ) → IsTrue (moves_or_reads event) → IsTrue (has_left_all track vcpu) → IsTrue (has_left_all (after_leaving ideal event track) vcpu)
leaves_so ideal (Leave key w) track vcpu quiet h =
    ap not (none_of (λ (pair : ℕ × Key). pair.0 == vcpu) (λ (pair : ℕ × Key). not (pair.0 == w && is_same_key pair.1 key)) track.leaving (is_not (list_any (λ (pair : ℕ × Key). pair.0 == vcpu) track.leaving) h))
leaves_so ideal (Reach key w) track vcpu quiet h = ap (λ (l : List (ℕ × Key)). not (list_any (λ (pair : ℕ × Key). pair.0 == vcpu) l)) (append-nil track.leaving) ∙ h
leaves_so ideal (Take key w) track vcpu quiet h = ap (λ (l : List (ℕ × Key)). not (list_any (λ (pair : ℕ × Key). pair.0 == vcpu) l)) (append-nil track.leaving) ∙ h
leaves_so ideal (Read place) track vcpu quiet h = ap (λ (l : List (ℕ × Key)). not (list_any (λ (pair : ℕ × Key). pair.0 == vcpu) l)) (append-nil track.leaving) ∙ h
leaves_so ideal event track vcpu quiet h = absurd (cc)

-- What came to an interface.

nothing_in : (turns : List Turn) → ((turn : Turn) → Contains turns turn → ⊥) → turns ≡ []
nothing_in [] none = refl
nothing_in (turn ∷ turns) none = absurd (none turn (Contains-here turn turns))

-- it changes only what leaves
changes_leaving : (event : Event) (key : Key) → IsTrue (moves_or_reads event) → changed_by event ≡ Some key → ((w : ℕ) → event ≡ Leave key w → ⊥) → ⊥
changes_leaving (Leave other w) key quiet changed stays = stays w (leaves other changed)
  where
    leaves : (k : Key) → Some k ≡ Some key → Leave k w ≡ Leave key w
    leaves k e = cc
changes_leaving event key quiet changed stays = cc

-- what changes says nothing of what is to leave
changes_leaving_not : (shape : GuestShape) (actor : ℕ) (event : Event) (track : Track) → IsTrue (moves_or_reads event) → (after_changes shape actor event track).leaving ≡ track.leaving
changes_leaving_not shape actor (Reach key w) track quiet = refl
changes_leaving_not shape actor (Take key w) track quiet = refl
changes_leaving_not shape actor (Leave key w) track quiet = refl
changes_leaving_not shape actor (Read place) track quiet = refl
changes_leaving_not shape actor event track quiet = absurd (cc)

module _ (shape : GuestShape) (good : IsShape shape) where
  told_so : (course : Course) (at : Followed) → IsAlongDone shape good course at → (actor : ℕ) (event : Event) (found : Found) → actor < length at.track.doings → CanHappen shape event → IsTrue (is_allowed at.ideal actor event) → IsTrue (moves_or_reads event) → AreTold shape at
      → AreTold shape (follows at (Happens actor event found))
  told_so course at is actor event found in_it can allowed quiet told key there vcpu entry here =
      of (stood_by shape good at is.along.tidy is.along.each is.along.all actor found event can allowed key vcpu entry here)
    where
      of : Stood at.ideal event key vcpu → (changes_of shape (follows at (Happens actor event found)).track key).since ≡ []
      of (came w e) = since_is shape good at is.along.tidy is.along.each is.along.all actor event found can key ∙ since_reach shape good actor event at.track can key there is.along.each w e
      of (stood before stays) =
          nothing_in (changes_of shape (follows at (Happens actor event found)).track key).since
          (λ turn h. elim (turns_before shape good at.ideal at.track actor event found is.along.tidy.shape_is can is.along.each in_it key there turn h) [
            | inl old ↦ Contains-nothing turn (subst (λ (ts : List Turn). Contains ts turn) (told key there vcpu before.entry before.here) old)
            | inr new ↦ changes_leaving event key quiet new.1 stays
          ])

  record AreFresh (at : Followed) : Type 0 where
    pub told : AreTold shape at
    pub left : HaveLeft shape at

  moment_fresh : (course : Course) (at : Followed) (moment : Moment) → IsNext course moment → IsAlongDone shape good course at → IsTrue (changes_nothing moment) → AreFresh at → AreFresh (follows at moment)
  moment_fresh course at (Begin actor operation) next is quiet fresh = record { told = fresh.told; left = fresh.left }
  moment_fresh course at (End actor answer) next is quiet fresh = record { told = fresh.told; left = fresh.left }
  moment_fresh course at (Happens actor event found) next is quiet fresh = record {
    told =
        told_so course at is actor event found (in_range shape good course at is actor (subst (λ n. actor < n) is.is_course.each (called (call_of course actor) refl next.within))) (subst (λ s. CanHappen s event) is.is_course.shape_is next.can)
        (subst (λ (i : Ideal). IsTrue (is_allowed i actor event)) is.along.same next.allowed) quiet fresh.told;
    left = λ vcpu within. left_now vcpu (fresh.left vcpu within);
  }
    where
      called : (o : Option Call) → call_of course actor ≡ o → IsTrue (is_some o) → actor < length course.calls
      called None e h = absurd (cc)
      called (Some call) e h = some_in_range course.calls actor (ap is_some e)

      left_now : (vcpu : ℕ) → IsTrue (has_left_all at.track vcpu) → IsTrue (has_left_all (follows at (Happens actor event found)).track vcpu)
      left_now vcpu h = leaves_so at.ideal event (after_changes at.ideal.guest.shape actor event at.track) vcpu quiet (ap (λ (l : List (ℕ × Key)). not (list_any (λ (pair : ℕ × Key). pair.0 == vcpu) l)) (changes_leaving_not at.ideal.guest.shape actor event at.track quiet) ∙ h)

  -- what the moments of a history lead to
  moments_along : (course : Course) (at : Followed) (moments : List Moment) → GoesOn course moments → IsAlongDone shape good course at → IsAlongDone shape good (course_of course moments) (fold follows at moments)
  moments_along course at [] going is = is
  moments_along course at (moment ∷ moments) going is = moments_along (gone_on course moment) (follows at moment) moments going.1 (moment_done shape good course at moment going.0 is)

  moments_fresh : (course : Course) (at : Followed) (moments : List Moment) → GoesOn course moments → IsAlongDone shape good course at → All (λ moment. IsTrue (changes_nothing moment)) moments → AreFresh at → AreFresh (fold follows at moments)
  moments_fresh course at [] going is quiet fresh = fresh
  moments_fresh course at (moment ∷ moments) going is quiet fresh =
      moments_fresh (gone_on course moment) (follows at moment) moments going.1 (moment_done shape good course at moment going.0 is) (All-tail (λ m. IsTrue (changes_nothing m)) moment moments quiet)
      (moment_fresh course at moment going.0 is (All-head (λ m. IsTrue (changes_nothing m)) moment moments quiet) fresh)

  -- Away is at an interface.

  told_from : (at : Followed) → IsUpToDate shape at → AreTold shape at
  told_from at up key there vcpu entry here = up.unchanged key there (ap not (any_somewhere (is_of key) at.ideal.at vcpu (some_of (standing_at at.ideal vcpu) here)))
    where
      some_of : (standing : List Standing) → filter (is_of key) standing ≡ standing_of_key key entry ∷ [] → list_any (is_of key) standing ≡ true
      some_of standing e = of (list_any (is_of key) standing) refl
        where
          of : (b : Bool) → list_any (is_of key) standing ≡ b → b ≡ true
          of true f = refl
          of false f = let none : filter (is_of key) standing ≡ [] = none_filtered (is_of key) standing f in absurd (cc)

  up_from : (at : Followed) → IsTidy shape at.ideal → AreFresh at → IsUpToDate shape at
  up_from at tidy fresh = record { unchanged = λ key there away. of key there away (tidy.placed key).spot (tidy.placed key).is; none_late = fresh.left }
    where
      of : (key : Key) → IsTrue (has_interrupt shape key) → is_home at.ideal key ≡ false → (spot : Option Spot) → IsSpot shape key (of_key at.ideal key) spot → (changes_of shape at.track key).since ≡ []
      of key there away None is = absurd (true≢false (sym (ap not (any_nowhere (is_of key) at.ideal.at (λ n. none_passes (is_of key) (standing_at at.ideal n) (is n)))) ∙ away))
      of key there away (Some one) is = fresh.told key there one.vcpu one.entry is.here

pub stays_up_to_date : StaysUpToDate
stays_up_to_date guest moments more good history quiet up =
    let parts = goes_before (opening_course guest) moments more history in
    let at = followed_by guest moments in
    let here = moments_along guest.shape good.sound.shape (opening_course guest) (opening_followed guest) moments parts.0 (opens_done guest good) in
    let fresh = moments_fresh guest.shape good.sound.shape (course_of (opening_course guest) moments) at more parts.1 here quiet (record { told = told_from guest.shape good.sound.shape at up; left = up.none_late }) in
    let later = moments_along guest.shape good.sound.shape (course_of (opening_course guest) moments) at more parts.1 here in
    subst (IsUpToDate guest.shape) (sym (fold-append follows (opening_followed guest) moments more)) (up_from guest.shape good.sound.shape (fold follows at more) later.along.tidy fresh)
