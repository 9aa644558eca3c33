-- At each moment of a history that goes on until all its calls ended, the copies of the enables of GICD_CTLR are as its mark says.
use Rattle.std.proofs.Common.{◌≡◌, ◌≢◌, ℕ, ◌+◌, ◌<◌, ◌≤◌, zero, suc, Bool, false, cond, inl, inr, IsTrue, List, [], ◌∷◌, ◌++◌, map, fold, Option, Some, None, is_none, refl, sym, ap, ◌∙◌, subst, arith}
use Rattle.std.specs.List.{range_with_len}
use Rattle.std.proofs.lemmas.Bool.{cases_eq, cases_lt}
use Rattle.std.proofs.lemmas.Grind.{common_steps}
use Rattle.std.proofs.lemmas.Option.{none-some}
use Rattle.floor_histories.specs.Words.{Key, GuestShape, has_interrupt, interrupt_count, place_of, key_at, IsShape, is_number}
use Rattle.floor_histories.proofs.GicBase.KeyLemmas.{same_itself, other_key}
use Rattle.floor_histories.proofs.GicOpen.KeyLemmas.{place_within, key_at_place}
pub use Rattle.floor_histories.proofs.GicOpen.KeyLemmas.{place_at}
use Rattle.floor_histories.specs.Registers.{Enables}
use Rattle.floor_histories.specs.Calls.{Event, Up, Down, Touch, Reach, Take, Leave, Enable, Cpu, Put, CtlrBegin, CtlrEnd, ItsBegin, Found, Moment, Begin, Happens, Touching, Register, Enables as CopyEnables, MapLpi, copy_at}
use Rattle.floor_histories.specs.GicCall.declared.event.Event.TheVariants.{Raise, Read, ItsEnd, Queue}
use Rattle.floor_histories.specs.GicCall.declared.event.Moment.TheVariants.{End}
use Rattle.floor_histories.specs.GicCall.declared.touch.Touching.TheVariants.{Read as ReadTouch, Retarget, Configure, Forget}
use Rattle.floor_histories.specs.Histories.{irq_at, Ideal, happened, Course, IsHappening, IsNext, GoesOn, gone_on, course_of, copy_in}
use Rattle.floor_histories.proofs.IdealGuests.KeyLemmas.{IsWhole}
use Rattle.law_histories.specs.Enables.{replaced, CopiesAgreeIn}
use Rattle.law_histories.proofs.QuietLemmas.{is_spread}
use Rattle.law_histories.proofs.StateLemmas.{record_is, guest_is}
use Rattle.law_histories.proofs.CourseLemmas.{IsCourse, goes, mark_is}
use Rattle.law_histories.proofs.AheadLemmas.{ahead_of, ahead_here, ahead_other, ahead_unspread, AreWrites, no_write, one_write}
use Rattle.law_histories.proofs.EnableLemmas.{KeepsCopies, keeps_copies}

-- Lists.

heads : {X : Type 0} (x y : X) (xs ys : List X) → x ∷ xs ≡ y ∷ ys → (x ≡ y) × (xs ≡ ys)
heads x y xs ys e = (cc, cc)

apart : (m n : ℕ) → m ≡ n → n + 1 ≤ m → ⊥
apart m n e l = omega (arith, e, l)

less_not : (m n : ℕ) → m ≡ n → m < n → ⊥
less_not m n e l = omega (arith, e, l)

-- the copies from a place on, and the end
abbrev pub copies_from : GuestShape → Enables → ℕ → ℕ → List Event
copies_from shape enables place left = map (copy_at shape enables) (range_with_len place left) ++ CtlrEnd ∷ []

-- the first write of some
record FirstWrite (shape : GuestShape) (event : Event) (events : List Event) : Type 0 where
  pub enables : Enables
  pub rest : List Event
  pub is : event ≡ CtlrBegin enables
  pub then : events ≡ copies_from shape enables 0 (interrupt_count shape) ++ rest
  pub later : AreWrites shape rest

first_write : (shape : GuestShape) (all : List Event) (event : Event) (events : List Event) → AreWrites shape all → all ≡ event ∷ events → FirstWrite shape event events
first_write shape [] event events no_write e = absurd (cc)
first_write shape all event events (one_write enables rest writes) e =
    let parts = heads (CtlrBegin enables) event (copies_from shape enables 0 (interrupt_count shape) ++ rest) events e in
    record { enables = enables; rest = rest; is = sym parts.0; then = sym parts.1; later = writes }

-- A write that is half done.

-- each interrupt has a copy of what GICD_CTLR has
abbrev pub HaveCopies : Ideal → Type 0
HaveCopies state = (key : Key) → IsTrue (has_interrupt state.guest.shape key) → copy_in (irq_at state.guest key) ≡ state.guest.enables

-- the copies up to a place, and those from there on
pub record AreHalf (state : Ideal) (old : Enables) (place : ℕ) : Type 0 where
  pub passed : (key : Key) → IsTrue (has_interrupt state.guest.shape key) → place_of state.guest.shape key < place → copy_in (irq_at state.guest key) ≡ state.guest.enables
  pub ahead : (key : Key) → IsTrue (has_interrupt state.guest.shape key) → place ≤ place_of state.guest.shape key → copy_in (irq_at state.guest key) ≡ old

-- what the actor that has the mark has done of it, and has yet to do
pub record IsWriting (shape : GuestShape) (state : Ideal) (old : Enables) (events : List Event) : Type 0 where
  pub place : ℕ
  pub left : ℕ
  pub rest : List Event
  pub half : AreHalf state old place
  pub all : place + left ≡ interrupt_count shape
  pub now : events ≡ copies_from shape state.guest.enables place left ++ rest
  pub later : AreWrites shape rest

pub record AreKept (shape : GuestShape) (state : Ideal) (pair : Enables × Enables) (moments : List Moment) : Type 0 where
  pub now : pair.0 ≡ state.guest.enables
  pub free : state.spreads ≡ None → HaveCopies state
  pub taken : (actor : ℕ) → state.spreads ≡ Some actor → IsWriting shape state pair.1 (ahead_of actor moments)
  pub others : (other : ℕ) → state.spreads ≢ Some other → AreWrites shape (ahead_of other moments)

-- An event that is none of a write.

module _ (before after : Ideal) (keeps : KeepsCopies before after) (shape_is : after.guest.shape ≡ before.guest.shape) where
  there_before : (key : Key) → IsTrue (has_interrupt after.guest.shape key) → IsTrue (has_interrupt before.guest.shape key)
  there_before key h = subst (λ s. IsTrue (has_interrupt s key)) shape_is h

  half_kept : (old : Enables) (place : ℕ) → AreHalf before old place → AreHalf after old place
  half_kept old place half = record {
    passed = λ key there l. let was = there_before key there in keeps.copies key was ∙ half.passed key was (subst (λ s. place_of s key < place) shape_is l) ∙ sym keeps.ctlr.enables;
    ahead = λ key there l. let was = there_before key there in keeps.copies key was ∙ half.ahead key was (subst (λ s. place ≤ place_of s key) shape_is l);
  }

  copies_kept : HaveCopies before → HaveCopies after
  copies_kept have key there = let was = there_before key there in keeps.copies key was ∙ have key was ∙ sym keeps.ctlr.enables

module _ (shape : GuestShape) (state : Ideal) (pair : Enables × Enables) (actor : ℕ) (event : Event) (found : Found) (moments : List Moment) (shape_is : state.guest.shape ≡ shape) (whole : IsWhole state.guest) (kept : AreKept shape state pair (Happens actor event found ∷ moments)) where
  later : Ideal
  later = happened actor event state

  other_event : is_spread event ≡ false → AreKept shape (happened actor event state) pair moments
  other_event h =
      let keeps = keeps_copies actor event state whole h in
      let same = guest_is actor event state in
      record {
        now = kept.now ∙ sym keeps.ctlr.enables;
        free = λ e. copies_kept state (happened actor event state) keeps same.shape (kept.free (sym keeps.ctlr.spreads ∙ e));
        taken = λ one e.
            let is = kept.taken one (sym keeps.ctlr.spreads ∙ e) in
            record {
              place = is.place;
              left = is.left;
              rest = is.rest;
              half = half_kept state (happened actor event state) keeps same.shape pair.1 is.place is.half;
              all = is.all;
              now = sym (ahead_unspread actor one event found moments h) ∙ is.now ∙ ap (λ n. copies_from shape n is.place is.left ++ is.rest) (sym keeps.ctlr.enables);
              later = is.later;
            };
        others = λ one differ. subst (AreWrites shape) (ahead_unspread actor one event found moments h) (kept.others one (λ e. differ (keeps.ctlr.spreads ∙ e)));
      }

  -- whoever has the mark is one actor
  only : (one : ℕ) → Some actor ≡ Some one → one ≡ actor
  only one e = cc

-- The events of a write.

begins_write :
    (shape : GuestShape) (state : Ideal) (pair : Enables × Enables) (actor : ℕ) (enables : Enables) (found : Found) (moments : List Moment) → IsTrue (is_none state.spreads) → AreKept shape state pair (Happens actor (CtlrBegin enables) found ∷ moments)
    → AreKept shape (happened actor (CtlrBegin enables) state) (enables, pair.0) moments
begins_write shape state pair actor enables found moments allowed kept =
    let nobody = none_is_free state.spreads allowed in
    let first = first_write shape (ahead_of actor (Happens actor (CtlrBegin enables) found ∷ moments)) (CtlrBegin enables) (ahead_of actor moments) (kept.others actor (λ e. none-some actor (sym nobody ∙ e))) (ahead_here actor (CtlrBegin enables) found moments) in
    let same : enables ≡ first.enables = begun_same enables first.enables first.is in
    record {
      now = refl;
      free = λ e. absurd (cc);
      taken = λ one e.
          record {
            place = 0;
            left = interrupt_count shape;
            rest = first.rest;
            half = record { passed = λ key there l. absurd (omega (arith, l)); ahead = λ key there l. kept.free nobody key there ∙ sym kept.now };
            all = omega arith;
            now = ap (λ n. ahead_of n moments) (only_one actor one e) ∙ first.then ∙ ap (λ n. copies_from shape n 0 (interrupt_count shape) ++ first.rest) (sym same);
            later = first.later;
          };
      others = λ one differ. subst (AreWrites shape) (ahead_other actor one (CtlrBegin enables) found moments (λ e. differ (ap Some (sym e)))) (kept.others one (λ e. none-some one (sym nobody ∙ e)));
    }
  where
    none_is_free : (o : Option ℕ) → IsTrue (is_none o) → o ≡ None
    none_is_free None h = refl
    none_is_free (Some n) h = absurd (cc)

    begun_same : (one other : Enables) → CtlrBegin one ≡ CtlrBegin other → one ≡ other
    begun_same one other e = cc

    only_one : (actor one : ℕ) → Some actor ≡ Some one → one ≡ actor
    only_one actor one e = cc

ends_write :
    (shape : GuestShape) (state : Ideal) (pair : Enables × Enables) (actor : ℕ) (found : Found) (moments : List Moment) → state.guest.shape ≡ shape → IsWhole state.guest → IsTrue (is_number actor state.spreads) → AreKept shape state pair (Happens actor CtlrEnd found ∷ moments)
    → AreKept shape (happened actor CtlrEnd state) pair moments
ends_write shape state pair actor found moments shape_is whole allowed kept =
    let mine = mark_is actor state.spreads allowed in
    let is = kept.taken actor mine in
    let over = ended is.left is.now in
    record {
      now = kept.now;
      free = λ e key there. is.half.passed key there (subst (λ n. place_of state.guest.shape key < n) (ap interrupt_count shape_is ∙ sym is.all ∙ ap (λ n. is.place + n) over.0 ∙ omega arith) (place_within state.guest.shape key whole.shape there));
      taken = λ one e. absurd (cc);
      others = λ one differ. elim (cases_eq one actor) [
        | inl e ↦ subst (λ n. AreWrites shape (ahead_of n moments)) (sym e) (subst (AreWrites shape) (sym over.1) is.later)
        | inr apart ↦ subst (AreWrites shape) (ahead_other actor one CtlrEnd found moments apart) (kept.others one (λ e. apart (same_mark one actor (sym e ∙ mine))))
      ];
    }
  where
    is_at : IsWriting shape state pair.1 (ahead_of actor (Happens actor CtlrEnd found ∷ moments))
    is_at = kept.taken actor (mark_is actor state.spreads allowed)

    ended : (left : ℕ) → ahead_of actor (Happens actor CtlrEnd found ∷ moments) ≡ copies_from shape state.guest.enables is_at.place left ++ is_at.rest → (left ≡ 0) × (ahead_of actor moments ≡ is_at.rest)
    ended zero e = (refl, (heads CtlrEnd CtlrEnd (ahead_of actor moments) is_at.rest (sym (ahead_here actor CtlrEnd found moments) ∙ e)).1)
    ended (suc left) e = absurd (unlike (heads CtlrEnd (copy_at shape state.guest.enables is_at.place) (ahead_of actor moments) _ (sym (ahead_here actor CtlrEnd found moments) ∙ e)).0)
      where
        unlike : {key : Key} {touching : Touching} → CtlrEnd ≡ Touch key touching → ⊥
        unlike e = cc

    same_mark : (one other : ℕ) → Some one ≡ Some other → one ≡ other
    same_mark one other e = cc

-- the next interrupt gets its copy
module _ (shape : GuestShape) (state : Ideal) (pair : Enables × Enables) (actor : ℕ) (key : Key) (en0 en1 : Bool) (found : Found) (moments : List Moment) (shape_is : state.guest.shape ≡ shape) (whole : IsWhole state.guest) (has : IsTrue (has_interrupt state.guest.shape key))
    (kept : AreKept shape state pair (Happens actor (Touch key (CopyEnables en0 en1)) found ∷ moments)) where
  copy : Event
  copy = Touch key (CopyEnables en0 en1)

  now_is : ahead_of actor (Happens actor (Touch key (CopyEnables en0 en1)) found ∷ moments) ≡ Touch key (CopyEnables en0 en1) ∷ ahead_of actor moments
  now_is = ahead_here actor (Touch key (CopyEnables en0 en1)) found moments

  -- it is the interrupt at the place, and the enables are the new ones
  record IsNextCopy (enables : Enables) (place : ℕ) (rest : List Event) (left : ℕ) : Type 0 where
    pub fewer : ℕ
    pub left_is : left ≡ suc fewer
    pub key_is : key ≡ key_at shape place
    pub enables_are : record { group0 = en0; group1 = en1 } ≡ enables
    pub then : ahead_of actor moments ≡ copies_from shape enables (place + 1) fewer ++ rest

  next_copy : (enables : Enables) (place : ℕ) (rest : List Event) (left : ℕ) → ahead_of actor (Happens actor (Touch key (CopyEnables en0 en1)) found ∷ moments) ≡ copies_from shape enables place left ++ rest → IsNextCopy enables place rest left
  next_copy enables place rest zero e = absurd (unlike (heads (Touch key (CopyEnables en0 en1)) CtlrEnd (ahead_of actor moments) rest (sym now_is ∙ e)).0)
    where
      unlike : {one : Key} {touching : Touching} → Touch one touching ≡ CtlrEnd → ⊥
      unlike e = cc
  next_copy enables place rest (suc left) e =
      let parts = heads (Touch key (CopyEnables en0 en1)) (copy_at shape enables place) (ahead_of actor moments) (copies_from shape enables (place + 1) left ++ rest) (sym now_is ∙ e) in
      record { fewer = left; left_is = refl; key_is = key_same parts.0; enables_are = same parts.0; then = parts.1 }
    where
      key_same : {one other : Key} {touching touch : Touching} → Touch one touching ≡ Touch other touch → one ≡ other
      key_same e = cc

      same : {one other : Key} → Touch one (CopyEnables en0 en1) ≡ Touch other (CopyEnables enables.group0 enables.group1) → record { group0 = en0; group1 = en1 } ≡ enables
      same e = let zero_is : en0 ≡ enables.group0 = cc in let one_is : en1 ≡ enables.group1 = cc in ap (λ (b : Bool). let x : Enables = record { group0 = b; group1 = en1 } in x) zero_is ∙ ap (λ (b : Bool). let x : Enables = record { group0 = enables.group0; group1 = b } in x) one_is

  after : Ideal
  after = happened actor (Touch key (CopyEnables en0 en1)) state

  mine_is : copy_in (irq_at (happened actor (Touch key (CopyEnables en0 en1)) state).guest key) ≡ record { group0 = en0; group1 = en1 }
  mine_is = ap copy_in (record_is state key whole has actor (Touch key (CopyEnables en0 en1))) ∙ ap (λ b. copy_in (cond b (record (irq_at state.guest key) { en0 = en0; en1 = en1 }) (irq_at state.guest key))) (same_itself key)

  other_is : (other : Key) → IsTrue (has_interrupt state.guest.shape other) → other ≢ key → copy_in (irq_at (happened actor (Touch key (CopyEnables en0 en1)) state).guest other) ≡ copy_in (irq_at state.guest other)
  other_is other there differ = ap copy_in (record_is state other whole there actor (Touch key (CopyEnables en0 en1))) ∙ ap (λ b. copy_in (cond b (record (irq_at state.guest other) { en0 = en0; en1 = en1 }) (irq_at state.guest other))) (other_key other key differ)

  goes_half : (old : Enables) (place : ℕ) → key ≡ key_at shape place → place < interrupt_count shape → record { group0 = en0; group1 = en1 } ≡ state.guest.enables → AreHalf state old place → AreHalf (happened actor (Touch key (CopyEnables en0 en1)) state) old (place + 1)
  goes_half old place key_is within enables_are half = record {
    passed = λ other there l. elim (cases_lt (place_of state.guest.shape other) place) [
      | inl less ↦ of_other other there less (half.passed other there less)
      | inr more ↦ subst (λ k. copy_in (irq_at (happened actor (Touch key (CopyEnables en0 en1)) state).guest k) ≡ state.guest.enables) (sym (is_key other there (omega (arith, l, more)))) (mine_is ∙ enables_are)
    ];
    ahead = λ other there l. other_is other there (λ e. past e l) ∙ half.ahead other there (omega (arith, l));
  }
    where
      place_is : place_of state.guest.shape key ≡ place
      place_is = ap (place_of state.guest.shape) key_is ∙ ap (λ s. place_of s (key_at shape place)) shape_is ∙ place_at shape place (subst IsShape shape_is whole.shape) within

      is_key : (other : Key) → IsTrue (has_interrupt state.guest.shape other) → place_of state.guest.shape other ≡ place → other ≡ key
      is_key other there e = sym (key_at_place state.guest.shape other whole.shape there) ∙ ap (key_at state.guest.shape) e ∙ ap (λ s. key_at s place) shape_is ∙ sym key_is

      past : {other : Key} → other ≡ key → place + 1 ≤ place_of state.guest.shape other → ⊥
      past {other} e l = apart (place_of state.guest.shape other) place (ap (place_of state.guest.shape) e ∙ place_is) l

      of_other : (other : Key) → IsTrue (has_interrupt state.guest.shape other) → place_of state.guest.shape other < place → copy_in (irq_at state.guest other) ≡ state.guest.enables → copy_in (irq_at (happened actor (Touch key (CopyEnables en0 en1)) state).guest other) ≡ state.guest.enables
      of_other other there less is = other_is other there (λ e. less_not (place_of state.guest.shape other) place (ap (place_of state.guest.shape) e ∙ place_is) less) ∙ is

  copies_one : AreKept shape (happened actor (Touch key (CopyEnables en0 en1)) state) pair moments
  copies_one = of state.spreads refl
    where
      -- nobody copies without the mark
      unmarked : state.spreads ≢ Some actor → ⊥
      unmarked differ =
          let first = first_write shape _ (Touch key (CopyEnables en0 en1)) (ahead_of actor moments) (kept.others actor differ) now_is in
          unlike first.is
        where
          unlike : {one : Key} {touching : Touching} {enables : Enables} → Touch one touching ≡ CtlrBegin enables → ⊥
          unlike e = cc

      of : (o : Option ℕ) → state.spreads ≡ o → AreKept shape (happened actor (Touch key (CopyEnables en0 en1)) state) pair moments
      of None e = absurd (unmarked (λ h. none-some actor (sym e ∙ h)))
      of (Some one) e = elim (cases_eq one actor) [
        | inr differ ↦ absurd (unmarked (λ h. differ (same_mark one actor (sym e ∙ h))))
        | inl same ↦ copied (e ∙ ap Some same)
      ]
        where
          same_mark : (one other : ℕ) → Some one ≡ Some other → one ≡ other
          same_mark one other e = cc

          copied : state.spreads ≡ Some actor → AreKept shape (happened actor (Touch key (CopyEnables en0 en1)) state) pair moments
          copied mine =
              let is = kept.taken actor mine in
              let next = next_copy state.guest.enables is.place is.rest is.left is.now in
              record {
                now = kept.now;
                free = λ h. absurd (none-some actor (sym h ∙ mine));
                taken = λ two h.
                    record {
                      place = is.place + 1;
                      left = next.fewer;
                      rest = is.rest;
                      half = goes_half pair.1 is.place next.key_is (omega (arith, is.all, next.left_is)) next.enables_are is.half;
                      all = omega (arith, is.all, next.left_is);
                      now = ap (λ n. ahead_of n moments) (same_mark two actor (sym h ∙ mine)) ∙ next.then;
                      later = is.later;
                    };
                others = λ two differ. subst (AreWrites shape) (ahead_other actor two (Touch key (CopyEnables en0 en1)) found moments (λ same. differ (mine ∙ ap Some (sym same)))) (kept.others two differ);
              }

-- Each moment.

event_keeps :
    (shape : GuestShape) (course : Course) (pair : Enables × Enables) (actor : ℕ) (event : Event) (found : Found) (moments : List Moment) → IsCourse shape course → IsHappening course actor event found → AreKept shape course.ideal pair (Happens actor event found ∷ moments)
    → AreKept shape (happened actor event course.ideal) (replaced pair (Happens actor event found)) moments
event_keeps shape course pair actor (CtlrBegin enables) found moments at is kept = begins_write shape course.ideal pair actor enables found moments is.allowed kept
event_keeps shape course pair actor CtlrEnd found moments at is kept = ends_write shape course.ideal pair actor found moments at.shape_is at.whole is.allowed kept
event_keeps shape course pair actor (Touch key (CopyEnables en0 en1)) found moments at is kept = copies_one shape course.ideal pair actor key en0 en1 found moments at.shape_is at.whole is.can.there kept
event_keeps shape course pair actor (Touch key (ReadTouch kind)) found moments at is kept = other_event shape course.ideal pair actor _ found moments at.shape_is at.whole kept refl
event_keeps shape course pair actor (Touch key (Register kind value)) found moments at is kept = other_event shape course.ideal pair actor _ found moments at.shape_is at.whole kept refl
event_keeps shape course pair actor (Touch key (MapLpi target enabled prio)) found moments at is kept = other_event shape course.ideal pair actor _ found moments at.shape_is at.whole kept refl
event_keeps shape course pair actor (Touch key (Retarget target)) found moments at is kept = other_event shape course.ideal pair actor _ found moments at.shape_is at.whole kept refl
event_keeps shape course pair actor (Touch key (Configure enabled prio)) found moments at is kept = other_event shape course.ideal pair actor _ found moments at.shape_is at.whole kept refl
event_keeps shape course pair actor (Touch key Forget) found moments at is kept = other_event shape course.ideal pair actor _ found moments at.shape_is at.whole kept refl
event_keeps shape course pair actor (Raise key) found moments at is kept = other_event shape course.ideal pair actor _ found moments at.shape_is at.whole kept refl
event_keeps shape course pair actor (Up key) found moments at is kept = other_event shape course.ideal pair actor _ found moments at.shape_is at.whole kept refl
event_keeps shape course pair actor (Down key) found moments at is kept = other_event shape course.ideal pair actor _ found moments at.shape_is at.whole kept refl
event_keeps shape course pair actor (Reach key vcpu) found moments at is kept = other_event shape course.ideal pair actor _ found moments at.shape_is at.whole kept refl
event_keeps shape course pair actor (Take key vcpu) found moments at is kept = other_event shape course.ideal pair actor _ found moments at.shape_is at.whole kept refl
event_keeps shape course pair actor (Leave key vcpu) found moments at is kept = other_event shape course.ideal pair actor _ found moments at.shape_is at.whole kept refl
event_keeps shape course pair actor (Enable vcpu) found moments at is kept = other_event shape course.ideal pair actor _ found moments at.shape_is at.whole kept refl
event_keeps shape course pair actor (Cpu vcpu reg write) found moments at is kept = other_event shape course.ideal pair actor _ found moments at.shape_is at.whole kept refl
event_keeps shape course pair actor (Read place) found moments at is kept = other_event shape course.ideal pair actor _ found moments at.shape_is at.whole kept refl
event_keeps shape course pair actor (Put word value) found moments at is kept = other_event shape course.ideal pair actor _ found moments at.shape_is at.whole kept refl
event_keeps shape course pair actor ItsBegin found moments at is kept = other_event shape course.ideal pair actor _ found moments at.shape_is at.whole kept refl
event_keeps shape course pair actor ItsEnd found moments at is kept = other_event shape course.ideal pair actor _ found moments at.shape_is at.whole kept refl
event_keeps shape course pair actor (Queue offset change) found moments at is kept = other_event shape course.ideal pair actor _ found moments at.shape_is at.whole kept refl

keeps : (shape : GuestShape) (course : Course) (pair : Enables × Enables) (moment : Moment) (moments : List Moment) → IsCourse shape course → IsNext course moment → AreKept shape course.ideal pair (moment ∷ moments) → AreKept shape (gone_on course moment).ideal (replaced pair moment) moments
keeps shape course pair (Begin actor operation) moments at next kept = record { now = kept.now; free = kept.free; taken = kept.taken; others = kept.others }
keeps shape course pair (End actor answer) moments at next kept = record { now = kept.now; free = kept.free; taken = kept.taken; others = kept.others }
keeps shape course pair (Happens actor event found) moments at next kept = event_keeps shape course pair actor event found moments at next kept

agrees : (shape : GuestShape) (state : Ideal) (pair : Enables × Enables) (moments : List Moment) → AreKept shape state pair moments → CopiesAgreeIn state pair.1
agrees shape state pair moments kept = record {
  free = kept.free;
  taken = λ actor e. let is = kept.taken actor e in record { place = is.place; passed = is.half.passed; ahead = is.half.ahead };
}

pub all_agree : (shape : GuestShape) (course : Course) (pair : Enables × Enables) (moments more : List Moment) → IsCourse shape course → GoesOn course (moments ++ more) → AreKept shape course.ideal pair (moments ++ more) → CopiesAgreeIn (course_of course moments).ideal (fold replaced pair moments).1
all_agree shape course pair [] more at going kept = agrees shape course.ideal pair more kept
all_agree shape course pair (moment ∷ moments) more at going kept =
    all_agree shape (gone_on course moment) (replaced pair moment) moments more (goes shape course moment at) going.1 (keeps shape course pair moment (moments ++ more) at going.0 kept)

-- nobody has the mark where no write is left to be done
unmarked_end : (shape : GuestShape) (state : Ideal) (pair : Enables × Enables) → AreKept shape state pair [] → state.spreads ≡ None
unmarked_end shape state pair kept = of state.spreads refl
  where
    not_none : (xs : List Event) (event : Event) (rest : List Event) → (xs ++ event ∷ []) ++ rest ≡ [] → ⊥
    not_none [] event rest e = cc
    not_none (x ∷ xs) event rest e = cc

    of : (o : Option ℕ) → state.spreads ≡ o → o ≡ None
    of None e = refl
    of (Some actor) e = let is = kept.taken actor e in absurd (not_none (map (copy_at shape state.guest.enables) (range_with_len is.place is.left)) CtlrEnd is.rest (sym is.now))

pub all_unmarked : (shape : GuestShape) (course : Course) (pair : Enables × Enables) (moments : List Moment) → IsCourse shape course → GoesOn course moments → AreKept shape course.ideal pair moments → (course_of course moments).ideal.spreads ≡ None
all_unmarked shape course pair [] at going kept = unmarked_end shape course.ideal pair kept
all_unmarked shape course pair (moment ∷ moments) at going kept =
    all_unmarked shape (gone_on course moment) (replaced pair moment) moments (goes shape course moment at) going.1 (keeps shape course pair moment moments at going.0 kept)
