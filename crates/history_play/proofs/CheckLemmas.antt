-- A history that was played so far, and one more moment.
use Rattle.std.proofs.Common.{◌≡◌, ℕ, ◌+◌, ◌<◌, ◌≤◌, zero, suc, Bool, false, IsTrue, List, [], ◌∷◌, ◌++◌, length, replicate, take, drop, drop_of_length-le, get_or, Option, Some, None, is_some, IsTrue, refl, sym, ap, ◌∙◌, subst, arith, slice_index_or, slice_get, nat_le}
use Rattle.std.specs.List.{list_all}
use Rattle.std.proofs.lemmas.Bool.{and_from}
use Rattle.std.proofs.lemmas.List.{length-replicate, take_more, take_all, drop_more}
use Rattle.history_check.specs.Words.{interrupt_count, GuestShape}
use Rattle.history_check.specs.Calls.{Moment, Begin, Happens}
use Rattle.history_check.specs.GicCall.declared.event.Moment.TheVariants.{End}
use Rattle.history_check.specs.Histories.{IdealGuest, Ideal, Call, Course, actor_count, opening_course, gone_on, Doing, Track, opening_track, tracked, after_moment, IsFresh}
use Rattle.history_check.specs.GicHistory.State.{opening}
use Rattle.history_check.specs.Ready.{IsReady}
use Rattle.history_play.specs.Coming.{AreOne, IsFine, IsCause}
use Rattle.history_play.specs.Kept.{IsKept}
use Rattle.history_play.specs.Played.{IsAllowed, course_at, track_at, IsFreshBefore, IsRefused}
use Rattle.history_play.specs.declared.verdict.Cause.{Cause}
use Rattle.history_play.proofs.CourseLemmas.{goes_on, shape_kept, kept_more}
use Rattle.history_play.proofs.PlayedLemmas.{course_more, track_more, allowed_more, fresh_more, all_fresh}

-- so many moments were played, to this state and this track, and others come after them
pub record IsPlayed (guest : IdealGuest) (moments later : List Moment) (number : ℕ) (state : Ideal) (track : Track) : Type 0 where
  pub ready : IsReady state
  pub kept : IsKept state.guest.shape number track
  pub state_is : (course_at guest moments).ideal ≡ state
  pub track_is : track_at guest moments ≡ track
  pub one : AreOne (course_at guest moments) track
  pub allowed : IsAllowed guest moments
  pub fresh : IsFreshBefore guest moments later

-- Before the first moment.

all_replicate : (test : Doing → Bool) (n : ℕ) (doing : Doing) → IsTrue (test doing) → IsTrue (list_all test (replicate n doing))
all_replicate test zero doing here = refl
all_replicate test (suc n) doing here = and_from (test doing) (list_all test (replicate n doing)) here (all_replicate test n doing here)

none_called : (n j : ℕ) → is_some (slice_index_or (replicate {A = Option Call} n None) j None) ≡ is_some (slice_index_or (replicate {A = Doing} n (record { operation = None; number = 0; done = []; fetched = false })) j (record { operation = None; number = 0; done = []; fetched = false })).operation
none_called zero j = refl
none_called (suc n) zero = refl
none_called (suc n) (suc j) = none_called n j

opening_kept : (shape : GuestShape) → IsKept shape 0 (opening_track shape)
opening_kept shape =
    record {
      followed = record {
        places = record { changes = length-replicate (interrupt_count shape) _ };
        actors = length-replicate (actor_count shape) _;
      };
      numbers = all_replicate (λ doing. nat_le doing.number 0) (actor_count shape) (record { operation = None; number = 0; done = []; fetched = false }) refl;
    }

opening_one : (guest : IdealGuest) → AreOne (opening_course guest) (opening_track guest.shape)
opening_one guest =
    record {
      actors = length-replicate (actor_count guest.shape) None ∙ sym (length-replicate (actor_count guest.shape) (record { operation = None; number = 0; done = []; fetched = false }));
      calls = λ j. none_called (actor_count guest.shape) j;
    }

pub opened : (guest : IdealGuest) (later : List Moment) (state : Ideal) (track : Track) → IsReady state → state ≡ opening guest → track ≡ opening_track guest.shape → IsPlayed guest [] later 0 state track
opened guest later state track ready is tracks =
    subst (λ t. IsPlayed guest [] later 0 state t) (sym tracks)
    (subst (λ s. IsPlayed guest [] later 0 s (opening_track guest.shape)) (sym is)
    (record {
      ready = subst IsReady is ready;
      kept = opening_kept guest.shape;
      state_is = refl;
      track_is = refl;
      one = opening_one guest;
      allowed = tt;
      fresh = record { acknowledge = refl; interface = refl; end = refl; deactivation = refl };
    }))

-- One more moment.

gone_ideal : (course : Course) (moment : Moment) → (gone_on course moment).ideal ≡ after_moment course.ideal moment
gone_ideal course (Begin actor operation) = refl
gone_ideal course (Happens actor event found) = refl
gone_ideal course (End actor answer) = refl

-- from the course and the track themselves
more : (guest : IdealGuest) (moments later : List Moment) (number : ℕ) (moment : Moment) → IsPlayed guest moments (moment ∷ later) number (course_at guest moments).ideal (track_at guest moments) → IsFine (course_at guest moments) (track_at guest moments) moment later
    → IsReady (after_moment (course_at guest moments).ideal moment)
    → IsPlayed guest (moments ++ moment ∷ []) later (number + 1) (after_moment (course_at guest moments).ideal moment) (tracked (course_at guest moments).ideal moment (track_at guest moments))
more guest moments later number moment so fine ready =
    let course = course_at guest moments in
    let track = track_at guest moments in
    record {
      ready = ready;
      kept = subst (λ shape. IsKept shape (number + 1) (tracked course.ideal moment track)) (sym (shape_kept course.ideal moment)) (kept_more course.ideal number track moment so.kept);
      state_is = ap (λ (c : Course). c.ideal) (course_more (opening_course guest) moments moment) ∙ gone_ideal course moment;
      track_is = track_more guest moments moment;
      one = subst (λ c. AreOne c (tracked course.ideal moment track)) (sym (course_more (opening_course guest) moments moment)) (goes_on course track moment so.one);
      allowed = allowed_more guest moments moment so.allowed fine.coming;
      fresh = fresh_more guest moments later moment so.fresh fine;
    }

-- the same where only the state and the track are known to be theirs
pub goes : (guest : IdealGuest) (moments later : List Moment) (number : ℕ) (moment : Moment) (state state' : Ideal) (track track' : Track) → IsPlayed guest moments (moment ∷ later) number state track
    → ((course : Course) → course.ideal ≡ state → AreOne course track → IsFine course track moment later)
    → IsReady state' → state' ≡ after_moment state moment → track' ≡ tracked state moment track → IsPlayed guest (moments ++ moment ∷ []) later (number + 1) state' track'
goes guest moments later number moment state state' track track' so fine ready is tracks =
    let course = course_at guest moments in
    let own = track_at guest moments in
    let played : IsPlayed guest moments (moment ∷ later) number course.ideal own =
    subst (λ s. IsPlayed guest moments (moment ∷ later) number s own) (sym so.state_is) (subst (λ t. IsPlayed guest moments (moment ∷ later) number state t) (sym so.track_is) so) in
    let good : IsFine course own moment later = subst (λ t. IsFine course t moment later) (sym so.track_is) (fine course so.state_is so.one) in
    let there : IsReady (after_moment course.ideal moment) = subst (λ s. IsReady (after_moment s moment)) (sym so.state_is) (subst IsReady is ready) in
    let next = more guest moments later number moment played good there in
    subst (λ s. IsPlayed guest (moments ++ moment ∷ []) later (number + 1) s track') (ap (λ s. after_moment s moment) so.state_is ∙ sym is)
    (subst (λ t. IsPlayed guest (moments ++ moment ∷ []) later (number + 1) (after_moment course.ideal moment) t) (ap (λ s. tracked s moment own) so.state_is ∙ ap (λ t. tracked state moment t) so.track_is ∙ sym tracks) next)

-- the same of a list, by an index
pub goes_in : (guest : IdealGuest) (moments later : List Moment) (number : ℕ) (moment : Moment) (state state' : Ideal) (track track' : Track) → number < length moments → later ≡ drop (number + 1) moments
    → IsPlayed guest (take number moments) (drop number moments) number state track
    → ((course : Course) → course.ideal ≡ state → AreOne course track → IsFine course track (get_or moments number moment) later)
    → IsReady state' → state' ≡ after_moment state (get_or moments number moment) → track' ≡ tracked state (get_or moments number moment) track → IsPlayed guest (take (number + 1) moments) (drop (number + 1) moments) (number + 1) state' track'
goes_in guest moments later number moment state state' track track' within rest so fine ready is tracks =
    let one = get_or moments number moment in
    let first : IsPlayed guest (take number moments) (one ∷ later) number state track =
    subst (λ ms. IsPlayed guest (take number moments) ms number state track) (drop_more moments number moment within ∙ ap (λ ms. one ∷ ms) (sym rest)) so in
    subst (λ ms. IsPlayed guest (take (number + 1) moments) ms (number + 1) state' track') rest
    (subst (λ ms. IsPlayed guest ms later (number + 1) state' track') (sym (take_more moments number moment within))
    (goes guest (take number moments) later number one state state' track track' first fine ready is tracks))

-- all were played
pub plays_all : (guest : IdealGuest) (moments : List Moment) (number : ℕ) (state : Ideal) (track : Track) → length moments ≤ number → IsPlayed guest (take number moments) (drop number moments) number state track → IsFresh guest moments
plays_all guest moments number state track all so =
    let whole : IsFreshBefore guest moments (drop number moments) = subst (λ ms. IsFreshBefore guest ms (drop number moments)) (take_all number moments all) so.fresh in
    all_fresh guest moments (subst (λ ms. IsFreshBefore guest moments ms) (drop_of_length-le moments all) whole)

-- The first that does not go on.

pub there_at : (xs : List Moment) (i : ℕ) (d : Moment) → i < length xs → slice_get xs i ≡ Some (get_or xs i d)
there_at [] i d h = absurd (omega (arith, h))
there_at (x ∷ xs) zero d h = refl
there_at (x ∷ xs) (suc i) d h = there_at xs i d (omega (arith, h))

pub refuses : (guest : IdealGuest) (moments later : List Moment) (number : ℕ) (moment : Moment) (cause : Cause) (state : Ideal) (track : Track) → number < length moments → later ≡ drop (number + 1) moments → slice_get moments number ≡ Some moment → IsPlayed guest (take number moments) (drop number moments) number state track
    → ((course : Course) → course.ideal ≡ state → AreOne course track → IsCause cause course track moment later) → IsRefused guest moments (record { moment = number; cause = cause })
refuses guest moments later number moment cause state track within rest there so why =
    record {
      within = within;
      allowed = so.allowed;
      fresh = so.fresh;
      moment = moment;
      there = there;
      cause = subst (λ ms. IsCause cause (course_at guest (take number moments)) (track_at guest (take number moments)) moment ms) rest
          (subst (λ t. IsCause cause (course_at guest (take number moments)) t moment later) (sym so.track_is) (why (course_at guest (take number moments)) so.state_is so.one));
    }
