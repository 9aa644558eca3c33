-- Accesses of CPU interface registers, and calls without an event of their own.
use Rattle.std.proofs.Common.{◌≡◌, ℕ, ◌∷◌, ◌++◌, inl, inr, not, Bool, true, false, cond, IsTrue, List, [], Option, Some, None, refl, sym, ap, ◌∙◌, subst}
use Rattle.std.specs.List.{list_all}
use Rattle.std.specs.Option.{option_map_or}
use Rattle.law_home_commutes.specs.Registers.{intid_of, is_target}
use Rattle.law_home_commutes.specs.Words.{IccReg, Sgi1r, Private, Icc, GuestShape}
use Rattle.law_home_commutes.specs.Calls.{Event, Cpu, Moment, Access, Residence, sgi_at, icc_raises, icc_events, Happened, is_beside, named_of, IsIccCall, IsCall}
use Rattle.law_home_commutes.specs.GicCall.declared.event.Event.TheVariants.{Raise}
use Rattle.law_home_commutes.specs.GicCall.declared.event.Found.TheVariants.{Answer}
use Rattle.law_home_commutes.specs.Histories.{IdealGuest, access_answer, after_events, vcpu_of, last_of, home}
use Rattle.law_eager_is_history.proofs.EventLemmas.{all_found}
use Rattle.law_lone_calls_are_eager.specs.LoneCalls.{lone_call, IsEagerCall, PassesAlone}
use Rattle.law_lone_calls_are_eager.proofs.NamedLemmas.{named_run, IsIn, is_in, in_filter, event_passes, vcpu_is}
use Rattle.law_lone_calls_are_eager.proofs.RunLemmas.{events_of, IsHomeRun, IsAnswer, LoneRun, lone_run}

abbrev is_raise : Event → Bool
is_raise (Raise key) = true
is_raise event = false

sgi_raise : (value sender vcpu : ℕ) → IsTrue (option_map_or is_raise (sgi_at value sender vcpu) true)
sgi_raise value sender vcpu = of (is_target value sender vcpu)
  where
    of : (b : Bool) → IsTrue (option_map_or is_raise (cond b (Some (Raise (Private vcpu (intid_of value)))) None) true)
    of true = refl
    of false = refl

raises_all : (shape : GuestShape) (vcpu : ℕ) (reg : IccReg) (write : Option ℕ) → IsTrue (list_all is_raise (icc_raises shape vcpu reg write))
raises_all shape vcpu Sgi1r (Some value) = all_found is_raise (sgi_at value vcpu) 0 shape.vcpus (λ i. sgi_raise value vcpu i)
raises_all shape vcpu Sgi1r None = refl
raises_all shape vcpu reg write = refl

-- the access answered what it does where nothing stands
access_answered : (shape : GuestShape) (guest : IdealGuest) (vcpu : ℕ) (reg : IccReg) (write : Option ℕ) (named : List Happened) (answer : Option ℕ) → IsHomeRun false guest named → events_of named ≡ icc_events shape vcpu reg write
    → IsIn named (record { event = Cpu vcpu reg write; found = Answer answer }) → answer ≡ access_answer reg write guest vcpu
access_answered shape guest vcpu reg write [] answer run are is = absurd is
access_answered shape guest vcpu reg write (one ∷ named) answer run are is = of is
  where
    event_is : one.event ≡ Cpu vcpu reg write
    event_is = cc

    rest_is : events_of named ≡ icc_raises shape vcpu reg write
    rest_is = cc

    found_is : one.found ≡ Answer (access_answer reg write guest vcpu)
    found_is = subst (λ e. IsAnswer guest e one.found) event_is run.0.answers

    same : (x y : Option ℕ) → Answer x ≡ Answer y → x ≡ y
    same x y e = cc

    of : IsIn (one ∷ named) (record { event = Cpu vcpu reg write; found = Answer answer }) → answer ≡ access_answer reg write guest vcpu
    of (inl e) = same answer (access_answer reg write guest vcpu) (sym (ap (λ (h : Happened). h.found) e) ∙ found_is)
    of (inr later) = absurd (let no = event_passes is_raise named _ (subst (λ xs. IsTrue (list_all is_raise xs)) (sym rest_is) (raises_all shape vcpu reg write)) later in cc)

module _ (guest : IdealGuest) (moments : List Moment) (actor : ℕ) (piece : List Happened) (answer : Option ℕ) where
  abbrev before : IdealGuest
  before = home (last_of guest moments)

  icc_so : (reg : IccReg) (write : Option ℕ) → (run : LoneRun guest moments actor (Access (Icc reg write)) piece answer) → (vcpu : ℕ) → vcpu ≡ actor → IsIccCall guest.shape vcpu reg write piece answer
      → IsEagerCall actor (Access (Icc reg write)) answer before (home (last_of guest (moments ++ lone_call actor (Access (Icc reg write)) piece answer)))
  icc_so reg write run vcpu same is =
      let named = named_run false before (Some vcpu) piece run.run in
      record {
        goes =
            run.goes ∙ named.goes ∙ ap (λ events. after_events events before) is.made.events_are
            ∙ ap (λ v. after_events (icc_events guest.shape v reg write) before) same ∙ ap (λ s. after_events (icc_events s actor reg write) before) (sym run.shape_is);
        answers =
            access_answered guest.shape before vcpu reg write (named_of (Some vcpu) piece) answer named.run is.made.events_are (in_filter (λ happened. not (is_beside (Some vcpu) happened.event)) piece _ refl (is_in piece _ is.answers))
            ∙ ap (access_answer reg write before) same;
      }

pub interface_calls_pass : (reg : IccReg) (write : Option ℕ) → PassesAlone (Access (Icc reg write))
interface_calls_pass reg write guest moments actor piece answer is = of (vcpu_of guest.shape actor) refl run.is_call
  where
    run : LoneRun guest moments actor (Access (Icc reg write)) piece answer
    run = lone_run guest moments actor (Access (Icc reg write)) piece answer is

    of : (o : Option ℕ) → vcpu_of guest.shape actor ≡ o → IsCall guest.shape run.ended.beside o (Access (Icc reg write)) piece answer
        → IsEagerCall actor (Access (Icc reg write)) answer (home (last_of guest moments)) (home (last_of guest (moments ++ lone_call actor (Access (Icc reg write)) piece answer)))
    of None e is_call = absurd is_call
    of (Some vcpu) e is_call = icc_so guest moments actor piece answer reg write run vcpu (vcpu_is guest.shape actor vcpu e) is_call

pub residences_pass : PassesAlone Residence
residences_pass guest moments actor piece answer is = of (vcpu_of guest.shape actor) run.is_call
  where
    run : LoneRun guest moments actor Residence piece answer
    run = lone_run guest moments actor Residence piece answer is

    of : (o : Option ℕ) → IsCall guest.shape run.ended.beside o Residence piece answer
        → IsEagerCall actor Residence answer (home (last_of guest moments)) (home (last_of guest (moments ++ lone_call actor Residence piece answer)))
    of None is_call = absurd is_call
    of (Some vcpu) is_call =
        let named = named_run false (home (last_of guest moments)) (Some vcpu) piece run.run in
        record { goes = run.goes ∙ named.goes ∙ ap (λ xs. after_events (events_of xs) (home (last_of guest moments))) is_call.0; answers = is_call.1 }
