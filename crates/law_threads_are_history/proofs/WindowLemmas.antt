-- For which vCPUs the LPIs were in the windows of a call, while other actors act beside it.
use Rattle.std.proofs.Common.{◌≡◌, ℕ, ◌&&◌, Bool, true, false, if◌then◌else◌, nat_lt, is_some, IsTrue, Contains, List, [], ◌∷◌, ◌++◌, Option, Some, None, refl, ap, ◌∙◌, arith}
use Rattle.std.specs.Option.{option_map_or}
use Rattle.std.proofs.lemmas.Bool.{le-ltb, leb-true, ltb-true}
use Rattle.std.proofs.lemmas.List.Elements.{Contains-append_left, Contains-append_right}
use Rattle.law_ends_agree.specs.Words.{Key, Lpi, Private, Spi}
use Rattle.law_ends_agree.specs.Calls.{Event, Enable, ItsBegin, Touch, Found, Operation, Runs, Done, Stalls}
use Rattle.law_ends_agree.specs.GicCall.declared.event.Event.TheVariants.{Queue}
use Rattle.law_ends_agree.specs.Histories.{Ideal, Call, begun, come_to, is_ahead, is_passed, lpi_in, made, noted, seeing, targets_in}
use Rattle.law_runs_are_fresh.proofs.LawEagerIsHistory.WindowLemmas.{is_no_turn}
use Rattle.law_found_parts_are_calls.proofs.SteadyLemmas.{is_steady}
use Rattle.law_found_parts_are_calls.specs.PeMem.Looked.{comes_after, comes_before}

-- What an event notes.

noted_operation : (ideal : Ideal) (event : Event) (call : Call) → (noted ideal event call).operation ≡ call.operation
noted_operation ideal ItsBegin call = refl
noted_operation ideal (Enable vcpu) call = refl
noted_operation ideal (Touch key touching) call = refl
noted_operation ideal (Queue offset Runs) call = refl
noted_operation ideal (Queue offset (Done words)) call = refl
noted_operation ideal (Queue offset (Stalls fault)) call = refl
noted_operation ideal event call = refl

noted_maps : (ideal : Ideal) (event : Event) (call : Call) → is_no_turn event ≡ true → (noted ideal event call).maps ≡ call.maps
noted_maps ideal ItsBegin call h = absurd (cc)
noted_maps ideal (Enable vcpu) call h = refl
noted_maps ideal (Touch key touching) call h = refl
noted_maps ideal (Queue offset Runs) call h = refl
noted_maps ideal (Queue offset (Done words)) call h = refl
noted_maps ideal (Queue offset (Stalls fault)) call h = refl
noted_maps ideal event call h = refl

-- the call of an actor after an event of its own
abbrev pub call_next : Ideal → Ideal → Event → Found → Call → Call
call_next before after event found call = seeing after (made before event found call)

pub next_operation : (before after : Ideal) (event : Event) (found : Found) (call : Call) → (call_next before after event found call).operation ≡ call.operation
next_operation before after event found call = noted_operation before event call

pub next_maps : (before after : Ideal) (event : Event) (found : Found) (call : Call) → is_no_turn event ≡ true → (call_next before after event found call).maps ≡ call.maps
next_maps before after event found call h = noted_maps before event call h

-- Windows.

kept_in : (passed : Bool) (window : List (Option ℕ)) (x t : Option ℕ) → Contains window t → Contains (if passed then window else window ++ x ∷ []) t
kept_in true window x t h = h
kept_in false window x t h = Contains-append_left window (x ∷ []) t h

now_in : (passed : Bool) (window : List (Option ℕ)) (x : Option ℕ) → passed ≡ false → Contains (if passed then window else window ++ x ∷ []) x
now_in true window x h = absurd (cc)
now_in false window x h = Contains-append_right window (x ∷ []) x (0, omega arith, refl)

-- a window of each LPI has a moment, and where the call has not passed the LPI, the present one
pub record IsWindowed (ideal : Ideal) (call : Call) : Type 0 where
  pub now : (id : ℕ) → is_passed call.place id ≡ false → Contains (call.targets id) (targets_in ideal id)
  pub some : (id : ℕ) → (t : Option ℕ) × Contains (call.targets id) t

-- as a call begins
pub windowed_begun : (ideal : Ideal) (operation : Operation) → IsWindowed ideal (begun ideal operation)
windowed_begun ideal operation = record { now = λ id unpassed. (0, omega arith, refl); some = λ id. (targets_in ideal id, (0, omega arith, refl)) }

-- after an event of another actor
pub windowed_seen : (before after : Ideal) (call : Call) → IsWindowed before call → IsWindowed after (seeing after call)
windowed_seen before after call is = record {
  now = λ id unpassed. now_in (is_passed call.place id) (call.targets id) (targets_in after id) unpassed;
  some = λ id. ((is.some id).0, kept_in (is_passed call.place id) (call.targets id) (targets_in after id) (is.some id).0 (is.some id).1);
}

pub seen_in : (after : Ideal) (call : Call) (id : ℕ) (t : Option ℕ) → Contains (call.targets id) t → Contains ((seeing after call).targets id) t
seen_in after call id t h = kept_in (is_passed call.place id) (call.targets id) (targets_in after id) t h

and_none : (b : Bool) → (b && false) ≡ false
and_none true = refl
and_none false = refl

-- an LPI whose window begins anew is not passed
ahead_open : (place : Option ℕ) (key : Key) (id : ℕ) (ahead : Bool) → is_ahead place key id ≡ ahead → is_passed (come_to place key) id ≡ true → ahead ≡ false
ahead_open place key id false e passed = refl
ahead_open None key id true e passed = absurd (cc)
ahead_open (Some here) (Lpi other) id true e passed =
    let past = ltb-true id other passed in absurd (let no = le-ltb other id (omega (arith, past)) in cc)
ahead_open (Some here) (Spi other) id true e passed = absurd (cc)
ahead_open (Some here) (Private v other) id true e passed = absurd (cc)

either_window : (ahead : Bool) (window : List (Option ℕ)) (t : Option ℕ) → ahead ≡ false → Contains window t → Contains (if ahead then [] else window) t
either_window true window t e h = absurd (cc)
either_window false window t e h = h

passed_kept : (ideal : Ideal) (event : Event) (call : Call) (id : ℕ) (t : Option ℕ) → is_steady event ≡ true → is_passed (noted ideal event call).place id ≡ true → Contains (call.targets id) t → Contains ((noted ideal event call).targets id) t
passed_kept ideal ItsBegin call id t h passed there = there
passed_kept ideal (Enable vcpu) call id t h passed there = absurd (let no = le-ltb id 0 (omega arith) in cc)
passed_kept ideal (Touch key touching) call id t h passed there = either_window (is_ahead call.place key id) (call.targets id) t (ahead_open call.place key id (is_ahead call.place key id) refl passed) there
passed_kept ideal (Queue offset Runs) call id t h passed there = there
passed_kept ideal (Queue offset (Done words)) call id t h passed there = absurd (cc)
passed_kept ideal (Queue offset (Stalls fault)) call id t h passed there = absurd (cc)
passed_kept ideal event call id t h passed there = there

-- after one of its own
pub windowed_made : (before after : Ideal) (event : Event) (found : Found) (call : Call) → is_steady event ≡ true → IsWindowed before call → IsWindowed after (call_next before after event found call)
windowed_made before after event found call h is = record {
  now = λ id unpassed. now_in (is_passed (noted before event call).place id) ((noted before event call).targets id) (targets_in after id) unpassed;
  some = λ id. of id (is_passed (noted before event call).place id) refl;
}
  where
    of : (id : ℕ) (passed : Bool) → is_passed (noted before event call).place id ≡ passed
        → (t : Option ℕ) × Contains (if passed then (noted before event call).targets id else (noted before event call).targets id ++ targets_in after id ∷ []) t
    of id false e = (targets_in after id, now_in false ((noted before event call).targets id) (targets_in after id) refl)
    of id true e = ((is.some id).0, passed_kept before event call id (is.some id).0 h e (is.some id).1)

-- Where an LPI is looked at in its place.

before_place : (place : Option ℕ) (key : Key) (id : ℕ) → IsTrue (option_map_or (λ other. nat_lt other id) (lpi_in key) true) → is_passed place id ≡ false → is_passed (come_to place key) id ≡ false
before_place None key id less still = refl
before_place (Some here) (Lpi other) id less still = let l = ltb-true other id less in le-ltb id other (omega (arith, l))
before_place (Some here) (Spi other) id less still = still
before_place (Some here) (Private v other) id less still = still

-- an event that comes before it passes it by no means
pub before_kept : (before after : Ideal) (event : Event) (found : Found) (call : Call) (id : ℕ) → comes_before id event ≡ true → is_passed call.place id ≡ false → is_passed (call_next before after event found call).place id ≡ false
before_kept before after ItsBegin found call id h still = still
before_kept before after (Enable vcpu) found call id h still = le-ltb id 0 (omega arith)
before_kept before after (Touch (Lpi other) touching) found call id h still = before_place call.place (Lpi other) id h still
before_kept before after (Touch (Spi other) touching) found call id h still = before_place call.place (Spi other) id refl still
before_kept before after (Touch (Private v other) touching) found call id h still = before_place call.place (Private v other) id refl still
before_kept before after (Queue offset Runs) found call id h still = still
before_kept before after (Queue offset (Done words)) found call id h still = still
before_kept before after (Queue offset (Stalls fault)) found call id h still = still
before_kept before after event found call id h still = still

after_window : (ideal : Ideal) (event : Event) (call : Call) (id : ℕ) (t : Option ℕ) → is_steady event ≡ true → comes_after id event ≡ true → Contains (call.targets id) t → Contains ((noted ideal event call).targets id) t
after_window ideal ItsBegin call id t h k there = there
after_window ideal (Enable vcpu) call id t h k there = absurd (cc)
after_window ideal (Touch (Lpi other) touching) call id t h k there =
    let few = leb-true id other k in
    either_window (is_ahead call.place (Lpi other) id) (call.targets id) t (ap (λ b. is_some call.place && b) (le-ltb other id few) ∙ and_none (is_some call.place)) there
after_window ideal (Touch (Spi other) touching) call id t h k there = either_window (is_ahead call.place (Spi other) id) (call.targets id) t (and_none (is_some call.place)) there
after_window ideal (Touch (Private v other) touching) call id t h k there = either_window (is_ahead call.place (Private v other) id) (call.targets id) t (and_none (is_some call.place)) there
after_window ideal (Queue offset Runs) call id t h k there = there
after_window ideal (Queue offset (Done words)) call id t h k there = absurd (cc)
after_window ideal (Queue offset (Stalls fault)) call id t h k there = absurd (cc)
after_window ideal event call id t h k there = there

-- and what was found then stays in its window at each event that comes after it
pub after_kept : (before after : Ideal) (event : Event) (found : Found) (call : Call) (id : ℕ) (t : Option ℕ) → is_steady event ≡ true → comes_after id event ≡ true → Contains (call.targets id) t → Contains ((call_next before after event found call).targets id) t
after_kept before after event found call id t h k there =
    kept_in (is_passed (noted before event call).place id) ((noted before event call).targets id) (targets_in after id) t (after_window before event call id t h k there)
