-- A run ends: all steps of the scenario were done, by their own actors.
use Rattle.std.proofs.Common.{◌≡◌, ℕ, ◌+◌, ◌-◌, ◌<◌, ◌&&◌, not, inl, inr, suc, true≢false, Bool, true, false, if◌then◌else◌, IsTrue, All, List, [], ◌∷◌, ◌++◌, length, map, Some, is_none, refl, sym, ap, subst, ◌∙◌, arith}
use Rattle.std.specs.Prelude.{slice_get}
use Rattle.std.proofs.Math.Logic.{∥∥₁_elim, ∥∥₁_map}
use Rattle.std.proofs.Props.{props}
use Rattle.std.proofs.lemmas.Bool.{cases_lt, eqb-true, le-ltb, lt-ltb}
use Rattle.std.proofs.lemmas.List.{length-map}
use Rattle.std.proofs.lemmas.Option.{get_or_from_slice_get, slice_get_within}
use Rattle.law_threads_are_history.specs.IdealGuests.Opening.{opening as opening_guest}
use Rattle.law_threads_are_history.specs.Core.{Progress, is_settled, Local, Made, actor_count, owes_nothing, is_vcpu, Seen, local_by, opening_local_of}
use Rattle.law_threads_are_history.specs.LawEagerIsHistory.Calls.{Made as MadeCall, own_steps}
use Rattle.law_threads_are_history.specs.Registers.{CpuRec}
use Rattle.law_threads_are_history.specs.PortOps.Opened.{no_guest}
use Rattle.thr_cast.specs.PortTable.declared.view.Account.{Account}
use Rattle.thr_cast.specs.PortTable.Told.{WordsTold, RootTold, HasNoTurn, IsDone, opening_seen, root_at, words_at}
use Rattle.thr_cast.specs.PortTable.View.{is_among, is_back, steps_of}
use Rattle.law_threads_are_history.specs.Calls.{GuestSpec, shapes_of}
use Rattle.law_threads_are_history.specs.GicGuest.declared.outcome.Answer.{Answer}
use Rattle.law_threads_are_history.specs.ScnBase.declared.pes.VcpuName.{VcpuName}
use Rattle.law_threads_are_history.specs.ScnBase.declared.scenario.Scenario.{Scenario}
use Rattle.law_threads_are_history.specs.ScnBase.declared.step.Mode.TheVariants.{Threads}
use Rattle.thr_cast.specs.ThrTrip.Device.{DeviceTold, IsDevice, calls_done}
use Rattle.thr_cast.specs.ThrTrip.Gone.{HasGone}
use Rattle.thr_cast.specs.ThrTrip.Script.{all_vcpus, calls_answered, calls_received, vcpu_ops}
use Rattle.thr_cast.specs.ThrTrip.Trip.{IsTrip, TripTold, is_done}
use Rattle.thr_cast.specs.declared.answers.Heard.{Heard}
use Rattle.thr_cast.specs.Answers.{AllHeard, AnswersAre}
use Rattle.thr_cast.specs.Back.{heard_of}
use Rattle.thr_cast.specs.Cast.{name_of}
use Rattle.thr_cast.specs.Crew.{joined_all}
use Rattle.thr_cast.specs.Names.{DeviceName, all_devices}
use Rattle.thr_cast.specs.Split.{SplitTo}
use Rattle.thr_cast.proofs.AnswerLemmas.{apart_in_run, device_calls, heard_in_run, names_in, vcpu_calls}
use Rattle.thr_cast.proofs.CastLemmas.{guest_shape}
use Rattle.thr_cast.proofs.NameLemmas.{device_there, from_either, of_first, of_second, vcpu_there}
use Rattle.run_thr.specs.Run.{ActorHasRun, GuestHasRun, HasRun, cpu_of, local_of}
use Rattle.run_thr.proofs.ActorLemmas.{actor_local}
use Rattle.run_thr.proofs.JoinLemmas.{accounts_of, all_found, back_found, joined_at, steps_found}
use Rattle.run_thr.proofs.RollLemmas.{Roll, apart, at_all, device_actor, device_at, from_mapped, mapped, seens_of, there, there_is, trip_few, trip_named}

-- two lists of one length, with the same at each place
pub same_lists : {X : Type 0} (xs ys : List X) → length xs ≡ length ys → ((p : ℕ) (x : X) → slice_get xs p ≡ Some x → slice_get ys p ≡ Some x) → xs ≡ ys
same_lists [] [] long each = refl
same_lists [] (y ∷ ys) long each = absurd (omega (arith, long))
same_lists (x ∷ xs) [] long each = absurd (omega (arith, long))
same_lists {X = X} (x ∷ xs) (y ∷ ys) long each =
    let head : Some y ≡ Some x = each 0 x refl in
    let same : y ≡ x = cc in
    let rest : xs ≡ ys = same_lists xs ys (omega (arith, long)) (λ p one e. each (suc p) one e) in
    ap (λ (one : X). one ∷ xs) (sym same) ∙ ap (λ (more : List X). y ∷ more) rest

-- who owes nothing and has nothing has not the ITS
settled_turn : (local : Local) → IsTrue (is_settled local) → local.turn ≡ false
settled_turn local so = of (owes_nothing local) local.turn (not local.ctlr) (is_none local.line) so
  where
    of : (a b c d : Bool) → IsTrue (a && not b && c && d) → b ≡ false
    of a false c d e = refl
    of true true c d e = absurd (cc)
    of false true c d e = absurd (cc)

module _ (scenario : Scenario) (words : List WordsTold) (devices : List DeviceTold) (trips : List TripTold) (roll : Roll scenario words devices trips) where
  -- What the vCPUs heard.

  heard : List Heard
  heard = map heard_of trips

  Name : TripTold → VcpuName
  Name trip = record { guest = trip.vcpu.guest; vcpu = trip.vcpu.vcpu }

  pub names_are : names_in (map heard_of trips) ≡ all_vcpus words
  names_are =
      same_lists (names_in (map heard_of trips)) (all_vcpus words) (length-map (map heard_of trips) (λ (one : Heard). one.name) ∙ length-map trips heard_of ∙ roll.count)
      (λ p name e.
      let one = from_mapped (λ (one : Heard). one.name) (map heard_of trips) p name e in
      let trip = from_mapped heard_of trips p one.one one.there in
      trip_named scenario words devices trips roll p trip.one trip.there ∙ ap (λ (heard : Heard). Some heard.name) trip.is ∙ ap Some one.is)

  -- all of its script was answered
  script_done : (p : ℕ) (trip : TripTold) → slice_get trips p ≡ Some trip → length trip.answers ≡ length (vcpu_ops trip.vcpu.guest trip.vcpu.vcpu scenario.steps)
  script_done p trip e =
      let done = at_all (λ (trip : TripTold). IsTrue (is_done trip)) trips p trip roll.done e in
      eqb-true (length trip.answers) (length trip.script) done ∙ ap length (at_all (IsTrip words scenario.lrs scenario.steps) trips p trip roll.trip e).script

  pub all_heard : AllHeard scenario.steps (map heard_of trips)
  all_heard =
      heard_in_run Threads scenario.pes scenario.guests words scenario.steps (map heard_of trips) roll.set.each roll.set.guest roll.set.number roll.set.good.each_step names_are
      (λ p one e.
      let trip = from_mapped heard_of trips p one e in
      subst (λ (one : Heard). length one.answers ≡ length (vcpu_ops one.name.guest one.name.vcpu scenario.steps)) trip.is (script_done p trip.one trip.there))

  -- The roots at the end.
  module _ (first root : List RootTold) (split : SplitTo words first (length words) 0) (is : root ≡ joined_all (seens_of devices trips) first) (answers : List Answer) (are : AnswersAre scenario.steps (map heard_of trips) answers) where
    joined_is : (number : ℕ) → (root_at root number).joined ≡ accounts_of number (seens_of devices trips)
    joined_is number =
        ap (λ (roots : List RootTold). (root_at roots number).joined) is
        ∙ ap (λ (r : RootTold). r.joined) (joined_at (seens_of devices trips) first number (there scenario words devices trips roll first split.are))
        ∙ ap (λ (joined : List Account). joined ++ accounts_of number (seens_of devices trips)) (split.none_joined number)

    split_is : (number : ℕ) → (root_at root number).split ≡ (root_at first number).split
    split_is number = ap (λ (roots : List RootTold). (root_at roots number).split) is ∙ ap (λ (r : RootTold). r.split) (joined_at (seens_of devices trips) first number (there scenario words devices trips roll first split.are))

    -- the steps of one of the ports
    steps_are : (p : ℕ) (seen : Seen) → slice_get (seens_of devices trips) p ≡ Some seen → steps_of seen.actor (root_at root seen.number).joined ≡ seen.own
    steps_are p seen e = ap (steps_of seen.actor) (joined_is seen.number) ∙ steps_found (seens_of devices trips) p seen e (apart scenario words devices trips roll)

    -- A vCPU.

    trip_steps : (p : ℕ) (trip : TripTold) → slice_get trips p ≡ Some trip → steps_of trip.vcpu.vcpu (root_at root trip.vcpu.guest).joined ≡ trip.seen.own
    trip_steps p trip e =
        let is_trip = at_all (IsTrip words scenario.lrs scenario.steps) trips p trip roll.trip e in
        let at : slice_get (seens_of devices trips) (length (map (λ (device : DeviceTold). device.seen) devices) + p) ≡ Some trip.seen =
        of_second (map (λ (device : DeviceTold). device.seen) devices) (map (λ (trip : TripTold). trip.seen) trips) p trip.seen (mapped (λ (trip : TripTold). trip.seen) trips p trip e) in
        ap (λ n. steps_of n (root_at root trip.vcpu.guest).joined) (sym is_trip.off.actor.number) ∙ ap (λ n. steps_of trip.seen.actor (root_at root n).joined) (sym is_trip.off.actor.guest)
        ∙ steps_are (length (map (λ (device : DeviceTold). device.seen) devices) + p) trip.seen at

    trip_ran : (p : ℕ) (trip : TripTold) → slice_get trips p ≡ Some trip → let words = words_at words trip.vcpu.guest in
        ∥ ActorHasRun words scenario.lrs trip.vcpu.vcpu (steps_of trip.vcpu.vcpu (root_at root trip.vcpu.guest).joined) (own_steps words.guest.shape trip.vcpu.guest trip.vcpu.vcpu scenario.steps answers) ∥₁
    trip_ran p trip e =
        let one = words_at words trip.vcpu.guest in
        let is_trip = at_all (IsTrip words scenario.lrs scenario.steps) trips p trip roll.trip e in
        let calls : own_steps one.guest.shape trip.vcpu.guest trip.vcpu.vcpu scenario.steps answers ≡ calls_answered trip.script trip.answers =
        vcpu_calls scenario.steps (map heard_of trips) answers one.guest.shape p (heard_of trip) are (apart_in_run words (map heard_of trips) roll.set.number names_are) (mapped heard_of trips p trip e) (trip_few scenario words devices trips roll p trip e)
        ∙ ap (λ script. calls_answered script trip.answers) (sym is_trip.script) in
        let Gone : ℕ → Type 0 = λ n. HasGone n (opening_seen one trip.vcpu.vcpu) trip.seen (λ (p : Progress). Unit {0}) (own_steps one.guest.shape trip.vcpu.guest trip.vcpu.vcpu scenario.steps answers) in
        let registers : scenario.lrs ≡ (if is_vcpu one.guest.shape trip.vcpu.vcpu then scenario.lrs else 0) =
        ap (λ (vcpu : Bool). if vcpu then scenario.lrs else 0) (sym (lt-ltb trip.vcpu.vcpu one.guest.shape.vcpus (trip_few scenario words devices trips roll p trip e))) in
        ∥∥₁_map is_trip.gone (λ gone.
        record {
          seen = trip.seen;
          own_is = sym (trip_steps p trip e);
          gone =
              subst Gone registers
              (let so : Gone scenario.lrs = record { parts = gone.parts; adds = gone.adds; registers = gone.registers; on = gone.on; sent = gone.sent; are = gone.are; proper = gone.proper; calls_are = gone.calls_are ∙ sym calls; followed = tt } in so);
          empty = λ vcpu. is_trip.off.empty;
          settled = is_trip.off.settled;
        })

    -- A device.

    device_steps : (p : ℕ) (device : DeviceTold) → slice_get devices p ≡ Some device → steps_of ((words_at words device.guest).guest.shape.vcpus + device.device) (root_at root device.guest).joined ≡ device.seen.own
    device_steps p device e =
        let is_device = at_all (IsDevice words scenario.steps) devices p device roll.device e in
        let at : slice_get (seens_of devices trips) p ≡ Some device.seen =
        of_first (map (λ (device : DeviceTold). device.seen) devices) (map (λ (trip : TripTold). trip.seen) trips) p device.seen (mapped (λ (device : DeviceTold). device.seen) devices p device e) in
        ap (λ n. steps_of n (root_at root device.guest).joined) (sym (device_actor scenario words devices trips roll p device e)) ∙ ap (λ n. steps_of device.seen.actor (root_at root n).joined) (sym is_device.number) ∙ steps_are p device.seen at

    device_ran : (p : ℕ) (device : DeviceTold) → slice_get devices p ≡ Some device → let words = words_at words device.guest in let actor = words.guest.shape.vcpus + device.device in
        ∥ ActorHasRun words scenario.lrs actor (steps_of actor (root_at root device.guest).joined) (own_steps words.guest.shape device.guest actor scenario.steps answers) ∥₁
    device_ran p device e =
        let one = words_at words device.guest in
        let actor = one.guest.shape.vcpus + device.device in
        let is_device = at_all (IsDevice words scenario.steps) devices p device roll.device e in
        let finished = at_all (λ (device : DeviceTold). device.done ≡ true) devices p device roll.finished e in
        let few : device.guest < length words = subst (λ n. n < length words) is_device.number is_device.of.guest in
        let calls : own_steps one.guest.shape device.guest actor scenario.steps answers ≡ calls_done device.done device.script =
        device_calls Threads scenario.pes (shapes_of scenario.guests) scenario.steps (map heard_of trips) answers one.guest.shape device.guest device.device roll.set.good.each_step are (guest_shape scenario words roll.set device.guest few)
        ∙ ap calls_received (sym is_device.script) ∙ ap (λ done. calls_done done device.script) (sym finished) in
        let none : is_vcpu one.guest.shape actor ≡ false = le-ltb actor one.guest.shape.vcpus (omega arith) in
        let Gone : ℕ → Type 0 = λ n. HasGone n (opening_seen one actor) device.seen (λ (p : Progress). Unit {0}) (own_steps one.guest.shape device.guest actor scenario.steps answers) in
        let registers : 0 ≡ (if is_vcpu one.guest.shape actor then scenario.lrs else 0) = ap (λ (vcpu : Bool). if vcpu then scenario.lrs else 0) (sym none) in
        ∥∥₁_map is_device.gone (λ gone.
        record {
          seen = device.seen;
          own_is = sym (device_steps p device e);
          gone =
              subst Gone registers
              (let so : Gone 0 = record { parts = gone.parts; adds = gone.adds; registers = gone.registers; on = gone.on; sent = gone.sent; are = gone.are; proper = gone.proper; calls_are = gone.calls_are ∙ sym calls; followed = tt } in so);
          empty = λ vcpu. absurd (true≢false (sym vcpu ∙ none));
          settled = is_device.ready.settled;
        })

    -- Each actor of a guest.

    -- it is one of these
    record Found (number actor : ℕ) : Type 0 where
      pub place : ℕ
      pub seen : Seen
      pub there : slice_get (seens_of devices trips) place ≡ Some seen
      pub number_is : seen.number ≡ number
      pub actor_is : seen.actor ≡ actor
      pub ran : ∥ ActorHasRun (words_at words number) scenario.lrs actor (steps_of actor (root_at root number).joined) (own_steps (words_at words number).guest.shape number actor scenario.steps answers) ∥₁

    found_trip : (number actor : ℕ) → number < length words → actor < (words_at words number).guest.shape.vcpus → Found number actor
    found_trip number actor here few =
        let named = vcpu_there words number actor roll.set.number here few in
        let at = there_is trips named.0 (subst (λ n. named.0 < n) (sym roll.count) named.2) in
        let trip = at.0 in
        let is_trip = at_all (IsTrip words scenario.lrs scenario.steps) trips named.0 trip roll.trip at.1 in
        let Is : VcpuName → Type 0 = λ name. ∥ ActorHasRun (words_at words name.guest) scenario.lrs name.vcpu (steps_of name.vcpu (root_at root name.guest).joined) (own_steps (words_at words name.guest).guest.shape name.guest name.vcpu scenario.steps answers) ∥₁ in
        let mine : VcpuName = record { guest = trip.vcpu.guest; vcpu = trip.vcpu.vcpu } in
        let name : VcpuName = record { guest = number; vcpu = actor } in
        let both : Some mine ≡ Some name = sym (trip_named scenario words devices trips roll named.0 trip at.1) ∙ named.1 in
        let same : mine ≡ name = cc in
        record {
          place = length (map (λ (device : DeviceTold). device.seen) devices) + named.0;
          seen = trip.seen;
          there = of_second (map (λ (device : DeviceTold). device.seen) devices) (map (λ (trip : TripTold). trip.seen) trips) named.0 trip.seen (mapped (λ (trip : TripTold). trip.seen) trips named.0 trip at.1);
          number_is = is_trip.off.actor.guest ∙ ap (λ (n : VcpuName). n.guest) same;
          actor_is = is_trip.off.actor.number ∙ ap (λ (n : VcpuName). n.vcpu) same;
          ran = subst Is same (trip_ran named.0 trip at.1);
        }

    found_device : (number device : ℕ) → number < length words → device < (words_at words number).guest.shape.devices → Found number ((words_at words number).guest.shape.vcpus + device)
    found_device number device here few =
        let named = device_there words number device roll.set.number here few in
        let long : length devices ≡ length (all_devices words) = sym (length-map devices name_of) ∙ ap length roll.names in
        let at = there_is devices named.0 (subst (λ n. named.0 < n) (sym long) named.2) in
        let one = at.0 in
        let is_device = at_all (IsDevice words scenario.steps) devices named.0 one roll.device at.1 in
        let actor_of : DeviceName → ℕ = λ name. (words_at words name.guest).guest.shape.vcpus + name.device in
        let Is : DeviceName → Type 0 = λ name. ∥ ActorHasRun (words_at words name.guest) scenario.lrs (actor_of name) (steps_of (actor_of name) (root_at root name.guest).joined) (own_steps (words_at words name.guest).guest.shape name.guest (actor_of name) scenario.steps answers) ∥₁ in
        let name : DeviceName = record { guest = number; device = device } in
        let both : Some (name_of one) ≡ Some name = sym (device_at scenario words devices trips roll named.0 one at.1) ∙ named.1 in
        let same : name_of one ≡ name = cc in
        record {
          place = named.0;
          seen = one.seen;
          there = of_first (map (λ (device : DeviceTold). device.seen) devices) (map (λ (trip : TripTold). trip.seen) trips) named.0 one.seen (mapped (λ (device : DeviceTold). device.seen) devices named.0 one at.1);
          number_is = is_device.number ∙ ap (λ (n : DeviceName). n.guest) same;
          actor_is = device_actor scenario words devices trips roll named.0 one at.1 ∙ ap actor_of same;
          ran = subst Is same (device_ran named.0 one at.1);
        }

    found : (number actor : ℕ) → number < length words → actor < actor_count (words_at words number).guest.shape → Found number actor
    found number actor here few =
        let vcpus = (words_at words number).guest.shape.vcpus in
        elim (cases_lt actor vcpus) [
          | inl vcpu ↦ found_trip number actor here vcpu
          | inr past ↦
              (let device = actor - vcpus in
              let same : vcpus + device ≡ actor = omega (arith, past) in
              subst (Found number) same (found_device number device here (omega (arith, few, past))))
        ]

    -- and the guest is done with them
    back : (number actor : ℕ) → number < length words → IsTrue (is_among actor (root_at root number).split) → IsTrue (is_back actor (root_at root number).joined)
    back number actor here among =
        let few = split.earlier number actor here (subst (λ actors. IsTrue (is_among actor actors)) (split_is number) among) in
        let one = found number actor here few in
        ap (is_back actor) (joined_is number) ∙ ap (λ n. is_back actor (accounts_of n (seens_of devices trips))) (sym one.number_is) ∙ ap (λ a. is_back a (accounts_of one.seen.number (seens_of devices trips))) (sym one.actor_is)
        ∙ back_found (seens_of devices trips) one.place one.seen one.there

    -- nobody has the ITS
    abbrev NoTurn : ℕ → ℕ → List Made → Type 0
    NoTurn number actor own = (local_by (words_at words number).guest.shape actor (opening_local_of (words_at words number).guest (words_at words number).number actor) own).turn ≡ false

    no_turn : (number actor : ℕ) (own : List Made) (calls : List MadeCall) → ∥ ActorHasRun (words_at words number) scenario.lrs actor own calls ∥₁ → NoTurn number actor own
    no_turn number actor own calls ran =
        ∥∥₁_elim ran (Prim.hlevel props)
        (λ (one : ActorHasRun (words_at words number) scenario.lrs actor own calls). ap (λ (local : Local). local.turn) (sym (actor_local (words_at words number) scenario.lrs actor own calls one)) ∙ settled_turn one.seen.local one.settled)

    no_turn_of : (p : ℕ) (seen : Seen) → slice_get (seens_of devices trips) p ≡ Some seen → NoTurn seen.number seen.actor seen.own
    no_turn_of p seen e =
        elim (from_either (map (λ (device : DeviceTold). device.seen) devices) (map (λ (trip : TripTold). trip.seen) trips) p seen e) [
          | inl early ↦
              (let from = from_mapped (λ (device : DeviceTold). device.seen) devices p seen early in
              let device = from.one in
              let actor = (words_at words device.guest).guest.shape.vcpus + device.device in
              let is_device = at_all (IsDevice words scenario.steps) devices p device roll.device from.there in
              let so = no_turn device.guest actor (steps_of actor (root_at root device.guest).joined) (own_steps (words_at words device.guest).guest.shape device.guest actor scenario.steps answers) (device_ran p device from.there) in
              subst (λ (s : Seen). NoTurn s.number s.actor s.own) from.is
              (subst (λ n. NoTurn n device.seen.actor device.seen.own) (sym is_device.number)
              (subst (λ a. NoTurn device.guest a device.seen.own) (sym (device_actor scenario words devices trips roll p device from.there)) (subst (NoTurn device.guest actor) (device_steps p device from.there) so))))
          | inr late ↦
              (let from = from_mapped (λ (trip : TripTold). trip.seen) trips late.0 seen late.2 in
              let trip = from.one in
              let is_trip = at_all (IsTrip words scenario.lrs scenario.steps) trips late.0 trip roll.trip from.there in
              let guest = trip.vcpu.guest in
              let vcpu = trip.vcpu.vcpu in
              let so = no_turn guest vcpu (steps_of vcpu (root_at root guest).joined) (own_steps (words_at words guest).guest.shape guest vcpu scenario.steps answers) (trip_ran late.0 trip from.there) in
              subst (λ (s : Seen). NoTurn s.number s.actor s.own) from.is
              (subst (λ n. NoTurn n trip.seen.actor trip.seen.own) (sym is_trip.off.actor.guest)
              (subst (λ a. NoTurn guest a trip.seen.own) (sym is_trip.off.actor.number) (subst (NoTurn guest vcpu) (trip_steps late.0 trip from.there) so))))
        ]

    idle : (number : ℕ) → All (HasNoTurn (words_at words number)) (root_at root number).joined
    idle number =
        subst (All (HasNoTurn (words_at words number))) (sym (joined_is number))
        (all_found (HasNoTurn (words_at words number)) number (seens_of devices trips) (λ p seen e same. subst (λ n. NoTurn n seen.actor seen.own) same (no_turn_of p seen e)))

    -- the records of the CPU interfaces
    cpu_is : (p : ℕ) (trip : TripTold) → slice_get trips p ≡ Some trip → (local_of (words_at words trip.vcpu.guest) (root_at root trip.vcpu.guest) trip.vcpu.vcpu).cpu ≡ trip.vcpu.cpu
    cpu_is p trip e =
        let one = words_at words trip.vcpu.guest in
        let is_trip = at_all (IsTrip words scenario.lrs scenario.steps) trips p trip roll.trip e in
        ∥∥₁_elim is_trip.gone (Prim.hlevel props)
        (λ gone.
        ap (λ own. (local_by one.guest.shape trip.vcpu.vcpu (opening_local_of one.guest one.number trip.vcpu.vcpu) own).cpu) (trip_steps p trip e ∙ ap (λ (s : Seen). s.own) gone.adds.new_is)
        ∙ sym (ap (λ (s : Seen). s.local.cpu) gone.adds.new_is) ∙ is_trip.off.cpu)

    cpus_are : map (λ (trip : TripTold). trip.vcpu.cpu) trips ≡ map (cpu_of words root) (all_vcpus words)
    cpus_are =
        same_lists (map (λ (trip : TripTold). trip.vcpu.cpu) trips) (map (cpu_of words root) (all_vcpus words))
        (length-map trips (λ (trip : TripTold). trip.vcpu.cpu) ∙ roll.count ∙ sym (length-map (all_vcpus words) (cpu_of words root)))
        (λ p cpu e.
        let from = from_mapped (λ (trip : TripTold). trip.vcpu.cpu) trips p cpu e in
        mapped (cpu_of words root) (all_vcpus words) p (record { guest = from.one.vcpu.guest; vcpu = from.one.vcpu.vcpu }) (trip_named scenario words devices trips roll p from.one from.there)
        ∙ ap Some (cpu_is p from.one from.there ∙ from.is))

    guest_ran : (number : ℕ) (guest : GuestSpec) → slice_get scenario.guests number ≡ Some guest → GuestHasRun (opening_guest guest) number scenario.lrs scenario.steps answers (words_at words number) (root_at root number)
    guest_ran number guest e =
        let here : number < length words = subst (λ n. number < n) (sym roll.set.each) (slice_get_within scenario.guests number guest e) in
        let guest_is : (words_at words number).guest ≡ opening_guest guest = roll.set.guest number here ∙ ap opening_guest (get_or_from_slice_get scenario.guests number guest no_guest e) in
        let done : IsDone (words_at words number) (root_at root number) = record { back = λ actor among. back number actor here among; idle = idle number } in
        subst (λ g. GuestHasRun g number scenario.lrs scenario.steps answers (words_at words number) (root_at root number)) guest_is
        (record { guest_is = refl; number_is = roll.set.number number here; done = done; each = λ actor few. (found number actor here few).ran })

    pub has_run : (cpus : List CpuRec) → length answers ≡ length scenario.steps → cpus ≡ map (λ (trip : TripTold). trip.vcpu.cpu) trips → HasRun scenario (record { answers = answers; cpus = cpus }) words root
    has_run cpus count cpus_is = record { guests = roll.set.each; each = guest_ran; answers = count; cpus = cpus_is ∙ cpus_are }
