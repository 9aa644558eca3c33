-- A machine as it opens: the vCPUs enter their PEs, one after the other.
use Rattle.std.proofs.Common.{◌≡◌, ℕ, zero, suc, ◌+◌, ◌<◌, ◌≤◌, not, Bool, true, false, IsTrue, List, [], ◌∷◌, ◌++◌, length, map, set, get_or, replicate, Option, Some, None, is_none, refl, sym, ap, ◌∙◌, subst, arith}
use Rattle.std.specs.Prelude.{nat_lt, slice_get}
use Rattle.std.specs.Option.{option_map_or}
use Rattle.std.proofs.lemmas.Bool.{and_from, lt-ltb}
use Rattle.std.proofs.lemmas.List.{length-map}
use Rattle.std.proofs.lemmas.List.Elements.{All-nil, All-cons, All-get_or}
use Rattle.std.proofs.lemmas.Option.{get_or_from_slice_get, slice_get-get_or, slice_get_within}
use Rattle.law_ends_agree.specs.Words.{Enter, GuestShape}
use Rattle.law_ends_agree.specs.Histories.{IdealGuest}
use Rattle.law_ends_agree.specs.IdealGuests.CanOpen.{CanOpen}
use Rattle.law_ends_agree.specs.GicGuest.declared.outcome.Answer.{Answer}
use Rattle.law_ends_agree.specs.ScnBase.declared.pes.VcpuName.{VcpuName}
use Rattle.law_ends_agree.specs.ScnBase.declared.step.Step.TheVariants.{Pe}
use Rattle.law_ends_agree.specs.ScnBase.Standing.{ResidentsExist, has_vcpu, is_resident, resident_of, vcpu_name}
use Rattle.law_one_thread_is_eager.specs.PortSeq.declared.port.SeqPort.{SeqPort}
use Rattle.law_one_thread_is_eager.specs.PortSeq.Ports.{told_all}
use Rattle.law_one_thread_is_eager.specs.PortSeq.Told.{GuestTold, SeqTold, guest_at}
use Rattle.law_one_thread_is_eager.specs.LawSerialIsEager.Serial.{WholePart}
use Rattle.law_one_thread_is_eager.specs.SeqGuest.declared.vcpus.Vcpus.{Vcpus}
use Rattle.law_one_thread_is_eager.specs.PePlace.Place.{pe, shelf}
use Rattle.law_one_thread_is_eager.specs.SeqGuest.Guest.{spot_at}
use Rattle.law_one_thread_is_eager.proofs.DoneLaws.{guests_open_at_home}
use Rattle.run_seq.specs.declared.machine.Machine.{Machine}
use Rattle.run_seq.specs.StepCalls.{calls_among}
use Rattle.run_seq.specs.Machine.{CanDo, DoesStep, IsGuestAt, IsMachineAt, IsReady, OpensMachine, place_by}
use Rattle.run_seq.specs.Opened.{AreOpened, IsOpened}
use Rattle.run_seq.proofs.CallLemmas.{calls_append}
use Rattle.run_seq.proofs.ResidentLemmas.{resident_stands}
use Rattle.run_seq.specs.Agenda.{Agenda, CanStart, StandsOnce}
use Rattle.law_ends_agree.specs.GicIdeal.Eager.{state_shapes}

-- Some of the PEs.

-- the first of them as they are to be, and nobody on the others
abbrev pub opened_to : ℕ → List (Option VcpuName) → List (Option VcpuName)
opened_to zero residents = map (λ resident. None) residents
opened_to (suc count) [] = []
opened_to (suc count) (resident ∷ residents) = resident ∷ opened_to count residents

pub opened_each : (count : ℕ) (residents : List (Option VcpuName)) → length (opened_to count residents) ≡ length residents
opened_each zero residents = length-map residents _
opened_each (suc count) [] = refl
opened_each (suc count) (resident ∷ residents) = ap suc (opened_each count residents)

pub opened_all : (count : ℕ) (residents : List (Option VcpuName)) → length residents ≤ count → opened_to count residents ≡ residents
opened_all zero [] h = refl
opened_all zero (resident ∷ residents) h = absurd (omega (arith, h))
opened_all (suc count) [] h = refl
opened_all (suc count) (resident ∷ residents) h = ap (λ rest. resident ∷ rest) (opened_all count residents (omega (arith, h)))

pub opened_next : (count : ℕ) (residents : List (Option VcpuName)) (one : Option VcpuName) → slice_get residents count ≡ Some one → set (opened_to count residents) count one ≡ opened_to (suc count) residents
opened_next zero [] one e = absurd (cc)
opened_next zero (resident ∷ residents) one e = ap (λ r. r ∷ map (λ (resident : Option VcpuName). (let none : Option VcpuName = None in none)) residents) (same one resident (sym e))
  where
    same : (a b : Option VcpuName) → Some a ≡ Some b → a ≡ b
    same a b e = cc
opened_next (suc count) [] one e = absurd (cc)
opened_next (suc count) (resident ∷ residents) one e = ap (λ rest. resident ∷ rest) (opened_next count residents one e)

pub opened_still : (count : ℕ) (residents : List (Option VcpuName)) → slice_get residents count ≡ Some None → opened_to (suc count) residents ≡ opened_to count residents
opened_still zero [] e = absurd (cc)
opened_still zero (resident ∷ residents) e = ap (λ r. r ∷ map (λ (resident : Option VcpuName). (let none : Option VcpuName = None in none)) residents) (same resident None e)
  where
    same : (a b : Option VcpuName) → Some a ≡ Some b → a ≡ b
    same a b e = cc
opened_still (suc count) [] e = absurd (cc)
opened_still (suc count) (resident ∷ residents) e = ap (λ rest. resident ∷ rest) (opened_still count residents e)

free_after : (count : ℕ) (residents : List (Option VcpuName)) → resident_of (opened_to count residents) count ≡ None
free_after zero [] = refl
free_after zero (resident ∷ residents) = refl
free_after (suc count) [] = refl
free_after (suc count) (resident ∷ residents) = free_after count residents

none_before : (residents : List (Option VcpuName)) (number : ℕ) (name : VcpuName) → slice_get (map (λ (resident : Option VcpuName). (let none : Option VcpuName = None in none)) residents) number ≡ Some (Some name) → ⊥
none_before [] number name e = cc
none_before (resident ∷ residents) zero name e = cc
none_before (resident ∷ residents) (suc number) name e = none_before residents number name e

opened_at : (count : ℕ) (residents : List (Option VcpuName)) (number : ℕ) (name : VcpuName) → slice_get (opened_to count residents) number ≡ Some (Some name) → (number < count) × (slice_get residents number ≡ Some (Some name))
opened_at zero residents number name e = absurd (none_before residents number name e)
opened_at (suc count) [] number name e = absurd (cc)
opened_at (suc count) (resident ∷ residents) zero name e = (omega arith, e)
opened_at (suc count) (resident ∷ residents) (suc number) name e = let rest = opened_at count residents number name e in (omega (arith, rest.0), rest.1)

-- So far.

pub record OpensSoFar (agenda : Agenda) (machine : Machine) (told : SeqTold) (residents : List (Option VcpuName)) (count : ℕ) : Type 0 where
  pub parts : ℕ → List WholePart
  pub calls : (number : ℕ) (guest : IdealGuest) → slice_get agenda.states number ≡ Some guest → calls_among (parts number) ≡ []
  pub at : IsMachineAt agenda.states agenda.lrs machine told parts agenda.states
  pub pes : machine.pes ≡ opened_to count residents

-- Nobody stands on a PE, and nothing was done.

not_pe : (vcpus : Vcpus) (vcpu : ℕ) → spot_at vcpus vcpu ≡ shelf → spot_at vcpus vcpu ≡ pe → ⊥
not_pe vcpus vcpu a b = never (sym a ∙ b)
  where
    never : shelf ≡ pe → ⊥
    never e = cc

nobody : (residents : List (Option VcpuName)) (guest vcpu : ℕ) → is_resident (opened_to 0 residents) guest vcpu ≡ false
nobody [] guest vcpu = refl
nobody (resident ∷ residents) guest vcpu = nobody residents guest vcpu

none_exist : (shapes : List GuestShape) (residents : List (Option VcpuName)) → ResidentsExist shapes (opened_to 0 residents)
none_exist shapes [] = All-nil (λ (resident : Option VcpuName). IsTrue (option_map_or (λ name. has_vcpu shapes name.guest name.vcpu) resident true))
none_exist shapes (resident ∷ residents) =
    All-cons (λ (resident : Option VcpuName). IsTrue (option_map_or (λ name. has_vcpu shapes name.guest name.vcpu) resident true)) None (opened_to 0 residents) refl (none_exist shapes residents)

opened_guest : (pes : List (Option VcpuName)) (lrs : ℕ) (guest : IdealGuest) (number : ℕ) (told : SeqTold) (vcpus : Vcpus) → ((vcpu : ℕ) → is_resident pes number vcpu ≡ false) → CanOpen guest → IsOpened guest number lrs (guest_at told number) vcpus
    → IsGuestAt pes lrs guest number (guest_at told number) vcpus [] guest
opened_guest pes lrs guest number told vcpus none good opened =
    let home = guests_open_at_home guest number (guest_at told number) vcpus good opened.opened.is opened.at opened.spots in
    record {
      done = ∣ home.done ∣₁;
      at = opened.at;
      guest_is = ap (λ (t : GuestTold). t.guest) opened.opened.is;
      lrs_is = opened.lrs_is;
      spots = λ vcpu. opened.spots vcpu ∙ ap place_by (sym (none vcpu));
      quiet = record { each = λ vcpu on. absurd (not_pe vcpus vcpu (opened.spots vcpu) on) };
      home_is = sym home.home_is;
    }

same_some : (a b : IdealGuest) → Some a ≡ Some b → a ≡ b
same_some a b e = cc

pub opens_none :
    (agenda : Agenda) (machine : Machine) (told : SeqTold) (residents : List (Option VcpuName)) → ((number : ℕ) → number < length told.guests → CanOpen (guest_at told number).guest) → machine.lrs ≡ agenda.lrs → agenda.lrs ≤ 16 → machine.pes ≡ opened_to 0 residents
    → AreOpened agenda.states agenda.lrs told machine.guests.items (length agenda.states) → OpensSoFar agenda machine told residents 0
opens_none agenda machine told residents good lrs few pes opened = record {
  parts = λ number. [];
  calls = λ number guest is. refl;
  at =
      record {
        lrs_is = lrs;
        few_lrs = few;
        guests = opened.each;
        ports = opened.ports;
        ideals_each = refl;
        residents = subst (ResidentsExist (state_shapes agenda.states)) (sym pes) (none_exist (state_shapes agenda.states) residents);
        once = subst StandsOnce (sym pes) (record { same = λ one other name a b. absurd (none_before residents one name a) });
        each = λ number guest vcpus ideal state vcpus_are ideal_is.
            let is : ideal ≡ guest = same_some ideal guest (sym ideal_is ∙ state) in
            let first = opened.ones number guest vcpus state vcpus_are in
            let there = subst (λ n. number < n) (sym opened.ports) (slice_get_within agenda.states number guest state) in
            let can : CanOpen guest = subst CanOpen (ap (λ (t : GuestTold). t.guest) first.opened.is) (good number there) in
            subst (IsGuestAt machine.pes agenda.lrs guest number (guest_at told number) vcpus []) (sym is)
            (opened_guest machine.pes agenda.lrs guest number told vcpus (λ vcpu. ap (λ pes. is_resident pes number vcpu) pes ∙ nobody residents number vcpu) can first);
      };
  pes = pes;
}

-- One more enters.

module _ (agenda : Agenda) (machine : Machine) (told : SeqTold) (residents : List (Option VcpuName)) (count : ℕ) (so : OpensSoFar agenda machine told residents count) (exist : ResidentsExist (state_shapes agenda.states) residents) (once : StandsOnce residents) where
  not_resident : (guest vcpu : ℕ) → slice_get residents count ≡ Some (Some (vcpu_name guest vcpu)) → is_resident machine.pes guest vcpu ≡ false
  not_resident guest vcpu here = of (is_resident machine.pes guest vcpu) refl
    where
      of : (b : Bool) → is_resident machine.pes guest vcpu ≡ b → is_resident machine.pes guest vcpu ≡ false
      of false e = e
      of true e =
          let on = resident_stands machine.pes guest vcpu e in
          let before = opened_at count residents on.pe (vcpu_name guest vcpu) (ap (λ pes. slice_get pes on.pe) (sym so.pes) ∙ on.is) in
          let same = once.same on.pe count (vcpu_name guest vcpu) before.1 here in
          absurd (omega (arith, before.0, same))

  can_enter : (guest vcpu : ℕ) → slice_get residents count ≡ Some (Some (vcpu_name guest vcpu)) → CanDo agenda.states machine (Pe count (Enter guest vcpu))
  can_enter guest vcpu here = record {
    standing = record { shapes = state_shapes agenda.states; pes = machine.pes; wires = [] };
    pes = refl;
    formed =
        and_from (nat_lt count (length machine.pes)) (has_vcpu (state_shapes agenda.states) guest vcpu)
        (lt-ltb count (length machine.pes) (subst (λ n. count < n) (sym (ap length so.pes ∙ opened_each count residents)) (slice_get_within residents count (Some (vcpu_name guest vcpu)) here)))
        (subst (λ (resident : Option VcpuName). IsTrue (option_map_or (λ name. has_vcpu (state_shapes agenda.states) name.guest name.vcpu) resident true)) (get_or_from_slice_get residents count (Some (vcpu_name guest vcpu)) None here)
        (All-get_or (λ (resident : Option VcpuName). IsTrue (option_map_or (λ name. has_vcpu (state_shapes agenda.states) name.guest name.vcpu) resident true)) residents count None (slice_get_within residents count (Some (vcpu_name guest vcpu)) here) exist));
    stands =
        and_from (is_none (resident_of machine.pes count)) (not (is_resident machine.pes guest vcpu)) (ap is_none (ap (λ pes. resident_of pes count) so.pes ∙ free_after count residents)) (ap not (not_resident guest vcpu here));
  }

  pub enters_ready : (guest vcpu : ℕ) → slice_get residents count ≡ Some (Some (vcpu_name guest vcpu)) → IsReady machine told (Pe count (Enter guest vcpu))
  enters_ready guest vcpu here = record { of = record { states = agenda.states; lrs = agenda.lrs; parts = so.parts; ideals = agenda.states; at = so.at }; can = can_enter guest vcpu here }

  pub opens_more : (next : Machine) (later : SeqTold) (answer : Answer) (guest vcpu : ℕ) → slice_get residents count ≡ Some (Some (vcpu_name guest vcpu)) → DoesStep machine next told later (Pe count (Enter guest vcpu)) answer → OpensSoFar agenda next later residents (suc count)
  opens_more next later answer guest vcpu here steps =
      let does = steps agenda.states agenda.lrs so.parts agenda.states so.at (can_enter guest vcpu here) in
      record {
        parts = λ number. so.parts number ++ does.more number;
        calls = λ number guest is.
            calls_append (so.parts number) (does.more number)
            ∙ ap (λ calls. calls ++ calls_among (does.more number)) (so.calls number guest is)
            ∙ does.calls number guest is;
        at = does.at;
        pes = does.pes ∙ ap (λ pes. set pes count (Some (vcpu_name guest vcpu))) so.pes ∙ opened_next count residents (Some (vcpu_name guest vcpu)) here;
      }

  pub opens_still : slice_get residents count ≡ Some None → OpensSoFar agenda machine told residents (suc count)
  opens_still here = record { parts = so.parts; calls = so.calls; at = so.at; pes = so.pes ∙ sym (opened_still count residents here) }

-- All.

-- nobody stands on as many PEs
pub none_yet : (residents : List (Option VcpuName)) (count : ℕ) → length residents ≡ count → replicate count None ≡ opened_to 0 residents
none_yet [] zero e = refl
none_yet [] (suc count) e = absurd (omega (arith, e))
none_yet (resident ∷ residents) zero e = absurd (omega (arith, e))
none_yet (resident ∷ residents) (suc count) e = ap (λ (rest : List (Option VcpuName)). None ∷ rest) (none_yet residents count (omega (arith, e)))

pub opens_last : (agenda : Agenda) (machine : Machine) (told : SeqTold) (residents : List (Option VcpuName)) (count : ℕ) → OpensSoFar agenda machine told residents count → length residents ≤ count → residents ≡ agenda.pes → OpensMachine agenda.lrs agenda.states agenda.pes machine told
opens_last agenda machine told residents count so all is = record { parts = so.parts; calls = so.calls; pes_are = so.pes ∙ opened_all count residents all ∙ is; at = so.at }

-- what is known of the PEs as they are to be
pub record AreToOpen (agenda : Agenda) (residents : List (Option VcpuName)) : Type 0 where
  pub is : residents ≡ agenda.pes
  pub exist : ResidentsExist (state_shapes agenda.states) residents
  pub once : StandsOnce residents

pub to_open : (agenda : Agenda) (residents : List (Option VcpuName)) → residents ≡ agenda.pes → CanStart agenda.lrs agenda.states agenda.pes → AreToOpen agenda residents
to_open agenda residents is can = record { is = is; exist = subst (ResidentsExist (state_shapes agenda.states)) (sym is) can.residents; once = subst StandsOnce (sym is) can.once }

module _ (agenda : Agenda) (machine : Machine) (told : SeqTold) (residents : List (Option VcpuName)) (count : ℕ) (so : OpensSoFar agenda machine told residents count) (to : AreToOpen agenda residents) (there : count < length residents) where
  stands_here : (one : Option VcpuName) → get_or residents count None ≡ one → slice_get residents count ≡ Some one
  stands_here one is = slice_get-get_or residents count None there ∙ ap Some is

  pub next_enters : (name : VcpuName) → get_or residents count None ≡ Some name → IsReady machine told (Pe count (Enter name.guest name.vcpu))
  next_enters name is = enters_ready agenda machine told residents count so to.exist to.once name.guest name.vcpu (stands_here (Some name) is)

  pub next_opens :
      (name : VcpuName) → get_or residents count None ≡ Some name → (next last : Machine) (port final : SeqPort) (answer : Answer) → last ≡ next → final ≡ port → DoesStep machine next told (told_all port) (Pe count (Enter name.guest name.vcpu)) answer
      → OpensSoFar agenda last (told_all final) residents (count + 1)
  next_opens name is next last port final answer last_is final_is steps =
      let opens : OpensSoFar agenda next (told_all port) residents (suc count)
      = opens_more agenda machine told residents count so to.exist to.once next (told_all port) answer name.guest name.vcpu (stands_here (Some name) is) steps in
      subst (OpensSoFar agenda last (told_all final) residents) (omega arith)
      (subst (λ (p : SeqPort). OpensSoFar agenda last (told_all p) residents (suc count)) (sym final_is) (subst (λ (m : Machine). OpensSoFar agenda m (told_all port) residents (suc count)) (sym last_is) opens))

  pub next_free : get_or residents count None ≡ None → (last : Machine) (port final : SeqPort) → last ≡ machine → final ≡ port → told_all port ≡ told → OpensSoFar agenda last (told_all final) residents (count + 1)
  next_free is last port final last_is final_is told_is =
      let opens : OpensSoFar agenda machine told residents (suc count) = opens_still agenda machine told residents count so to.exist to.once (stands_here None is) in
      subst (OpensSoFar agenda last (told_all final) residents) (omega arith)
      (subst (λ (t : SeqTold). OpensSoFar agenda last t residents (suc count)) (sym (ap told_all final_is ∙ told_is)) (subst (λ (m : Machine). OpensSoFar agenda m told residents (suc count)) (sym last_is) opens))
