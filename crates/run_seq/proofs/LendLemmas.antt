-- A guest of a machine whose port is lent to its vCPUs.
use Rattle.std.proofs.Common.{◌≡◌, ℕ, ◌<◌, true, false, List, length, set, get_or, Option, Some, None, refl, sym, ap, ◌∙◌, subst, arith}
use Rattle.std.specs.Prelude.{slice_get}
use Rattle.std.proofs.lemmas.Bool.{lt-ltb}
use Rattle.std.proofs.lemmas.List.{get_or-set_same, set-set}
use Rattle.std.proofs.lemmas.Option.{get_or_from_slice_get}
use Rattle.law_ends_agree.specs.Words.{Actor, Vcpu as VcpuActor, DeviceOp, GuestOp}
use Rattle.law_ends_agree.specs.Calls.{Access, Device as DeviceCall}
use Rattle.law_one_thread_is_eager.specs.PortSeq.declared.guest.GuestPort.{GuestPort}
use Rattle.law_one_thread_is_eager.specs.PortSeq.declared.port.SeqPort.{SeqPort}
use Rattle.law_one_thread_is_eager.specs.PortSeq.Every.{each_is_told}
use Rattle.law_one_thread_is_eager.specs.PortSeq.Lending.{with_guest}
use Rattle.law_one_thread_is_eager.specs.PortSeq.Ports.{told, told_all}
use Rattle.law_one_thread_is_eager.specs.PortSeq.Told.{GuestTold, HasActor, SeqTold, current, guest_at, no_told, telling}
use Rattle.law_one_thread_is_eager.proofs.PortSeq.GuestsLemmas.{told_lent}
use Rattle.law_one_thread_is_eager.specs.LawSerialIsEager.Serial.{WholePart}
use Rattle.law_one_thread_is_eager.specs.SeqGuest.declared.vcpus.Vcpus.{Vcpus}
use Rattle.law_one_thread_is_eager.specs.PePlace.Parts.{AreResidences, HaveCall}
use Rattle.law_one_thread_is_eager.specs.SeqGuest.Guest.{AreAt, ChangesSpots, GoesOn, NoneKicked, Operates, Shows, ShowsList, for_none}
use Rattle.law_one_thread_is_eager.proofs.SeqGuest.OpeningLemmas.{at_told}
use Rattle.run_seq.specs.declared.machine.Machine.{Machine}
use Rattle.run_seq.specs.Acts.{CallsOnce}
use Rattle.run_seq.specs.Machine.{GuestActs, HasGuest}

-- The first vCPU of a guest is told.

pub first_there : (port : SeqPort) (number : ℕ) (actor : Actor) → actor ≡ VcpuActor number 0 → number < length (told_all port).guests → HasActor (told_all port) actor
first_there port number actor is there =
    subst (HasActor (told_all port)) (sym is)
    (record { guest = there; there = let some = (each_is_told port number there).good.sound.shape.some_vcpu in lt-ltb 0 (guest_at (told_all port) number).guest.shape.vcpus (omega (arith, some)) })

pub record IsLent (machine : Machine) (port again : SeqPort) (lent : GuestPort) (vcpus : Vcpus) (number : ℕ) : Type 0 where
  pub has : HasGuest machine (told_all port) number
  pub again_is : told_all again ≡ telling (VcpuActor number 0) (told_all port)
  pub lent_is : told lent ≡ current (told_all again)
  pub vcpus_are : vcpus ≡ get_or machine.guests.items number vcpus

module _ (machine : Machine) (port again : SeqPort) (lent : GuestPort) (vcpus : Vcpus) (number : ℕ) (is : IsLent machine port again lent vcpus number) where
  abbrev old : GuestTold
  old = guest_at (told_all port) number

  abbrev named : GuestTold
  named = record old { actor = 0 }

  pub lent_told : told lent ≡ named
  lent_told = is.lent_is ∙ ap current is.again_is ∙ get_or-set_same (told_all port).guests number named no_told is.has.port

  pub mine : vcpus ≡ is.has.vcpus
  mine =
      is.vcpus_are
      ∙ get_or_from_slice_get machine.guests.items number is.has.vcpus vcpus is.has.vcpus_are

  pub lent_at : AreAt (told lent) vcpus
  lent_at = subst (λ t. AreAt t vcpus) (sym lent_told) (at_told old named vcpus refl (subst (AreAt old) (sym mine) is.has.at))

  -- what all tell once it is back
  pub back : (last : GuestPort) → (told_all (with_guest again last)).guests ≡ set (told_all port).guests number (told last)
  back last =
      ap (λ (t : SeqTold). t.guests) (told_lent again last)
      ∙ ap (λ (t : SeqTold). set t.guests t.guest (told last)) is.again_is
      ∙ set-set (told_all port).guests number named (told last)

  pub acts_by : (Does : GuestTold → GuestTold → Vcpus → Vcpus → Type 0) (next : Machine) (last : GuestPort) (after : Vcpus) → next.guests.items ≡ set machine.guests.items number after → next.lrs ≡ machine.lrs → next.pes ≡ machine.pes → Does old (told last) vcpus after
      → GuestActs number Does machine next (told_all port) (told_all (with_guest again last))
  acts_by Does next last after items lrs pes does = record {
    before = vcpus;
    before_is = subst (λ v. slice_get machine.guests.items number ≡ Some v) (sym mine) is.has.vcpus_are;
    after = after;
    guest = told last;
    next_is = items;
    lrs = lrs;
    pes = pes;
    told_is = back last;
    run = last.run;
    does = does;
  }

-- What was done from there on was done whichever actor was told.

unfoldable pub goes_from_any : (Are : List WholePart → Type 0) (first new : GuestTold) (actor : ℕ) (before after : Vcpus) → GoesOn Are (record first { actor = actor }) new before after → GoesOn Are first new before after
goes_from_any Are first new actor before after goes = record {
  same = record { home = goes.same.home; guest = goes.same.guest; number = goes.same.number };
  lrs = goes.lrs;
  at = goes.at;
  parts = goes.parts;
  are = goes.are;
  formed = goes.formed;
  world = goes.world;
  seats = goes.seats;
  calls = goes.calls;
  proper = λ progress so. goes.proper progress (record { places = so.places; devices = so.devices });
  goes_on = λ progress so. goes.goes_on progress (record { places = so.places; devices = so.devices });
}

pub shows_from_any : (first new : GuestTold) (actor : ℕ) (before after : Vcpus) (vcpu : ℕ) → Shows (record first { actor = actor }) new before after vcpu → Shows first new before after vcpu
unfolding goes_from_any
shows_from_any first new actor before after vcpu shows = record {
  goes_on = goes_from_any AreResidences first new actor before after shows.goes_on;
  part = shows.part;
  alone = shows.alone;
  actor = shows.actor;
  lrs = shows.lrs;
  entry = shows.entry;
  loaded = shows.loaded;
  place = shows.place;
  entered = λ progress so. shows.entered progress (record { places = so.places; devices = so.devices });
}

pub list_from_any : (first new : GuestTold) (actor : ℕ) (before after : Vcpus) (vcpu : ℕ) (list : List ℕ) → ShowsList (record first { actor = actor }) new before after vcpu list → ShowsList first new before after vcpu list
unfolding shows_from_any goes_from_any
list_from_any first new actor before after vcpu list shown = record {
  mid = shown.mid;
  between = shown.between;
  shows = shows_from_any first shown.mid actor before shown.between vcpu shown.shows;
  list_is = shown.list_is;
  later = shown.later;
}

-- so an operation is a call, before which nobody left where it accesses a CPU interface
pub once_from_any :
    (first new : GuestTold) (actor : ℕ) (before after : Vcpus) (vcpu : ℕ) (op : GuestOp) (answer : Option ℕ) → Operates (record first { actor = actor }) new before after vcpu op answer → ChangesSpots for_none before after → NoneKicked new after
    → CallsOnce vcpu (Access op) answer first new before after
unfolding goes_from_any
once_from_any first new actor before after vcpu op answer operates spots quiet = record {
  goes_on = goes_from_any (HaveCall vcpu (Access op) answer) first new actor before after operates.goes_on;
  first = λ icc. operates.early_is ∙ operates.way.none icc;
  spots = spots;
  quiet = quiet;
}

-- and so is what a device does
pub event_from_any :
    (first new : GuestTold) (actor : ℕ) (before after : Vcpus) (caller : ℕ) (op : DeviceOp) → GoesOn (HaveCall caller (DeviceCall op) None) (record first { actor = actor }) new before after → ChangesSpots for_none before after → NoneKicked new after
    → CallsOnce caller (DeviceCall op) None first new before after
event_from_any first new actor before after caller op goes spots quiet = record {
  goes_on = goes_from_any (HaveCall caller (DeviceCall op) None) first new actor before after goes;
  first = λ icc. absurd (never icc);
  spots = spots;
  quiet = quiet;
}
  where
    never : false ≡ true → ⊥
    never e = cc
