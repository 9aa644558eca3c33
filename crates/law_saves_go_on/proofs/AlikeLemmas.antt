-- What is saved does not look at the number of a past fault.
use Rattle.std.proofs.Common.{◌≡◌, ℕ, ◌/◌, ◌==◌, Bool, true, false, if◌then◌else◌, List, map, Option, Some, None, refl, sym, ap, ◌∙◌}
use Rattle.std.specs.List.{range_with_len, filter_map}
use Rattle.law_runs_split.specs.GicIdeal.IdealGuests.Words.{interrupt_count}
use Rattle.law_runs_split.specs.GicIdeal.IdealGuests.Registers.{has_lpis, enabled_in, baser_of, Devices, Collections}
use Rattle.law_runs_split.specs.GicIdeal.IdealGuests.Calls.{GuestSpec, PlainWord, Ram, Propbaser, Pendbaser, ItsCtlr, Cbaser, Cwriter, Baser0, Baser1, irqs_of}
use Rattle.law_runs_split.specs.GicIdeal.IdealGuests.declared.guest.IdealGuest.{IdealGuest}
use Rattle.law_runs_split.specs.GicIdeal.ScnBase.declared.standing.MovedWire.{MovedWire}
use Rattle.law_runs_split.specs.Faults.{AreAlike}
use Rattle.law_runs_split.proofs.FaultLemmas.{same_words, twins_of, with_words}
use Rattle.saved_take.specs.SavedGuest.ScnSaved.declared.state.GuestState.{GuestState}
use Rattle.saved_take.specs.Taken.{taken_of, recs_of, gicd_of, cpu_state, dev_of, evt_of, col_of}
use Rattle.law_saves_go_on.specs.Alike.{AlikeAreSavedAlike}

-- what is saved of a guest whose queue is not stalled, by its plain words
abbrev by_words : GuestSpec → List (Option MovedWire) → IdealGuest → (PlainWord → ℕ) → GuestState
by_words guest wires base words =
    record {
      gicd = gicd_of base.enables;
      cpu = map cpu_state base.cpus;
      rec = recs_of (irqs_of guest) wires base (interrupt_count base.shape);
      redist = map (λ vcpu. record { propbaser = words (Propbaser vcpu); pendbaser = words (Pendbaser vcpu) }) (range_with_len 0 base.shape.vcpus);
      its =
          if has_lpis base.shape then
          Some
          (record {
            enabled = enabled_in (words ItsCtlr);
            cbaser = words Cbaser;
            cwriter = words Cwriter;
            offset = base.offset;
            stalled = false;
            fault = 0;
            baser0 = baser_of Devices (words Baser0);
            baser1 = baser_of Collections (words Baser1);
          })
          else None;
      dev = map dev_of base.tables.devices;
      evt = map evt_of base.tables.events;
      col = map col_of base.tables.collections;
      ram = filter_map (λ index. if words (Ram index) == 0 then None else Some (record { index = index; word = words (Ram index) })) (range_with_len 0 (base.shape.ram / 8));
    }

module _ (guest : GuestSpec) (wires : List (Option MovedWire)) (base : IdealGuest) (its others : List ℕ) where
  abbrev with_stall : Bool → IdealGuest
  with_stall stalled = record base { is_stalled = stalled }

  saved_alike : (stalled : Bool) → AreAlike base.shape stalled its others → taken_of guest wires (with_words (with_stall stalled) its) ≡ taken_of guest wires (with_words (with_stall stalled) others)
  saved_alike true alike = ap (λ words. taken_of guest wires (with_words (with_stall true) words)) (alike.fault refl)
  saved_alike false alike = ap (by_words guest wires (with_stall false)) (same_words (with_stall false) its others alike)

pub alike_are_saved_alike : AlikeAreSavedAlike
alike_are_saved_alike guest wires one other alike =
    let twins = twins_of one other alike in
    ap (taken_of guest wires) twins.one_is ∙ saved_alike guest wires twins.base twins.its twins.others twins.base.is_stalled twins.alike ∙ ap (taken_of guest wires) (sym twins.other_is)
