-- The worked guest: what it has computes, and the laws speak of it.
use Rattle.std.proofs.Common.{◌<◌, IsTrue, List, [], ◌∷◌, ◌++◌, refl, arith}
use Rattle.std.proofs.lemmas.List.Elements.{All-nil}
use Rattle.law_lone_calls_are_eager.proofs.IdealGuests.CanOpenLemmas.{openings_can_open}
use Rattle.law_lone_calls_are_eager.specs.Words.{GuestOp}
use Rattle.law_lone_calls_are_eager.specs.Histories.{IdealGuest, after_events, IsSound, CanOpen, AreForNone}
use Rattle.law_lone_calls_are_eager.specs.GicIdeal.Deeds.{op_events}
use Rattle.law_lone_calls_are_eager.proofs.GicIdeal.SoundEvents.{sound_events}
use Rattle.law_lone_calls_are_eager.proofs.GicIdeal.StepLemmas.{op_follows}
use Rattle.law_lone_calls_are_eager.specs.Calls.{IsGoodPreset, is_good_op}
use Rattle.law_unmapped_lpis.specs.Worked.{worked_guest, worked_spec, prepares, starts, after_ops, mapped, UnmappedIsForNone}
use Rattle.law_unmapped_lpis.proofs.OperationLaws.{accesses_leave_none}

good : CanOpen worked_guest
good =
    openings_can_open worked_spec
    (record {
      shape = record { some_vcpu = omega arith; vcpus = omega arith; spis = omega arith; spi_blocks = refl; espis = omega arith; espi_blocks = refl; devices = omega arith; lpis = omega arith; ram = omega arith; ram_words = refl };
      presets = All-nil (IsGoodPreset worked_spec.shape);
    })

abbrev AllGood : IdealGuest → List GuestOp → Type 0
AllGood guest [] = Unit {0}
AllGood guest (op ∷ ops) = ((0 < guest.shape.vcpus) × IsTrue (is_good_op guest.shape op)) × AllGood (after_events (op_events op guest 0) guest) ops

record IsFine (guest : IdealGuest) : Type 0 where
  sound : IsSound guest
  none : AreForNone guest

ops_fine : (ops : List GuestOp) (guest : IdealGuest) → IsFine guest → AllGood guest ops → IsFine (after_ops guest ops)
ops_fine [] guest fine all = fine
ops_fine (op ∷ ops) guest fine all =
    ops_fine ops (after_events (op_events op guest 0) guest)
    (record { sound = sound_events guest (op_events op guest 0) fine.sound (op_follows op guest 0 fine.sound all.0.0 all.0.1); none = accesses_leave_none guest 0 op fine.sound fine.none }) all.1

opens : IsFine worked_guest
opens = record { sound = good.sound; none = good.none }

first : IsFine mapped
first = ops_fine (prepares ++ starts 96 ∷ []) worked_guest opens ((omega arith, refl), ((omega arith, refl), ((omega arith, refl), ((omega arith, refl), ((omega arith, refl), ((omega arith, refl), ((omega arith, refl), ((omega arith, refl), ((omega arith, refl), ((omega arith, refl), ((omega arith, refl), ((omega arith, refl), ((omega arith, refl), ((omega arith, refl), ((omega arith, refl), ((omega arith, refl), ((omega arith, refl), ((omega arith, refl), ((omega arith, refl), tt)))))))))))))))))))

pub unmapped_is_for_none : UnmappedIsForNone
unmapped_is_for_none = record {
  good = good;
  first = first.none;
  has = refl;
  for_vcpu = refl;
  event = refl;
  has_none = refl;
  for_none = refl;
  last = (ops_fine (starts 128 ∷ []) mapped first ((omega arith, refl), tt)).none;
}
