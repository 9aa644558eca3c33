-- A call that does not take the ITS is that call with whatever maps, but for a message-signalled interrupt.
use Rattle.std.proofs.Common.{◌≡◌, ℕ, Bool, true, false, List, [], Option, Some, None, refl, sym, ◌∙◌, subst}
use Rattle.std.proofs.lemmas.List.Elements.{All-nil, All-weaker}
use Rattle.law_ends_agree.specs.Words.{DeviceOp, Message, Wire, Msi, Frame, Dist, Redist, Its, Ram, Icc, Mem, GuestShape}
use Rattle.law_ends_agree.specs.Calls.{Event, Cpu, Enable, Put, Touch, Found, Operation, Access, Device, Residence, Place, Beside, HandsOut, Happened, IsCall, IsDeviceCall, IsItsWrite, IsLastRead, IsPlainCall, held_at, named_of, View, Makes}
use Rattle.law_ends_agree.specs.GicCall.declared.event.Event.TheVariants.{Read}
use Rattle.law_ends_agree.specs.GicCall.declared.event.Place.TheVariants.{Word, Queue as QueuePlace, Ctlr as CtlrPlace, Lpis}
use Rattle.law_ends_agree.specs.Registers.{Maps}
use Rattle.law_found_parts_are_calls.specs.PeMem.Found.{takes_its_by}

-- With other maps.

abbrev with_maps : View → Maps → View
with_maps view maps = record view { maps = maps }

module _ (view : View) (maps : Maps) where
  held_with : (place : Place) → held_at (with_maps view maps) place ≡ held_at view place
  held_with (Word word) = refl
  held_with QueuePlace = refl
  held_with CtlrPlace = refl
  held_with (Lpis vcpu) = refl

  hands_with : (event : Event) (found : Found) → HandsOut view event found → HandsOut (with_maps view maps) event found
  hands_with (Touch key touching) found h = h
  hands_with (Put word value) found h = h
  hands_with (Read place) found h = h ∙ sym (held_with place)
  hands_with (Enable vcpu) found h = h
  hands_with (Cpu vcpu reg write) found h = h
  hands_with event found h = h

-- The calls.

-- an operation is a message-signalled interrupt
abbrev pub is_message : Operation → Bool
is_message (Device (Msi device event)) = true
is_message operation = false

module _ (shape : GuestShape) (maps other : Maps) (targets : ℕ → Option ℕ) (commands : List (ℕ → Option ℕ)) where
  abbrev beside : Maps → Beside
  beside of_its = record { maps = of_its; targets = targets; commands = commands; signals = false }

  plain_again : (vcpu : ℕ) (frame : Frame) (offset size : ℕ) (write : Option ℕ) (piece : List Happened) (answer : Option ℕ) → IsPlainCall shape (beside maps) vcpu frame offset size write piece answer → IsPlainCall shape (beside other) vcpu frame offset size write piece answer
  plain_again vcpu frame offset size write piece answer is = record { view = is.view; targets = is.targets; made = is.made; answers = is.answers }

  made_with : (view : View) (events : List Event) (piece : List Happened) → Makes None view events [] [] piece → Makes None (with_maps view other) events [] [] piece
  made_with view events piece is = record {
    events_are = is.events_are;
    found = All-weaker (λ (happened : Happened). HandsOut view happened.event happened.found) (λ (happened : Happened). HandsOut (with_maps view other) happened.event happened.found)
        (λ happened h. hands_with view other happened.event happened.found h) (named_of None piece) is.found;
    reads = All-nil (λ place. IsLastRead place (held_at (with_maps view other) place) piece);
  }

  device_again : (op : DeviceOp) (piece : List Happened) (answer : Option ℕ) → (is_message (Device op) ≡ true → other ≡ maps) → IsDeviceCall (beside maps) op piece answer → IsDeviceCall (beside other) op piece answer
  device_again (Message spi) piece answer same is = record { view = with_maps is.view other; maps = refl; made = made_with is.view _ piece is.made; answers = is.answers }
  device_again (Wire key up) piece answer same is = record { view = with_maps is.view other; maps = refl; made = made_with is.view _ piece is.made; answers = is.answers }
  device_again (Msi device event) piece answer same is = record { view = is.view; maps = is.maps ∙ sym (same refl); made = is.made; answers = is.answers }

  pub call_again :
      (actor : Option ℕ) (operation : Operation) (piece : List Happened) (answer : Option ℕ) → takes_its_by shape operation ≡ false → (is_message operation ≡ true → other ≡ maps) → IsCall shape (beside maps) actor operation piece answer → IsCall shape (beside other) actor operation piece answer
  call_again (Some vcpu) (Access (Icc reg write)) piece answer free same is = is
  call_again (Some vcpu) (Access (Mem Its offset size None)) piece answer free same is = plain_again vcpu Its offset size None piece answer is
  call_again (Some vcpu) (Access (Mem Its offset size (Some value))) piece answer free same is =
      subst (λ b. IsItsWrite b shape (beside other) vcpu offset size value piece answer) (sym free)
      (plain_again vcpu Its offset size (Some value) piece answer (subst (λ b. IsItsWrite b shape (beside maps) vcpu offset size value piece answer) free is))
  call_again (Some vcpu) (Access (Mem Dist offset size write)) piece answer free same is = plain_again vcpu Dist offset size write piece answer is
  call_again (Some vcpu) (Access (Mem (Redist of_vcpu) offset size write)) piece answer free same is = plain_again vcpu (Redist of_vcpu) offset size write piece answer is
  call_again (Some vcpu) (Access (Mem Ram offset size write)) piece answer free same is = plain_again vcpu Ram offset size write piece answer is
  call_again None (Device op) piece answer free same is = device_again op piece answer same is
  call_again (Some vcpu) Residence piece answer free same is = is
  call_again actor operation piece answer free same is = absurd is
