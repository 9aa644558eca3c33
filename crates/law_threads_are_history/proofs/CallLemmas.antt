-- The events of a call that does not take the ITS to change it.
use Rattle.std.proofs.Common.{◌≡◌, ℕ, not, Bool, true, false, cond, IsTrue, List, [], ◌∷◌, ◌++◌, Option, Some, None, refl, sym, ap, ◌∙◌, subst, inl, inr}
use Rattle.std.specs.List.{list_all}
use Rattle.std.specs.Option.{option_map_or}
use Rattle.law_ends_agree.specs.Words.{Message, Msi, Wire, Dist, Redist, Its, Ram, Icc, Mem, GuestShape, Lpi}
use Rattle.law_ends_agree.specs.GicDmap.Map.{decoded as dist_decoded}
use Rattle.law_ends_agree.specs.GicRmap.Map.{decoded as redist_decoded}
use Rattle.law_ends_agree.specs.GicImap.Map.{decoded as its_decoded}
use Rattle.law_ends_agree.specs.GicImap.declared.map.RegRef.{RegRef as ItsRef}
use Rattle.law_ends_agree.specs.GicImap.declared.map.RegRef.TheVariants.{Plain as ItsPlain, Reserved as ItsReserved}
use Rattle.law_ends_agree.specs.Calls.{Event, ItsBegin, Operation, Access, Device, Residence, Place, icc_events, its_events, msi_raises, Beside, Happened, IsCall, IsItsWrite, Makes, is_beside, named_of, View, is_its_enabled}
use Rattle.law_ends_agree.specs.GicCall.declared.event.Event.TheVariants.{ItsEnd, Raise}
use Rattle.law_ends_agree.specs.Registers.{translated}
use Rattle.law_found_parts_are_calls.proofs.GicCall.TraceLemmas.{access_made, op_made}
use Rattle.law_runs_are_fresh.proofs.LawEagerIsHistory.WindowLemmas.{is_no_turn}
use Rattle.law_runs_are_fresh.proofs.LawLoneCallsAreEager.PassLemmas.{device_all, dist_all, memory_all, raises_all, redist_all}
use Rattle.law_runs_are_fresh.proofs.LawLoneCallsAreEager.ReadLemmas.{beside_passes}
use Rattle.law_runs_are_fresh.proofs.LawLoneCallsAreEager.RunLemmas.{events_of}
use Rattle.law_runs_are_fresh.proofs.LawLoneCallsAreEager.TurnLemmas.{its_all, no_turn_passes}
use Rattle.law_found_parts_are_calls.specs.PeMem.Found.{takes_its_by}
use Rattle.law_found_parts_are_calls.proofs.SteadyLemmas.{beside_steady, is_steady, named_steady}
use Rattle.law_threads_are_history.proofs.BesideLemmas.{is_message}

-- It moves no LPI and ends no command.

made_steady : (actor : Option ℕ) (view : View) (events : List Event) (places : List Place) (before piece : List Happened) → Makes actor view events places before piece → IsTrue (list_all is_steady events) → IsTrue (list_all is_steady (events_of piece))
made_steady actor view events places before piece made steady = beside_passes is_steady beside_steady actor piece (subst (λ es. IsTrue (list_all is_steady es)) (sym made.events_are) steady)

its_steady : (shape : GuestShape) (view : View) (ref : ItsRef) (write : Option ℕ) → IsTrue (list_all is_steady (its_events shape view ref write))
its_steady shape view ref (Some value) = its_all is_steady (λ word v. refl) (λ offset. refl) shape view ref value
its_steady shape view (ItsPlain reg half) None = refl
its_steady shape view ItsReserved None = refl

pub call_steady : (shape : GuestShape) (beside : Beside) (actor : Option ℕ) (operation : Operation) (piece : List Happened) (answer : Option ℕ) → takes_its_by shape operation ≡ false → IsCall shape beside actor operation piece answer → IsTrue (list_all is_steady (events_of piece))
call_steady shape beside (Some vcpu) (Access (Icc reg write)) piece answer free is = made_steady (Some vcpu) is.view (icc_events shape vcpu reg write) [] [] piece is.made (raises_all is_steady named_steady shape vcpu reg write)
call_steady shape beside (Some vcpu) (Access (Mem Dist offset size write)) piece answer free is = made_steady (Some vcpu) is.view _ _ [] piece is.made (dist_all is_steady named_steady shape is.view (dist_decoded offset size) write)
call_steady shape beside (Some vcpu) (Access (Mem (Redist of_vcpu) offset size write)) piece answer free is =
    made_steady (Some vcpu) is.view _ _ [] piece (access_made is) (redist_all is_steady named_steady shape is.view of_vcpu (redist_decoded offset size) write)
call_steady shape beside (Some vcpu) (Access (Mem Ram offset size None)) piece answer free is = made_steady (Some vcpu) is.view [] _ [] piece is.made refl
call_steady shape beside (Some vcpu) (Access (Mem Ram offset size (Some value))) piece answer free is = made_steady (Some vcpu) is.view _ _ [] piece is.made (memory_all is_steady named_steady shape is.view offset size value)
call_steady shape beside (Some vcpu) (Access (Mem Its offset size None)) piece answer free is = made_steady (Some vcpu) is.view _ _ [] piece is.made (its_steady shape is.view (its_decoded offset size) None)
call_steady shape beside (Some vcpu) (Access (Mem Its offset size (Some value))) piece answer free is =
    let plain = subst (λ b. IsItsWrite b shape beside vcpu offset size value piece answer) free is in
    made_steady (Some vcpu) plain.view _ _ [] piece plain.made (its_steady shape plain.view (its_decoded offset size) (Some value))
call_steady shape beside None (Device op) piece answer free is = elim (op_made is) [
  | inl made ↦ made_steady None is.view _ _ [] piece made (device_all is_steady named_steady is.view op)
  | inr alone ↦ made_steady None is.view (Raise (Lpi alone.id) ∷ []) [] [] piece alone.raised refl
]
call_steady shape beside (Some vcpu) Residence piece answer free is = beside_passes is_steady beside_steady (Some vcpu) piece (subst (λ xs. IsTrue (list_all is_steady (events_of xs))) (sym is.0) refl)
call_steady shape beside actor operation piece answer free is = absurd is

-- A message takes the ITS once.

-- some events take it once at most
abbrev pub take_once : List Event → Bool
take_once [] = true
take_once (event ∷ events) = cond (is_no_turn event) (take_once events) (list_all is_no_turn events)

once_named : (actor : Option ℕ) (piece : List Happened) → IsTrue (take_once (events_of (named_of actor piece))) → IsTrue (take_once (events_of piece))
once_named actor [] h = refl
once_named actor (one ∷ piece) h = of (is_beside actor one.event) refl h (once_named actor piece)
  where
    by : (b : Bool) → (IsTrue (take_once (events_of (named_of actor piece))) → IsTrue (take_once (events_of piece))) → IsTrue (cond b (take_once (events_of (named_of actor piece))) (list_all is_no_turn (events_of (named_of actor piece))))
        → IsTrue (cond b (take_once (events_of piece)) (list_all is_no_turn (events_of piece)))
    by true later h = later h
    by false later h = beside_passes is_no_turn no_turn_passes.beside actor piece h

    of : (b : Bool) → is_beside actor one.event ≡ b → IsTrue (take_once (events_of (cond (not b) (one ∷ named_of actor piece) (named_of actor piece)))) → (IsTrue (take_once (events_of (named_of actor piece))) → IsTrue (take_once (events_of piece)))
        → IsTrue (take_once (events_of (one ∷ piece)))
    of true e h later = ap (λ c. cond c (take_once (events_of piece)) (list_all is_no_turn (events_of piece))) (no_turn_passes.beside actor one.event e) ∙ later h
    of false e h later = by (is_no_turn one.event) later h

message_once : (view : View) (device event : ℕ) → IsTrue (take_once (ItsBegin ∷ msi_raises view device event ++ ItsEnd ∷ []))
message_once view device event = of (translated view.maps (is_its_enabled view) device event)
  where
    of : (o : Option ℕ) → IsTrue (list_all is_no_turn (option_map_or (λ id. Raise (Lpi id) ∷ []) o [] ++ ItsEnd ∷ []))
    of None = refl
    of (Some id) = refl

pub call_once : (shape : GuestShape) (beside : Beside) (actor : Option ℕ) (operation : Operation) (piece : List Happened) (answer : Option ℕ) → is_message operation ≡ true → IsCall shape beside actor operation piece answer → IsTrue (take_once (events_of piece))
call_once shape beside None (Device (Msi device event)) piece answer message is = elim (op_made is) [
  | inl made ↦ once_named None piece (subst (λ es. IsTrue (take_once es)) (sym made.events_are) (message_once is.view device event))
  | inr alone ↦ once_named None piece (subst (λ es. IsTrue (take_once es)) (sym alone.raised.events_are) refl)
]
call_once shape beside (Some vcpu) (Device (Msi device event)) piece answer message is = absurd is
call_once shape beside actor (Device (Message spi)) piece answer message is = absurd (cc)
call_once shape beside actor (Device (Wire key up)) piece answer message is = absurd (cc)
call_once shape beside actor (Access op) piece answer message is = absurd (cc)
call_once shape beside actor Residence piece answer message is = absurd (cc)
