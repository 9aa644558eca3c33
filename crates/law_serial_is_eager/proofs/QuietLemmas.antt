-- Calls that are no access of a CPU interface have none among their events.
use Rattle.std.proofs.Common.{◌≡◌, ℕ, Bool, true, false, IsTrue, List, [], ◌∷◌, ◌++◌, Option, Some, None, refl, sym, subst, inl, inr}
use Rattle.std.specs.List.{list_all}
use Rattle.law_lone_calls_are_eager.specs.Words.{Dist, Redist, Its, Ram, Icc, Mem, GuestShape, Lpi}
use Rattle.law_lone_calls_are_eager.specs.GicDmap.Map.{decoded as dist_decoded}
use Rattle.law_lone_calls_are_eager.specs.GicRmap.Map.{decoded as redist_decoded}
use Rattle.law_lone_calls_are_eager.specs.GicImap.Map.{decoded as its_decoded}
use Rattle.law_lone_calls_are_eager.specs.GicImap.declared.map.RegRef.{RegRef as ItsRef}
use Rattle.law_lone_calls_are_eager.specs.GicImap.declared.map.RegRef.TheVariants.{Plain as ItsPlain, Reserved as ItsReserved}
use Rattle.law_lone_calls_are_eager.specs.Calls.{Event, Cpu, ItsBegin, Operation, Access, Device, Residence, access_events, its_events, takes_turn, Happened, Beside, IsCall, IsItsCall, IsItsWrite, is_beside, its_written_by, View}
use Rattle.law_lone_calls_are_eager.specs.GicCall.declared.event.Event.TheVariants.{ItsEnd, Raise}
use Rattle.law_lone_calls_are_eager.specs.GicCall.Call.{starts_commands}
use Rattle.law_lone_calls_are_eager.proofs.GicCall.TraceLemmas.{its_made, access_made, op_made}
use Rattle.law_lone_calls_are_eager.proofs.LawEagerIsHistory.FreshLemmas.{is_no_access}
use Rattle.law_lone_calls_are_eager.proofs.PassLemmas.{PassesBeside, PassesNamed, both_all, device_all, dist_all, makes_all, memory_all, redist_all, started_all}
use Rattle.law_lone_calls_are_eager.proofs.ReadLemmas.{beside_passes}
use Rattle.law_lone_calls_are_eager.proofs.RunLemmas.{events_of}
use Rattle.law_lone_calls_are_eager.proofs.TurnLemmas.{its_all}
use Rattle.law_serial_is_eager.specs.Serial.{is_icc}

pub beside_no_access : (actor : Option ℕ) (event : Event) → is_beside actor event ≡ true → is_no_access event ≡ true
beside_no_access actor (Cpu vcpu reg write) h = absurd (cc)
beside_no_access actor event h = refl

pub named_so : PassesNamed is_no_access
named_so = record {
  raise = λ key. refl;
  up = λ key. refl;
  down = λ key. refl;
  touch = λ key touching plain. refl;
  enable = λ vcpu. refl;
  ctlr_begin = λ enables. refl;
  ctlr_end = refl;
  its_begin = refl;
  its_end = refl;
  ram = λ index value. refl;
  propbaser = λ vcpu value. refl;
  pendbaser = λ vcpu value. refl;
}

beside_so : PassesBeside is_no_access
beside_so = record { beside = beside_no_access; raise = λ key. refl; touch = λ key touching. refl; queue = λ offset change. refl }

its_none : (shape : GuestShape) (view : View) (ref : ItsRef) → IsTrue (list_all is_no_access (its_events shape view ref None))
its_none shape view (ItsPlain reg half) = refl
its_none shape view ItsReserved = refl

its_some : (shape : GuestShape) (view : View) (ref : ItsRef) (value : ℕ) → IsTrue (list_all is_no_access (its_events shape view ref (Some value)))
its_some shape view ref value = its_all is_no_access (λ word v. refl) (λ offset. refl) shape view ref value

its_call : (shape : GuestShape) (beside : Beside) (vcpu offset size value : ℕ) (piece : List Happened) (answer : Option ℕ) → IsItsCall shape beside vcpu offset size value piece answer → IsTrue (list_all is_no_access (events_of piece))
its_call shape beside vcpu offset size value piece answer is =
    subst (λ xs. IsTrue (list_all is_no_access (events_of xs))) (sym is.split)
    (both_all is_no_access beside_so (is.register ++ is.commands) is.last
    (both_all is_no_access beside_so is.register is.commands
    (makes_all is_no_access beside_so (Some vcpu) is.view (ItsBegin ∷ access_events shape is.view Its offset size (Some value)) _ [] is.register (its_made is) (its_some shape is.view (its_decoded offset size) value))
    (started_all is_no_access beside_so (starts_commands shape is.view Its offset size (Some value)) (Some vcpu) shape beside (its_written_by shape is.view (access_events shape is.view Its offset size (Some value))) is.views is.commands is.started))
    (makes_all is_no_access beside_so (Some vcpu) is.view (ItsEnd ∷ []) [] [] is.last is.ended refl))

pub call_quiet : (shape : GuestShape) (beside : Beside) (actor : Option ℕ) (operation : Operation) (piece : List Happened) (answer : Option ℕ) → is_icc operation ≡ false → IsCall shape beside actor operation piece answer → IsTrue (list_all is_no_access (events_of piece))
call_quiet shape beside (Some vcpu) (Access (Icc reg write)) piece answer other is = absurd (cc)
call_quiet shape beside (Some vcpu) (Access (Mem Dist offset size write)) piece answer other is = makes_all is_no_access beside_so (Some vcpu) is.view _ _ [] piece (access_made is) (dist_all is_no_access named_so shape is.view (dist_decoded offset size) write)
call_quiet shape beside (Some vcpu) (Access (Mem (Redist of_vcpu) offset size write)) piece answer other is =
    makes_all is_no_access beside_so (Some vcpu) is.view _ _ [] piece (access_made is) (redist_all is_no_access named_so shape is.view of_vcpu (redist_decoded offset size) write)
call_quiet shape beside (Some vcpu) (Access (Mem Ram offset size None)) piece answer other is = makes_all is_no_access beside_so (Some vcpu) is.view [] _ [] piece (access_made is) refl
call_quiet shape beside (Some vcpu) (Access (Mem Ram offset size (Some value))) piece answer other is =
    makes_all is_no_access beside_so (Some vcpu) is.view _ _ [] piece (access_made is) (memory_all is_no_access named_so shape is.view offset size value)
call_quiet shape beside (Some vcpu) (Access (Mem Its offset size None)) piece answer other is = makes_all is_no_access beside_so (Some vcpu) is.view _ _ [] piece (access_made is) (its_none shape is.view (its_decoded offset size))
call_quiet shape beside (Some vcpu) (Access (Mem Its offset size (Some value))) piece answer other is = of (takes_turn shape (its_decoded offset size) (Some value)) is
  where
    of : (b : Bool) → IsItsWrite b shape beside vcpu offset size value piece answer → IsTrue (list_all is_no_access (events_of piece))
    of true is = its_call shape beside vcpu offset size value piece answer is
    of false is = makes_all is_no_access beside_so (Some vcpu) is.view _ _ [] piece (access_made is) (its_some shape is.view (its_decoded offset size) value)
call_quiet shape beside None (Device op) piece answer other is = elim (op_made is) [
  | inl made ↦ makes_all is_no_access beside_so None is.view _ [] [] piece made (device_all is_no_access named_so is.view op)
  | inr alone ↦ makes_all is_no_access beside_so None is.view (Raise (Lpi alone.id) ∷ []) [] [] piece alone.raised refl
]
call_quiet shape beside (Some vcpu) Residence piece answer other is = beside_passes is_no_access beside_no_access (Some vcpu) piece (subst (λ xs. IsTrue (list_all is_no_access (events_of xs))) (sym is.0) refl)
call_quiet shape beside actor operation piece answer other is = absurd is
