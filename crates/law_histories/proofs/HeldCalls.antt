-- Each call stores where the queue is, and changes for which vCPU an LPI is, only while its actor has the ITS.
use Rattle.std.proofs.Common.{◌≡◌, ℕ, ◌+◌, ◌&&◌, ◌||◌, not, Bool, true, false, cond, IsTrue, List, [], ◌∷◌, ◌++◌, map, fold, Option, Some, None, refl, sym, ap, ◌∙◌, subst, arith, inl, inr}
use Rattle.std.specs.List.{list_all, range_with_len}
use Rattle.std.specs.Option.{option_map_or}
use Rattle.std.proofs.lemmas.Bool.{and_parts, and_from}
use Rattle.std.proofs.lemmas.List.{map-append}
use Rattle.floor_histories.specs.Words.{Lpi, Message, Wire, Msi, Dist, Redist, Its, Ram as Memory, Icc, Mem, GuestShape, interrupt_count}
use Rattle.floor_histories.specs.Registers.{translated, Enables, has_lpis, Cbaser as CbaserReg, Cwriter as CwriterReg, Baser0 as Baser0Reg, Baser1 as Baser1Reg}
use Rattle.floor_histories.specs.GicDmap.Map.{decoded as dist_decoded}
use Rattle.floor_histories.specs.GicImap.declared.map.Reg.{Reg as ItsReg}
use Rattle.floor_histories.specs.GicImap.declared.map.Reg.TheVariants.{Ctlr as ItsCtlrReg}
use Rattle.floor_histories.specs.GicImap.declared.map.RegRef.{RegRef as ItsRef}
use Rattle.floor_histories.specs.GicImap.declared.map.RegRef.TheVariants.{Plain as ItsPlain, Reserved as ItsReserved}
use Rattle.floor_histories.specs.GicImap.Map.{decoded as its_decoded}
use Rattle.floor_histories.specs.GicRmap.Map.{decoded as redist_decoded}
use Rattle.floor_histories.specs.Calls.{Event, Put, ItsBegin, Operation, Access, Device, Residence, Place, redist_events, memory_written, icc_events, its_events, device_events, takes_turn, Happened, is_beside, named_of, Beside, Makes, IsItsCall, IsItsWrite, IsCall, its_written_by, View, is_its_enabled, Touch, CtlrEnd, copy_at, its_written, takes_its}
use Rattle.floor_histories.specs.GicCall.declared.event.Event.TheVariants.{Raise, ItsEnd}
use Rattle.floor_histories.specs.GicCall.Call.{starts_commands}
use Rattle.floor_histories.proofs.GicCall.TraceLemmas.{its_made, access_made, op_made}
use Rattle.law_histories.specs.Held.{moves_target}
use Rattle.law_histories.proofs.QuietLemmas.{is_base, is_its, is_moving, is_quiet, is_spread, AreSpreadBy, quiet, spread, dist_by, redist_quiet, memory_quiet, icc_quiet}
use Rattle.law_histories.proofs.ScanCalls.{takes_of, holds, is_apart, turn_free, beside_apart, started_turn, register_written}
use Rattle.law_histories.proofs.ScanLemmas.{Scan}
use Rattle.law_histories.proofs.SpreadLemmas.{events_of}

-- an event stores where the queue is, or changes for which vCPU an LPI is
abbrev pub is_owned : Event → Bool
is_owned (Put word value) = is_base word
is_owned (Touch key touching) = moves_target touching
is_owned event = false

-- an event of another kind, which neither takes the ITS nor frees it
abbrev pub is_still : Event → Bool
is_still event = is_apart event && not (is_moving event)

-- each such event of a list is made while the actor has the ITS, where it has it before them or not
abbrev pub are_held : Bool → List Event → Bool
are_held b [] = true
are_held b (event ∷ events) = (not (is_owned event) || b) && are_held (holds b event) events

-- Lists.

held_both : (b : Bool) (one other : List Event) → IsTrue (are_held b one) → IsTrue (are_held (fold holds b one) other) → IsTrue (are_held b (one ++ other))
held_both b [] other h k = k
held_both b (event ∷ one) other h k =
    let parts = and_parts (not (is_owned event) || b) (are_held (holds b event) one) h in
    and_from (not (is_owned event) || b) (are_held (holds b event) (one ++ other)) parts.0 (held_both (holds b event) one other parts.1 k)

not_is : (b : Bool) → not b ≡ true → b ≡ false
not_is true h = absurd (cc)
not_is false h = refl

unowned : (event : Event) → is_still event ≡ true → is_owned event ≡ false
unowned (Put word value) h = not_is (is_base word) (and_parts (not (is_base word)) true h).0
unowned (Touch key touching) h = not_is (moves_target touching) h
unowned event h = refl

still_apart : (event : Event) → is_still event ≡ true → is_apart event ≡ true
still_apart event h = (and_parts (is_apart event) (not (is_moving event)) h).0

beside_still : (actor : Option ℕ) (event : Event) → is_beside actor event ≡ true → is_still event ≡ true
beside_still actor event h = and_from (is_apart event) (not (is_moving event)) (beside_apart actor event h) (of event h)
  where
    of : (event : Event) → is_beside actor event ≡ true → not (is_moving event) ≡ true
    of (Touch key touching) h = absurd (cc)
    of event h = refl

quiet_still : (events : List Event) → list_all is_quiet events ≡ true → list_all is_still events ≡ true
quiet_still [] h = refl
quiet_still (event ∷ events) h =
    let both = and_parts (is_quiet event) (list_all is_quiet events) h in
    let unmoved = and_parts (not (is_spread event) && not (is_its event)) (not (is_moving event)) both.0 in
    and_from (is_still event) (list_all is_still events) (and_from (is_apart event) (not (is_moving event)) (and_parts (not (is_spread event)) (not (is_its event)) unmoved.0).1 unmoved.1) (quiet_still events both.1)

copies_still : (shape : GuestShape) (enables : Enables) (places : List ℕ) → list_all is_still (map (copy_at shape enables) places ++ CtlrEnd ∷ []) ≡ true
copies_still shape enables [] = refl
copies_still shape enables (place ∷ places) = copies_still shape enables places

spread_still : (shape : GuestShape) (events : List Event) → AreSpreadBy shape events → list_all is_still events ≡ true
spread_still shape events (quiet es all) = quiet_still es all
spread_still shape events (spread enables) = copies_still shape enables (range_with_len 0 (interrupt_count shape))

untaken_still : (shape : GuestShape) (view : View) (ref : ItsRef) (value : ℕ) → takes_turn shape ref (Some value) ≡ false → list_all is_still (its_events shape view ref (Some value)) ≡ true
untaken_still shape view (ItsPlain reg half) value h = of (has_lpis shape) h
  where
    reg_still : (reg : ItsReg) → takes_its reg ≡ false → list_all is_still (its_written view reg half value) ≡ true
    reg_still ItsCtlrReg h = absurd (cc)
    reg_still CbaserReg h = absurd (cc)
    reg_still CwriterReg h = absurd (cc)
    reg_still Baser0Reg h = absurd (cc)
    reg_still Baser1Reg h = absurd (cc)
    reg_still reg h = refl

    of : (b : Bool) → (b && takes_its reg) ≡ false → list_all is_still (cond b (its_written view reg half value) []) ≡ true
    of true h = reg_still reg h
    of false h = refl
untaken_still shape view ItsReserved value h = refl

its_read_still : (shape : GuestShape) (view : View) (ref : ItsRef) → list_all is_still (its_events shape view ref None) ≡ true
its_read_still shape view (ItsPlain reg half) = refl
its_read_still shape view ItsReserved = refl

still_held : (b : Bool) (events : List Event) → list_all is_still events ≡ true → IsTrue (are_held b events)
still_held b [] h = refl
still_held b (event ∷ events) h =
    let parts = and_parts (is_still event) (list_all is_still events) h in
    and_from (not (is_owned event) || b) (are_held (holds b event) events) (ap (λ c. not c || b) (unowned event parts.0)) (still_held (holds b event) events parts.1)

-- who has it all along
never_over : (events : List Event) → takes_of events ≡ 0 → fold holds false events ≡ true → {T : Type 0} → T
never_over [] none held = absurd (cc)
never_over (ItsBegin ∷ events) none held = absurd (omega (arith, none))
never_over (ItsEnd ∷ events) none held = never_over events (omega (arith, none)) held
never_over (event ∷ events) none held = never_over events (omega (arith, none)) held

through_held : (events : List Event) → takes_of events ≡ 0 → fold holds true events ≡ true → IsTrue (are_held true events)
through_held [] none held = refl
through_held (ItsEnd ∷ events) none held = never_over events (omega (arith, none)) held
through_held (ItsBegin ∷ events) none held = absurd (omega (arith, none))
through_held (event ∷ events) none held = and_from (not (is_owned event) || true) (are_held true events) (of (is_owned event)) (through_held events (omega (arith, none)) held)
  where
    of : (b : Bool) → IsTrue (not b || true)
    of true = refl
    of false = refl

-- reads and moves are none of them
held_named : (actor : Option ℕ) (b : Bool) (piece : List Happened) → IsTrue (are_held b (events_of (named_of actor piece))) → IsTrue (are_held b (events_of piece))
held_named actor b [] h = h
held_named actor b (one ∷ piece) h = of (is_beside actor one.event) refl h (λ c. held_named actor c piece)
  where
    of : (s : Bool) → is_beside actor one.event ≡ s → IsTrue (are_held b (events_of (cond (not s) (one ∷ named_of actor piece) (named_of actor piece))))
        → ((c : Bool) → IsTrue (are_held c (events_of (named_of actor piece))) → IsTrue (are_held c (events_of piece))) → IsTrue (are_held b (events_of (one ∷ piece)))
    of true e h later =
        let still = beside_still actor one.event e in
        let apart = still_apart one.event still in
        and_from (not (is_owned one.event) || b) (are_held (holds b one.event) (events_of piece)) (ap (λ c. not c || b) (unowned one.event still)) (subst (λ c. IsTrue (are_held c (events_of piece))) (sym (turn_free b one.event apart).holds_same) (later b h))
    of false e h later =
        let parts = and_parts (not (is_owned one.event) || b) (are_held (holds b one.event) (events_of (named_of actor piece))) h in
        and_from (not (is_owned one.event) || b) (are_held (holds b one.event) (events_of piece)) parts.0 (later (holds b one.event) parts.1)

same_named : (actor : Option ℕ) (b : Bool) (piece : List Happened) → fold holds b (events_of piece) ≡ fold holds b (events_of (named_of actor piece))
same_named actor b [] = refl
same_named actor b (one ∷ piece) = of (is_beside actor one.event) refl (λ c. same_named actor c piece)
  where
    of : (s : Bool) → is_beside actor one.event ≡ s → ((c : Bool) → fold holds c (events_of piece) ≡ fold holds c (events_of (named_of actor piece)))
        → fold holds b (events_of (one ∷ piece)) ≡ fold holds b (events_of (cond (not s) (one ∷ named_of actor piece) (named_of actor piece)))
    of true e later = ap (λ c. fold holds c (events_of piece)) (turn_free b one.event (beside_apart actor one.event e)).holds_same ∙ later b
    of false e later = later (holds b one.event)

pub held_later : (b : Bool) (one other : List Event) → IsTrue (are_held b (one ++ other)) → IsTrue (are_held (fold holds b one) other)
held_later b [] other h = h
held_later b (event ∷ one) other h = held_later (holds b event) one other (and_parts (not (is_owned event) || b) (are_held (holds b event) (one ++ other)) h).1

-- Calls.

makes_held : (actor : Option ℕ) (b : Bool) (view : View) (events : List Event) (places : List Place) (before piece : List Happened) → Makes actor view events places before piece → IsTrue (are_held b events) → IsTrue (are_held b (events_of piece))
makes_held actor b view events places before piece makes h = held_named actor b piece (subst (λ es. IsTrue (are_held b es)) (sym makes.events_are) h)

makes_holds : (actor : Option ℕ) (b : Bool) (view : View) (events : List Event) (places : List Place) (before piece : List Happened) → Makes actor view events places before piece → fold holds b (events_of piece) ≡ fold holds b events
makes_holds actor b view events places before piece makes = same_named actor b piece ∙ ap (fold holds b) makes.events_are

module _ (shape : GuestShape) (beside : Beside) where
  its_held : (vcpu offset size value : ℕ) (piece : List Happened) (answer : Option ℕ) → IsItsCall shape beside vcpu offset size value piece answer → IsTrue (are_held false (events_of piece))
  its_held vcpu offset size value piece answer is =
      let first : Scan = record { maps = beside.maps; made = []; number = 0 } in
      let events = its_events shape is.view (its_decoded offset size) (Some value) in
      let written = register_written shape beside is.view (its_decoded offset size) value in
      let started = started_turn shape beside (starts_commands shape is.view Its offset size (Some value)) (Some vcpu) (its_written_by shape is.view events) is.views first is.commands (sym (written.maps ∙ is.maps)) refl refl is.started in
      let register = makes_held (Some vcpu) false is.view (ItsBegin ∷ events) _ [] is.register (its_made is) (through_held events written.turn.turns.takes written.turn.turns.held) in
      let taken : fold holds false (events_of is.register) ≡ true = makes_holds (Some vcpu) false is.view (ItsBegin ∷ events) _ [] is.register (its_made is) ∙ written.turn.turns.held in
      let commands = through_held (events_of is.commands) started.turn.turns.takes started.turn.turns.held in
      let last = makes_held (Some vcpu) true is.view (ItsEnd ∷ []) [] [] is.last is.ended refl in
      subst (λ p. IsTrue (are_held false (events_of p))) (sym is.split)
      (subst (λ es. IsTrue (are_held false es)) (sym (map-append (λ (h : Happened). h.event) (is.register ++ is.commands) is.last ∙ ap (λ es. es ++ events_of is.last) (map-append (λ (h : Happened). h.event) is.register is.commands)))
      (held_both false (events_of is.register ++ events_of is.commands) (events_of is.last)
      (held_both false (events_of is.register) (events_of is.commands) register (subst (λ c. IsTrue (are_held c (events_of is.commands))) (sym taken) commands))
      (subst (λ c. IsTrue (are_held c (events_of is.last))) (sym (over false (events_of is.register) (events_of is.commands) taken started.turn.turns.held)) last)))
    where
      over : (b : Bool) (one other : List Event) → fold holds b one ≡ true → fold holds true other ≡ true → fold holds b (one ++ other) ≡ true
      over b [] other h k = subst (λ c. fold holds c other ≡ true) (sym h) k
      over b (event ∷ one) other h k = over (holds b event) one other h k

  still_so : (actor : Option ℕ) (view : View) (events : List Event) (places : List Place) (piece : List Happened) → Makes actor view events places [] piece → list_all is_still events ≡ true → IsTrue (are_held false (events_of piece))
  still_so actor view events places piece makes all = makes_held actor false view events places [] piece makes (still_held false events all)

  write_held : (b : Bool) (vcpu offset size value : ℕ) (piece : List Happened) (answer : Option ℕ) → takes_turn shape (its_decoded offset size) (Some value) ≡ b → IsItsWrite b shape beside vcpu offset size value piece answer → IsTrue (are_held false (events_of piece))
  write_held true vcpu offset size value piece answer e is = its_held vcpu offset size value piece answer is
  write_held false vcpu offset size value piece answer e is = still_so (Some vcpu) is.view _ _ piece (access_made is) (untaken_still shape is.view (its_decoded offset size) value e)

  msi_held : (view : View) (device event : ℕ) → IsTrue (are_held false (device_events view (Msi device event)))
  msi_held view device event = of (translated view.maps (is_its_enabled view) device event)
    where
      of : (o : Option ℕ) → IsTrue (are_held false (ItsBegin ∷ option_map_or (λ id. Raise (Lpi id) ∷ []) o [] ++ ItsEnd ∷ []))
      of None = refl
      of (Some id) = refl

  pub call_held : (actor : Option ℕ) (operation : Operation) (piece : List Happened) (answer : Option ℕ) → IsCall shape beside actor operation piece answer → IsTrue (are_held false (events_of piece))
  call_held (Some vcpu) (Access (Icc reg write)) piece answer is = still_so (Some vcpu) is.view (icc_events shape vcpu reg write) [] piece is.made (quiet_still (icc_events shape vcpu reg write) (icc_quiet shape vcpu reg write))
  call_held (Some vcpu) (Access (Mem Its offset size (Some value))) piece answer is = write_held (takes_turn shape (its_decoded offset size) (Some value)) vcpu offset size value piece answer refl is
  call_held (Some vcpu) (Access (Mem Its offset size None)) piece answer is = still_so (Some vcpu) is.view _ _ piece (access_made is) (its_read_still shape is.view (its_decoded offset size))
  call_held (Some vcpu) (Access (Mem Dist offset size write)) piece answer is = still_so (Some vcpu) is.view _ _ piece (access_made is) (spread_still shape _ (dist_by shape is.view (dist_decoded offset size) write))
  call_held (Some vcpu) (Access (Mem (Redist other) offset size write)) piece answer is =
      still_so (Some vcpu) is.view _ _ piece (access_made is) (quiet_still (redist_events shape is.view other (redist_decoded offset size) write) (redist_quiet shape is.view other (redist_decoded offset size) write))
  call_held (Some vcpu) (Access (Mem Memory offset size None)) piece answer is = still_so (Some vcpu) is.view [] _ piece (access_made is) refl
  call_held (Some vcpu) (Access (Mem Memory offset size (Some value))) piece answer is =
      still_so (Some vcpu) is.view _ _ piece (access_made is) (quiet_still (memory_written shape is.view offset size value) (memory_quiet shape is.view offset size value))
  call_held None (Device (Message spi)) piece answer is = still_so None is.view _ [] piece is.made refl
  call_held None (Device (Wire key true)) piece answer is = still_so None is.view _ [] piece is.made refl
  call_held None (Device (Wire key false)) piece answer is = still_so None is.view _ [] piece is.made refl
  call_held None (Device (Msi device event)) piece answer is = elim (op_made is) [
    | inl made ↦ makes_held None false is.view (device_events is.view (Msi device event)) [] [] piece made (msi_held is.view device event)
    | inr alone ↦ still_so None is.view (Raise (Lpi alone.id) ∷ []) [] piece alone.raised refl
  ]
  call_held (Some vcpu) Residence piece answer is = held_named (Some vcpu) false piece (subst (λ p. IsTrue (are_held false (events_of p))) (sym is.0) refl)
  call_held None (Access op) piece answer is = absurd is
  call_held (Some vcpu) (Device op) piece answer is = absurd is
  call_held None Residence piece answer is = absurd is
