-- Accesses of registers of the CPU interface, and looks for a kick.
use Rattle.std.proofs.Common.{◌≡◌, ℕ, ◌<◌, ◌&&◌, ◌||◌, not, Bool, true, false, cond, IsTrue, List, [], ◌∷◌, ◌++◌, map, length, Option, option_map, Some, None, refl, sym, ap, ◌∙◌, subst}
use Rattle.std.specs.List.{list_all}
use Rattle.std.specs.Option.{ForSome}
use Rattle.std.proofs.lemmas.Bool.{and_parts, ltb-true}
use Rattle.std.proofs.lemmas.Simd.{map-map}
use Rattle.law_lines_translate.specs.Words.{IccReg, Key, GuestShape, is_same_key, intid_of, Irq, is_number, irq_of}
use Rattle.law_lines_translate.specs.Registers.{CpuRec, taken_by, deactivated_by, candidates_at, interface_answer, interface_after, Maps}
use Rattle.law_lines_translate.specs.Calls.{Cpu, is_usable}
use Rattle.law_lines_translate.specs.GicCall.declared.event.Found.TheVariants.{Answer}
use Rattle.law_lines_translate.specs.Histories.{irq_at, cpu_at, Ideal, standing_at, shown_at, interface_at, with_standing, standing_of}
use Rattle.law_lines_translate.specs.Core.{AtIrq, Local, Phase, Claiming, Loaded, Folding, Poll, WordId, Irq as IrqWord, Vcpu, Queue, Ctlr, Plain, Index, Line, interface_of, acknowledged_entry, deactivated_entry, id_of, accessed, is_ready, given_back, vcpu_of, is_vcpu, entry_for, back_of, CoreState, Seat, seat_at, with_found}
use Rattle.law_lines_translate.proofs.PortCore.FrameLemmas.{seat_changed}
use Rattle.law_core_is_history.specs.Related.{IsCpuRelated, IsHeldRelated, WordSays, locals_of, stands, is_folding}
use Rattle.law_core_is_history.specs.Simulates.{IsSimulated, IsSimulatedAs}
use Rattle.law_lines_translate.proofs.CoreProper.InterfaceLemmas.{shown_accessed}
use Rattle.law_core_is_history.proofs.AccessLemmas.{standing_shown, shown_same}
use Rattle.law_core_is_history.proofs.CpuLemmas.{same_answer, same_at, same_lpis, same_cpu}
use Rattle.law_core_is_history.proofs.EnableSteps.{with_cpu_at, cpu_here, cpu_other, cpu_elsewhere, places_with_cpu}
use Rattle.law_core_is_history.proofs.MoveLemmas.{standing_here, standing_other, standing_elsewhere, standing_places}
use Rattle.law_core_is_history.proofs.RelatedLemmas.{locals_after, quiet, frame, places_of}
use Rattle.law_core_is_history.proofs.StandingLemmas.{passes, not_given}
use Rattle.law_core_is_history.proofs.StepContext.{one, IsStep, has, says_found, lpis_back}
use Rattle.law_core_is_history.proofs.TriedSteps.{left_as}

-- What an access leaves of an interrupt at the interface.

-- the same but for its state there
record IsSameBut (before after : AtIrq) : Type 0 where
  key : after.key ≡ before.key
  prio : after.entry_prio ≡ before.entry_prio
  group : after.group ≡ before.group
  given : after.given ≡ before.given

same_if : (b : Bool) (before after : AtIrq) → IsSameBut before after → IsSameBut before (cond b after before)
same_if true before after same = same
same_if false before after same = record { key = refl; prio = refl; group = refl; given = refl }

same_then : (one two three : AtIrq) → IsSameBut one two → IsSameBut two three → IsSameBut one three
same_then one two three first second = record { key = second.key ∙ first.key; prio = second.prio ∙ first.prio; group = second.group ∙ first.group; given = second.given ∙ first.given }

-- acknowledged where it has the one INTID, and deactivated where it has the other
abbrev acknowledged_if : Option ℕ → AtIrq → AtIrq
acknowledged_if id entry = cond (is_number (intid_of entry.key) id) (acknowledged_entry entry) entry

abbrev deactivated_if : Option ℕ → AtIrq → AtIrq
deactivated_if id entry = cond (is_number (intid_of entry.key) id) (deactivated_entry entry) entry

abbrev access_change : Option ℕ → Option ℕ → AtIrq → AtIrq
access_change taken ended entry = deactivated_if ended (acknowledged_if taken entry)

access_same : (taken ended : Option ℕ) (entry : AtIrq) → IsSameBut entry (access_change taken ended entry)
access_same taken ended entry =
    let first = acknowledged_if taken entry in
    same_then entry first (deactivated_if ended first)
    (same_if (is_number (intid_of entry.key) taken) entry (acknowledged_entry entry) (record { key = refl; prio = refl; group = refl; given = refl }))
    (same_if (is_number (intid_of first.key) ended) first (deactivated_entry first) (record { key = refl; prio = refl; group = refl; given = refl }))

entry_mapped : (change : AtIrq → AtIrq) → ((entry : AtIrq) → IsSameBut entry (change entry)) → (key : Key) (at : List AtIrq) → entry_for key (map change at) ≡ option_map change (entry_for key at)
entry_mapped change same key [] = refl
entry_mapped change same key (entry ∷ rest) = ap (λ k. cond (is_same_key k key) (Some (change entry)) (entry_for key (map change rest))) (same entry).key ∙ of (is_same_key entry.key key) (entry_mapped change same key rest)
  where
    of : (b : Bool) → entry_for key (map change rest) ≡ option_map change (entry_for key rest) → cond b (Some (change entry)) (entry_for key (map change rest)) ≡ option_map change (cond b (Some entry) (entry_for key rest))
    of true later = refl
    of false later = later

-- where nothing is given back, what words say of the interrupts stays
held_mapped :
    (change : AtIrq → AtIrq) → ((entry : AtIrq) → IsSameBut entry (change entry)) → (at : List AtIrq) → IsTrue (list_all (λ entry. not entry.given) at) → (key : Key) (vcpu : ℕ) (word ideal : Irq)
    → ForSome (entry_for key at) (λ entry. IsHeldRelated vcpu entry word ideal) → ForSome (entry_for key (map change at)) (λ entry. IsHeldRelated vcpu entry word ideal)
held_mapped change same at none key vcpu word ideal says after e = of (entry_for key at) refl (sym (entry_mapped change same key at) ∙ e)
  where
    of : (o : Option AtIrq) → entry_for key at ≡ o → option_map change o ≡ Some after → IsHeldRelated vcpu after word ideal
    of None found e = absurd (cc)
    of (Some before) found e =
        let is : change before ≡ after = cc in
        let was = says before found in
        let here : before.given ≡ false = not_given before.given (passes (λ entry. not entry.given) key at before none found) in
        let given : (change before).given ≡ false = (same before).given ∙ here in
        subst (λ entry. IsHeldRelated vcpu entry word ideal) is
        (record {
          word_is = was.word_is ∙ ap (λ b. cond b (given_back vcpu (back_of before) ideal) ideal) here ∙ sym (ap (λ b. cond b (given_back vcpu (back_of (change before)) ideal) ideal) given);
          prio = (same before).prio ∙ was.prio;
          group = (same before).group ∙ was.group;
        })

none_mapped : (change : AtIrq → AtIrq) → ((entry : AtIrq) → IsSameBut entry (change entry)) → (at : List AtIrq) → list_all (λ entry. not entry.given) (map change at) ≡ list_all (λ entry. not entry.given) at
none_mapped change same [] = refl
none_mapped change same (entry ∷ rest) = ap (λ g. not g && list_all (λ x. not x.given) (map change rest)) (same entry).given ∙ ap (λ b. not entry.given && b) (none_mapped change same rest)

-- Accesses.

-- what an access acknowledges and deactivates
abbrev access_of : IccReg → Option ℕ → Local → AtIrq → AtIrq
access_of reg write local = access_change (id_of (taken_by reg write local.cpu (candidates_at (interface_of local)))) (deactivated_by reg write local.cpu)

accessed_at : (reg : IccReg) (write : Option ℕ) (local : Local) → (accessed reg write local).at ≡ map (access_of reg write local) local.at
accessed_at reg write local = map-map (deactivated_if (deactivated_by reg write local.cpu)) (acknowledged_if (id_of (taken_by reg write local.cpu (candidates_at (interface_of local))))) local.at

-- nothing is given back while a vCPU may access
none_given : (phase : Phase) (b : Bool) → IsTrue (is_ready phase) → IsTrue (is_folding phase || b) → IsTrue b
none_given Claiming b ready h = h
none_given Loaded b ready h = h
none_given phase b ready h = absurd (cc)

-- each word says the same of an actor of which the words of interrupts do
says_changed :
    (shape : GuestShape) (state : CoreState) (ideal : Ideal) (actor : ℕ) (seat : Seat) → actor < length state.seats
    → ((key : Key) (word irq : Irq) → ForSome (entry_for key (locals_of state actor).at) (λ entry. IsHeldRelated actor entry word irq) → ForSome (entry_for key seat.local.at) (λ entry. IsHeldRelated actor entry word irq))
    → (w : WordId) (n : ℕ) → WordSays shape (locals_of state) ideal w n → WordSays shape (locals_after state actor seat) ideal w n
says_changed shape state ideal actor seat within keeps (IrqWord key) n says = record {
  home = says.home;
  held = λ vcpu.
      seat_changed state.seats actor vcpu seat (λ m s. (irq_of n).holder ≡ Some m → ForSome (entry_for key s.local.at) (λ entry. IsHeldRelated m entry (irq_of n) (irq_at ideal.guest key))) within
      (λ h. keeps key (irq_of n) (irq_at ideal.guest key) (says.held actor h)) (λ differ h. says.held vcpu h);
}
says_changed shape state ideal actor seat within keeps (Vcpu vcpu) n says = says
says_changed shape state ideal actor seat within keeps Queue n says = says
says_changed shape state ideal actor seat within keeps Ctlr n says = says
says_changed shape state ideal actor seat within keeps (Plain index) n says = says
says_changed shape state ideal actor seat within keeps (Index vcpu number) n says = says
says_changed shape state ideal actor seat within keeps (Line number) n says = says

module _ {shape : GuestShape} {state : CoreState} {ideal : Ideal} {actor found left : ℕ} {tables : Option Maps} where
  accesses :
      (reg : IccReg) (write : Option ℕ) (is : IsStep shape state ideal actor (Poll (Some reg) write) found left tables)
      → IsSimulatedAs shape (left_as shape state actor (Poll (Some reg) write) left (accessed reg write (locals_of state actor)) (one actor (Poll (Some reg) write) found left tables).made state.maps) ideal actor
      (with_found (Cpu actor reg write) (Answer (interface_answer reg write (interface_of (locals_of state actor)))))
  accesses reg write is =
      let can = and_parts (is_vcpu shape actor) (is_usable reg write) is.takes.can in
      let there : actor < shape.vcpus = ltb-true actor shape.vcpus can.0 in
      let local = locals_of state actor in
      let cpu = cpu_at ideal.guest actor in
      let places = places_of shape state ideal is.related in
      let within : actor < length state.seats = subst (λ n. actor < n) (sym is.sound.actors) is.takes.actor in
      let related = (is.related.seats actor there).cpu in
      let shows = map (shown_at ideal) (standing_at ideal actor) in
      let same = shown_same is.sound is.related actor there in
      let next = interface_after reg write (interface_at ideal actor) in
      let standing = map standing_of next.at in
      let seat : Seat = record { local = accessed reg write local; own = (seat_at state actor).own ++ (one actor (Poll (Some reg) write) found left tables).made ∷ [] } in
      let none : IsTrue (list_all (λ (entry : AtIrq). not entry.given) local.at) = none_given local.phase (list_all (λ (entry : AtIrq). not entry.given) local.at) is.takes.meets (is.related.seats actor there).given in
      let change = access_of reg write local in
      let changes = access_same (id_of (taken_by reg write local.cpu (candidates_at (interface_of local)))) (deactivated_by reg write local.cpu) in
      let with_cpu_places = places_with_cpu shape ideal actor next.cpu places there in
      let stays : standing ≡ map stands seat.local.at =
      ap (map standing_of) (same_at local.cpu cpu related reg write shows ∙ ap (λ at. (interface_after reg write (record { cpu = local.cpu; at = at })).at) same ∙ sym (shown_accessed reg write local)) ∙ standing_shown seat.local.at in
      let cpu_says : IsCpuRelated seat.local.cpu next.cpu = subst (λ at. IsCpuRelated (interface_after reg write (record { cpu = local.cpu; at = at })).cpu next.cpu) same (same_cpu local.cpu cpu related reg write shows) in
      record {
        can = (there, can.1);
        allowed = refl;
        hands = sym (ap Answer (same_answer local.cpu cpu related reg write shows ∙ ap (λ at. interface_answer reg write (record { cpu = local.cpu; at = at })) same));
        related = frame shape state ideal (with_standing (with_cpu_at actor next.cpu ideal) actor standing) actor seat (Vcpu actor) left state.maps is.good is.sound is.related is.takes.actor (has is)
            (record {
              here = ap (λ (c : CpuRec). c.lpis) (cpu_here shape ideal actor next.cpu places there) ∙ same_lpis local.cpu cpu related reg write shows ∙ says_found is
                  ∙ sym (ap (λ n. (vcpu_of n).lpis) is.takes.left ∙ lpis_back (record (vcpu_of found) { kick = false }));
              elsewhere = λ w n differ h says.
                  standing_elsewhere shape (with_cpu_at actor next.cpu ideal) actor standing with_cpu_places (locals_after state actor seat) w n
                  (cpu_elsewhere shape ideal actor next.cpu places there (locals_after state actor seat) w n differ
                  (says_changed shape state ideal actor seat within
                  (λ key word irq held. subst (λ at. ForSome (entry_for key at) (λ entry. IsHeldRelated actor entry word irq)) (sym (accessed_at reg write local)) (held_mapped change changes local.at none key actor word irq held)) w n says));
              mine = λ l. record {
                at = standing_here shape (with_cpu_at actor next.cpu ideal) actor standing with_cpu_places there ∙ stays;
                cpu = subst (IsCpuRelated seat.local.cpu) (sym (cpu_here shape ideal actor next.cpu places there)) cpu_says;
                given = ap (list_all (λ (entry : AtIrq). not entry.given)) (accessed_at reg write local) ∙ none_mapped change changes local.at ∙ none;
              };
              others = λ vcpu other differ l says. record {
                at = standing_other shape (with_cpu_at actor next.cpu ideal) actor standing with_cpu_places vcpu differ ∙ says.at;
                cpu = subst (IsCpuRelated other.cpu) (sym (cpu_other shape ideal actor next.cpu places there vcpu differ)) says.cpu;
                given = says.given;
              };
            })
            is.related.maps (standing_places shape (with_cpu_at actor next.cpu ideal) actor standing with_cpu_places);
      }

  -- a look for a kick, and with a register an access of it where there is no kick
  pub simulates_poll : (reg : Option IccReg) (write : Option ℕ) → IsStep shape state ideal actor (Poll reg write) found left tables → IsSimulated shape state ideal (one actor (Poll reg write) found left tables)
  simulates_poll None write is =
      let local = locals_of state actor in
      quiet shape state ideal actor _ (Vcpu actor) left is.good is.sound is.related is.takes.actor (has is)
      (record {
        says = says_found is ∙ sym (ap (λ n. (vcpu_of n).lpis) is.takes.left ∙ lpis_back (record (vcpu_of found) { kick = false }));
        at = refl;
        mine = λ there.
            let says = is.related.seats actor there in
            record {
              at = says.at;
              cpu = record { same = says.cpu.same; lpis = λ h. says_found is ∙ h };
              given = ap (list_all (λ (entry : AtIrq). not entry.given)) is.takes.meets;
            };
      })
  simulates_poll (Some reg) write is = of (vcpu_of found).kick
    where
      of : (b : Bool)
          → IsSimulatedAs shape (left_as shape state actor (Poll (Some reg) write) left (cond b (record (locals_of state actor) { phase = Folding }) (accessed reg write (locals_of state actor))) (one actor (Poll (Some reg) write) found left tables).made state.maps) ideal actor
          (cond b None (with_found (Cpu actor reg write) (Answer (interface_answer reg write (interface_of (locals_of state actor))))))
      of true =
          quiet shape state ideal actor _ (Vcpu actor) left is.good is.sound is.related is.takes.actor (has is)
          (record {
            says = says_found is ∙ sym (ap (λ n. (vcpu_of n).lpis) is.takes.left ∙ lpis_back (record (vcpu_of found) { kick = false }));
            at = refl;
            mine = λ there. let says = is.related.seats actor there in record { at = says.at; cpu = says.cpu; given = refl };
          })
      of false = accesses reg write is
