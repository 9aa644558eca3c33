-- A vCPU that owes a scan owes it until it begins one: so whoever gets on a PE begins one.
use Rattle.std.proofs.Common.{◌≡◌, ◌≢◌, ℕ, ◌==◌, ◌||◌, not, Bool, true, false, if◌then◌else◌, inl, inr, List, [], ◌∷◌, ◌++◌, map, Option, Some, None, refl, sym, ap, ◌∙◌, subst}
use Rattle.std.specs.Prelude.{slice_get}
use Rattle.std.specs.List.{list_any}
use Rattle.std.specs.Option.{option_map_or}
use Rattle.std.proofs.lemmas.Bool.{cases_eq, eq-eqb, ne_eqb}
use Rattle.std.proofs.lemmas.List.Folds.{list_any-append}
use Rattle.std.proofs.lemmas.List.Sums.{fold-append}
use Rattle.law_ends_agree.specs.Words.{GuestShape, Icc, IccReg, Irq as Record, Key, Mem, irq_of}
use Rattle.law_ends_agree.specs.Calls.{Operation, Access, Device, Residence}
use Rattle.law_ends_agree.specs.Core.{CoreStep, Look, Raise, Claim, GiveBack, Release, Poll, Kick, Touch, Want, WireUp, WireDown, EnableLpis, RamLook, RamPut, CtlrTake, CtlrEnd, TurnTake, CommandDone, TurnRelease, Mark, TakeIndex, LineEnter, LineLeave, LineFill, LineClose, Irq, Vcpu, Ctlr, Plain, Queue, Index, Line, Made, local_after, succeeds, vcpu_of, Seen, IsAtRest, makes, begins, ends, Progress, Debt, paid, before_next, after_claim, after_icc, after_poll, is_to_scan, owed_after_part, owed_by_call, owing_after, progress_of, progressed, stepped, after_operation, Scan, idle, taking, looking, claiming}
use Rattle.law_one_thread_is_eager.specs.LawSerialIsEager.CoreProper.Progress.{changed_by}
use Rattle.law_one_thread_is_eager.specs.LawSerialIsEager.Lists.{misr_of}
use Rattle.law_one_thread_is_eager.specs.PortSeq.Told.{GuestTold}
use Rattle.law_one_thread_is_eager.specs.SeqGuest.declared.vcpus.Vcpus.{Vcpus}
use Rattle.law_one_thread_is_eager.specs.PePlace.declared.place.Place.{Place}
use Rattle.law_one_thread_is_eager.specs.PePlace.declared.place.Place.TheVariants.{Shelf, Aside, Pe}
use Rattle.law_one_thread_is_eager.specs.PePlace.VcpuState.declared.loaded.Loaded.{Loaded}
use Rattle.law_one_thread_is_eager.specs.PePlace.Parts.{AreResidences, Part, acts_in, acts_of, parts_by, progress_after, steps_in}
use Rattle.law_one_thread_is_eager.specs.PePlace.Place.{IsFollowed, pe, shelf, spot_of}
use Rattle.law_one_thread_is_eager.specs.SeqGuest.Guest.{AreFollowed, GoesOn, seen_by, spot_at}
use Rattle.law_one_thread_is_eager.proofs.SeqGuest.PePlace.CoreProper.ScanLemmas.{debt_on}
use Rattle.run_seq.specs.Steps.{begins_scan, enters_in}

neither : (a b : Bool) → (a || b) ≡ false → (a ≡ false) × (b ≡ false)
neither true b e = absurd (cc)
neither false b e = (refl, e)

-- A step.

owes_still : (a b : Bool) → (if a || b || true then before_next else paid) ≡ before_next
owes_still true true = refl
owes_still true false = refl
owes_still false true = refl
owes_still false false = refl

call_owes : (operation : Operation) (debt : Debt) → debt ≡ before_next → owed_by_call operation debt ≡ before_next
call_owes (Access (Icc reg write)) debt owes = owes
call_owes (Access (Mem frame offset size write)) debt owes = refl
call_owes (Device op) debt owes = owes
call_owes Residence debt owes = owes

icc_owes : (reg : IccReg) (write : Option ℕ) (p : Progress) → p.debt ≡ before_next → (after_icc reg write p).debt ≡ before_next
icc_owes reg write p owes =
    let regs = after_operation p.trapping reg write p.regs in
    ap (λ (debt : Debt). if is_to_scan regs p.trapping debt then before_next else paid) owes ∙ owes_still (not (misr_of regs == 0)) p.trapping

poll_owes : (reg : IccReg) (write : Option ℕ) (kicked : Bool) (p : Progress) → p.debt ≡ before_next → (after_poll (Some reg) write kicked p).debt ≡ before_next
poll_owes reg write true p owes = owes
poll_owes reg write false p owes = icc_owes reg write p owes

claim_owes : (key : Key) (irq : Record) (done : Bool) (scan : Scan) (p : Progress) → p.debt ≡ before_next → (after_claim key irq done scan p).debt ≡ before_next
claim_owes key irq done idle p owes = ap owing_after owes
claim_owes key irq done (taking purpose words) p owes = ap owing_after owes
claim_owes key irq done (looking purpose from offers) p owes = ap owing_after owes
claim_owes key irq done (claiming claims takes) p owes = owes

module _ (shape : GuestShape) (actor : ℕ) where
  change_owes : (step : CoreStep) (found : ℕ) (done : Bool) (p : Progress) → begins_scan step ≡ false → p.debt ≡ before_next → (changed_by shape actor step found done p).debt ≡ before_next
  change_owes (Look (Irq key)) found done p none owes = owes
  change_owes (Look (Vcpu vcpu)) found done p none owes = owes
  change_owes (Look Queue) found done p none owes = owes
  change_owes (Look Ctlr) found done p none owes = owes
  change_owes (Look (Plain index)) found done p none owes = owes
  change_owes (Look (Index vcpu word)) found done p none owes = owes
  change_owes (Look (Line line)) found done p none owes = owes
  change_owes (Raise key) found done p none owes = owes
  change_owes (Claim key seen) found done p none owes = claim_owes key (irq_of found) done p.scan p owes
  change_owes (GiveBack key back) found done p none owes = owes
  change_owes (Release key) found done p none owes = owes
  change_owes (Poll None write) found done p none owes = absurd (cc)
  change_owes (Poll (Some reg) write) found done p none owes = poll_owes reg write (vcpu_of found).kick p owes
  change_owes (Kick vcpu) found done p none owes = owes
  change_owes (Touch key seen kind) found done p none owes = owes
  change_owes (Want key) found done p none owes = owes
  change_owes (WireUp key) found done p none owes = owes
  change_owes (WireDown key) found done p none owes = owes
  change_owes (EnableLpis vcpu) found done p none owes = owes
  change_owes (RamLook index) found done p none owes = owes
  change_owes (RamPut index seen value) found done p none owes = owes
  change_owes (CtlrTake seen value) found done p none owes = owes
  change_owes CtlrEnd found done p none owes = owes
  change_owes (TurnTake seen) found done p none owes = owes
  change_owes (CommandDone offset stalled ending) found done p none owes = owes
  change_owes TurnRelease found done p none owes = owes
  change_owes (Mark key vcpu) found done p none owes = owes
  change_owes (TakeIndex word) found done p none owes = owes
  change_owes (LineEnter line seen) found done p none owes = owes
  change_owes (LineLeave line) found done p none owes = owes
  change_owes (LineFill line device event lpi) found done p none owes = owes
  change_owes (LineClose line) found done p none owes = owes

  step_owes : (made : Made) (p : Progress) → begins_scan made.step ≡ false → p.debt ≡ before_next → (stepped shape actor made p).debt ≡ before_next
  step_owes made p none owes =
      let done = succeeds shape actor p.local made.step made.found in
      let after = changed_by shape actor made.step made.found done p in
      debt_on shape actor (record after { local = local_after shape actor p.local made.step made.found; own = p.own ++ made ∷ [] }) ∙ change_owes made.step made.found done p none owes

  -- Its parts.

  steps_owe : (steps : List Made) (answer : Option ℕ) (p : Progress) → list_any (λ (made : Made). begins_scan made.step) steps ≡ false → p.debt ≡ before_next → (progress_of shape actor p (map makes steps ++ ends answer ∷ [])).debt ≡ before_next
  steps_owe [] answer p none owes = ap owed_after_part owes
  steps_owe (made ∷ steps) answer p none owes =
      let both = neither (begins_scan made.step) (list_any (λ (made : Made). begins_scan made.step) steps) none in
      steps_owe steps answer (stepped shape actor made p) both.1 (step_owes made p both.0 owes)

  parts_owe : (parts : List Part) (p : Progress) → list_any (λ (made : Made). begins_scan made.step) (steps_in parts) ≡ false → p.debt ≡ before_next → (progress_of shape actor p (acts_in parts)).debt ≡ before_next
  parts_owe [] p none owes = owes
  parts_owe (part ∷ parts) p none owes =
      let begin : Made → Bool = λ made. begins_scan made.step in
      let both = neither (list_any begin part.steps) (list_any begin (steps_in parts)) (sym (list_any-append begin part.steps (steps_in parts)) ∙ none) in
      ap (λ (p : Progress). p.debt) (fold-append (progressed shape actor) p (acts_of part) (acts_in parts))
      ∙ parts_owe parts (progress_of shape actor p (acts_of part)) both.1
      (steps_owe part.steps part.answer (progressed shape actor p (begins part.operation part.lrs)) both.0 (call_owes part.operation p.debt owes))

-- A guest's protocols, with a scan owed by one vCPU.

abbrev owing : Progress → Progress
owing p = record p { debt = before_next }

abbrev owed_by : ℕ → (ℕ → Progress) → ℕ → Progress
owed_by vcpu progress actor = if actor == vcpu then owing (progress actor) else progress actor

owes_it : (vcpu actor : ℕ) (progress : ℕ → Progress) → actor ≡ vcpu → owed_by vcpu progress actor ≡ owing (progress actor)
owes_it vcpu actor progress same = ap (λ (b : Bool). if b then owing (progress actor) else progress actor) (eq-eqb actor vcpu same)

owes_none : (vcpu actor : ℕ) (progress : ℕ → Progress) → actor ≢ vcpu → owed_by vcpu progress actor ≡ progress actor
owes_none vcpu actor progress apart = ap (λ (b : Bool). if b then owing (progress actor) else progress actor) (ne_eqb actor vcpu apart)

rest_owing : (seen : Seen) (p : Progress) → IsAtRest seen p → IsAtRest seen (owing p)
rest_owing seen p rest = record { local = rest.local; own = rest.own; scan = rest.scan; wants = rest.wants }

off_owing : (seen : Seen) (place : Place) (p : Progress) → spot_of place ≡ shelf → IsFollowed seen place p → IsFollowed seen place (owing p)
off_owing seen (Shelf vcpu) p off so = record { rest = rest_owing seen p so.rest; none_failed = so.none_failed; debt = refl }
off_owing seen (Aside vcpu) p off so = absurd (cc)
off_owing seen (Pe vcpu) p off so = absurd (cc)

followed_owing : (told : GuestTold) (vcpus : Vcpus) (vcpu : ℕ) (progress : ℕ → Progress) → spot_at vcpus vcpu ≡ shelf → AreFollowed told vcpus progress → AreFollowed told vcpus (owed_by vcpu progress)
followed_owing told vcpus vcpu progress off so = record {
  places = λ other place has. elim (cases_eq other vcpu) [
    | inl same ↦
        subst (IsFollowed (seen_by told other) place) (sym (owes_it vcpu other progress same))
        (off_owing (seen_by told other) place (progress other) (sym (ap (λ o. option_map_or spot_of o shelf) has) ∙ ap (spot_at vcpus) same ∙ off) (so.places other place has))
    | inr apart ↦ subst (IsFollowed (seen_by told other) place) (sym (owes_none vcpu other progress apart)) (so.places other place has)
  ];
  devices = λ actor low high. elim (cases_eq actor vcpu) [
    | inl same ↦ subst (IsAtRest (seen_by told actor)) (sym (owes_it vcpu actor progress same)) (rest_owing (seen_by told actor) (progress actor) (so.devices actor low high))
    | inr apart ↦ subst (IsAtRest (seen_by told actor)) (sym (owes_none vcpu actor progress apart)) (so.devices actor low high)
  ];
}

-- Whoever gets on a PE.

record IsUpAt (vcpus : Vcpus) (vcpu : ℕ) : Type 0 where
  loaded : Loaded
  is : slice_get vcpus.places.items vcpu ≡ Some (Pe loaded)

up_at : (vcpus : Vcpus) (vcpu : ℕ) → spot_at vcpus vcpu ≡ pe → IsUpAt vcpus vcpu
up_at vcpus vcpu on = of (slice_get vcpus.places.items vcpu) refl on
  where
    of : (o : Option Place) → slice_get vcpus.places.items vcpu ≡ o → option_map_or spot_of o shelf ≡ pe → IsUpAt vcpus vcpu
    of None e on = absurd (cc)
    of (Some (Shelf shelved)) e on = absurd (cc)
    of (Some (Aside shelved)) e on = absurd (cc)
    of (Some (Pe loaded)) e on = record { loaded = loaded; is = e }

module _ (old new : GuestTold) (before after : Vcpus) (vcpu : ℕ) (goes : GoesOn AreResidences old new before after) (off : spot_at before vcpu ≡ shelf) (on : spot_at after vcpu ≡ pe) (progress : ℕ → Progress) (so : AreFollowed old before progress) where
  owes_then : enters_in vcpu goes.parts ≡ false → ⊥
  owes_then none =
      let at = up_at after vcpu on in
      let owed = owed_by vcpu progress in
      let followed = goes.goes_on owed (followed_owing old before vcpu progress off so) in
      let still : (progress_after old.guest.shape goes.parts owed vcpu).debt ≡ before_next
      = parts_owe old.guest.shape vcpu (parts_by vcpu goes.parts) (owed vcpu) none (ap (λ (p : Progress). p.debt) (owes_it vcpu vcpu progress refl)) in
      never (sym still ∙ (followed.places vcpu (Pe at.loaded) at.is).debt)
    where
      never : before_next ≡ paid → ⊥
      never e = cc

  pub enters : enters_in vcpu goes.parts ≡ true
  enters = of (enters_in vcpu goes.parts) refl
    where
      of : (b : Bool) → enters_in vcpu goes.parts ≡ b → enters_in vcpu goes.parts ≡ true
      of true e = e
      of false e = absurd (owes_then e)
