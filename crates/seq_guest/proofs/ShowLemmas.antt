-- A vCPU that left its PE and entered it again, among those of its guest: it holds what the scan of that entry chose.
use Rattle.std.proofs.Common.{◌≡◌, ℕ, ◌<◌, ◌&&◌, not, Bool, true, false, if◌then◌else◌, IsTrue, List, [], ◌∷◌, ◌++◌, map, set, Some, None, append-nil, refl, sym, ap, subst, ◌∙◌}
use Rattle.std.specs.Prelude.{slice_get}
use Rattle.std.specs.List.{list_all}
use Rattle.std.proofs.Math.Logic.{∥∥₁_elim}
use Rattle.std.proofs.Props.{props}
use Rattle.std.proofs.lemmas.Bool.{and_parts}
use Rattle.std.proofs.lemmas.List.Folds.{list_all-append}
use Rattle.std.proofs.lemmas.Option.{slice_get_within}
use Rattle.guest_end.specs.Calls.{Residence}
use Rattle.guest_end.specs.IdealGuests.CanOpen.{CanOpen}
use Rattle.guest_end.specs.IdealGuests.declared.guest.IdealGuest.{IdealGuest}
use Rattle.pe_place.specs.VcpuState.declared.loaded.Loaded.{Loaded}
use Rattle.pe_place.specs.Core.{Made, CoreStep, Kick, Poll, Adds, IsRun, IsSound, opening, entry_by, part_of, Progress, IsProper}
use Rattle.port_seq.proofs.PortCore.RunLemmas.{run_splits}
use Rattle.pe_place.specs.PortCall.Piece.{steps_of}
use Rattle.law_entries_are_plans.specs.LawRegistersStand.Asks.{IsUnkicked}
use Rattle.port_seq.proofs.KeptLemmas.{told_sound}
use Rattle.port_seq.specs.Told.{GuestTold, seen_of, state_of}
use Rattle.pe_place.specs.PeLoop.Steps.{all_are, all_hit, is_claim, is_mark, is_search, IsEntryPart}
use Rattle.pe_place.specs.PeIcc.Amid.{IsRunning}
use Rattle.law_entries_are_plans.specs.Entry.{IsEntry, looks_for_kick}
use Rattle.pe_place.specs.declared.place.Place.{Place}
use Rattle.pe_place.specs.declared.place.Place.TheVariants.{Shelf, Aside, Pe}
use Rattle.seq_guest.specs.declared.vcpus.Vcpus.{Vcpus}
use Rattle.pe_place.specs.Parts.{acts_in, acts_of, by_actor, residence, steps_in, AreResidences, progress_after}
use Rattle.pe_place.specs.Place.{HasRegisters}
use Rattle.pe_place.specs.Moves.{Reenters, ReentersAt}
use Rattle.seq_guest.specs.Guest.{seen_by, AreAt, Shows}
use Rattle.seq_guest.proofs.GuestLemmas.{one_goes, one_parts, progress_mine}
use Rattle.seq_guest.proofs.LoneLemmas.{part_unkicked}
use Rattle.seq_guest.proofs.PlacesLemmas.{get_same}
use Rattle.seq_guest.proofs.SeatLemmas.{IsLater, is_later, later_state}

-- The part is an entry.

none_looks : List Made → Bool
none_looks steps = list_all (λ made. not (looks_for_kick made.step)) steps

looks_none : (test : CoreStep → Bool) → ((step : CoreStep) → IsTrue (test step) → IsTrue (not (looks_for_kick step))) → (steps : List Made) → IsTrue (all_are test steps) → IsTrue (none_looks steps)
unfolding none_looks
looks_none test so [] h = refl
looks_none test so (made ∷ steps) h =
    let parts = and_parts (test made.step) (all_are test steps) h in
    ap (λ b. b && list_all (λ (made : Made). not (looks_for_kick made.step)) steps) (so made.step parts.0) ∙ looks_none test so steps parts.1

searches : (step : CoreStep) → IsTrue (is_search step) → IsTrue (not (looks_for_kick step))
searches (Poll reg write) h = absurd (cc)
searches step h = refl

claims_so : (step : CoreStep) → IsTrue (is_claim step) → IsTrue (not (looks_for_kick step))
claims_so (Poll reg write) h = absurd (cc)
claims_so step h = refl

marks_so : (step : CoreStep) → IsTrue (is_mark step) → IsTrue (not (looks_for_kick step))
marks_so (Poll reg write) h = absurd (cc)
marks_so step h = refl

kicks_so : (vcpu : ℕ) (b : Bool) (kick : List Made) → steps_of kick ≡ (if b then [] else Kick vcpu ∷ []) → IsTrue (none_looks kick)
unfolding none_looks
kicks_so vcpu b [] is = refl
kicks_so vcpu true (made ∷ kick) is = absurd (cc)
kicks_so vcpu false (made ∷ []) is = let step : made.step ≡ Kick vcpu = cc in ap (λ step. not (looks_for_kick step) && true) step
kicks_so vcpu false (made ∷ other ∷ kick) is = absurd (cc)

looks_join : (early late : List Made) → IsTrue (none_looks early) → IsTrue (none_looks late) → IsTrue (none_looks (early ++ late))
unfolding none_looks
looks_join early late one two = list_all-append (λ (made : Made). not (looks_for_kick made.step)) early late ∙ ap (λ b. b && list_all (λ (made : Made). not (looks_for_kick made.step)) late) one ∙ two

is_entry : (vcpu lrs : ℕ) (exit entry : List Made) → IsEntryPart vcpu entry → IsEntry (by_actor vcpu (residence lrs (exit ++ entry)))
unfolding none_looks
is_entry vcpu lrs exit entry is =
    record {
      operation = refl;
      before = exit;
      look = is.look;
      after = is.search ++ is.claims ++ is.marks ++ is.kick;
      steps = ap (λ entry. exit ++ entry) is.part_is;
      scans = is.look_is;
      last =
          looks_join (is.search ++ is.claims ++ is.marks) is.kick
          (looks_join (is.search ++ is.claims) is.marks (looks_join is.search is.claims (looks_none is_search searches is.search is.search_is) (looks_none is_claim claims_so is.claims is.claims_are)) (looks_none is_mark marks_so is.marks is.marks_are))
          (kicks_so vcpu (all_hit is.claims) is.kick is.kick_is);
    }

-- After it the vCPU is not kicked.

record HasRun (old : GuestTold) (steps : List Made) : Type 0 where
  sound : IsSound old.guest.shape (state_of old)
  run : IsRun old.guest.shape (state_of old) (map (entry_by old.actor) steps)

has_run : (old new : GuestTold) (steps : List Made) → IsLater old new steps → CanOpen old.guest → IsRun new.guest.shape (opening new.guest new.number) new.world → HasRun old steps
has_run old new steps later good run =
    let entries = map (entry_by old.actor) steps in
    let at : IsRun old.guest.shape (opening old.guest old.number) (old.world ++ entries)
    = subst (λ (guest : IdealGuest). IsRun guest.shape (opening guest old.number) (old.world ++ entries)) later.same.guest
    (subst (λ number. IsRun new.guest.shape (opening new.guest number) (old.world ++ entries)) later.same.number (subst (IsRun new.guest.shape (opening new.guest new.number)) later.world run)) in
    let runs = run_splits old.guest.shape (opening old.guest old.number) old.world entries at in
    record { sound = told_sound old good runs.0; run = runs.1 }

reentered_unkicked :
    (old new : GuestTold) (before after : Loaded) (re : Reenters (seen_of old) (seen_of new) before after) (p : Progress) → CanOpen old.guest → old.actor < old.guest.shape.vcpus → IsRunning (seen_of old) before p → IsRun new.guest.shape (opening new.guest new.number) new.world
    → IsUnkicked old.guest.shape (state_of new) old.actor
reentered_unkicked old new before after re p good within running run =
    let shape = old.guest.shape in
    let steps = re.exit ++ re.entry in
    let adds : Adds (seen_of old) (seen_of new) steps = subst (Adds (seen_of old) (seen_of new)) (ap steps_in re.alone ∙ append-nil steps) re.moves.adds in
    let later = is_later old new steps adds in
    let has = has_run old new steps later good run in
    let proper : IsProper shape old.actor p (part_of Residence before.regs.n steps None)
    = subst (IsProper shape old.actor p) (ap acts_in re.alone ∙ append-nil (acts_of (residence before.regs.n steps))) (re.moves.proper p running) in
    subst (λ state. IsUnkicked shape state old.actor) (sym (later_state old new steps later))
    (part_unkicked shape old.actor (state_of old) p before.regs.n re.exit re.entry good.sound.shape within re.entry_is has.sound has.run proper)

pub one_shows :
    (told new : GuestTold) (before next : Vcpus) (vcpu : ℕ) (place after : Place) → next.lrs ≡ before.lrs → next.places.items ≡ set before.places.items vcpu after → vcpu < told.guest.shape.vcpus → slice_get before.places.items vcpu ≡ Some place → AreAt told before
    → ReentersAt (seen_by told vcpu) (seen_of new) place after → HasRegisters before.lrs after → CanOpen told.guest → ∥ IsRun new.guest.shape (opening new.guest new.number) new.world ∥₁ → Shows told new before next vcpu
one_shows told new before next vcpu (Shelf shelved) (Shelf other) lrs is there has at re registers good run = absurd re
one_shows told new before next vcpu (Shelf shelved) (Aside other) lrs is there has at re registers good run = absurd re
one_shows told new before next vcpu (Shelf shelved) (Pe other) lrs is there has at re registers good run = absurd re
one_shows told new before next vcpu (Aside shelved) (Shelf other) lrs is there has at re registers good run = absurd re
one_shows told new before next vcpu (Aside shelved) (Aside other) lrs is there has at re registers good run = absurd re
one_shows told new before next vcpu (Aside shelved) (Pe other) lrs is there has at re registers good run = absurd re
one_shows told new before next vcpu (Pe loaded) (Shelf other) lrs is there has at re registers good run = absurd re
one_shows told new before next vcpu (Pe loaded) (Aside other) lrs is there has at re registers good run = absurd re
one_shows told new before next vcpu (Pe loaded) (Pe other) lrs is there has at re registers good run =
    let old : GuestTold = record told { actor = vcpu } in
    let shape = told.guest.shape in
    let items = before.places.items in
    let parts = one_parts AreResidences told new before next vcpu (Pe loaded) (Pe other) lrs is there has at re.moves registers in
    let after_is : (progress : ℕ → Progress) → progress_after shape (one_goes AreResidences told new before next vcpu (Pe loaded) (Pe other) lrs is there has at re.moves registers).parts progress vcpu ≡ progress_after shape (map (by_actor vcpu) re.moves.parts) progress vcpu
    = λ progress. ap (λ parts. progress_after shape parts progress vcpu) parts in
    record {
      goes_on = one_goes AreResidences told new before next vcpu (Pe loaded) (Pe other) lrs is there has at re.moves registers;
      part = by_actor vcpu (residence loaded.regs.n (re.exit ++ re.entry));
      alone = parts ∙ ap (map (by_actor vcpu)) re.alone;
      actor = refl;
      lrs = (at.places vcpu (Pe loaded) has).1;
      entry = is_entry vcpu loaded.regs.n re.exit re.entry re.entry_is;
      entered = λ progress so.
          let running = so.places vcpu (Pe loaded) has in
          record {
            unkicked = ∥∥₁_elim run (Prim.hlevel props) (λ run. reentered_unkicked old new loaded other re (progress vcpu) good there running run);
            none_failed =
                ap (λ (p : Progress). p.failed) (after_is progress) ∙ ap (λ (p : Progress). p.failed) (sym (progress_mine shape vcpu re.moves.parts progress)) ∙ (re.moves.goes_on (progress vcpu) running).none_failed;
            untrapped = ap (λ (p : Progress). p.scanned) (after_is progress) ∙ ap (λ (p : Progress). p.scanned) (sym (progress_mine shape vcpu re.moves.parts progress)) ∙ re.untrapped (progress vcpu) running;
          };
      loaded = other;
      place = ap (λ items. slice_get items vcpu) is ∙ get_same items vcpu (Pe other) (slice_get_within items vcpu (Pe loaded) has);
    }
