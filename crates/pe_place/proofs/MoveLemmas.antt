-- Parts of a vCPU, one after the other.
use Rattle.std.proofs.Common.{◌≡◌, ℕ, inl, List, [], ◌∷◌, ◌++◌, map, None, append-nil, sym, ap, subst, ◌∙◌}
use Rattle.std.proofs.lemmas.Grind.{flat_map-append}
use Rattle.std.proofs.lemmas.List.{map-append}
use Rattle.std.proofs.lemmas.List.Elements.{All-nil, All-cons, All-append}
use Rattle.std.proofs.lemmas.List.Sums.{fold-append}
use Rattle.gic_msi.specs.Calls.{Residence}
use Rattle.pe_op.specs.VcpuState.declared.shelved.Shelved.{Shelved}
use Rattle.pe_op.specs.VcpuState.declared.loaded.Loaded.{Loaded}
use Rattle.gic_msi.specs.Core.{Made, Seen, Adds, shape_of, seen_after, MakesCall, Progress, progressed, progress_of, IsProper}
use Rattle.gic_msi.proofs.PortCore.PortLemmas.{adds_join, seen_joins}
use Rattle.gic_msi.proofs.CoreProper.PartLemmas.{proper_append}
use Rattle.gic_msi.proofs.PortCall.PieceLemmas.{seen_nil}
use Rattle.pe_op.specs.PeLoop.Enter.{Enters, IsBetween}
use Rattle.pe_op.specs.PeLoop.Leave.{Leaves}
use Rattle.pe_op.proofs.PeIcc.LawLemmas.{entry_runs, exit_rests}
use Rattle.law_serial_is_eager.specs.Serial.{WholePart}
use Rattle.pe_place.specs.declared.place.Place.{Place}
use Rattle.pe_place.specs.declared.place.Place.TheVariants.{Pe}
use Rattle.pe_place.specs.Parts.{Part, residence, steps_in, acts_of, acts_in, IsCallFound, AreCalls, by_actor, AreResidences}
use Rattle.pe_place.specs.Place.{IsAt, IsFollowed, HasRegisters}
use Rattle.pe_place.specs.Moves.{Moves}
use Rattle.pe_place.proofs.FoundLemmas.{residence_call}
use Rattle.pe_place.proofs.KindLemmas.{residences_none, residences_one, residences_join}

-- none
pub moves_none : (seen : Seen) (place : Place) → IsAt seen place → Moves AreResidences seen seen place place
moves_none seen place at = record { parts = []; are = residences_none; registers = λ lrs one two. All-nil (λ (part : Part). part.lrs ≡ lrs); adds = record { new_is = sym (seen_nil seen) }; calls = tt; proper = λ p so. tt; goes_on = λ p so. so; at = at }

-- one
unfoldable pub moves_once :
    (Are : List WholePart → Type 0) (old new : Seen) (before after : Place) (part : Part) → Are (by_actor old.actor part ∷ []) → ((lrs : ℕ) → HasRegisters lrs before → HasRegisters lrs after → part.lrs ≡ lrs) → Adds old new part.steps → IsCallFound old part → ((p : Progress) → IsFollowed old before p → IsProper (shape_of old) old.actor p (acts_of part))
    → ((p : Progress) → IsFollowed old before p → IsFollowed new after (progress_of (shape_of old) old.actor p (acts_of part))) → IsAt new after → Moves Are old new before after
moves_once Are old new before after part are registers adds call proper goes_on at =
    record {
      parts = part ∷ [];
      are = are;
      registers = λ lrs one two. All-cons (λ (part : Part). part.lrs ≡ lrs) part [] (registers lrs one two) (All-nil (λ (part : Part). part.lrs ≡ lrs));
      adds = subst (Adds old new) (sym (append-nil part.steps)) adds;
      calls = (inl call, tt);
      proper = λ p so. subst (IsProper (shape_of old) old.actor p) (sym (append-nil (acts_of part))) (proper p so);
      goes_on = λ p so. subst (λ acts. IsFollowed new after (progress_of (shape_of old) old.actor p acts)) (sym (append-nil (acts_of part))) (goes_on p so);
      at = at;
    }

-- a residence
pub residence_found : (seen : Seen) (lrs : ℕ) (steps : List Made) → MakesCall seen steps Residence None → IsCallFound seen (residence lrs steps)
residence_found seen lrs steps made = record { made = made; found = residence_call seen steps None made }

-- some after others

pub calls_join : (seen : Seen) (early late : List Part) → AreCalls seen early → AreCalls (seen_after seen (steps_in early)) late → AreCalls seen (early ++ late)
calls_join seen [] late first second = subst (λ seen. AreCalls seen late) (seen_nil seen) second
calls_join seen (part ∷ early) late first second = (first.0, calls_join (seen_after seen part.steps) early late first.1 (subst (λ seen. AreCalls seen late) (seen_joins seen part.steps (steps_in early)) second))

pub moves_then : (old mid new : Seen) (before between after : Place) → ((lrs : ℕ) → HasRegisters lrs before → HasRegisters lrs between) → Moves AreResidences old mid before between → Moves AreResidences mid new between after → Moves AreResidences old new before after
moves_then old mid new before between after still one two =
    let shape = shape_of old in
    let actor = old.actor in
    let is = one.adds.new_is in
    let acts = flat_map-append acts_of one.parts two.parts in
    let middle : Progress → Progress = λ p. progress_of shape actor p (acts_in one.parts) in
    record {
      parts = one.parts ++ two.parts;
      are =
          subst AreResidences (sym (map-append (by_actor actor) one.parts two.parts))
          (residences_join (map (by_actor actor) one.parts) (map (by_actor actor) two.parts) one.are (subst (λ (seen : Seen). AreResidences (map (by_actor seen.actor) two.parts)) is two.are));
      registers = λ lrs first last. All-append (λ (part : Part). part.lrs ≡ lrs) one.parts two.parts (one.registers lrs first (still lrs first)) (two.registers lrs (still lrs first) last);
      adds = subst (Adds old new) (sym (flat_map-append (λ (part : Part). part.steps) one.parts two.parts)) (adds_join old mid new (steps_in one.parts) (steps_in two.parts) one.adds two.adds);
      calls = calls_join old one.parts two.parts one.calls (subst (λ seen. AreCalls seen two.parts) is two.calls);
      proper = λ p so.
          subst (IsProper shape actor p) (sym acts)
          ((proper_append shape actor p (acts_in one.parts) (acts_in two.parts)).1
          (one.proper p so, subst (λ (seen : Seen). IsProper (shape_of seen) seen.actor (middle p) (acts_in two.parts)) is (two.proper (middle p) (one.goes_on p so))));
      goes_on = λ p so.
          subst (IsFollowed new after) (sym (ap (progress_of shape actor p) acts ∙ fold-append (progressed shape actor) p (acts_in one.parts) (acts_in two.parts)))
          (subst (λ (seen : Seen). IsFollowed new after (progress_of (shape_of seen) seen.actor (middle p) (acts_in two.parts))) is (two.goes_on (middle p) (one.goes_on p so)));
      at = two.at;
    }

-- An entry, and an exit.

pub moves_in : (old new : Seen) (before : Place) (vcpu : Shelved) (lrs : ℕ) (loaded : Loaded) → ((p : Progress) → IsFollowed old before p → IsBetween old p) → Enters old new vcpu lrs loaded → Moves AreResidences old new before (Pe loaded)
moves_in old new before vcpu lrs loaded between enters =
    moves_once AreResidences old new before (Pe loaded) (residence lrs enters.part) (residences_one old.actor lrs enters.part) (λ n one two. sym enters.lrs_is ∙ two) enters.adds (residence_found old lrs enters.part enters.call) (λ p so. enters.whole_part p (between p so)) (λ p so. entry_runs old new vcpu lrs loaded enters p (between p so)) enters.up

pub moves_out : (old new : Seen) (vcpu : Loaded) (after : Place) (shelved : Shelved) → ((p : Progress) → IsBetween new p → IsFollowed new after p) → IsAt new after → Leaves old new vcpu shelved → Moves AreResidences old new (Pe vcpu) after
moves_out old new vcpu after shelved between at leaves =
    let lrs = vcpu.regs.n in
    moves_once AreResidences old new (Pe vcpu) after (residence lrs leaves.part) (residences_one old.actor lrs leaves.part) (λ n one two. one) leaves.adds (residence_found old lrs leaves.part leaves.call) (λ p run. (exit_rests old new lrs vcpu shelved leaves p run).proper)
    (λ p run. between (progress_of (shape_of old) old.actor p (acts_of (residence lrs leaves.part))) (exit_rests old new lrs vcpu shelved leaves p run).between) at
