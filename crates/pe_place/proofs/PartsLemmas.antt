-- Parts of several actors, one after the other.
use Rattle.std.proofs.Common.{◌≡◌, ◌≢◌, ℕ, inl, inr, ◌==◌, Bool, IsTrue, if◌then◌else◌, List, [], ◌∷◌, ◌++◌, map, filter, Option, append-nil, refl, sym, ap, subst, ◌∙◌}
use Rattle.std.proofs.lemmas.Bool.{eq-eqb, ne_eqb}
use Rattle.std.proofs.lemmas.Grind.{flat_map-append}
use Rattle.std.proofs.lemmas.List.{map-append}
use Rattle.std.proofs.lemmas.List.Elements.{filter-append}
use Rattle.law_serial_is_eager.specs.Histories.{IdealGuest}
use Rattle.gic_msi.specs.Calls.{Event, Beside, IsCall}
use Rattle.gic_msi.specs.Words.{target_in, irq_of}
use Rattle.gic_msi.specs.Core.{Local, Made, Seen, seen_after, local_by, events_of, part_events, MakesCall, MakesPost, vcpu_of_actor, entry_by}
use Rattle.pe_op.specs.PeMem.Found.{are_before, Finding, by_looks, by_commands, IsFinding, takes_its_by, IsCallAsFound}
use Rattle.pe_op.specs.PeMem.Looked.{IsLookedAt, all_events, comes_after, comes_before}
use Rattle.law_serial_is_eager.specs.Serial.{WholePart}
use Rattle.pe_place.specs.Parts.{Part, by_actor, part_in, steps_in, entries_in, parts_by, IsCallFound, IsPartFound, AreCalls, IsSeatAfter}

-- Those of one actor.

pub parts_of_one : (actor : ℕ) (parts : List Part) → parts_by actor (map (by_actor actor) parts) ≡ parts
parts_of_one actor [] = refl
parts_of_one actor (part ∷ parts) =
    let rest = filter (λ (one : WholePart). one.actor == actor) (map (by_actor actor) parts) in
    ap (λ (t : Bool). map part_in (if t then by_actor actor part ∷ rest else rest)) (eq-eqb actor actor refl) ∙ ap (λ parts. part ∷ parts) (parts_of_one actor parts)

pub parts_of_other : (actor other : ℕ) (parts : List Part) → other ≢ actor → parts_by other (map (by_actor actor) parts) ≡ []
parts_of_other actor other [] apart = refl
parts_of_other actor other (part ∷ parts) apart =
    let rest = filter (λ (one : WholePart). one.actor == other) (map (by_actor actor) parts) in
    ap (λ (t : Bool). map part_in (if t then by_actor actor part ∷ rest else rest)) (ne_eqb actor other (λ e. apart (sym e))) ∙ parts_of_other actor other parts apart

pub entries_of_one : (actor : ℕ) (parts : List Part) → entries_in (map (by_actor actor) parts) ≡ map (entry_by actor) (steps_in parts)
entries_of_one actor [] = refl
entries_of_one actor (part ∷ parts) = ap (λ entries. map (entry_by actor) part.steps ++ entries) (entries_of_one actor parts) ∙ sym (map-append (entry_by actor) part.steps (steps_in parts))

-- Some after others.

pub parts_append : (actor : ℕ) (early late : List WholePart) → parts_by actor (early ++ late) ≡ parts_by actor early ++ parts_by actor late
parts_append actor early late =
    let Mine : WholePart → Bool = λ one. one.actor == actor in
    ap (map part_in) (filter-append Mine early late) ∙ map-append part_in (filter Mine early) (filter Mine late)

pub entries_append : (early late : List WholePart) → entries_in (early ++ late) ≡ entries_in early ++ entries_in late
entries_append early late = flat_map-append (λ (one : WholePart). map (entry_by one.actor) one.steps) early late

pub steps_append : (early late : List Part) → steps_in (early ++ late) ≡ steps_in early ++ steps_in late
steps_append early late = flat_map-append (λ (part : Part). part.steps) early late

-- What an actor has for itself.

pub seat_none : (one other : Seen) → other.local ≡ one.local → other.own ≡ one.own → IsSeatAfter one other []
seat_none one other local own = record { local = local; own = own ∙ sym (append-nil one.own) }

-- it is all that its calls are about
pub record TellsSame (one other : Seen) : Type 0 where
  pub guest : other.guest ≡ one.guest
  pub actor : other.actor ≡ one.actor
  pub local : other.local ≡ one.local
  pub own : other.own ≡ one.own

call_same : (one other : Seen) (part : Part) → TellsSame one other → MakesCall one part.steps part.operation part.answer → MakesCall other part.steps part.operation part.answer
call_same one other part same makes =
    let Call : IdealGuest → ℕ → Local → List Made → Type 0
    = λ guest actor local own. IsCall guest.shape makes.beside (vcpu_of_actor guest.shape actor) part.operation (events_of guest.shape actor local own part.steps) part.answer in
    record {
      beside = makes.beside;
      maps = makes.maps;
      signals = makes.signals;
      call =
          subst (λ guest. Call guest other.actor other.local other.own) (sym same.guest)
          (subst (λ actor. Call one.guest actor other.local other.own) (sym same.actor)
          (subst (λ local. Call one.guest one.actor local other.own) (sym same.local) (subst (λ own. Call one.guest one.actor one.local own) (sym same.own) makes.call)));
    }

-- by what it found too

-- all events of some steps, after others
all_same : (test : Event → Bool) (one other : Seen) (early late : List Made) → TellsSame one other → all_events test (part_events (seen_after other early) late) ≡ all_events test (part_events (seen_after one early) late)
all_same test one other early late same =
    let Of : IdealGuest → ℕ → Local → List Made → Bool
    = λ guest actor local own. all_events test (events_of guest.shape actor (local_by guest.shape actor local early) (own ++ early) late) in
    ap (λ guest. Of guest other.actor other.local other.own) same.guest
    ∙ ap (λ actor. Of one.guest actor other.local other.own) same.actor
    ∙ ap (λ local. Of one.guest one.actor local other.own) same.local
    ∙ ap (λ own. Of one.guest one.actor one.local own) same.own

first_same : (test : Event → Bool) (one other : Seen) (early : List Made) → TellsSame one other → all_events test (part_events other early) ≡ all_events test (part_events one early)
first_same test one other early same =
    let Of : IdealGuest → ℕ → Local → List Made → Bool = λ guest actor local own. all_events test (events_of guest.shape actor local own early) in
    ap (λ guest. Of guest other.actor other.local other.own) same.guest
    ∙ ap (λ actor. Of one.guest actor other.local other.own) same.actor
    ∙ ap (λ local. Of one.guest one.actor local other.own) same.local
    ∙ ap (λ own. Of one.guest one.actor one.local own) same.own

looked_same : (one other : Seen) (steps : List Made) (id : ℕ) (target : Option ℕ) → TellsSame one other → IsLookedAt one steps id target → IsLookedAt other steps id target
looked_same one other steps id target same is =
    record {
      early = is.early;
      look = is.look;
      late = is.late;
      split = is.split;
      step_is = is.step_is;
      target_is = is.target_is ∙ ap (λ (guest : IdealGuest). target_in (irq_of is.look.found).route guest.shape) (sym same.guest);
      before = first_same (comes_before id) one other is.early same ∙ is.before;
      after = all_same (comes_after id) one other (is.early ++ is.look ∷ []) is.late same ∙ is.after;
    }

finding_same : (one other : Seen) (steps : List Made) (finding : Finding) → TellsSame one other → IsFinding one steps finding → IsFinding other steps finding
finding_same one other steps (by_looks goes_by targets) same is = λ id going. looked_same one other steps id (targets id) same (is id going)
finding_same one other steps (by_commands commands) same is =
    record {
      from = is.from;
      to = is.to;
      are = is.are;
      guest = is.guest ∙ sym same.guest;
      actor = is.actor ∙ sym same.actor;
      early = is.early;
      late = is.late;
      before =
          subst (λ guest. Before guest other.actor other.local other.own) (sym same.guest)
          (subst (λ actor. Before one.guest actor other.local other.own) (sym same.actor)
          (subst (λ local. Before one.guest one.actor local other.own) (sym same.local) (subst (λ own. Before one.guest one.actor one.local own) (sym same.own) is.before)));
      local =
          is.local
          ∙ sym
          (ap (λ (guest : IdealGuest). local_by guest.shape other.actor other.local is.early) same.guest
          ∙ ap (λ actor. local_by one.guest.shape actor other.local is.early) same.actor
          ∙ ap (λ local. local_by one.guest.shape one.actor local is.early) same.local);
      begins = is.begins ∙ ap (λ own. own ++ is.early) (sym same.own);
      ends = ap (λ own. own ++ steps) same.own ∙ is.ends;
    }
  where
    Before : IdealGuest → ℕ → Local → List Made → Type 0
    Before guest actor local own = IsTrue (are_before (events_of guest.shape actor local own is.early))

found_same : (one other : Seen) (part : Part) → TellsSame one other → IsCallAsFound one part.steps part.operation part.answer → IsCallAsFound other part.steps part.operation part.answer
found_same one other part same found =
    let Call : Beside → IdealGuest → ℕ → Local → List Made → Type 0
    = λ beside guest actor local own. IsCall guest.shape beside (vcpu_of_actor guest.shape actor) part.operation (events_of guest.shape actor local own part.steps) part.answer in
    record {
      finding = found.finding;
      kind = found.kind ∙ ap (λ (guest : IdealGuest). takes_its_by guest.shape part.operation) (sym same.guest);
      is_finding = finding_same one other part.steps found.finding same found.is_finding;
      call = λ beside maps agrees.
          subst (λ guest. Call beside guest other.actor other.local other.own) (sym same.guest)
          (subst (λ actor. Call beside one.guest actor other.local other.own) (sym same.actor)
          (subst (λ local. Call beside one.guest one.actor local other.own) (sym same.local)
          (subst (λ own. Call beside one.guest one.actor one.local own) (sym same.own)
          (found.call beside maps agrees))));
    }

after_same : (one other : Seen) (steps : List Made) → TellsSame one other → TellsSame (seen_after one steps) (seen_after other steps)
after_same one other steps same =
    record {
      guest = same.guest;
      actor = same.actor;
      local =
          ap (λ (guest : IdealGuest). local_by guest.shape other.actor other.local steps) same.guest
          ∙ ap (λ actor. local_by one.guest.shape actor other.local steps) same.actor
          ∙ ap (λ local. local_by one.guest.shape one.actor local steps) same.local;
      own = ap (λ own. own ++ steps) same.own;
    }

call_found_same : (one other : Seen) (part : Part) → TellsSame one other → IsCallFound one part → IsCallFound other part
call_found_same one other part same is = record { made = call_same one other part same is.made; found = found_same one other part same is.found }

events_same : (one other : Seen) (steps : List Made) → TellsSame one other → part_events other steps ≡ part_events one steps
events_same one other steps same =
    ap (λ (guest : IdealGuest). events_of guest.shape other.actor other.local other.own steps) same.guest
    ∙ ap (λ actor. events_of one.guest.shape actor other.local other.own steps) same.actor
    ∙ ap (λ local. events_of one.guest.shape one.actor local other.own steps) same.local
    ∙ ap (λ own. events_of one.guest.shape one.actor one.local own steps) same.own

post_same : (one other : Seen) (part : Part) → TellsSame one other → MakesPost one part.steps part.operation part.answer → MakesPost other part.steps part.operation part.answer
post_same one other part same is = record {
  entered = is.entered;
  early = is.early;
  raise = is.raise;
  late = is.late;
  split = is.split;
  inside = ap (λ (local : Local). local.line) (after_same one other is.early same).local ∙ is.inside;
  raises = is.raises;
  message = is.message;
  before = events_same one other is.early same ∙ is.before;
  after = events_same (seen_after one (is.early ++ is.raise ∷ [])) (seen_after other (is.early ++ is.raise ∷ [])) is.late (after_same one other (is.early ++ is.raise ∷ []) same) ∙ is.after;
  answers = is.answers;
}

part_found_same : (one other : Seen) (part : Part) → TellsSame one other → IsPartFound one part → IsPartFound other part
part_found_same one other part same (inl is) = inl (call_found_same one other part same is)
part_found_same one other part same (inr is) = inr (post_same one other part same is)

pub calls_same : (one other : Seen) (parts : List Part) → TellsSame one other → AreCalls one parts → AreCalls other parts
calls_same one other [] same calls = tt
calls_same one other (part ∷ parts) same calls = (part_found_same one other part same calls.0, calls_same (seen_after one part.steps) (seen_after other part.steps) parts (after_same one other part.steps same) calls.1)
