-- The worked part that takes a command, and the law of all these parts.
use Rattle.std.proofs.Common.{◌≡◌, ℕ, inl, ◌<◌, ◌+◌, nat_lt, true, false, IsTrue, List, [], ◌∷◌, ◌++◌, None, Some, IfSome, Err, Bool, take, nat_le, leb-true, ltb-true, append-nil, refl, sym, ◌∙◌, ap, subst, arith}
use Rattle.std.proofs.lemmas.Bool.{and_parts}
use Rattle.std.proofs.lemmas.List.Elements.{All-cons, All-nil}
use Rattle.law_serial_is_eager.proofs.GicCall.ReadLemmas.{last_read}
use Rattle.law_unmapped_lpis.specs.Words.{Lpi, has_interrupt, target_in, irq_of}
use Rattle.law_unmapped_lpis.specs.Registers.{least_in, with_level, without_level, UnknownNumber}
use Rattle.law_unmapped_lpis.specs.Calls.{Put, Stalls, Place, Beside, HandsOut, Happened, HaveSameIts, IsCall, IsLastRead, held_at, left_by, Cbaser, Cwriter, Fault, ItsCtlr, place_of_plain}
use Rattle.law_unmapped_lpis.specs.GicCall.declared.event.Event.TheVariants.{ItsEnd, Queue, Read}
use Rattle.law_unmapped_lpis.specs.GicCall.declared.event.Found.TheVariants.{Nothing, Word as FoundWord}
use Rattle.law_unmapped_lpis.specs.GicCall.declared.event.Place.TheVariants.{Queue as QueuePlace, Word}
use Rattle.law_unmapped_lpis.proofs.IdealGuests.OpeningLemmas.{empty_valid}
use Rattle.pe_mem.specs.Core.{CommandDone, RamLook, TurnRelease, known_maps, no_maps, Adds, Seen, part_events, seen_after, Made, vcpu_of_actor}
use Rattle.pe_mem.specs.Lists.{in_places}
use Rattle.pe_mem.specs.PortCall.Memory.{view_by}
use Rattle.law_unmapped_lpis.specs.Worked.{worked_guest}
use Rattle.law_unmapped_lpis.proofs.WorkedLemmas.{unmapped_is_for_none}
use Rattle.pe_mem.specs.Found.{by_commands}
use Rattle.pe_mem.specs.ItsExec.declared.known.KnownQueue.{KnownQueue}
use Rattle.pe_mem.specs.ItsExec.Known.{AgreeWith, IsUntouched, first_step, is_fetched}
use Rattle.pe_mem.specs.ItsExec.Queue.{IsReady, StallsAt, Taken, TakesCommand}
use Rattle.pe_mem.specs.ItsExec.Run.{AgreeAll, AreListed}
use Rattle.pe_mem.proofs.ItsExec.LookLemmas.{reading_none}
use Rattle.pe_mem.proofs.ItsExec.RunLemmas.{taken_are_run}
use Rattle.pe_mem.proofs.ItsExec.TakeLemmas.{took_bad}
use Rattle.pe_mem.proofs.PortCall.PieceLemmas.{piece_joins, piece_one}
use Rattle.law_serial_is_eager.specs.Serial.{AreFit}
use Rattle.law_found_parts_are_calls.specs.Found.{AreFoundParts, IsFoundCall}
use Rattle.law_found_parts_are_calls.specs.WorkedCommand.{WorkedCommandIsFound, adds_command, enables, its_parts, makes_queue, queue, stalled, taken, step}
use Rattle.law_found_parts_are_calls.proofs.EagerRuns.{found_runs_are_eager}
use Rattle.law_found_parts_are_calls.proofs.WorkedLemmas.{told_in}
use Rattle.law_found_parts_are_calls.proofs.WorkedWrites.{put, its_is_proper, happens, reads_queue, begins, added, before_adds, before_enables, queue_call, add_call}

-- The command.

-- vCPU 0 before the last of the parts, and where the command begins
abbrev began : Seen
began = told_in worked_guest before_enables 0

abbrev early : List Made
early = take 71 enables.steps

abbrev from : Seen
from = record (seen_after began early) { taken = true }

-- the look before that
abbrev look : Made
look = step (RamLook (place_of_plain worked_guest.shape Fault)) 0 0 None

abbrev ending : Made
ending = step (CommandDone 0 true None) taken stalled None

abbrev stored : Seen
stored = seen_after from (look ∷ put ∷ [])

abbrev to : Seen
to = seen_after stored (ending ∷ [])

-- the queue as it knows it
abbrev knows : Bool → KnownQueue
knows stalled = record { ctlr = 1; cbaser = queue; cwriter = 32; offset = 0; stalled = stalled }

-- the one LPI of the guest
one_lpi : (id : ℕ) → IsTrue (has_interrupt worked_guest.shape (Lpi id)) → 8192 ≡ id
one_lpi id h =
    let parts = and_parts (nat_le 8192 id) (nat_lt id (8192 + 1)) h in
    let low = leb-true 8192 id parts.0 in
    let high = ltb-true id (8192 + 1) parts.1 in
    omega (arith, low, high)

from_ready : IsReady from worked_guest.shape no_maps (knows false)
unfolding least_in with_level without_level in_places
from_ready =
    let At : ℕ → Type 0 = λ id. IsUntouched from id in
    record {
      shape_is = refl;
      taken = refl;
      ease = record { owes = refl; empty = refl };
      lines = refl;
      maps = refl;
      valid = empty_valid worked_guest.shape;
      fresh = record { reading = refl; each = λ id h. subst At (one_lpi id h) (record { none = refl }) };
      knows = record { place = record { known = refl; held = refl }; ctlr = record { known = refl; held = refl }; cbaser = record { known = refl; held = refl }; cwriter = record { known = refl; held = refl }; in_range = record { place = refl; within = omega arith } };
    }

to_ready : IsReady to worked_guest.shape no_maps (knows true)
unfolding least_in with_level without_level in_places
to_ready =
    let At : ℕ → Type 0 = λ id. IsUntouched to id in
    record {
      shape_is = refl;
      taken = refl;
      ease = record { owes = refl; empty = refl };
      lines = refl;
      maps = refl;
      valid = empty_valid worked_guest.shape;
      fresh = record { reading = refl; each = λ id h. subst At (one_lpi id h) (record { none = refl }) };
      knows = record { place = record { known = refl; held = refl }; ctlr = record { known = refl; held = refl }; cbaser = record { known = refl; held = refl }; cwriter = record { known = refl; held = refl }; in_range = record { place = refl; within = omega arith } };
    }

stalls : StallsAt from to 0 10
unfolding least_in with_level without_level in_places
stalls = record {
  mid = stored;
  stores =
      record {
        misses = look ∷ [];
        last = put;
        adds = record { new_is = refl };
        missed = refl;
        last_is = refl;
        left_is = refl;
        local_is = refl;
        none_taken = refl;
        events = refl;
        piece = piece_joins from (look ∷ []) (put ∷ []) (piece_one from look refl refl) (piece_one (seen_after from (look ∷ [])) put refl refl);
      };
  ends = record { found = taken; adds = record { tables = None; handed = record { where_taken = refl; valid = tt }; adds = record { new_is = refl } } };
}

-- no doubleword is in the memory
outside : (index : ℕ) → IsTrue (is_fetched 4096 index) → index < 16 → ⊥
outside index h small =
    let parts = and_parts (nat_le 512 index) (nat_lt index (512 + 4)) h in
    let low = leb-true 512 index parts.0 in
    absurd (omega (arith, low, small))

takes_bad : TakesCommand from to (Some 10)
unfolding least_in with_level without_level in_places
takes_bad =
    took_bad from from to worked_guest.shape no_maps (knows false) (record { address = 4096; words = 0 ∷ 0 ∷ 0 ∷ 0 ∷ [] }) (Err UnknownNumber) 10 refl from_ready refl
    (record {
      part = [];
      reading = reading_none from;
      address_is = refl;
      words_are = refl;
      has = record { each = λ index h small. absurd (outside index h small) };
      looked = λ small. absurd (omega (arith, small));
      knows = from_ready.knows;
    })
    (record { each = λ index h small. absurd (outside index h small); lines = refl })
    refl refl stalls (knows true) to_ready refl

abbrev one : Taken
one = record { from = from; to = to; fault = Some 10; takes = takes_bad }

-- The last call.

-- steps that lead there are these
cancel : (early one other : List Made) → early ++ one ≡ early ++ other → one ≡ other
cancel [] one other e = e
cancel (made ∷ early) one other e = cancel early one other (cc)

steps_are : (steps : List Made) → Adds from to steps → steps ≡ look ∷ put ∷ ending ∷ []
unfolding least_in with_level without_level in_places
steps_are steps adds = cancel from.own steps (look ∷ put ∷ ending ∷ []) (sym (ap (λ seen. seen.own) adds.new_is))

first_are : (first : List Made) (last : Made) → first ++ last ∷ [] ≡ look ∷ put ∷ ending ∷ [] → first ≡ look ∷ put ∷ []
first_are [] last e = absurd (cc)
first_are (a ∷ []) last e = absurd (cc)
first_are (a ∷ b ∷ []) last e = cc
first_are (a ∷ b ∷ c ∷ []) last e = absurd (cc)
first_are (a ∷ b ∷ c ∷ d ∷ more) last e = absurd (cc)

last_is : takes_bad.last ≡ stored
last_is =
    let one = takes_bad.one in
    one.adds.new_is ∙ ap (seen_after from) (first_are one.first one.ending (sym one.split ∙ steps_are takes_bad.steps takes_bad.adds))

-- none of the command's steps was on an LPI's word
stored_agree : AgreeWith stored (known_maps from.own) (λ id. None)
unfolding least_in with_level without_level in_places
stored_agree =
    let By : ℕ → Type 0 = λ id. IfSome (first_step stored id) (λ made. None ≡ target_in (irq_of made.found).route worked_guest.shape) in
    record { found = record { each = λ id h. subst By (one_lpi id h) tt }; unmapped = λ id unmapped left. refl }

none_agree : AgreeWith one.takes.last (known_maps from.own) (λ id. None)
none_agree = let Agree : Seen → Type 0 = λ last. AgreeWith last (known_maps from.own) (λ id. None) in subst Agree (sym last_is) stored_agree

enable_call :
    (beside : Beside) → beside.maps ≡ no_maps → AgreeAll beside 0 (one ∷ []) → IsCall worked_guest.shape beside (vcpu_of_actor worked_guest.shape 0) enables.operation (part_events began enables.steps) None
unfolding least_in with_level without_level in_places
enable_call beside maps agrees =
    let view = added beside in
    let its = left_by worked_guest.shape view (Put ItsCtlr 1) in
    let Hands : Happened → Type 0 = λ h. HandsOut view h.event h.found in
    let base = happens (Read (Word Cbaser)) (FoundWord queue) in
    let writer = happens (Read (Word Cwriter)) (FoundWord 32) in
    let reads = happens (Read (Word ItsCtlr)) (FoundWord 0) in
    let stores = happens (Put ItsCtlr 1) (FoundWord 0) in
    let rest : List Happened = reads_queue ∷ base ∷ writer ∷ reads ∷ stores ∷ [] in
    let Last : Place → Type 0 = λ place. IsLastRead place (held_at view place) rest in
    let same : HaveSameIts its (view_by from) = record { ctlr = refl; cbaser = refl; cwriter = refl; offset = refl; stalled = refl; maps = maps } in
    let run = taken_are_run from to (one ∷ []) (refl, refl) in
    let Listed : List Made → Type 0 = λ steps. AreListed (Some 0) worked_guest.shape beside 0 its (part_events from steps) in
    let listed : Listed (look ∷ put ∷ ending ∷ []) = subst Listed (steps_are run.steps run.adds) (run.events (Some 0) beside 0 its agrees refl same) in
    record {
      view = view;
      maps = refl;
      views = listed.views;
      register = reads_queue ∷ begins ∷ rest;
      commands = happens (Queue 0 (Stalls 10)) Nothing ∷ [];
      last = happens ItsEnd Nothing ∷ [];
      split = refl;
      written = record {
        begin = reads_queue ∷ begins ∷ [];
        rest = rest;
        split = refl;
        begun = record { events_are = refl; found = All-cons Hands begins [] refl (All-nil Hands); reads = All-nil _ };
        made = record {
          events_are = refl;
          found = All-cons Hands stores [] refl (All-nil Hands);
          reads =
              All-cons Last (Word Cbaser) (Word Cwriter ∷ QueuePlace ∷ []) (last_read (reads_queue ∷ []) (writer ∷ reads ∷ stores ∷ []) refl)
              (All-cons Last (Word Cwriter) (QueuePlace ∷ []) (last_read (reads_queue ∷ base ∷ []) (reads ∷ stores ∷ []) refl)
              (All-cons Last QueuePlace [] (last_read [] (base ∷ writer ∷ reads ∷ stores ∷ []) refl) (All-nil Last)));
        };
      };
      started = listed.are;
      ended = record { events_are = refl; found = All-cons Hands (happens ItsEnd Nothing) [] refl (All-nil Hands); reads = All-nil _ };
      answers = refl;
    }

-- The parts.

queue_found : IsFoundCall worked_guest 0 [] makes_queue
queue_found =
    let seen = told_in worked_guest [] 0 in
    record {
      seen = seen;
      told = record { guest_is = refl; actor_is = refl; local_is = refl; own_is = refl };
      made = record { beside = record { maps = no_maps; targets = λ id. None; commands = (λ id. None) ∷ []; signals = false }; maps = refl; signals = refl; call = queue_call (record { maps = no_maps; targets = λ id. None; commands = (λ id. None) ∷ []; signals = false }) };
      found =
          record {
            finding = by_commands [];
            kind = refl;
            is_finding = record { from = seen; to = seen; are = refl; guest = refl; actor = refl; early = []; late = makes_queue.steps; before = refl; local = refl; begins = sym (append-nil seen.own); ends = refl };
            call = λ beside maps agrees. queue_call beside;
          };
    }

add_found : IsFoundCall worked_guest 0 before_adds adds_command
add_found =
    let seen = told_in worked_guest before_adds 0 in
    record {
      seen = seen;
      told = record { guest_is = refl; actor_is = refl; local_is = refl; own_is = refl };
      made = record { beside = record { maps = no_maps; targets = λ id. None; commands = (λ id. None) ∷ []; signals = false }; maps = refl; signals = refl; call = add_call (record { maps = no_maps; targets = λ id. None; commands = (λ id. None) ∷ []; signals = false }) };
      found =
          record {
            finding = by_commands [];
            kind = refl;
            is_finding = record { from = seen; to = seen; are = refl; guest = refl; actor = refl; early = []; late = adds_command.steps; before = refl; local = refl; begins = sym (append-nil seen.own); ends = refl };
            call = λ beside maps agrees. add_call beside;
          };
    }

enable_found : IsFoundCall worked_guest 0 before_enables enables
unfolding least_in with_level without_level in_places
enable_found = record {
  seen = began;
  told = record { guest_is = refl; actor_is = refl; local_is = refl; own_is = refl };
  made = record { beside = record { maps = no_maps; targets = λ id. None; commands = (λ id. None) ∷ []; signals = false }; maps = refl; signals = refl; call = enable_call (record { maps = no_maps; targets = λ id. None; commands = (λ id. None) ∷ []; signals = false }) refl (none_agree, tt) };
  found =
      record {
        finding = by_commands (one ∷ []);
        kind = refl;
        is_finding = record { from = from; to = to; are = (refl, refl); guest = refl; actor = refl; early = early; late = step TurnRelease stalled 1 None ∷ []; before = refl; local = refl; begins = refl; ends = refl };
        call = enable_call;
      };
}

pub worked_command_is_found : WorkedCommandIsFound
worked_command_is_found =
    let found : AreFoundParts worked_guest 0 [] its_parts = (inl queue_found, (inl add_found, (inl enable_found, tt))) in
    let fits : AreFit worked_guest 0 [] its_parts
    = (record { ease = λ icc. absurd (cc); good = (omega arith, refl) }, (record { ease = λ icc. absurd (cc); good = (omega arith, refl) }, (record { ease = λ icc. absurd (cc); good = (omega arith, refl) }, tt))) in
    record { good = unmapped_is_for_none.good; proper = its_is_proper; found = found; fits = fits; eager = found_runs_are_eager worked_guest 0 its_parts unmapped_is_for_none.good its_is_proper found fits }
