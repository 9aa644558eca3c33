-- Moves of interrupts at a vCPU's own CPU interface.
use Rattle.std.proofs.Common.{◌≡◌, ℕ, ◌&&◌, not, Bool, true, false, cond, if◌then◌else◌, IsTrue, List, [], ◌∷◌, ◌++◌, map, Option, Some, None, option_to_list, refl, sym, ap, ◌∙◌}
use Rattle.std.proofs.lemmas.Bool.{and_parts, eq-eqb}
use Rattle.std.proofs.lemmas.List.Elements.{filter-append}
use Rattle.std.proofs.lemmas.List.Folds.{list_all-append}
use Rattle.port_call.specs.Words.{Key}
use Rattle.port_call.specs.Calls.{Event, Up, Down, Enable, Touch, Reach, Take, Leave, Cpu, Put, CtlrBegin, CtlrEnd, ItsBegin, Happened, is_beside, named_of}
use Rattle.port_call.specs.GicCall.declared.event.Event.TheVariants.{Raise, Read, ItsEnd, Queue}
use Rattle.port_call.specs.GicCall.declared.event.Found.TheVariants.{Nothing}
use Rattle.port_call.specs.Core.{Local, Made, is_at, Seen, Adds, part_events, claim_event}
use Rattle.port_call.proofs.TurnLemmas.{events_then}
use Rattle.pe_loop.specs.Leave.{left_by}
use Rattle.pe_loop.specs.Moves.{is_move, are_moves}
use Rattle.pe_loop.proofs.CountLemmas.{and_true}

-- A call names none of them.

beside_move : (actor : ℕ) (event : Event) → IsTrue (is_move actor event) → is_beside (Some actor) event ≡ true
beside_move actor (Reach key vcpu) h = h
beside_move actor (Take key vcpu) h = h
beside_move actor (Leave key vcpu) h = h
beside_move actor (Read place) h = refl
beside_move actor (Raise key) h = absurd (cc)
beside_move actor (Up key) h = absurd (cc)
beside_move actor (Down key) h = absurd (cc)
beside_move actor (Enable vcpu) h = absurd (cc)
beside_move actor (Touch key touching) h = absurd (cc)
beside_move actor (Cpu vcpu reg write) h = absurd (cc)
beside_move actor (Put word value) h = absurd (cc)
beside_move actor (CtlrBegin enables) h = absurd (cc)
beside_move actor CtlrEnd h = absurd (cc)
beside_move actor ItsBegin h = absurd (cc)
beside_move actor ItsEnd h = absurd (cc)
beside_move actor (Queue offset change) h = absurd (cc)

pub moves_unnamed : (actor : ℕ) (events : List Happened) → IsTrue (are_moves actor events) → named_of (Some actor) events ≡ []
moves_unnamed actor [] h = refl
moves_unnamed actor (one ∷ rest) h =
    let parts = and_parts (is_move actor one.event) (are_moves actor rest) h in
    ap (λ b. cond (not b) (one ∷ named_of (Some actor) rest) (named_of (Some actor) rest)) (beside_move actor one.event parts.0) ∙ moves_unnamed actor rest parts.1

-- events of which a call names none, one after the other
pub both_moves : (actor : Option ℕ) (early late : List Happened) → named_of actor early ≡ [] → named_of actor late ≡ [] → named_of actor (early ++ late) ≡ []
both_moves actor early late one two = filter-append (λ happened. not (is_beside actor happened.event)) early late ∙ ap (λ events. events ++ named_of actor late) one ∙ two

-- Those of a part.

pub moves_join : (old mid : Seen) (early late : List Made) → Adds old mid early → IsTrue (are_moves old.actor (part_events old early)) → IsTrue (are_moves mid.actor (part_events mid late)) → IsTrue (are_moves old.actor (part_events old (early ++ late)))
moves_join old mid early late add one two =
    let Moves : Happened → Bool = λ happened. is_move old.actor happened.event in
    let actor : mid.actor ≡ old.actor = ap (λ (seen : Seen). seen.actor) add.new_is in
    ap (are_moves old.actor) (events_then old mid early late add)
    ∙ list_all-append Moves (part_events old early) (part_events mid late)
    ∙ and_true (are_moves old.actor (part_events old early)) (are_moves old.actor (part_events mid late)) one (ap (λ actor. are_moves actor (part_events mid late)) (sym actor) ∙ two)

-- a claim moves an interrupt, or does nothing
pub claim_moves : (actor : ℕ) (key : Key) (local : Local) (done : Bool) → IsTrue (are_moves actor (option_to_list (if done then claim_event actor key local else None) ++ []))
claim_moves actor key local false = refl
claim_moves actor key local true = of (is_at key local.at)
  where
    of : (b : Bool) → IsTrue (are_moves actor ((record { event = if b then Take key actor else Reach key actor; found = Nothing }) ∷ []))
    of true = ap (λ b. b && true) (eq-eqb actor actor refl)
    of false = ap (λ b. b && true) (eq-eqb actor actor refl)

-- an exit moves what was held
pub only_leave : (vcpu : ℕ) (keys : List Key) → IsTrue (are_moves vcpu (map (left_by vcpu) keys))
only_leave vcpu [] = refl
only_leave vcpu (key ∷ keys) = and_true (is_move vcpu (Leave key vcpu)) (are_moves vcpu (map (left_by vcpu) keys)) (eq-eqb vcpu vcpu refl) (only_leave vcpu keys)
