-- What comes before the commands of a write touches no interrupt, and ends no command.
use Rattle.std.proofs.Common.{◌≡◌, ℕ, not, Bool, true, false, cond, IsTrue, List, [], ◌∷◌, map, Option, refl, sym, ap, ◌∙◌, subst}
use Rattle.std.specs.List.{list_all}
use Rattle.std.proofs.lemmas.Bool.{and_from, and_parts}
use Rattle.pe_mem.specs.Registers.{Half, Cbaser, Cwriter, Baser0, Baser1}
use Rattle.pe_mem.specs.GicImap.declared.map.Reg.{Reg}
use Rattle.pe_mem.specs.GicImap.declared.map.Reg.TheVariants.{Ctlr}
use Rattle.pe_mem.specs.Calls.{PlainWord, Event, ItsBegin, Put, Touch, Place, Runs, Done, Stalls, its_written, Happened, Makes, is_beside, named_of, View}
use Rattle.pe_mem.specs.GicCall.declared.event.Event.TheVariants.{Queue, Read}
use Rattle.pe_mem.specs.GicCall.declared.event.Found.TheVariants.{Nothing}
use Rattle.pe_mem.specs.GicCall.declared.event.Place.TheVariants.{Queue as QueuePlace}
use Rattle.pe_mem.specs.PortCall.Turn.{AreReadsThen, is_queue_read, is_queue_read_event}
use Rattle.pe_mem.specs.Found.{are_before, is_before}
use Rattle.pe_mem.proofs.FoundLemmas.{before_both}

-- The events that a register's write names, with what is beside them.

beside_before : (actor : Option ℕ) (event : Event) → is_beside actor event ≡ true → is_before event ≡ true
beside_before actor (Touch key touching) h = absurd (cc)
beside_before actor (Queue offset Runs) h = refl
beside_before actor (Queue offset (Done words)) h = absurd (cc)
beside_before actor (Queue offset (Stalls fault)) h = absurd (cc)
beside_before actor event h = refl

named_before : (actor : Option ℕ) (piece : List Happened) → IsTrue (list_all is_before (map (λ (h : Happened). h.event) (named_of actor piece))) → are_before piece ≡ true
named_before actor [] all = refl
named_before actor (one ∷ piece) all = of (is_beside actor one.event) refl all (named_before actor piece)
  where
    of : (b : Bool) → is_beside actor one.event ≡ b → IsTrue (list_all is_before (map (λ (h : Happened). h.event) (cond (not b) (one ∷ named_of actor piece) (named_of actor piece))))
        → (IsTrue (list_all is_before (map (λ (h : Happened). h.event) (named_of actor piece))) → are_before piece ≡ true) → are_before (one ∷ piece) ≡ true
    of true e all later = and_from (is_before one.event) (are_before piece) (beside_before actor one.event e) (later all)
    of false e all later =
        let parts = and_parts (is_before one.event) (list_all is_before (map (λ (h : Happened). h.event) (named_of actor piece))) all in
        and_from (is_before one.event) (are_before piece) parts.0 (later parts.1)

pub made_before : (actor : Option ℕ) (view : View) (events : List Event) (places : List Place) (before piece : List Happened) → Makes actor view events places before piece → list_all is_before events ≡ true → are_before piece ≡ true
made_before actor view events places before piece made all = named_before actor piece (subst (λ es. IsTrue (list_all is_before es)) (sym made.events_are) all)

-- The write of a register.

put_alone : (b : Bool) (word : PlainWord) (value : ℕ) → list_all is_before (cond b [] (Put word value ∷ [])) ≡ true
put_alone true word value = refl
put_alone false word value = refl

put_round : (b : Bool) (one other : PlainWord) (value bits : ℕ) → list_all is_before (cond b [] (Put one value ∷ Queue 0 Runs ∷ Put other bits ∷ [])) ≡ true
put_round true one other value bits = refl
put_round false one other value bits = refl

stored : (b c : Bool) (word : PlainWord) (value offset : ℕ) → list_all is_before (cond b (Put word value ∷ cond c (Queue offset Runs ∷ []) []) []) ≡ true
stored true true word value offset = refl
stored true false word value offset = refl
stored false c word value offset = refl

pub written_before : (view : View) (reg : Reg) (half : Half) (value : ℕ) → list_all is_before (its_written view reg half value) ≡ true
written_before view Ctlr half value = refl
written_before view Cbaser half value = put_round _ _ _ _ _
written_before view Cwriter half value = stored _ _ _ _ _
written_before view Baser0 half value = put_alone _ _ _
written_before view Baser1 half value = put_alone _ _ _
written_before view reg half value = refl

-- The turn.

read_before : (event : Event) → IsTrue (is_queue_read_event event) → is_before event ≡ true
read_before (Read QueuePlace) h = refl
read_before (Touch key touching) h = absurd (cc)
read_before (Queue offset change) h = absurd (cc)
read_before event h = refl

reads_before : (reads : List Happened) → IsTrue (list_all is_queue_read reads) → are_before reads ≡ true
reads_before [] all = refl
reads_before (one ∷ reads) all =
    let parts = and_parts (is_queue_read one) (list_all is_queue_read reads) all in
    and_from (is_before one.event) (are_before reads) (read_before one.event parts.0) (reads_before reads parts.1)

pub turn_before : (events : List Happened) → AreReadsThen ItsBegin events → are_before events ≡ true
turn_before events are = ap are_before are.split ∙ before_both are.reads ((record { event = ItsBegin; found = Nothing }) ∷ []) (reads_before are.reads are.are_reads) refl
