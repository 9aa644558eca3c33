-- Reads of the ITS, and writes that it ignores.
use Rattle.std.proofs.Common.{◌≡◌, ℕ, ◌&&◌, Bool, true, false, if◌then◌else◌, [], ◌∷◌, Option, Some, None, is_none, refl, sym, ap, subst, ◌∙◌}
use Rattle.pe_mem.specs.Words.{Its, GuestShape}
use Rattle.pe_mem.specs.Registers.{Half, has_lpis, half_read, iidr, pidr2, Devices, Collections, Cbaser, Cwriter, Creadr, Baser0, Baser1, enabled_in, creadr_of, baser_of, QueueWord, is_queue_word, queue_of}
use Rattle.pe_mem.specs.GicImap.declared.map.Reg.{Reg}
use Rattle.pe_mem.specs.GicImap.declared.map.Reg.TheVariants.{Ctlr, Iidr, Typer, Pidr2}
use Rattle.pe_mem.specs.GicImap.declared.map.RegRef.{RegRef}
use Rattle.pe_mem.specs.GicImap.declared.map.RegRef.TheVariants.{Plain, Reserved}
use Rattle.pe_mem.specs.GicImap.Contents.{ctlr_of, typer_of}
use Rattle.pe_mem.specs.GicImap.Map.{decoded}
use Rattle.pe_mem.specs.Calls.{ItsCtlr, Cbaser as CbaserWord, Cwriter as CwriterWord, Baser0 as Baser0Word, Baser1 as Baser1Word, takes_its, its_written, its_held, its_value, takes_turn, its_events, command_events, its_read_places, its_write_places, its_places, View}
use Rattle.pe_mem.specs.GicCall.declared.event.Place.TheVariants.{Word, Queue as QueuePlace}
use Rattle.pe_mem.specs.Core.{Look, Queue, Seen, AddsStep, shape_of, made_by}
use Rattle.pe_mem.specs.PortCall.Plain.{ReadsPlain}
use Rattle.pe_mem.specs.PortCall.Rest.{IsAtEase}
use Rattle.pe_mem.proofs.PortCall.PieceLemmas.{piece_one}
use Rattle.pe_mem.proofs.PortCall.SettleLemmas.{handed_none}
use Rattle.pe_mem.proofs.ItsExec.FrameLemmas.{both}
use Rattle.pe_mem.proofs.ItsExec.LookLemmas.{unpacked}
use Rattle.pe_mem.specs.Call.{Serves, ServesAccess}
use Rattle.pe_mem.proofs.ServeLemmas.{nothing_known, freely_nothing, freely_read, serves_freely, serves_nothing}
use Rattle.pe_mem.proofs.UpdateLemmas.{stored_view}
use Rattle.pe_its.specs.Read.{ReadsIts}

-- Registers.

pub read_by : (old new : Seen) (value : ℕ) (reg its : Reg) → reg ≡ its → ReadsIts old new its value → ReadsIts old new reg value
read_by old new value reg its e reads = let Of : Reg → Type 0 = λ reg. ReadsIts old new reg value in subst Of (sym e) reads

-- those that no look is needed for
pub reads_iidr : (old : Seen) (value : ℕ) → IsAtEase old.local → value ≡ iidr → ReadsIts old old Iidr value
reads_iidr old value ease is = record { serves = freely_nothing old ease; value_is = is }

pub reads_typer : (old : Seen) (value : ℕ) → IsAtEase old.local → value ≡ typer_of (shape_of old) → ReadsIts old old Typer value
reads_typer old value ease is = record { serves = freely_nothing old ease; value_is = is }

pub reads_pidr2 : (old : Seen) (value : ℕ) → IsAtEase old.local → value ≡ pidr2 → ReadsIts old old Pidr2 value
reads_pidr2 old value ease is = record { serves = freely_nothing old ease; value_is = is }

-- those that are plain words
pub reads_ctlr : (old new : Seen) (held value : ℕ) → IsAtEase old.local → value ≡ ctlr_of (enabled_in held) → ReadsPlain old new ItsCtlr held → ReadsIts old new Ctlr value
unfolding stored_view freely_read
reads_ctlr old new held value ease is reads =
    record { serves = freely_read old new (stored_view old held) (Word ItsCtlr) (reads.look ∷ []) ease reads.adds reads.local_is reads.none_taken reads.events reads.piece; value_is = is }

pub reads_cbaser : (old new : Seen) (value : ℕ) → IsAtEase old.local → ReadsPlain old new CbaserWord value → ReadsIts old new Cbaser value
unfolding stored_view freely_read
reads_cbaser old new value ease reads =
    record { serves = freely_read old new (stored_view old value) (Word CbaserWord) (reads.look ∷ []) ease reads.adds reads.local_is reads.none_taken reads.events reads.piece; value_is = refl }

pub reads_cwriter : (old new : Seen) (value : ℕ) → IsAtEase old.local → ReadsPlain old new CwriterWord value → ReadsIts old new Cwriter value
unfolding stored_view freely_read
reads_cwriter old new value ease reads =
    record { serves = freely_read old new (stored_view old value) (Word CwriterWord) (reads.look ∷ []) ease reads.adds reads.local_is reads.none_taken reads.events reads.piece; value_is = refl }

pub reads_baser0 : (old new : Seen) (held value : ℕ) → IsAtEase old.local → value ≡ baser_of Devices held → ReadsPlain old new Baser0Word held → ReadsIts old new Baser0 value
unfolding stored_view freely_read
reads_baser0 old new held value ease is reads =
    record { serves = freely_read old new (stored_view old held) (Word Baser0Word) (reads.look ∷ []) ease reads.adds reads.local_is reads.none_taken reads.events reads.piece; value_is = is }

pub reads_baser1 : (old new : Seen) (held value : ℕ) → IsAtEase old.local → value ≡ baser_of Collections held → ReadsPlain old new Baser1Word held → ReadsIts old new Baser1 value
unfolding stored_view freely_read
reads_baser1 old new held value ease is reads =
    record { serves = freely_read old new (stored_view old held) (Word Baser1Word) (reads.look ∷ []) ease reads.adds reads.local_is reads.none_taken reads.events reads.piece; value_is = is }

-- the guest where the queue is so
queue_view : Seen → ℕ → Bool → View
queue_view seen offset stalled = record (nothing_known seen) { offset = offset; is_stalled = stalled }

-- the queue's word
pub reads_creadr :
    (old new : Seen) (found value : ℕ) (o : Option QueueWord) (queue : QueueWord) → IsAtEase old.local → o ≡ Some queue → o ≡ (if is_queue_word found then Some (queue_of found) else None) → value ≡ creadr_of queue.stalled queue.offset
    → AddsStep old new (Look Queue) found → ReadsIts old new Creadr value
unfolding queue_view freely_read
reads_creadr old new found value o queue ease e unpacks is add =
    let made = made_by old (Look Queue) found add.tables in
    let same = unpacked found o queue e unpacks in
    let view = queue_view old (queue_of found).offset (queue_of found).stalled in
    record {
      serves =
          freely_read old new view QueuePlace (made ∷ []) ease add.adds (ap (λ seen. seen.local) add.adds.new_is) (both (is_none add.tables) true (handed_none (Look Queue) found old add.tables refl add.handed) refl) refl
          (piece_one old made refl refl);
      value_is = is ∙ ap (λ (queue : QueueWord). creadr_of queue.stalled queue.offset) same;
    }

-- Whole reads.

-- a read of what is there, and what it answers
abbrev ServesRead : Seen → Seen → RegRef → ℕ → Type 0
ServesRead old new ref value =
    (serves : Serves old new (λ view. its_events (shape_of old) view ref None) (λ view. its_places (shape_of old) ref None) (λ view. its_events (shape_of old) view ref None)) × (Some value ≡ Some (its_value (shape_of old) serves.view ref))

read_served : (old new : Seen) (offset size value : ℕ) (ref : RegRef) → decoded offset size ≡ ref → ServesRead old new ref value → ServesAccess old new Its offset size None value
read_served old new offset size value ref is serves =
    let Of : RegRef → Type 0 = λ ref. ServesRead old new ref value in
    let all : Of (decoded offset size) = subst Of (sym is) serves in
    record { serves = all.0; reads = all.1; found = λ id there bit. absurd (cc); made = all.0.made }

pub serves_register :
    (old new : Seen) (offset size : ℕ) (reg : Reg) (half : Half) (held value : ℕ) → decoded offset size ≡ Plain reg half → has_lpis (shape_of old) ≡ true → value ≡ half_read half held → ReadsIts old new reg held → ServesAccess old new Its offset size None value
unfolding serves_freely
serves_register old new offset size reg half held value is there answers read =
    let P : Bool → Type 0 = λ b. (serves : Serves old new (λ view. []) (λ view. if b then its_read_places reg else []) (λ view. [])) × (Some value ≡ Some (if b then half_read half (its_held (shape_of old) serves.view reg) else 0)) in
    let one : P true = (serves_freely old new (λ view. []) (λ view. its_read_places reg) (λ view. []) read.serves, ap Some (answers ∙ ap (half_read half) read.value_is)) in
    read_served old new offset size value (Plain reg half) is (subst P (sym there) one)

pub serves_reserved : (old : Seen) (offset size : ℕ) → IsAtEase old.local → decoded offset size ≡ Reserved → ServesAccess old old Its offset size None 0
serves_reserved old offset size ease is = read_served old old offset size 0 Reserved is (serves_nothing old (λ view. []) (λ view. []) (λ view. []) ease (λ view. refl) (λ view. refl), refl)

-- a guest without LPIs has no ITS
pub serves_none : (old : Seen) (offset size : ℕ) (reg : Reg) (half : Half) → IsAtEase old.local → decoded offset size ≡ Plain reg half → has_lpis (shape_of old) ≡ false → ServesAccess old old Its offset size None 0
serves_none old offset size reg half ease is none =
    let P : Bool → Type 0 = λ b. (serves : Serves old old (λ view. []) (λ view. if b then its_read_places reg else []) (λ view. [])) × (Some 0 ≡ Some (if b then half_read half (its_held (shape_of old) serves.view reg) else 0)) in
    let one : P false = (serves_nothing old (λ view. []) (λ view. []) (λ view. []) ease (λ view. refl) (λ view. refl), refl) in
    read_served old old offset size 0 (Plain reg half) is (subst P (sym none) one)

-- Writes that are ignored.

fixed_events : (view : View) (reg : Reg) (half : Half) (value : ℕ) → takes_its reg ≡ false → its_written view reg half value ≡ []
fixed_events view Ctlr half value h = absurd (cc)
fixed_events view Iidr half value h = refl
fixed_events view Typer half value h = refl
fixed_events view Cbaser half value h = absurd (cc)
fixed_events view Cwriter half value h = absurd (cc)
fixed_events view Creadr half value h = refl
fixed_events view Baser0 half value h = absurd (cc)
fixed_events view Baser1 half value h = absurd (cc)
fixed_events view Pidr2 half value h = refl

fixed_places : (reg : Reg) → takes_its reg ≡ false → its_write_places reg ≡ []
fixed_places Ctlr h = absurd (cc)
fixed_places Iidr h = refl
fixed_places Typer h = refl
fixed_places Cbaser h = absurd (cc)
fixed_places Cwriter h = absurd (cc)
fixed_places Creadr h = refl
fixed_places Baser0 h = absurd (cc)
fixed_places Baser1 h = absurd (cc)
fixed_places Pidr2 h = refl

ignored_events : (shape : GuestShape) (view : View) (ref : RegRef) (value : ℕ) → takes_turn shape ref (Some value) ≡ false → its_events shape view ref (Some value) ≡ []
ignored_events shape view Reserved value h = refl
ignored_events shape view (Plain reg half) value h = of (has_lpis shape) h
  where
    of : (b : Bool) → (b && takes_its reg) ≡ false → (if b then its_written view reg half value else []) ≡ []
    of false h = refl
    of true h = fixed_events view reg half value h

ignored_places : (shape : GuestShape) (ref : RegRef) (value : ℕ) → takes_turn shape ref (Some value) ≡ false → its_places shape ref (Some value) ≡ []
ignored_places shape Reserved value h = refl
ignored_places shape (Plain reg half) value h = of (has_lpis shape) h
  where
    of : (b : Bool) → (b && takes_its reg) ≡ false → (if b then its_write_places reg else []) ≡ []
    of false h = refl
    of true h = fixed_places reg h

pub serves_ignored : (old : Seen) (offset size value : ℕ) → IsAtEase old.local → takes_turn (shape_of old) (decoded offset size) (Some value) ≡ false → ServesAccess old old Its offset size (Some value) 0
serves_ignored old offset size value ease h =
    let ref = decoded offset size in
    let serves =
    serves_nothing old (λ view. its_events (shape_of old) view ref (Some value)) (λ view. its_places (shape_of old) ref (Some value)) (λ view. command_events (shape_of old) view) ease (λ view. ignored_events (shape_of old) view ref value h)
    (λ view. ignored_places (shape_of old) ref value h) in
    record { serves = serves; reads = refl; found = λ id there bit. absurd (cc); made = serves.made }
