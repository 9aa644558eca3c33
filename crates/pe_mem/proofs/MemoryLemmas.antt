-- Accesses of the guest's memory.
use Rattle.std.proofs.Common.{◌≡◌, ℕ, List, [], ◌∷◌, map, Option, Some, None, refl, sym, ap, subst}
use Rattle.std.specs.Option.{option_map_or}
use Rattle.its_exec.specs.Words.{Ram as Memory}
use Rattle.its_exec.specs.Calls.{Ram, Event, Put, Place, memory_written, Happened, Makes, memory_places, View}
use Rattle.its_exec.specs.Registers.{Part, part_of, inserted}
use Rattle.its_exec.specs.GicCall.declared.event.Place.TheVariants.{Word}
use Rattle.its_exec.specs.Core.{Seen, shape_of, part_events}
use Rattle.its_exec.specs.PortCall.Memory.{ReadsMemory, view_by, read_as}
use Rattle.its_exec.specs.PortCall.Rest.{IsAtEase, StaysAtEase}
use Rattle.pe_mem.specs.Call.{ServesAccess}
use Rattle.pe_mem.specs.Store.{changed_by, Updates}
use Rattle.pe_mem.specs.declared.store.Change.TheVariants.{Bits}
use Rattle.pe_mem.proofs.EachLemmas.{own_of_piece, stays_self}
use Rattle.pe_mem.proofs.ServeLemmas.{none_made, read_made, serves_nothing}
use Rattle.pe_mem.proofs.UpdateLemmas.{stored_view, serves_update}

word_in : Option Part → List Place
word_in o = option_map_or (λ part. Word (Ram part.index) ∷ []) o []

reads_made : (actor : Option ℕ) (view : View) (o : Option Part) → Makes actor view [] (word_in o) [] (map (read_as view) (word_in o))
unfolding word_in
reads_made actor view None = none_made actor view
reads_made actor view (Some part) = read_made actor view (Word (Ram part.index))

pub reads_memory : (old new : Seen) (address size value : ℕ) → IsAtEase old.local → ReadsMemory old new address size value → ServesAccess old new Memory address size None value
unfolding word_in
reads_memory old new address size value ease reads =
    let view = view_by new in
    let Of : List Happened → Type 0 = λ piece. Makes (Some old.actor) view [] (memory_places (shape_of old) address size) [] piece in
    let made : Of (part_events old reads.part) = subst Of (sym reads.events) (reads_made (Some old.actor) view (part_of address size (shape_of old).ram)) in
    record {
      serves =
          record {
            view = view;
            part = reads.part;
            adds = reads.adds;
            made = made;
            stays = subst (StaysAtEase old.local) (sym reads.local_is) (stays_self old.local ease);
            none_taken = reads.none_taken;
            piece = λ operation by. own_of_piece old operation reads.part reads.piece;
          };
      reads = ap Some reads.value_is;
      found = λ id there bit. absurd (cc);
      made = made;
    }

written_in : (old : Seen) (view : View) (address size value : ℕ) (o : Option Part) → part_of address size (shape_of old).ram ≡ o
    → memory_written (shape_of old) view address size value ≡ option_map_or (λ part. Put (Ram part.index) (inserted (view.words (Ram part.index)) part value) ∷ []) o []
written_in old view address size value o here = ap (λ o. option_map_or (λ part. Put (Ram part.index) (inserted (view.words (Ram part.index)) part value) ∷ []) o []) here

pub writes_memory : (old new : Seen) (address size value : ℕ) (part : Part) → IsAtEase old.local → part_of address size (shape_of old).ram ≡ Some part → Updates old new (Ram part.index) (changed_by (Bits part value)) → ServesAccess old new Memory address size (Some value) 0
unfolding stored_view
writes_memory old new address size value part ease here updates =
    let events : View → List Event = λ view. memory_written (shape_of old) view address size value in
    let serves = serves_update old new (Ram part.index) (changed_by (Bits part value)) events events ease refl updates (written_in old (stored_view old updates.found) address size value (Some part) here) in
    record { serves = serves; reads = refl; found = λ id there bit. absurd (cc); made = serves.made }

pub writes_outside : (old : Seen) (address size value : ℕ) → IsAtEase old.local → part_of address size (shape_of old).ram ≡ None → ServesAccess old old Memory address size (Some value) 0
writes_outside old address size value ease here =
    let events : View → List Event = λ view. memory_written (shape_of old) view address size value in
    let serves = serves_nothing old events (λ view. []) events ease (λ view. written_in old view address size value None here) (λ view. refl) in
    record { serves = serves; reads = refl; found = λ id there bit. absurd (cc); made = serves.made }

pub access_by : (old new : Seen) (address size value : ℕ) (write its : Option ℕ) → write ≡ its → ServesAccess old new Memory address size its value → ServesAccess old new Memory address size write value
access_by old new address size value write its e serves = let By : Option ℕ → Type 0 = λ write. ServesAccess old new Memory address size write value in subst By (sym e) serves
