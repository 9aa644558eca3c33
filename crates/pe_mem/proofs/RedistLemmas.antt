-- Accesses of a redistributor.
use Rattle.its_exec.specs.Registers.{Half, iidr, pidr2, half_read, has_lpis, Whole, Propbaser, Pendbaser, enable_lpis_after, pendbaser_read}
use Rattle.its_exec.specs.Calls.{Event, PlainWord, Propbaser as PropbaserWord, Pendbaser as PendbaserWord, Put, Place, part_events as parts_events, enable_events, redist_held, redist_written, Happened, Makes, IsLastRead, held_at, redist_places, table_places, View, Enable, MakesAfter, pended_events}
use Rattle.std.proofs.Common.{◌%◌, ◌^◌, ◌≡◌, ℕ, ◌&&◌, not, Bool, true, false, if◌then◌else◌, IsTrue, List, [], ◌∷◌, ◌++◌, All, Some, None, is_none, refl, sym, ap, subst, ◌∙◌, ◌==◌, Option, inl, inr, ◌⊎◌, arith}
use Rattle.std.proofs.lemmas.Bool.{eq-eqb, ne_eqb}
use Rattle.its_exec.specs.Words.{GuestShape, bit_of, has_bit, Redist, Kind, Lpi, has_interrupt}
use Rattle.std.proofs.lemmas.List.Elements.{All-cons, All-nil, All-append, All-weaker}
use Rattle.its_exec.specs.GicRmap.declared.map.RegRef.{RegRef}
use Rattle.its_exec.specs.Histories.{before_enabling}
use Rattle.pe_mem.specs.Each.{AccessesParts}
use Rattle.pe_mem.specs.declared.store.Change.TheVariants.{Propbaser as PropbaserChange, Pendbaser as PendbaserChange}
use Rattle.its_exec.specs.GicRmap.declared.map.Reg.{Reg}
use Rattle.its_exec.specs.GicRmap.declared.map.Reg.TheVariants.{Ctlr, Iidr, Typer, Pidr2}
use Rattle.its_exec.specs.GicRmap.declared.map.RegRef.TheVariants.{Bits, Plain, Reserved}
use Rattle.its_exec.specs.GicRmap.Contents.{ctlr_of as redist_ctlr_of, typer_of}
use Rattle.its_exec.specs.GicCall.declared.event.Event.TheVariants.{Read}
use Rattle.its_exec.specs.GicCall.declared.event.Found.TheVariants.{Lpis as FoundLpis, Word as FoundWord}
use Rattle.its_exec.specs.GicCall.declared.event.Place.TheVariants.{Lpis, Word}
use Rattle.its_exec.specs.Core.{Look, Vcpu, vcpu_of, Seen, AddsStep, shape_of, made_by, part_events}
use Rattle.its_exec.proofs.PortCore.PortLemmas.{adds_join}
use Rattle.its_exec.specs.PortCall.Plain.{is_event_word, ReadsPlain}
use Rattle.its_exec.specs.PortCall.Rest.{IsAtEase, StaysAtEase}
use Rattle.its_exec.proofs.PortCall.PieceLemmas.{seen_nil, piece_nil, piece_one}
use Rattle.its_exec.proofs.PortCall.SettleLemmas.{handed_none}
use Rattle.its_exec.proofs.PortCall.TryLemmas.{none_append}
use Rattle.its_exec.proofs.PortCall.TurnLemmas.{piece_then, events_then}
use Rattle.pe_mem.specs.Call.{Serves, ServesFreely}
use Rattle.pe_mem.specs.Redist.{LooksAtLpis, StoresTable, ReadsRedist, WritesRedist, EnablesLpis, ServesRedist}
use Rattle.pe_mem.specs.Store.{changed_by, Updates}
use Rattle.pe_mem.proofs.EachLemmas.{stays_self}
use Rattle.pe_mem.proofs.ServeLemmas.{nothing_known, none_made, read_made, freely_nothing, freely_read, serves_freely, serves_nothing, serves_each, serves_parts, parts_read}
use Rattle.pe_mem.proofs.UpdateLemmas.{stored_view, is_put, put_made}
use Rattle.pe_mem.specs.Found.{reads_bit}
use Rattle.pe_mem.specs.Looked.{IsLookedAt}

and_true : (a : Bool) → IsTrue a → IsTrue (a && true)
and_true true h = refl
and_true false h = absurd (cc)

-- EnableLPIs.

pub looks_at_lpis : (old new : Seen) (vcpu found : ℕ) (enabled : Bool) → enabled ≡ (vcpu_of found).lpis → AddsStep old new (Look (Vcpu vcpu)) found → LooksAtLpis old new vcpu enabled
looks_at_lpis old new vcpu found enabled is add =
    let made = made_by old (Look (Vcpu vcpu)) found add.tables in
    record {
      look = made;
      adds = add.adds;
      local_is = ap (λ seen. seen.local) add.adds.new_is;
      none_taken = and_true (is_none add.tables) (handed_none (Look (Vcpu vcpu)) found old add.tables refl add.handed);
      events = ap (λ lpis. (record { event = Read (Lpis vcpu); found = FoundLpis lpis }) ∷ []) (sym is);
      piece = piece_one old made refl refl;
    }

-- the guest where EnableLPIs is this
pub lpis_view : Seen → Bool → View
lpis_view seen enabled = record (nothing_known seen) { lpis = λ vcpu. enabled }

-- The tables.

-- the guest where EnableLPIs is 0, and each plain word holds this
table_view : Seen → ℕ → View
table_view seen found = record (nothing_known seen) { lpis = λ vcpu. false; words = λ word. found }

no_lpis_read : (vcpu : ℕ) (word : PlainWord) (reads : List Happened) → All (λ h. h.event ≡ Read (Word word)) reads → All (λ h. h.event ≡ Read (Lpis vcpu) → ⊥) reads
no_lpis_read vcpu word reads all = All-weaker (λ h. h.event ≡ Read (Word word)) (λ h. h.event ≡ Read (Lpis vcpu) → ⊥) (λ h e f. absurd (other (sym e ∙ f))) reads all
  where
    other : Read (Word word) ≡ Read (Lpis vcpu) → ⊥
    other e = cc

pub stores_table : (old mid new : Seen) (vcpu : ℕ) (word : PlainWord) (changed : ℕ → ℕ) → IsAtEase old.local → is_event_word word ≡ true → LooksAtLpis old mid vcpu false → Updates mid new word changed → StoresTable old new vcpu word changed
unfolding table_view
stores_table old mid new vcpu word changed ease kept looks updates =
    let view = table_view old updates.found in
    let late = updates.stores.misses ++ updates.stores.last ∷ [] in
    let part = looks.look ∷ [] ++ late in
    let put = is_put mid new word changed kept updates in
    let read : Happened = record { event = Read (Lpis vcpu); found = FoundLpis false } in
    let stored : Happened = record { event = Put word (changed updates.found); found = FoundWord updates.found } in
    let piece = put.reads ++ stored ∷ [] in
    let events : part_events old part ≡ read ∷ piece
    = events_then old mid (looks.look ∷ []) late looks.adds ∙ ap (λ early. early ++ part_events mid late) looks.events ∙ ap (λ late. read ∷ late) put.split in
    let one = put_made (Some old.actor) view word (changed updates.found) put.reads put.are_reads in
    let Last : Place → Type 0 = λ place. IsLastRead place (held_at view place) (read ∷ piece) in
    let Not : Happened → Type 0 = λ h. h.event ≡ Read (Lpis vcpu) → ⊥ in
    let last : Last (Lpis vcpu) = record { before = []; after = piece; split = refl; last = All-append Not put.reads (stored ∷ []) (no_lpis_read vcpu word put.reads put.are_reads) (All-cons Not stored [] (λ e. absurd (cc)) (All-nil Not)) } in
    let made : Makes (Some old.actor) view (Put word (changed updates.found) ∷ []) (Lpis vcpu ∷ []) [] (read ∷ piece)
    = record { events_are = one.events_are; found = one.found; reads = All-cons Last (Lpis vcpu) [] last (All-nil Last) } in
    let Of : List Happened → Type 0 = λ piece. Makes (Some old.actor) view (Put word (changed updates.found) ∷ []) (Lpis vcpu ∷ []) [] piece in
    record {
      view = view;
      part = part;
      adds = adds_join old mid new (looks.look ∷ []) late looks.adds updates.stores.adds;
      made = subst Of (sym events) made;
      stays = subst (StaysAtEase old.local) (sym (updates.stores.local_is ∙ looks.local_is)) (stays_self old.local ease);
      none_taken = none_append (looks.look ∷ []) late looks.none_taken updates.stores.none_taken;
      piece = piece_then old mid (looks.look ∷ []) late looks.adds looks.piece updates.stores.piece;
    }

pub keeps_table : (old new : Seen) (vcpu : ℕ) (word : PlainWord) (changed : ℕ → ℕ) → IsAtEase old.local → LooksAtLpis old new vcpu true → StoresTable old new vcpu word changed
unfolding lpis_view
keeps_table old new vcpu word changed ease looks =
    let view = lpis_view old true in
    let Of : List Happened → Type 0 = λ piece. Makes (Some old.actor) view [] (Lpis vcpu ∷ []) [] piece in
    record {
      view = view;
      part = looks.look ∷ [];
      adds = looks.adds;
      made = subst Of (sym looks.events) (read_made (Some old.actor) view (Lpis vcpu));
      stays = subst (StaysAtEase old.local) (sym looks.local_is) (stays_self old.local ease);
      none_taken = looks.none_taken;
      piece = looks.piece;
    }

-- Reads.

pub reads_lpis : (old new : Seen) (vcpu value : ℕ) (enabled : Bool) → IsAtEase old.local → has_lpis (shape_of old) ≡ true → LooksAtLpis old new vcpu enabled → value ≡ redist_ctlr_of (shape_of old) enabled → ReadsRedist old new vcpu Ctlr value
unfolding lpis_view freely_read
reads_lpis old new vcpu value enabled ease there looks is =
    let Of : Bool → Type 0 = λ b. ServesFreely old new (λ view. []) (λ view. if b then Lpis vcpu ∷ [] else []) in
    let P : (b : Bool) → Type 0 = λ b. (serves : Of b) × (value ≡ redist_ctlr_of (shape_of old) (serves.view.lpis vcpu)) in
    let one : P true = (freely_read old new (lpis_view old enabled) (Lpis vcpu) (looks.look ∷ []) ease looks.adds looks.local_is looks.none_taken looks.events looks.piece, is) in
    let all : P (has_lpis (shape_of old)) = subst P (sym there) one in
    record { serves = all.0; value_is = all.1 }

pub reads_no_lpis : (old : Seen) (vcpu : ℕ) → IsAtEase old.local → has_lpis (shape_of old) ≡ false → ReadsRedist old old vcpu Ctlr 0
unfolding freely_nothing nothing_known
reads_no_lpis old vcpu ease none =
    let Of : Bool → Type 0 = λ b. ServesFreely old old (λ view. []) (λ view. if b then Lpis vcpu ∷ [] else []) in
    let P : (b : Bool) → Type 0 = λ b. Of b in
    let all : Of (has_lpis (shape_of old)) = subst P (sym none) (freely_nothing old ease) in
    let zero_of : (enabled : Bool) → redist_ctlr_of (shape_of old) enabled ≡ 0 = λ enabled. ap (λ b. bit_of (b && enabled)) none in
    record { serves = all; value_is = sym (zero_of (all.view.lpis vcpu)) }

pub reads_fixed : (old : Seen) (vcpu value : ℕ) (reg : Reg) → IsAtEase old.local → redist_places (shape_of old) (nothing_known old) vcpu (Plain reg Whole) None ≡ [] → value ≡ redist_held (shape_of old) (nothing_known old) vcpu reg
    → ((view : View) → redist_places (shape_of old) view vcpu (Plain reg Whole) None ≡ []) → ReadsRedist old old vcpu reg value
unfolding nothing_known
reads_fixed old vcpu value reg ease none is all =
    let view = nothing_known old in
    let By : List Place → Type 0 = λ places. Makes (Some old.actor) view [] places [] [] in
    record {
      serves =
          record {
            view = view;
            part = [];
            adds = record { new_is = sym (seen_nil old) };
            made = subst By (sym none) (none_made (Some old.actor) view);
            stays = stays_self old.local ease;
            none_taken = refl;
            piece = piece_nil old;
          };
      value_is = is;
    }

pub reads_propbaser : (old new : Seen) (vcpu value : ℕ) → IsAtEase old.local → ReadsPlain old new (PropbaserWord vcpu) value → ReadsRedist old new vcpu Propbaser value
unfolding stored_view freely_read
reads_propbaser old new vcpu value ease reads =
    record { serves = freely_read old new (stored_view old value) (Word (PropbaserWord vcpu)) (reads.look ∷ []) ease reads.adds reads.local_is reads.none_taken reads.events reads.piece; value_is = refl }

pub reads_pendbaser : (old new : Seen) (vcpu held value : ℕ) → IsAtEase old.local → value ≡ pendbaser_read held → ReadsPlain old new (PendbaserWord vcpu) held → ReadsRedist old new vcpu Pendbaser value
unfolding stored_view freely_read
reads_pendbaser old new vcpu held value ease is reads =
    record { serves = freely_read old new (stored_view old held) (Word (PendbaserWord vcpu)) (reads.look ∷ []) ease reads.adds reads.local_is reads.none_taken reads.events reads.piece; value_is = is }

-- LPIs.

pub lpis_there : (shape other : GuestShape) → shape ≡ other → (shape.lpis ≡ 0 → ⊥) → has_lpis other ≡ true
lpis_there shape other e some = ap has_lpis (sym e) ∙ ap not (ne_eqb shape.lpis 0 some)

pub lpis_none : (shape other : GuestShape) → shape ≡ other → shape.lpis ≡ 0 → has_lpis other ≡ false
lpis_none shape other e none = ap has_lpis (sym e) ∙ ap not (eq-eqb shape.lpis 0 none)

-- By the register.

pub read_by : (old new : Seen) (vcpu value : ℕ) (reg its : Reg) → reg ≡ its → ReadsRedist old new vcpu its value → ReadsRedist old new vcpu reg value
read_by old new vcpu value reg its e reads = let Of : Reg → Type 0 = λ reg. ReadsRedist old new vcpu reg value in subst Of (sym e) reads

pub reads_iidr : (old : Seen) (vcpu value : ℕ) → IsAtEase old.local → value ≡ iidr → ReadsRedist old old vcpu Iidr value
reads_iidr old vcpu value ease is = reads_fixed old vcpu value Iidr ease refl is (λ view. refl)

pub reads_pidr2 : (old : Seen) (vcpu value : ℕ) → IsAtEase old.local → value ≡ pidr2 → ReadsRedist old old vcpu Pidr2 value
reads_pidr2 old vcpu value ease is = reads_fixed old vcpu value Pidr2 ease refl is (λ view. refl)

pub reads_typer : (old : Seen) (vcpu value : ℕ) → IsAtEase old.local → value ≡ typer_of (shape_of old) vcpu → ReadsRedist old old vcpu Typer value
reads_typer old vcpu value ease is = reads_fixed old vcpu value Typer ease refl is (λ view. refl)

-- Writes.

write_by : (old new : Seen) (vcpu : ℕ) (reg its : Reg) (half : Half) (value : ℕ) → reg ≡ its → WritesRedist old new vcpu its half value → WritesRedist old new vcpu reg half value
write_by old new vcpu reg its half value e writes = let Of : Reg → Type 0 = λ reg. WritesRedist old new vcpu reg half value in subst Of (sym e) writes

pub writes_propbaser : (old new : Seen) (vcpu : ℕ) (reg : Reg) (half : Half) (value : ℕ) → reg ≡ Propbaser → StoresTable old new vcpu (PropbaserWord vcpu) (changed_by (PropbaserChange half value)) → WritesRedist old new vcpu reg half value
writes_propbaser old new vcpu reg half value e stores =
    let events : View → List Event = λ view. redist_written (shape_of old) view vcpu Propbaser half value in
    let named : View → List Event = λ view. redist_written (shape_of old) (before_enabling vcpu view) vcpu Propbaser half value in
    write_by old new vcpu reg Propbaser half value e (record { serves = serves_freely old new events (λ view. Lpis vcpu ∷ []) named stores; found = λ id there bit. absurd (cc); after = λ sets. absurd (cc) })

pub writes_pendbaser : (old new : Seen) (vcpu : ℕ) (reg : Reg) (half : Half) (value : ℕ) → reg ≡ Pendbaser → StoresTable old new vcpu (PendbaserWord vcpu) (changed_by (PendbaserChange half value)) → WritesRedist old new vcpu reg half value
writes_pendbaser old new vcpu reg half value e stores =
    let events : View → List Event = λ view. redist_written (shape_of old) view vcpu Pendbaser half value in
    let named : View → List Event = λ view. redist_written (shape_of old) (before_enabling vcpu view) vcpu Pendbaser half value in
    write_by old new vcpu reg Pendbaser half value e (record { serves = serves_freely old new events (λ view. Lpis vcpu ∷ []) named stores; found = λ id there bit. absurd (cc); after = λ sets. absurd (cc) })

pub low_enable : (shape : GuestShape) (value : ℕ) → enable_lpis_after shape false (value % 2 ^ 32) ≡ enable_lpis_after shape false value
low_enable shape value = let bit : has_bit (value % 2 ^ 32) 0 ≡ has_bit value 0 = ap (λ n. n == 1) (omega arith) in ap (λ b. has_lpis shape && b) bit

pub writes_ctlr : (old new : Seen) (vcpu : ℕ) (reg : Reg) (half : Half) (value : ℕ) → reg ≡ Ctlr → enable_lpis_after (shape_of old) false value ≡ true → EnablesLpis old new vcpu → WritesRedist old new vcpu reg half value
writes_ctlr old new vcpu reg half value e rises enables =
    let shape = shape_of old in
    let Of : Bool → Type 0 = λ b.
    (serves : Serves old new (λ view. if b then enable_events shape view vcpu else []) (λ view. if b then (if view.lpis vcpu then [] else table_places shape view vcpu) else []) (λ view. if b then enable_events shape (before_enabling vcpu view) vcpu else [])) × ((id : ℕ) → IsTrue (has_interrupt shape (Lpi id)) → IsTrue (b && reads_bit shape serves.view vcpu id) → IsLookedAt old serves.part id (serves.view.targets id))
    × (IsTrue b → MakesAfter (Some old.actor) serves.view (Enable vcpu) (pended_events shape serves.view vcpu) (if b then (if serves.view.lpis vcpu then [] else table_places shape serves.view vcpu) else []) (part_events old serves.part)) in
    let one : Of true = (enables.serves, enables.found, λ sets. enables.after) in
    let both = subst Of (sym rises) one in
    write_by old new vcpu reg Ctlr half value e (record { serves = both.0; found = both.1; after = both.2 })

pub keeps_ctlr : (old : Seen) (vcpu : ℕ) (reg : Reg) (half : Half) (value : ℕ) → IsAtEase old.local → reg ≡ Ctlr → enable_lpis_after (shape_of old) false value ≡ false → WritesRedist old old vcpu reg half value
keeps_ctlr old vcpu reg half value ease e stays =
    let shape = shape_of old in
    let Of : Bool → Type 0 = λ b.
    (serves : Serves old old (λ view. if b then enable_events shape view vcpu else []) (λ view. if b then (if view.lpis vcpu then [] else table_places shape view vcpu) else []) (λ view. if b then enable_events shape (before_enabling vcpu view) vcpu else [])) × ((id : ℕ) → IsTrue (has_interrupt shape (Lpi id)) → IsTrue (b && reads_bit shape serves.view vcpu id) → IsLookedAt old serves.part id (serves.view.targets id))
    × (IsTrue b → MakesAfter (Some old.actor) serves.view (Enable vcpu) (pended_events shape serves.view vcpu) (if b then (if serves.view.lpis vcpu then [] else table_places shape serves.view vcpu) else []) (part_events old serves.part)) in
    let none : Of false = (serves_nothing old (λ view. []) (λ view. []) (λ view. []) ease (λ view. refl) (λ view. refl), λ id there bit. absurd (cc), λ sets. absurd (cc)) in
    let both = subst Of (sym stays) none in
    write_by old old vcpu reg Ctlr half value e (record { serves = both.0; found = both.1; after = both.2 })

pub writes_fixed : (old : Seen) (vcpu : ℕ) (reg : Reg) (half : Half) (value : ℕ) → IsAtEase old.local → (reg ≡ Iidr) ⊎ ((reg ≡ Typer) ⊎ (reg ≡ Pidr2)) → WritesRedist old old vcpu reg half value
writes_fixed old vcpu reg half value ease (inl e) = write_by old old vcpu reg Iidr half value e (record { serves = serves_nothing old (λ view. []) (λ view. []) (λ view. []) ease (λ view. refl) (λ view. refl); found = λ id there bit. absurd (cc); after = λ sets. absurd (cc) })
writes_fixed old vcpu reg half value ease (inr (inl e)) = write_by old old vcpu reg Typer half value e (record { serves = serves_nothing old (λ view. []) (λ view. []) (λ view. []) ease (λ view. refl) (λ view. refl); found = λ id there bit. absurd (cc); after = λ sets. absurd (cc) })
writes_fixed old vcpu reg half value ease (inr (inr e)) = write_by old old vcpu reg Pidr2 half value e (record { serves = serves_nothing old (λ view. []) (λ view. []) (λ view. []) ease (λ view. refl) (λ view. refl); found = λ id there bit. absurd (cc); after = λ sets. absurd (cc) })

-- Whole accesses.

pub served_bits : (old new : Seen) (vcpu : ℕ) (kind : Kind) (first count : ℕ) (write : Option ℕ) (value : ℕ) → AccessesParts old new (Redist vcpu) kind first count write value → ServesRedist old new vcpu (Bits kind first count) write value
unfolding serves_parts serves_each
served_bits old new vcpu kind first count None value made =
    record {
      serves = serves_parts old new (Redist vcpu) kind first count None value (λ view. parts_events (shape_of old) (Redist vcpu) kind first count None) (λ view. parts_events (shape_of old) (Redist vcpu) kind first count None) (λ view. refl) (λ view. refl) made;
      reads = parts_read old new (Redist vcpu) kind first count None value made;
      found = λ id there bit. absurd (cc);
      after = λ sets. absurd (cc);
    }
served_bits old new vcpu kind first count (Some written) value made =
    record {
      serves =
          serves_parts old new (Redist vcpu) kind first count (Some written) value (λ view. parts_events (shape_of old) (Redist vcpu) kind first count (Some written)) (λ view. parts_events (shape_of old) (Redist vcpu) kind first count (Some written))
          (λ view. refl) (λ view. refl) made;
      reads = refl;
      found = λ id there bit. absurd (cc);
      after = λ sets. absurd (cc);
    }

pub served_read : (old new : Seen) (vcpu : ℕ) (reg : Reg) (half : Half) (held value : ℕ) → value ≡ half_read half held → ReadsRedist old new vcpu reg held → ServesRedist old new vcpu (Plain reg half) None value
unfolding serves_freely
served_read old new vcpu Ctlr half held value is read = record { serves = serves_freely old new (λ view. []) (λ view. redist_places (shape_of old) view vcpu (Plain Ctlr Whole) None) (λ view. []) read.serves; reads = ap Some (is ∙ ap (half_read half) read.value_is); found = λ id there bit. absurd (cc); after = λ sets. absurd (cc) }
served_read old new vcpu Iidr half held value is read = record { serves = serves_freely old new (λ view. []) (λ view. []) (λ view. []) read.serves; reads = ap Some (is ∙ ap (half_read half) read.value_is); found = λ id there bit. absurd (cc); after = λ sets. absurd (cc) }
served_read old new vcpu Typer half held value is read = record { serves = serves_freely old new (λ view. []) (λ view. []) (λ view. []) read.serves; reads = ap Some (is ∙ ap (half_read half) read.value_is); found = λ id there bit. absurd (cc); after = λ sets. absurd (cc) }
served_read old new vcpu Propbaser half held value is read = record { serves = serves_freely old new (λ view. []) (λ view. Word (PropbaserWord vcpu) ∷ []) (λ view. []) read.serves; reads = ap Some (is ∙ ap (half_read half) read.value_is); found = λ id there bit. absurd (cc); after = λ sets. absurd (cc) }
served_read old new vcpu Pendbaser half held value is read = record { serves = serves_freely old new (λ view. []) (λ view. Word (PendbaserWord vcpu) ∷ []) (λ view. []) read.serves; reads = ap Some (is ∙ ap (half_read half) read.value_is); found = λ id there bit. absurd (cc); after = λ sets. absurd (cc) }
served_read old new vcpu Pidr2 half held value is read = record { serves = serves_freely old new (λ view. []) (λ view. []) (λ view. []) read.serves; reads = ap Some (is ∙ ap (half_read half) read.value_is); found = λ id there bit. absurd (cc); after = λ sets. absurd (cc) }

pub served_write : (old new : Seen) (vcpu : ℕ) (reg : Reg) (half : Half) (value : ℕ) → WritesRedist old new vcpu reg half value → ServesRedist old new vcpu (Plain reg half) (Some value) 0
served_write old new vcpu reg half value writes = record { serves = writes.serves; reads = refl; found = writes.found; after = writes.after }

pub served_none : (old : Seen) (vcpu : ℕ) (write : Option ℕ) → IsAtEase old.local → ServesRedist old old vcpu Reserved write 0
served_none old vcpu None ease = record { serves = serves_nothing old (λ view. []) (λ view. []) (λ view. []) ease (λ view. refl) (λ view. refl); reads = refl; found = λ id there bit. absurd (cc); after = λ sets. absurd (cc) }
served_none old vcpu (Some value) ease = record { serves = serves_nothing old (λ view. []) (λ view. []) (λ view. []) ease (λ view. refl) (λ view. refl); reads = refl; found = λ id there bit. absurd (cc); after = λ sets. absurd (cc) }

pub served_by : (old new : Seen) (vcpu : ℕ) (reference other : RegRef) (write its : Option ℕ) (value : ℕ) → reference ≡ other → write ≡ its → ServesRedist old new vcpu other its value → ServesRedist old new vcpu reference write value
served_by old new vcpu reference other write its value e f serves =
    let Of : RegRef → Type 0 = λ reference. ServesRedist old new vcpu reference write value in
    let By : Option ℕ → Type 0 = λ write. ServesRedist old new vcpu other write value in
    subst Of (sym e) (subst By (sym f) serves)
