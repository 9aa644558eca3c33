-- The places that calls read are there.
use Rattle.std.proofs.Common.{◌≡◌, ℕ, ◌+◌, ◌*◌, ◌<◌, ◌≤◌, ◌%◌, ◌/◌, ◌==◌, ◌&&◌, Bool, true, false, cond, IsTrue, IfSome, is_none, All, List, [], ◌∷◌, Option, Some, None, refl, ◌∙◌, arith}
use Rattle.std.specs.List.{flat_map, list_all}
use Rattle.std.proofs.lemmas.Bool.{and_from}
use Rattle.std.proofs.lemmas.List.Folds.{list_all-append}
use Rattle.std.specs.Option.{option_map_or}
use Rattle.std.proofs.lemmas.Grind.{common_steps}
use Rattle.std.proofs.lemmas.List.Elements.{All-nil, All-cons, All-append}
use Rattle.floor_histories.proofs.GicFrame.TestLemmas.{left, right, is_under, at_most}
use Rattle.floor_histories.specs.Registers.{has_lpis, SetSpi, ClrSpi, Router, Propbaser as PropbaserReg, Pendbaser as PendbaserReg, enable_lpis_after, Cbaser as CbaserReg, Cwriter as CwriterReg, Creadr, Baser0 as Baser0Reg, Baser1 as Baser1Reg, config_address, pending_address, Part, is_size, is_within, part_of}
use Rattle.floor_histories.specs.Words.{GuestShape, Frame, Dist, Redist, Its, Ram as Memory, DeviceOp, Message, Wire, Msi, Mem, IsShape}
use Rattle.floor_histories.specs.GicDmap.declared.map.Reg.TheVariants.{Ctlr as DistCtlr, Typer as DistTyper, Iidr as DistIidr, Pidr2 as DistPidr2}
use Rattle.floor_histories.specs.GicDmap.declared.map.RegRef.{RegRef as DistRef}
use Rattle.floor_histories.specs.GicDmap.declared.map.RegRef.TheVariants.{Bits as DistBits, Plain as DistPlain, Reserved as DistReserved}
use Rattle.floor_histories.specs.GicDmap.Map.{decoded as dist_decoded}
use Rattle.floor_histories.specs.GicRmap.declared.map.Reg.TheVariants.{Ctlr as RedistCtlr, Iidr as RedistIidr, Typer as RedistTyper, Pidr2 as RedistPidr2}
use Rattle.floor_histories.specs.GicRmap.declared.map.RegRef.{RegRef as RedistRef}
use Rattle.floor_histories.specs.GicRmap.declared.map.RegRef.TheVariants.{Bits as RedistBits, Plain as RedistPlain, Reserved as RedistReserved}
use Rattle.floor_histories.specs.GicRmap.Map.{decoded as redist_decoded}
use Rattle.floor_histories.specs.GicImap.declared.map.Reg.{Reg as ItsReg}
use Rattle.floor_histories.specs.GicImap.declared.map.Reg.TheVariants.{Ctlr as ItsCtlrReg, Iidr as ItsIidr, Typer as ItsTyper, Pidr2 as ItsPidr2}
use Rattle.floor_histories.specs.GicImap.declared.map.RegRef.{RegRef as ItsRef}
use Rattle.floor_histories.specs.GicImap.declared.map.RegRef.TheVariants.{Plain as ItsPlain, Reserved as ItsReserved}
use Rattle.floor_histories.specs.GicImap.Map.{decoded as its_decoded}
use Rattle.floor_histories.specs.Calls.{fits, has_frame, is_good_op, Ram, Propbaser, Pendbaser, ItsCtlr, Cbaser, Cwriter, Place, Part as CommandPart, Map, Clear, is_table_zero, lpis_of, lpi_event, word_address, memory_places, dist_places, table_places, redist_places, its_read_places, its_write_places, its_places, access_places, device_places, byte_places, command_places, HappensFreely, has_place, View, sets_lpis}
use Rattle.floor_histories.specs.GicCall.declared.event.Place.TheVariants.{Word, Queue as QueuePlace, Lpis}
use Rattle.floor_histories.specs.GicCall.declared.command.Part.TheVariants.{Forget, Retarget, Raise, Configure}
use Rattle.floor_histories.specs.Histories.{IdealGuest, view_of, IsSound}
use Rattle.floor_histories.proofs.IdealGuests.PartLemmas.{lpi_target_there}

abbrev pub ArePlaces : GuestShape → List Place → Type 0
ArePlaces shape places = All (λ place. IsTrue (has_place shape place)) places

none_there : (shape : GuestShape) → ArePlaces shape []
none_there shape = All-nil (λ place. IsTrue (has_place shape place))

one_there : (shape : GuestShape) (place : Place) (places : List Place) → IsTrue (has_place shape place) → ArePlaces shape places → ArePlaces shape (place ∷ places)
one_there shape place places h rest = All-cons (λ place. IsTrue (has_place shape place)) place places h rest

where_there : (shape : GuestShape) (b : Bool) (places : List Place) → ArePlaces shape places → ArePlaces shape (cond b places [])
where_there shape true places there = there
where_there shape false places there = none_there shape

unless_there : (shape : GuestShape) (b : Bool) (places : List Place) → ArePlaces shape places → ArePlaces shape (cond b [] places)
unless_there shape true places there = none_there shape
unless_there shape false places there = there

all_there : {X : Type 0} (shape : GuestShape) (f : X → List Place) (xs : List X) → ((x : X) → ArePlaces shape (f x)) → ArePlaces shape (flat_map f xs)
all_there shape f [] each = none_there shape
all_there shape f (x ∷ xs) each = All-append (λ place. IsTrue (has_place shape place)) (f x) (flat_map f xs) (each x) (all_there shape f xs each)

-- the word of an access is one of the memory
word_there : (address size ram : ℕ) → 1 ≤ size → ram % 8 ≡ 0 → address + size ≤ ram → address / 8 < ram / 8
word_there address size ram some whole within = omega arith

pub memory_there : (shape : GuestShape) (address size : ℕ) → IsShape shape → 1 ≤ size → ArePlaces shape (memory_places shape address size)
memory_there shape address size good some = of (address % size == 0 && is_within address size shape.ram) refl
  where
    place : Part
    place = record { index = address / 8; shift = 8 * (address % 8); bits = 8 * size }

    of : (b : Bool) → (address % size == 0 && is_within address size shape.ram) ≡ b → ArePlaces shape (option_map_or (λ part. Word (Ram part.index) ∷ []) (cond b (Some place) None) [])
    of true e = one_there shape _ [] (is_under (address / 8) (shape.ram / 8) (word_there address size shape.ram some good.ram_words (at_most (address + size) shape.ram (right _ _ e)))) (none_there shape)
    of false e = none_there shape

dist_there : (shape : GuestShape) (ref : DistRef) → ArePlaces shape (dist_places ref)
dist_there shape (DistBits kind first count) = none_there shape
dist_there shape (DistPlain DistCtlr half) = one_there shape _ [] refl (none_there shape)
dist_there shape (DistPlain DistTyper half) = none_there shape
dist_there shape (DistPlain DistIidr half) = none_there shape
dist_there shape (DistPlain SetSpi half) = none_there shape
dist_there shape (DistPlain ClrSpi half) = none_there shape
dist_there shape (DistPlain (Router id) half) = none_there shape
dist_there shape (DistPlain DistPidr2 half) = none_there shape
dist_there shape DistReserved = none_there shape

redist_there : (shape : GuestShape) (view : View) (vcpu : ℕ) (ref : RedistRef) (write : Option ℕ) → IsShape shape → IsTrue (has_place shape (Lpis vcpu)) → ArePlaces shape (redist_places shape view vcpu ref write)
redist_there shape view vcpu (RedistPlain RedistCtlr half) None good h = where_there shape (has_lpis shape) (Lpis vcpu ∷ []) (one_there shape (Lpis vcpu) [] h (none_there shape))
redist_there shape view vcpu (RedistPlain RedistCtlr half) (Some value) good h =
    where_there shape (enable_lpis_after shape false value) (cond (view.lpis vcpu) [] (table_places shape view vcpu))
    (unless_there shape (view.lpis vcpu) (table_places shape view vcpu)
    (one_there shape (Word (Pendbaser vcpu)) (cond (is_table_zero (view.words (Pendbaser vcpu))) [] (flat_map (λ id. memory_places shape (pending_address (view.words (Pendbaser vcpu)) id).0 1) (lpis_of shape))) h
    (unless_there shape (is_table_zero (view.words (Pendbaser vcpu))) (flat_map (λ id. memory_places shape (pending_address (view.words (Pendbaser vcpu)) id).0 1) (lpis_of shape))
    (all_there shape (λ id. memory_places shape (pending_address (view.words (Pendbaser vcpu)) id).0 1) (lpis_of shape) (λ id. memory_there shape (pending_address (view.words (Pendbaser vcpu)) id).0 1 good (omega arith))))))
redist_there shape view vcpu (RedistPlain PropbaserReg half) None good h = one_there shape _ [] h (none_there shape)
redist_there shape view vcpu (RedistPlain PendbaserReg half) None good h = one_there shape _ [] h (none_there shape)
redist_there shape view vcpu (RedistPlain PropbaserReg half) (Some value) good h = one_there shape _ [] h (none_there shape)
redist_there shape view vcpu (RedistPlain PendbaserReg half) (Some value) good h = one_there shape _ [] h (none_there shape)
redist_there shape view vcpu (RedistPlain RedistIidr half) write good h = none_there shape
redist_there shape view vcpu (RedistPlain RedistTyper half) write good h = none_there shape
redist_there shape view vcpu (RedistPlain RedistPidr2 half) write good h = none_there shape
redist_there shape view vcpu (RedistBits kind first count) write good h = none_there shape
redist_there shape view vcpu RedistReserved write good h = none_there shape

its_read_there : (shape : GuestShape) (reg : ItsReg) → ArePlaces shape (its_read_places reg)
its_read_there shape ItsCtlrReg = one_there shape _ [] refl (none_there shape)
its_read_there shape CbaserReg = one_there shape _ [] refl (none_there shape)
its_read_there shape CwriterReg = one_there shape _ [] refl (none_there shape)
its_read_there shape Creadr = one_there shape _ [] refl (none_there shape)
its_read_there shape Baser0Reg = one_there shape _ [] refl (none_there shape)
its_read_there shape Baser1Reg = one_there shape _ [] refl (none_there shape)
its_read_there shape ItsIidr = none_there shape
its_read_there shape ItsTyper = none_there shape
its_read_there shape ItsPidr2 = none_there shape

its_write_there : (shape : GuestShape) (reg : ItsReg) → ArePlaces shape (its_write_places reg)
its_write_there shape ItsCtlrReg = one_there shape (Word Cbaser) (Word Cwriter ∷ QueuePlace ∷ []) refl (one_there shape (Word Cwriter) (QueuePlace ∷ []) refl (one_there shape QueuePlace [] refl (none_there shape)))
its_write_there shape CbaserReg = one_there shape _ [] refl (none_there shape)
its_write_there shape CwriterReg =
    one_there shape (Word ItsCtlr) (Word Cbaser ∷ QueuePlace ∷ Word Cwriter ∷ []) refl
    (one_there shape (Word Cbaser) (QueuePlace ∷ Word Cwriter ∷ []) refl (one_there shape QueuePlace (Word Cwriter ∷ []) refl (one_there shape (Word Cwriter) [] refl (none_there shape))))
its_write_there shape Baser0Reg = one_there shape _ [] refl (none_there shape)
its_write_there shape Baser1Reg = one_there shape _ [] refl (none_there shape)
its_write_there shape Creadr = none_there shape
its_write_there shape ItsIidr = none_there shape
its_write_there shape ItsTyper = none_there shape
its_write_there shape ItsPidr2 = none_there shape

its_there : (shape : GuestShape) (ref : ItsRef) (write : Option ℕ) → ArePlaces shape (its_places shape ref write)
its_there shape (ItsPlain reg half) write = where_there shape (has_lpis shape) (cond (is_none write) (its_read_places reg) (its_write_places reg)) (of (is_none write))
  where
    of : (b : Bool) → ArePlaces shape (cond b (its_read_places reg) (its_write_places reg))
    of true = its_read_there shape reg
    of false = its_write_there shape reg
its_there shape ItsReserved write = none_there shape

some_byte : (size : ℕ) → IsTrue (is_size size) → 1 ≤ size
some_byte size h = grind (arith, common_steps, h)

pub access_there : (shape : GuestShape) (view : View) (frame : Frame) (offset size : ℕ) (write : Option ℕ) → IsShape shape → IsTrue (is_good_op shape (Mem frame offset size write)) → ArePlaces shape (access_places shape view frame offset size write)
access_there shape view frame offset size write good op =
    let formed : IsTrue (is_size size && fits size write && has_frame shape frame) = left _ _ op in
    of frame (some_byte size (left _ _ (left _ _ formed))) (right _ _ formed)
  where
    of : (frame : Frame) → 1 ≤ size → IsTrue (has_frame shape frame) → ArePlaces shape (access_places shape view frame offset size write)
    of Dist some h = where_there shape (is_none write) (dist_places (dist_decoded offset size)) (dist_there shape (dist_decoded offset size))
    of (Redist vcpu) some h = redist_there shape view vcpu (redist_decoded offset size) write good h
    of Its some h = its_there shape (its_decoded offset size) write
    of Memory some h = where_there shape (is_none write) (memory_places shape offset size) (memory_there shape offset size good some)

pub device_there : (shape : GuestShape) (op : DeviceOp) → ArePlaces shape (device_places op)
device_there shape (Message spi) = none_there shape
device_there shape (Wire key up) = none_there shape
device_there shape (Msi device event) = one_there shape _ [] refl (none_there shape)

pub command_there : (shape : GuestShape) (view : View) → IsShape shape → ArePlaces shape (command_places shape view)
command_there shape view good = all_there shape (λ number. memory_places shape (word_address view number) 8) (0 ∷ 1 ∷ 2 ∷ 3 ∷ []) (λ number. memory_there shape (word_address view number) 8 good (omega arith))

-- a part of a command reads where the guest has the vCPU that its LPI is for
target_there : (shape : GuestShape) (view : View) (id : ℕ) (target : Option ℕ) → IsShape shape → IfSome target (λ vcpu. vcpu < shape.vcpus)
    → ArePlaces shape (option_map_or (λ vcpu. Word (Propbaser vcpu) ∷ memory_places shape (config_address (view.words (Propbaser vcpu)) id) 1) target [])
target_there shape view id None good h = none_there shape
target_there shape view id (Some vcpu) good h = one_there shape (Word (Propbaser vcpu)) _ (is_under vcpu shape.vcpus h) (memory_there shape (config_address (view.words (Propbaser vcpu)) id) 1 good (omega arith))

pub byte_there : (guest : IdealGuest) (view : View) (part : CommandPart) → IsSound guest → HappensFreely guest.shape (lpi_event guest.shape view (view_of guest).targets part) → ArePlaces guest.shape (byte_places guest.shape view (view_of guest).targets part)
byte_there guest view (Map id target) sound can = target_there guest.shape view id (Some target) sound.shape (grind (arith, common_steps, can.fits))
byte_there guest view (Configure id) sound can = target_there guest.shape view id ((view_of guest).targets id) sound.shape (lpi_target_there guest id sound can.there)
byte_there guest view (Forget id) sound can = none_there guest.shape
byte_there guest view (Retarget id target) sound can = none_there guest.shape
byte_there guest view (Raise id) sound can = none_there guest.shape
byte_there guest view (Clear id) sound can = none_there guest.shape

-- A write that sets EnableLPIs reads stored words alone.

abbrev pub is_word : Place → Bool
is_word (Word word) = true
is_word place = false

memory_word : (shape : GuestShape) (address size : ℕ) → IsTrue (list_all is_word (memory_places shape address size))
memory_word shape address size = of (part_of address size shape.ram)
  where
    of : (o : Option Part) → IsTrue (list_all is_word (option_map_or (λ part. Word (Ram part.index) ∷ []) o []))
    of None = refl
    of (Some part) = refl

table_words : (shape : GuestShape) (pendbaser : ℕ) (ids : List ℕ) → IsTrue (list_all is_word (flat_map (λ id. memory_places shape (pending_address pendbaser id).0 1) ids))
table_words shape pendbaser [] = refl
table_words shape pendbaser (id ∷ ids) =
    list_all-append is_word (memory_places shape (pending_address pendbaser id).0 1) (flat_map (λ id. memory_places shape (pending_address pendbaser id).0 1) ids)
    ∙ and_from (list_all is_word (memory_places shape (pending_address pendbaser id).0 1)) (list_all is_word (flat_map (λ id. memory_places shape (pending_address pendbaser id).0 1) ids)) (memory_word shape (pending_address pendbaser id).0 1)
    (table_words shape pendbaser ids)

pub set_places : (shape : GuestShape) (view : View) (vcpu : ℕ) (ref : RedistRef) (write : Option ℕ) → sets_lpis shape ref write ≡ true → IsTrue (list_all is_word (redist_places shape view vcpu ref write))
set_places shape view vcpu (RedistPlain RedistCtlr half) (Some value) h = of (enable_lpis_after shape false value) (view.lpis vcpu) (is_table_zero (view.words (Pendbaser vcpu)))
  where
    table : List Place
    table = flat_map (λ id. memory_places shape (pending_address (view.words (Pendbaser vcpu)) id).0 1) (lpis_of shape)

    of : (b c d : Bool) → IsTrue (list_all is_word (cond b (cond c [] (Word (Pendbaser vcpu) ∷ cond d [] table)) []))
    of false c d = refl
    of true true d = refl
    of true false true = refl
    of true false false = table_words shape (view.words (Pendbaser vcpu)) (lpis_of shape)
set_places shape view vcpu (RedistPlain RedistCtlr half) None h = absurd (cc)
set_places shape view vcpu (RedistPlain RedistIidr half) write h = absurd (cc)
set_places shape view vcpu (RedistPlain RedistTyper half) write h = absurd (cc)
set_places shape view vcpu (RedistPlain PropbaserReg half) write h = absurd (cc)
set_places shape view vcpu (RedistPlain PendbaserReg half) write h = absurd (cc)
set_places shape view vcpu (RedistPlain RedistPidr2 half) write h = absurd (cc)
set_places shape view vcpu (RedistBits kind first count) write h = absurd (cc)
set_places shape view vcpu RedistReserved write h = absurd (cc)
