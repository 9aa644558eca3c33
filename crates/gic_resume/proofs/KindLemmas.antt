-- What is written in an image is of its kind.
use Rattle.std.proofs.Common.{◌≡◌, ℕ, ◌&&◌, Bool, true, false, List, [], ◌∷◌, map, Option, Some, None, refl}
use Rattle.std.specs.List.{list_all}
use Rattle.serde_json.specs.Data.{Data}
use Rattle.serde_json.specs.View.{items_of}
use Rattle.serde_json.proofs.OnLiterals.{serde_json_on_literals}
use Rattle.scn_read.specs.JsonField.Field.{elements}
use Rattle.gic_save.specs.ScnSaved.GicGuest.declared.guest.GuestSpec.{GuestSpec}
use Rattle.gic_save.specs.ScnSaved.ScnBase.declared.pes.VcpuName.{VcpuName}
use Rattle.gic_save.specs.ScnSaved.declared.state.GuestState.{GuestState}
use Rattle.gic_save.specs.ScnSaved.declared.state.RecState.{RecState}
use Rattle.gic_save.specs.ScnSaved.declared.state.ItsState.{ItsState}
use Rattle.gic_save.specs.Cell.{cell_data, flag_cell, list_data, row_data}
use Rattle.gic_save.specs.Image.{preset_data, cpu_data, rec_cells, rec_data, redist_data, its_data, dev_data, evt_data, col_data, ram_data, data_or_null, resident_data, guest_data, guests_data}
use Rattle.gic_resume.specs.Kind.{is_number, is_row, is_list, is_named_row, is_guest}
use Rattle.gic_resume.specs.Back.{ImagesHaveShape}

both : (a b : Bool) → a ≡ true → b ≡ true → (a && b) ≡ true
both true true e f = refl
both true false e f = absurd (cc)
both false b e f = absurd (cc)

-- each element is of a kind, where each is written so
each_kind : {X : Type 0} (test : Data → Bool) (written : X → Data) → ((x : X) → test (written x) ≡ true) → (xs : List X) → list_all test (elements (items_of (map written xs))) ≡ true
each_kind test written kind [] = refl
each_kind test written kind (x ∷ xs) = both (test (written x)) (list_all test (elements (items_of (map written xs)))) (kind x) (each_kind test written kind xs)

list_kind : {X : Type 0} (test : Data → Bool) (written : X → Data) → ((x : X) → test (written x) ≡ true) → (xs : List X) → is_list test (list_data written xs) ≡ true
list_kind test written kind xs = each_kind test written kind xs

cell_kind : (cell : Option ℕ) → is_number (cell_data cell) ≡ true
cell_kind None = refl
cell_kind (Some n) = refl

row_kind : (cells : List (Option ℕ)) → is_row (row_data cells) ≡ true
row_kind cells = list_kind is_number cell_data cell_kind cells

resident_kind : (resident : Option VcpuName) → is_row (resident_data resident) ≡ true
resident_kind None = refl
resident_kind (Some name) = row_kind (Some name.guest ∷ Some name.vcpu ∷ [])

rec_kind : (rec : RecState) → is_named_row (rec_data rec) ≡ true
rec_kind rec = each_kind is_number cell_data cell_kind (rec_cells rec)

its_kind : (its : Option ItsState) → is_row (data_or_null its_data its) ≡ true
its_kind None = refl
its_kind (Some its) =
    row_kind (flag_cell its.enabled ∷ Some its.cbaser ∷ Some its.cwriter ∷ Some its.offset ∷ flag_cell its.stalled ∷ Some its.fault ∷ Some its.baser0 ∷ Some its.baser1 ∷ [])

guest_kind : (guest : GuestSpec) (state : GuestState) → is_guest (guest_data guest state) ≡ true
unfolding serde_json_on_literals
guest_kind guest state =
    let shape = row_kind (Some guest.shape.vcpus ∷ Some guest.shape.spis ∷ Some guest.shape.espis ∷ Some guest.shape.devices ∷ Some guest.shape.lpis ∷ Some guest.shape.ram ∷ []) in
    let irqs = list_kind is_row preset_data (λ preset. row_kind (Some preset.id ∷ Some preset.prio ∷ flag_cell preset.edge ∷ Some preset.group ∷ preset.to ∷ preset.vcpu ∷ [])) guest.presets in
    let cpu = list_kind is_row cpu_data (λ cpu. row_kind (Some cpu.pmr ∷ Some cpu.bpr0 ∷ Some cpu.bpr1 ∷ flag_cell cpu.cbpr ∷ flag_cell cpu.eoimode ∷ flag_cell cpu.en0 ∷ flag_cell cpu.en1 ∷ flag_cell cpu.lpis ∷ Some cpu.ap0 ∷ Some cpu.ap1 ∷ [])) state.cpu in
    let rec = list_kind is_named_row rec_data rec_kind state.rec in
    let redist = list_kind is_row redist_data (λ redist. row_kind (Some redist.propbaser ∷ Some redist.pendbaser ∷ [])) state.redist in
    let dev = list_kind is_row dev_data (λ dev. row_kind (Some dev.device ∷ Some dev.bits ∷ [])) state.dev in
    let evt = list_kind is_row evt_data (λ evt. row_kind (Some evt.device ∷ Some evt.event ∷ Some evt.id ∷ Some evt.icid ∷ [])) state.evt in
    let col = list_kind is_row col_data (λ col. row_kind (Some col.icid ∷ Some col.vcpu ∷ [])) state.col in
    let ram = list_kind is_row ram_data (λ ram. row_kind (Some ram.index ∷ Some ram.word ∷ [])) state.ram in
    both _ _ (both _ _ (both _ _ (both _ _ (both _ _ (both _ _ (both _ _ (both _ _ (both _ true (both _ _ (both _ true shape refl) irqs) refl) cpu) rec) redist) (its_kind state.its)) dev) evt) col) ram

guests_kind : (guests : List GuestSpec) (states : List GuestState) → list_all is_guest (elements (items_of (guests_data guests states))) ≡ true
guests_kind [] states = refl
guests_kind (guest ∷ guests) [] = refl
guests_kind (guest ∷ guests) (state ∷ states) = both (is_guest (guest_data guest state)) (list_all is_guest (elements (items_of (guests_data guests states)))) (guest_kind guest state) (guests_kind guests states)

pub images_have_shape : ImagesHaveShape
unfolding serde_json_on_literals
images_have_shape saved = both _ _ (both _ true (list_kind is_row resident_data resident_kind saved.on_pe) refl) (guests_kind saved.scenario.guests saved.state)
