-- An image has no float, and nests five deep.
use Rattle.std.proofs.Common.{◌≡◌, ℕ, suc, ◌≤◌, ◌++◌, ◌||◌, Bool, true, false, List, [], ◌∷◌, map, fold, Option, Some, None, refl, ap, ◌∙◌, arith}
use Rattle.std.specs.declared.cmp.Ordering.{Ordering}
use Rattle.std.specs.declared.cmp.Ordering.TheVariants.{Less, Equal, Greater}
use Rattle.std.specs.Ordering.{nat_cmp, match_ordering}
use Rattle.std.specs.Cmp.Lexicographic.{slice_cmp}
use Rattle.serde_json.specs.Data.{Data, boolean, string, Members, no_members, member as json_member, put, depth, items_depth, members_depth}
use Rattle.serde_json.specs.View.{items_of}
use Rattle.serde_json.specs.Read.{max_depth}
use Rattle.serde_json.specs.Written.{has_float, items_have_float, members_have_float}
use Rattle.scn_saved.specs.Words.{GuestShape, Dist, Redist, Its, Ram, Icc, Mem, Message, Wire, Msi, Enter, Exit, Lrs, GuestOp, DeviceOp, PeOp}
use Rattle.scn_saved.specs.Name.{name_text}
use Rattle.scn_saved.specs.ScnBase.declared.step.Step.{Step}
use Rattle.scn_saved.specs.ScnBase.declared.step.Step.TheVariants.{Vcpu, Device, Pe}
use Rattle.scn_saved.specs.ScnBase.declared.pes.VcpuName.{VcpuName}
use Rattle.scn_saved.specs.GicGuest.declared.guest.GuestSpec.{GuestSpec}
use Rattle.scn_saved.specs.declared.saved.Saved.{Saved}
use Rattle.scn_saved.specs.declared.state.GuestState.{GuestState}
use Rattle.scn_saved.specs.GicGuest.declared.preset.Preset.{Preset}
use Rattle.scn_saved.specs.GicGuest.declared.outcome.EvtEnd.{EvtEnd}
use Rattle.scn_saved.specs.declared.state.CpuState.{CpuState}
use Rattle.scn_saved.specs.declared.state.RecState.{RecState}
use Rattle.scn_saved.specs.declared.state.ItsState.{ItsState}
use Rattle.gic_save.specs.Cell.{Member, number_data, cell_data, flag_cell, list_data, row_data, with_member, object_data}
use Rattle.gic_save.specs.Step.{pair_data, number_if, op_members, event_members, pe_members, step_members, step_data, owner_of}
use Rattle.gic_save.specs.Image.{shape_data, preset_data, cpu_data, rec_cells, rec_data, redist_data, its_data, dev_data, evt_data, col_data, ram_data, resident_data, data_or_null, guest_members, guest_data, guests_data, image_members, image_of}

-- no float, and no deeper than this
pub record IsPlain (n : ℕ) (d : Data) : Type 0 where
  pub whole : has_float d ≡ false
  pub shallow : depth d ≤ n

record ArePlainItems (n : ℕ) (ds : List Data) : Type 0 where
  pub whole : items_have_float (items_of ds) ≡ false
  pub shallow : items_depth (items_of ds) ≤ n

record ArePlainMembers (n : ℕ) (ms : Members) : Type 0 where
  pub whole : members_have_float ms ≡ false
  pub shallow : members_depth ms ≤ n

neither : (a b : Bool) → a ≡ false → b ≡ false → (a || b) ≡ false
neither false b e f = f
neither true b e f = absurd (cc)

pub deeper : (n m : ℕ) (d : Data) → IsPlain n d → n ≤ m → IsPlain m d
deeper n m d is fewer = record { whole = is.whole; shallow = omega (arith, is.shallow) }

-- ---- lists

one_more : (n : ℕ) (d : Data) (ds : List Data) → IsPlain n d → ArePlainItems n ds → ArePlainItems n (d ∷ ds)
one_more n d ds is are =
    record {
      whole = neither (has_float d) (items_have_float (items_of ds)) is.whole are.whole;
      shallow = omega (arith, is.shallow, are.shallow);
    }

none_yet : (n : ℕ) → ArePlainItems n []
none_yet n = record { whole = refl; shallow = omega arith }

each_plain : {X : Type 0} (n : ℕ) (written : X → Data) → ((x : X) → IsPlain n (written x)) → (xs : List X) → ArePlainItems n (map written xs)
each_plain n written plain [] = none_yet n
each_plain n written plain (x ∷ xs) = one_more n (written x) (map written xs) (plain x) (each_plain n written plain xs)

pub list_plain : {X : Type 0} (n : ℕ) (written : X → Data) → ((x : X) → IsPlain n (written x)) → (xs : List X) → IsPlain (suc n) (list_data written xs)
list_plain n written plain xs = let are = each_plain n written plain xs in record { whole = are.whole; shallow = omega (arith, are.shallow) }

pub number_plain : (n k : ℕ) → IsPlain k (number_data n)
number_plain n k = record { whole = refl; shallow = omega arith }

cell_plain : (k : ℕ) (cell : Option ℕ) → IsPlain k (cell_data cell)
cell_plain k None = record { whole = refl; shallow = omega arith }
cell_plain k (Some n) = number_plain n k

row_plain : (k : ℕ) (cells : List (Option ℕ)) → IsPlain (suc k) (row_data cells)
row_plain k cells = list_plain k cell_data (cell_plain k) cells

pair_plain : (k a b : ℕ) → IsPlain (suc k) (pair_data a b)
pair_plain k a b = row_plain k (Some a ∷ Some b ∷ [])

flag_plain : (flag : Bool) (k : ℕ) → IsPlain k (boolean flag)
flag_plain flag k = record { whole = refl; shallow = omega arith }

text_plain : (text : List ℕ) (k : ℕ) → IsPlain k (string text)
text_plain text k = record { whole = refl; shallow = omega arith }

-- ---- objects

before_plain : (n : ℕ) (k : List ℕ) (d : Data) (ms : Members) → IsPlain n d → ArePlainMembers n ms → ArePlainMembers n (json_member k d ms)
before_plain n k d ms is are =
    record {
      whole = neither (has_float d) (members_have_float ms) is.whole are.whole;
      shallow = omega (arith, is.shallow, are.shallow);
    }

head_plain : (n : ℕ) (k : List ℕ) (d : Data) (ms : Members) → ArePlainMembers n (json_member k d ms) → IsPlain n d
head_plain n k d ms are = record { whole = left (has_float d) (members_have_float ms) are.whole; shallow = omega (arith, are.shallow) }
  where
    left : (a b : Bool) → (a || b) ≡ false → a ≡ false
    left false b e = refl
    left true b e = absurd (cc)

tail_plain : (n : ℕ) (k : List ℕ) (d : Data) (ms : Members) → ArePlainMembers n (json_member k d ms) → ArePlainMembers n ms
tail_plain n k d ms are = record { whole = right (has_float d) (members_have_float ms) are.whole; shallow = omega (arith, are.shallow) }
  where
    right : (a b : Bool) → (a || b) ≡ false → b ≡ false
    right false b e = e
    right true b e = absurd (cc)

put_case : (n : ℕ) (k l : List ℕ) (d e : Data) (ms : Members) (o : Ordering) → IsPlain n d → ArePlainMembers n (json_member l e ms) → ArePlainMembers n (put k d ms)
    → ArePlainMembers n (match_ordering o (json_member k d (json_member l e ms)) (json_member l d ms) (json_member l e (put k d ms)))
put_case n k l d e ms Less is are rest = before_plain n k d (json_member l e ms) is are
put_case n k l d e ms Equal is are rest = before_plain n l d ms is (tail_plain n l e ms are)
put_case n k l d e ms Greater is are rest = before_plain n l e (put k d ms) (head_plain n l e ms are) rest

put_plain : (n : ℕ) (k : List ℕ) (d : Data) (ms : Members) → IsPlain n d → ArePlainMembers n ms → ArePlainMembers n (put k d ms)
put_plain n k d no_members is are = before_plain n k d no_members is are
put_plain n k d (json_member l e ms) is are = put_case n k l d e ms (slice_cmp nat_cmp k l) is are (put_plain n k d ms is (tail_plain n l e ms are))

-- what each member holds is plain
unfoldable pub ArePlain : ℕ → List Member → Type 0
ArePlain n [] = Unit {0}
ArePlain n (m ∷ ms) = IsPlain n m.holds × ArePlain n ms

all_put : (n : ℕ) (ms : List Member) (members : Members) → ArePlain n ms → ArePlainMembers n members → ArePlainMembers n (fold with_member members ms)
unfolding ArePlain
all_put n [] members plain are = are
all_put n (m ∷ ms) members plain are = all_put n ms (with_member members m) plain.1 (put_plain n m.name m.holds members plain.0 are)

pub object_plain : (n : ℕ) (ms : List Member) → ArePlain n ms → IsPlain (suc n) (object_data ms)
object_plain n ms plain =
    let are = all_put n ms no_members plain (record { whole = refl; shallow = omega arith }) in
    record { whole = are.whole; shallow = omega (arith, are.shallow) }

-- ---- steps

number_if_plain : (n : ℕ) (name : List ℕ) (number : Option ℕ) → ArePlain n (number_if name number)
unfolding ArePlain
number_if_plain n name None = tt
number_if_plain n name (Some k) = (number_plain k n, tt)

op_plain : (op : GuestOp) → ArePlain 1 (op_members op)
unfolding ArePlain
op_plain (Icc reg write) = (text_plain _ 1, number_if_plain 1 _ write)
op_plain (Mem Dist offset size write) = (number_plain offset 1, (number_plain size 1, number_if_plain 1 _ write))
op_plain (Mem (Redist vcpu) offset size write) = (number_plain offset 1, (number_plain vcpu 1, (number_plain size 1, number_if_plain 1 _ write)))
op_plain (Mem Its offset size write) = (number_plain offset 1, (number_plain size 1, number_if_plain 1 _ write))
op_plain (Mem Ram offset size write) = (number_plain offset 1, (number_plain size 1, number_if_plain 1 _ write))

event_plain : (op : DeviceOp) → ArePlain 1 (event_members op)
unfolding ArePlain
event_plain (Message spi) = (number_plain spi 1, tt)
event_plain (Wire key up) = (number_plain _ 1, (flag_plain up 1, number_if_plain 1 _ (owner_of key)))
event_plain (Msi number event) = (pair_plain 0 number event, tt)

pe_plain : (op : PeOp) → ArePlain 1 (pe_members op)
unfolding ArePlain
pe_plain (Enter guest vcpu) = (pair_plain 0 guest vcpu, tt)
pe_plain Exit = (flag_plain true 1, tt)
pe_plain Lrs = (flag_plain true 1, tt)

members_plain : (step : Step) → ArePlain 1 (step_members step)
unfolding ArePlain
members_plain (Vcpu guest vcpu op) = (pair_plain 0 guest vcpu, op_plain op)
members_plain (Device guest device op) = (pair_plain 0 guest device, event_plain op)
members_plain (Pe pe op) = (number_plain pe 1, pe_plain op)

step_plain : (step : Step) → IsPlain 2 (step_data step)
step_plain step = object_plain 1 (step_members step) (members_plain step)

-- ---- guests

rec_plain : (rec : RecState) → IsPlain 1 (rec_data rec)
rec_plain rec =
    let are = one_more 0 (string (name_text rec.key)) (map cell_data (rec_cells rec)) (text_plain (name_text rec.key) 0) (each_plain 0 cell_data (cell_plain 0) (rec_cells rec)) in
    record { whole = are.whole; shallow = omega (arith, are.shallow) }

its_plain : (its : Option ItsState) → IsPlain 2 (data_or_null its_data its)
its_plain None = record { whole = refl; shallow = omega arith }
its_plain (Some its) =
    row_plain 1
    (flag_cell its.enabled
    ∷ Some its.cbaser
    ∷ Some its.cwriter
    ∷ Some its.offset
    ∷ flag_cell its.stalled
    ∷ Some its.fault
    ∷ Some its.baser0
    ∷ Some its.baser1
    ∷ [])

shape_plain : (shape : GuestShape) → IsPlain 2 (shape_data shape)
shape_plain shape = row_plain 1 (Some shape.vcpus ∷ Some shape.spis ∷ Some shape.espis ∷ Some shape.devices ∷ Some shape.lpis ∷ Some shape.ram ∷ [])

preset_plain : (preset : Preset) → IsPlain 1 (preset_data preset)
preset_plain preset = row_plain 0 (Some preset.id ∷ Some preset.prio ∷ flag_cell preset.edge ∷ Some preset.group ∷ preset.to ∷ preset.vcpu ∷ [])

cpu_plain : (cpu : CpuState) → IsPlain 1 (cpu_data cpu)
cpu_plain cpu =
    row_plain 0
    (Some cpu.pmr
    ∷ Some cpu.bpr0
    ∷ Some cpu.bpr1
    ∷ flag_cell cpu.cbpr
    ∷ flag_cell cpu.eoimode
    ∷ flag_cell cpu.en0
    ∷ flag_cell cpu.en1
    ∷ flag_cell cpu.lpis
    ∷ Some cpu.ap0
    ∷ Some cpu.ap1
    ∷ [])

evt_plain : (evt : EvtEnd) → IsPlain 1 (evt_data evt)
evt_plain evt = row_plain 0 (Some evt.device ∷ Some evt.event ∷ Some evt.id ∷ Some evt.icid ∷ [])

guest_members_plain : (guest : GuestSpec) (state : GuestState) → ArePlain 2 (guest_members guest state)
unfolding ArePlain
guest_members_plain guest state = (
  shape_plain guest.shape,
  (
    flag_plain guest.on 2,
    (
      list_plain 1 preset_data preset_plain guest.presets,
      (
        number_plain state.gicd 2,
        (
          list_plain 1 cpu_data cpu_plain state.cpu,
          (
            list_plain 1 rec_data rec_plain state.rec,
            (
              list_plain 1 redist_data (λ redist. pair_plain 0 redist.propbaser redist.pendbaser) state.redist,
              (
                its_plain state.its,
                (
                  list_plain 1 dev_data (λ dev. pair_plain 0 dev.device dev.bits) state.dev,
                  (
                    list_plain 1 evt_data evt_plain state.evt,
                    (
                      list_plain 1 col_data (λ col. pair_plain 0 col.icid col.vcpu) state.col,
                      (list_plain 1 ram_data (λ ram. pair_plain 0 ram.index ram.word) state.ram, tt),
                    ),
                  ),
                ),
              ),
            ),
          ),
        ),
      ),
    ),
  ),
)

guest_plain : (guest : GuestSpec) (state : GuestState) → IsPlain 3 (guest_data guest state)
guest_plain guest state = object_plain 2 (guest_members guest state) (guest_members_plain guest state)

guests_plain : (guests : List GuestSpec) (states : List GuestState) → ArePlainItems 3 (guests_data guests states)
guests_plain [] states = none_yet 3
guests_plain (guest ∷ guests) [] = none_yet 3
guests_plain (guest ∷ guests) (state ∷ states) = one_more 3 (guest_data guest state) (guests_data guests states) (guest_plain guest state) (guests_plain guests states)

resident_plain : (resident : Option VcpuName) → IsPlain 1 (resident_data resident)
resident_plain None = record { whole = refl; shallow = omega arith }
resident_plain (Some name) = pair_plain 0 name.guest name.vcpu

image_members_plain : (saved : Saved) → ArePlain 4 (image_members saved)
unfolding ArePlain
image_members_plain saved =
    let guests = guests_plain saved.scenario.guests saved.state in (
      number_plain 1 4,
      (
        number_plain saved.scenario.pes 4,
        (
          number_plain saved.scenario.lrs 4,
          (
            number_plain saved.done 4,
            (
              number_plain saved.reads 4,
              (
                list_plain 3 resident_data (λ resident. deeper 1 3 (resident_data resident) (resident_plain resident) (omega arith)) saved.on_pe,
                (
                  list_plain 3 step_data (λ step. deeper 2 3 (step_data step) (step_plain step) (omega arith)) saved.scenario.steps,
                  (record { whole = guests.whole; shallow = omega (arith, guests.shallow) }, tt),
                ),
              ),
            ),
          ),
        ),
      ),
    )

pub image_plain : (saved : Saved) → IsPlain 5 (image_of saved)
image_plain saved = object_plain 4 (image_members saved) (image_members_plain saved)

-- so a value that is the image is written as its text, which reads back
pub no_float : (saved : Saved) (d : Data) → d ≡ image_of saved → has_float d ≡ false
no_float saved d is = ap has_float is ∙ (image_plain saved).whole

pub not_deep : (saved : Saved) (d : Data) → d ≡ image_of saved → depth d ≤ max_depth
not_deep saved d is = let whole : depth d ≡ depth (image_of saved) = ap depth is in omega (arith, whole, (image_plain saved).shallow)
