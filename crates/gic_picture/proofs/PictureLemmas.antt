-- What a picture's functions ask of each other.
use Rattle.std.proofs.Common.{◌≡◌, ℕ, zero, suc, ◌+◌, ◌<◌, Bool, true, false, ◌&&◌, nat_lt, List, [], ◌∷◌, All, IsTrue, length, map, take, filter, slice_get, get_or, None, Some, Option, option_and_then, refl, sym, ap, subst, ◌∙◌, arith}
use Rattle.std.specs.List.{range_with_len}
use Rattle.std.proofs.lemmas.List.{length-map}
use Rattle.std.proofs.lemmas.List.Elements.{All-same, All-map, All-take, All-filter, All-weaker}
use Rattle.std.proofs.lemmas.List.Sorted.{All-permutation}
use Rattle.ideal_guest.specs.Words.{GuestShape}
use Rattle.ideal_guest.specs.Calls.{GuestSpec, shapes_of, passes, is_good_event}
use Rattle.ideal_guest.specs.declared.guest.IdealGuest.{IdealGuest}
use Rattle.scn_base.specs.declared.step.Mode.{Mode}
use Rattle.scn_base.specs.declared.step.Step.{Step}
use Rattle.scn_base.specs.declared.step.Step.TheVariants.{Vcpu, Device, Pe}
use Rattle.scn_base.specs.Good.{is_formed}
use Rattle.scn_base.specs.Standing.{vcpus_from}
use Rattle.scn_base.specs.declared.pes.VcpuName.{VcpuName}
use Rattle.gic_ideal.specs.Eager.{after_steps, state_shapes}
use Rattle.gic_picture.specs.declared.names.IrqName.{IrqName}
use Rattle.gic_picture.specs.declared.rows.Tally.{Tally}
use Rattle.gic_picture.specs.Names.{is_there}
use Rattle.gic_picture.specs.declared.picture.Picture.{Picture}
use Rattle.gic_picture.specs.Steps.{can_act, step_value}
use Rattle.gic_picture.specs.Picture.{column_of, value_at, AreRows, IsPicture}
use Rattle.gic_picture.specs.Rows.{has_row, tallies_of, BusiestFirst}
use Rattle.gic_picture.proofs.TallyLemmas.{tallies_there}

abbrev pub Acts : List GuestShape → Step → Type 0
Acts shapes step = IsTrue (can_act shapes step)

-- what passes two tests passes the second
second_passes : (a b : GuestShape → Bool) (found : Option GuestShape) → IsTrue (passes (λ shape. a shape && b shape) found) → IsTrue (passes b found)
second_passes a b None h = h
second_passes a b (Some shape) h = both (a shape) (b shape) h
  where
    both : (x y : Bool) → IsTrue (x && y) → IsTrue y
    both true y h = h
    both false y h = absurd cc

-- a step of a good scenario can be done
step_acts : (mode : Mode) (pes : ℕ) (shapes : List GuestShape) (step : Step) → IsTrue (is_formed mode pes shapes step) → Acts shapes step
step_acts mode pes shapes (Vcpu guest vcpu op) h = h
step_acts mode pes shapes (Device guest device op) h =
    second_passes (λ shape. nat_lt device shape.devices) (λ shape. is_good_event shape op) (slice_get shapes guest) h
step_acts mode pes shapes (Pe pe op) h = refl

pub steps_act : (mode : Mode) (pes : ℕ) (shapes : List GuestShape) (steps : List Step) → All (λ step. IsTrue (is_formed mode pes shapes step)) steps → All (Acts shapes) steps
steps_act mode pes shapes steps h = All-weaker (λ step. IsTrue (is_formed mode pes shapes step)) (Acts shapes) (step_acts mode pes shapes) steps h

-- the guests are as many as open
pub few_states : (states : List IdealGuest) (guests : List GuestSpec) → state_shapes states ≡ shapes_of guests → length states ≡ length guests
few_states states guests e = sym (length-map states (λ (state : IdealGuest). state.shape)) ∙ ap length e ∙ length-map guests (λ (guest : GuestSpec). guest.shape)

-- the interrupts of the rows are there
pub rows_there : (steps : List Step) (guests : List IdealGuest) (tallies busiest : List Tally) (rows : List IrqName) → tallies ≡ tallies_of steps guests
    → BusiestFirst busiest (filter has_row tallies) → rows ≡ map (λ tally. tally.name) (take 64 busiest) → All (λ name. IsTrue (is_there (state_shapes guests) name)) rows
rows_there steps guests tallies busiest rows told order e =
    let P : Tally → Type 0 = λ tally. IsTrue (is_there (state_shapes guests) tally.name) in
    let Q : IrqName → Type 0 = λ name. IsTrue (is_there (state_shapes guests) name) in
    let all : All P tallies = tallies_there (state_shapes guests) steps guests (length steps) tallies told in
    let some : All P busiest = All-permutation P (filter has_row tallies) busiest order.same (All-filter has_row P tallies all) in
    All-same Q rows (map (λ (tally : Tally). tally.name) (take 64 busiest)) e (All-map Q (λ (tally : Tally). tally.name) (take 64 busiest) (All-take P 64 busiest some))

-- what stands at a place of a list
slice_get_at : (steps : List Step) (n : ℕ) (d : Step) → n < length steps → slice_get steps n ≡ Some (get_or steps n d)
slice_get_at [] n d h = absurd (omega arith)
slice_get_at (step ∷ steps) zero d h = refl
slice_get_at (step ∷ steps) (suc n) d h = slice_get_at steps n d (omega (arith, h))

-- the value that the step at a place reads
pub value_here : (steps : List Step) (guests : List IdealGuest) (n : ℕ) (d step : Step) → n < length steps → step ≡ get_or steps n d
    → value_at steps guests n ≡ step_value step (after_steps (take n steps) guests)
value_here steps guests n d step within is =
    ap (option_and_then (λ found. step_value found (after_steps (take n steps) guests))) (slice_get_at steps n d within ∙ ap Some (sym is))

-- a picture of steps and guests that are known by other names
pub is_picture : (steps some : List Step) (guests first second : List IdealGuest) (rows : List IrqName) (vcpus : List VcpuName) (picture : Picture)
    → some ≡ steps → first ≡ guests → second ≡ guests → rows ≡ picture.rows → vcpus ≡ picture.vcpus
    → AreRows some first picture.rows picture.left_out → picture.vcpus ≡ vcpus_from 0 (state_shapes second)
    → picture.columns ≡ map (λ n. column_of rows vcpus (after_steps (take n some) second)) (range_with_len 0 (length some + 1))
    → picture.values ≡ map (value_at some second) (range_with_len 0 (length some)) → IsPicture steps guests picture
is_picture steps some guests first second rows vcpus picture e f g h k are told columns values =
    let known : IsPicture some second picture =
    record {
      rows = subst (λ them. AreRows some them picture.rows picture.left_out) (f ∙ sym g) are;
      vcpus = told;
      columns =
          subst (λ them. picture.columns ≡ map (λ n. column_of picture.rows them (after_steps (take n some) second)) (range_with_len 0 (length some + 1))) k
          (subst (λ them. picture.columns ≡ map (λ n. column_of them vcpus (after_steps (take n some) second)) (range_with_len 0 (length some + 1))) h columns);
      values = values;
    } in
    subst (λ them. IsPicture them guests picture) e (subst (λ them. IsPicture some them picture) g known)
