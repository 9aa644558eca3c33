-- What is saved of a machine is restored.
use Rattle.std.proofs.Common.{◌≡◌, ℕ, zero, suc, List, [], ◌∷◌, ◌++◌, length, map, take, drop, replicate, IsTrue, Bool, if◌then◌else◌, Some, None, option_map, option_and_then, refl, sym, ap, ◌∙◌, arith}
use Rattle.std.proofs.lemmas.List.{length-append}
use Rattle.std.proofs.lemmas.List.Elements.{All-nil}
use Rattle.serde_json.specs.Data.{Data}
use Rattle.serde_json.proofs.OnLiterals.{serde_json_on_literals}
use Rattle.gic_vm.specs.State.{MachineState, after_reset}
use Rattle.gic_vm.proofs.ResetLemmas.{good_reset}
use Rattle.image_read.specs.GicResume.GicSave.Cell.{number_data}
use Rattle.image_read.specs.GicResume.GicSave.Image.{image_of}
use Rattle.image_read.specs.GicResume.Back.{IsShort}
use Rattle.image_read.proofs.GicResume.BackLemmas.{elements_back, images_read_back}
use Rattle.saved_take.specs.SavedGuest.ScnSaved.ScnBase.declared.step.Step.{Step}
use Rattle.saved_take.specs.SavedGuest.ScnSaved.ScnBase.declared.step.Mode.TheVariants.{Schedule}
use Rattle.saved_take.specs.SavedGuest.ScnSaved.ScnBase.Good.{is_formed}
use Rattle.saved_take.specs.SavedGuest.IdealGuests.Calls.{IsGoodGuest, shapes_of}
use Rattle.saved_take.specs.SavedGuest.IdealGuests.Words.{interrupt_count}
use Rattle.saved_take.specs.SavedGuest.Whole.{IsValidSaved}
use Rattle.saved_take.proofs.BackLemmas.{states_tell_back}
use Rattle.vm_saved.specs.Image.{state_saved, run_of, numbers_of, AreWhole, machine_image}
use Rattle.vm_saved.specs.Reading.{numbers_in, bases_of, bases_at}
use Rattle.vm_saved.specs.Back.{SavesReadBack}
use Rattle.vm_saved.proofs.NumberLemmas.{same_number, as_bases}

-- numbers are read as they were written
numbers_back : (ns : List ℕ) → numbers_in (map number_data ns) ≡ Some ns
numbers_back [] = refl
numbers_back (n ∷ ns) = ap (λ found. option_map (λ rest. n ∷ rest) found) (numbers_back ns)

-- the first and the last of a list that was joined
take_front : (n : ℕ) (xs ys : List ℕ) → length xs ≡ n → take n (xs ++ ys) ≡ xs
take_front zero [] ys e = refl
take_front zero (x ∷ xs) ys e = absurd (omega (arith, e))
take_front (suc n) [] ys e = absurd (omega (arith, e))
take_front (suc n) (x ∷ xs) ys e = ap (λ rest. x ∷ rest) (take_front n xs ys (omega (arith, e)))

take_whole : (n : ℕ) (xs : List ℕ) → length xs ≡ n → take n xs ≡ xs
take_whole zero [] e = refl
take_whole zero (x ∷ xs) e = absurd (omega (arith, e))
take_whole (suc n) [] e = absurd (omega (arith, e))
take_whole (suc n) (x ∷ xs) e = ap (λ rest. x ∷ rest) (take_whole n xs (omega (arith, e)))

drop_front : (n : ℕ) (xs ys : List ℕ) → length xs ≡ n → drop n (xs ++ ys) ≡ ys
drop_front zero [] ys e = refl
drop_front zero (x ∷ xs) ys e = absurd (omega (arith, e))
drop_front (suc n) [] ys e = absurd (omega (arith, e))
drop_front (suc n) (x ∷ xs) ys e = drop_front n xs ys (omega (arith, e))

-- so are the registers
registers_back : (queue : ℕ) (properties pending : List ℕ) → length properties ≡ 32 → length pending ≡ 32 → bases_of (queue ∷ properties ++ pending) ≡ Some (as_bases queue properties pending)
registers_back queue properties pending e f =
    let many : length (queue ∷ properties ++ pending) ≡ 65 = omega (arith, length-append properties pending, e, f) in
    let first : take 32 (properties ++ pending) ≡ properties = take_front 32 properties pending e in
    let last : take 32 (drop 32 (properties ++ pending)) ≡ pending = ap (take 32) (drop_front 32 properties pending e) ∙ take_whole 32 pending f in
    ap (λ (b : Bool). if b then Some (as_bases queue (take 32 (properties ++ pending)) (take 32 (drop 32 (properties ++ pending)))) else None) (same_number (length (queue ∷ properties ++ pending)) 65 many)
    ∙ ap (λ (xs : List ℕ). Some (as_bases queue xs (take 32 (drop 32 (properties ++ pending))))) first
    ∙ ap (λ (ys : List ℕ). Some (as_bases queue properties ys)) last

bases_back : (machine : MachineState) → AreWhole machine.bases → bases_at (machine_image machine) ≡ Some machine.bases
unfolding serde_json_on_literals
bases_back machine whole =
    let numbers = numbers_of machine.bases in
    ap (λ (ds : List Data). option_and_then bases_of (numbers_in ds)) (elements_back (map number_data numbers))
    ∙ ap (option_and_then bases_of) (numbers_back numbers)
    ∙ registers_back machine.bases.queue machine.bases.properties machine.bases.pending whole.properties whole.pending

pub saves_read_back : SavesReadBack
unfolding serde_json_on_literals
saves_read_back machine sound can =
    let guest = machine.guest in
    let good : IsGoodGuest (after_reset guest.shape) = good_reset guest.shape sound.shape in
    let valid : IsValidSaved (run_of guest) = record { run = can.valid; each_step = All-nil (λ (step : Step). IsTrue (is_formed Schedule 1 (shapes_of (after_reset guest.shape ∷ [])) step)); in_turn = refl } in
    record {
      image = image_of (run_of guest);
      image_is = refl;
      tells =
          record {
            saved = run_of guest;
            is_image = images_read_back (run_of guest) valid (All-nil IsShort);
            alone = record { guests = refl; away = refl; over = refl };
            state = state_saved guest;
            one = refl;
            guest_is = sym (states_tell_back (after_reset guest.shape) (replicate (interrupt_count guest.shape) None) guest good sound can.stored refl);
          };
      bases_are = bases_back machine can.whole;
    }
