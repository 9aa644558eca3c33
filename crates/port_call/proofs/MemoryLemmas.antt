-- A look at a word of the guest's memory.
use Rattle.std.proofs.Common.{◌≡◌, ℕ, true, IsTrue, List, [], ◌∷◌, ◌++◌, map, Option, Some, None, unwrap_or, refl, sym, ap, ◌∙◌}
use Rattle.std.specs.Option.{option_map_or}
use Rattle.std.proofs.lemmas.Bool.{eq-eqb}
use Rattle.floor_core.specs.Calls.{Ram}
use Rattle.floor_core.specs.Registers.{Part, part_of, extracted}
use Rattle.floor_core.specs.GicCall.declared.event.Place.TheVariants.{Word}
use Rattle.floor_core.specs.GicCall.declared.event.Event.TheVariants.{Read}
use Rattle.floor_core.specs.GicCall.declared.event.Found.TheVariants.{Word as FoundWord}
use Rattle.floor_core.specs.Core.{Made, RamLook, WordId, Plain, is_on, known_word, since_turn, place_of_word, word_of, Seen, shape_of}
use Rattle.floor_core.specs.Words.{GuestShape}
use Rattle.port_call.specs.Piece.{takes_none}
use Rattle.port_call.specs.Plain.{ReadsPlain}
use Rattle.port_call.specs.Memory.{ReadsMemory, view_by, read_as}
use Rattle.port_call.proofs.KnownLemmas.{since_turn_on}
use Rattle.port_call.proofs.PieceLemmas.{piece_nil, seen_nil}
use Rattle.port_call.proofs.TurnLemmas.{known_by_last}

-- a step is on its word
pub on_own : (shape : GuestShape) (actor : ℕ) (word : WordId) (made : Made) → word_of shape actor made.step ≡ word → is_on shape actor word made ≡ true
on_own shape actor word made e = eq-eqb (place_of_word shape (word_of shape actor made.step)) (place_of_word shape word) (ap (place_of_word shape) e)

-- the word as the last step left it, since the turn was taken
pub word_by_last : (shape : GuestShape) (actor : ℕ) (own : List Made) (made : Made) (word : WordId) → word_of shape actor made.step ≡ word → IsTrue (takes_none (made ∷ [])) → known_word shape actor (since_turn (own ++ made ∷ [])) word ≡ made.left
word_by_last shape actor own made word e none =
    ap (λ since. known_word shape actor since word) (since_turn_on own (made ∷ []) none)
    ∙ ap (λ o. unwrap_or o 0) (known_by_last shape actor (since_turn own) made word (on_own shape actor word made e))

-- a look at a word of memory, as the view has it then
pub ram_known : (old new : Seen) (index value : ℕ) → ReadsPlain old new (Ram index) value → (view_by new).words (Ram index) ≡ value
ram_known old new index value reads =
    ap (λ seen. (view_by seen).words (Ram index)) reads.adds.new_is
    ∙ word_by_last (shape_of old) old.actor old.own reads.look (Plain index) (ap (word_of (shape_of old) old.actor) reads.step_is) reads.none_taken
    ∙ reads.left_is

pub reads_in : (old new : Seen) (address size word value : ℕ) (part : Part) → part_of address size (shape_of old).ram ≡ Some part → ReadsPlain old new (Ram part.index) word → value ≡ extracted word part → ReadsMemory old new address size value
reads_in old new address size word value part inside reads same =
    let shape = shape_of old in
    let at : (view_by new).words (Ram part.index) ≡ word = ram_known old new part.index word reads in
    let of_part : Option Part → ℕ = λ o. option_map_or (λ part. extracted ((view_by new).words (Ram part.index)) part) o 0 in
    record {
      part = reads.look ∷ [];
      adds = reads.adds;
      steps_are =
          ap (λ step. step ∷ []) reads.step_is ∙ sym (ap (λ o. option_map_or (λ part. RamLook part.index ∷ []) o []) inside);
      value_is = same ∙ ap (λ n. extracted n part) (sym at) ∙ sym (ap of_part inside);
      local_is = reads.local_is;
      none_taken = reads.none_taken;
      events =
          reads.events ∙ ap (λ n. (record { event = Read (Word (Ram part.index)); found = FoundWord n }) ∷ []) (sym at)
          ∙ sym (ap (λ o. map (read_as (view_by new)) (option_map_or (λ part. Word (Ram part.index) ∷ []) o [])) inside);
      piece = reads.piece;
    }

pub reads_outside : (seen : Seen) (address size : ℕ) → part_of address size (shape_of seen).ram ≡ None → ReadsMemory seen seen address size 0
reads_outside seen address size outside =
    let of_part : Option Part → ℕ = λ o. option_map_or (λ part. extracted ((view_by seen).words (Ram part.index)) part) o 0 in
    record {
      part = [];
      adds = record { new_is = sym (seen_nil seen) };
      steps_are = sym (ap (λ o. option_map_or (λ part. RamLook part.index ∷ []) o []) outside);
      value_is = sym (ap of_part outside);
      local_is = refl;
      none_taken = refl;
      events = sym (ap (λ o. map (read_as (view_by seen)) (option_map_or (λ part. Word (Ram part.index) ∷ []) o [])) outside);
      piece = piece_nil seen;
    }
