-- What a port of an actor keeps, and a guest by itself.
use Rattle.std.proofs.Common.{◌≡◌, ℕ, zero, suc, ◌+◌, ◌<◌, false, IsTrue, List, [], ◌∷◌, ◌++◌, length, map, set, refl, sym, ap, subst, ◌∙◌, arith}
use Rattle.std.proofs.lemmas.List.{get_or-map, get_or-set_same}
use Rattle.dev_port.specs.Words.{Actor, Device}
use Rattle.dev_port.specs.PortCall.Histories.{IdealGuest}
use Rattle.dev_port.specs.Core.{Local, Made, CoreStep, guest_of, has_actor, Seen, AddsStep, IsPort, IsSameActor, local_by, opening_local_of}
use Rattle.port_table.proofs.PortCore.SameLemmas.{same_after}
use Rattle.port_table.specs.Out.{AreOut}
use Rattle.port_table.specs.Told.{WordsTold, RootTold, AreRoots, HasActor, HadNone, HasNoTurn, PortIsOf, AllDone, no_words, words_at, root_at, number_in, opening_root, opening_seen, with_split, with_joined, splitting, joining_in}
use Rattle.port_table.specs.View.{is_among}
use Rattle.port_table.proofs.OutLemmas.{out_opens, out_split, out_join, none_out}
use Rattle.table_rows.specs.Row.{IsRow}
use Rattle.table_rows.specs.Rows.{IsAlone}

-- one step
pub same_step : (old new : Seen) (step : CoreStep) (found : ℕ) → AddsStep old new step found → IsSameActor old new
same_step old new step found adds = same_after old new _ adds.adds

-- The root.

module _ (words : List WordsTold) (alone : IsAlone words) where
  first : 0 < length words
  first = let one = alone.one in omega (arith, one)

  first_root : (root : List RootTold) → AreRoots words root → 0 < length root
  first_root root are = let one = alone.one in let each = are.each in omega (arith, one, each)

  pub row_opens : (root : List RootTold) → AreRoots words root → root ≡ map opening_root words → IsRow words root [] []
  row_opens root are fresh =
      let at : root_at root 0 ≡ opening_root (words_at words 0) = ap (λ r. root_at r 0) fresh ∙ get_or-map opening_root words 0 no_words (opening_root no_words) first in
      record {
        roots = are;
        split_is = ap (λ (r : RootTold). r.split) at;
        out_are = subst (λ r. AreOut (words_at words 0) r []) (sym at) (out_opens (words_at words 0));
      }

  -- an actor is there, and has no port yet
  pub row_actor : (actor : Actor) → guest_of actor ≡ 0 → IsTrue (has_actor (words_at words 0).guest.shape actor) → HasActor words actor
  row_actor actor guest there = record { guest = subst (λ n. n < length words) (sym guest) first; there = subst (λ n. IsTrue (has_actor (words_at words n).guest.shape actor)) (sym guest) there }

  pub row_none : (root : List RootTold) (split out : List ℕ) (actor : Actor) (number : ℕ) → guest_of actor ≡ 0 → number_in words actor ≡ number → is_among number split ≡ false → IsRow words root split out → HadNone words root actor
  row_none root split out actor number guest is none row =
      ap (λ n. is_among n (root_at root (guest_of actor)).split) is ∙ ap (λ g. is_among number (root_at root g).split) guest ∙ ap (is_among number) row.split_is ∙ none

  pub row_split :
      (root new : List RootTold) (split out : List ℕ) (actor : Actor) (number : ℕ) → guest_of actor ≡ 0 → number_in words actor ≡ number → IsRow words root split out → AreRoots words new → new ≡ splitting words actor root
      → IsRow words new (split ++ number ∷ []) (number ∷ out)
  row_split root new split out actor number guest is row are made =
      let at : root_at new 0 ≡ with_split number (root_at root 0) =
      ap (λ r. root_at r 0) made
      ∙ ap (λ g. root_at (set root g (with_split (number_in words actor) (root_at root g))) 0) guest
      ∙ get_or-set_same root 0 (with_split (number_in words actor) (root_at root 0)) (opening_root no_words) (first_root root row.roots)
      ∙ ap (λ n. with_split n (root_at root 0)) is in
      record {
        roots = are;
        split_is = ap (λ (r : RootTold). r.split) at ∙ ap (λ s. s ++ number ∷ []) row.split_is;
        out_are = subst (λ r. AreOut (words_at words 0) r (number ∷ out)) (sym at) (out_split (words_at words 0) (root_at root 0) out number row.out_are);
      }

  -- an actor has not the ITS
  idle_port : (seen : Seen) → IsPort seen → seen.guest ≡ (words_at words 0).guest → seen.number ≡ (words_at words 0).number → seen.local.turn ≡ false → HasNoTurn (words_at words 0) (record { actor = seen.actor; own = seen.own })
  idle_port seen port guest number idle =
      subst (λ n. (local_by (words_at words 0).guest.shape seen.actor (opening_local_of (words_at words 0).guest n seen.actor) seen.own).turn ≡ false) number
      (subst (λ (g : IdealGuest). (local_by g.shape seen.actor (opening_local_of g seen.number seen.actor) seen.own).turn ≡ false) guest (ap (λ (l : Local). l.turn) (sym port.made) ∙ idle))

  pub row_join :
      (root new : List RootTold) (split out : List ℕ) (number : ℕ) (seen : Seen) → IsPort seen → seen.guest ≡ (words_at words 0).guest → seen.number ≡ 0 → seen.actor ≡ number → seen.local.turn ≡ false → IsRow words root split (number ∷ out)
      → AreRoots words new → new ≡ joining_in seen root → IsRow words new split out
  row_join root new split out number seen port guest zero_is actor idle row are made =
      let at : root_at new 0 ≡ with_joined seen.actor seen.own (root_at root 0) =
      ap (λ r. root_at r 0) made
      ∙ ap (λ g. root_at (set root g (with_joined seen.actor seen.own (root_at root g))) 0) zero_is
      ∙ get_or-set_same root 0 (with_joined seen.actor seen.own (root_at root 0)) (opening_root no_words) (first_root root row.roots) in
      let outs = subst (λ n. AreOut (words_at words 0) (root_at root 0) (n ∷ out)) (sym actor) row.out_are in
      record {
        roots = are;
        split_is = ap (λ (r : RootTold). r.split) at ∙ row.split_is;
        out_are =
            subst (λ r. AreOut (words_at words 0) r out) (sym at)
            (out_join (words_at words 0) (root_at root 0) out seen.actor seen.own outs (idle_port seen port guest (zero_is ∙ sym alone.number) idle));
      }

  pub row_done : (root : List RootTold) (split : List ℕ) → IsRow words root split [] → AllDone words root
  row_done root split row zero there = none_out (words_at words 0) (root_at root 0) row.out_are
  row_done root split row (suc n) there = let one = alone.one in absurd (omega (arith, one, there))

-- the port of an actor that was split off is of the words, and stays so
pub row_port : (words : List WordsTold) (actor : ℕ) (old new : Seen) → IsAlone words → old ≡ opening_seen (words_at words 0) actor → IsSameActor old new → (new.guest ≡ (words_at words 0).guest) × (new.number ≡ 0) × (new.actor ≡ actor)
row_port words actor old new alone is same = (
  same.guest ∙ ap (λ s. s.guest) is,
  same.number ∙ ap (λ s. s.number) is ∙ alone.number,
  same.actor ∙ ap (λ s. s.actor) is,
)

pub row_of : (words : List WordsTold) (old new : Seen) → PortIsOf words old → IsSameActor old new → PortIsOf words new
row_of words old new of same = record { guest = subst (λ n. n < length words) (sym same.number) of.guest; home = ap (λ n. (words_at words n).home) same.number ∙ of.home ∙ sym same.home }

-- the number of a device
pub device_number : (words : List WordsTold) (device : ℕ) → IsAlone words → number_in words (Device 0 device) ≡ 2 + device
device_number words device alone = ap (λ n. n + device) alone.vcpus

-- its port as it is split off
pub device_port : (words : List WordsTold) (actor : Actor) (device : ℕ) (seen : Seen) → IsAlone words → actor ≡ Device 0 device → seen ≡ opening_seen (words_at words (guest_of actor)) (number_in words actor) → seen ≡ opening_seen (words_at words 0) (2 + device)
device_port words actor device seen alone is opens = opens ∙ ap (λ a. opening_seen (words_at words (guest_of a)) (number_in words a)) is ∙ ap (opening_seen (words_at words 0)) (device_number words device alone)
