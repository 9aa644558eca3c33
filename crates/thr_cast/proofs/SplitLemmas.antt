-- Actors are split off, guest by guest, each in turn.
use Rattle.std.proofs.Common.{◌≡◌, ℕ, ◌+◌, ◌<◌, ◌==◌, zero, suc, Bool, true, false, IsTrue, inl, inr, List, [], ◌∷◌, ◌++◌, length, map, set, get_or, refl, sym, ap, subst, ◌∙◌, arith}
use Rattle.std.proofs.lemmas.Bool.{cases_eq, eqb-true, or_cases}
use Rattle.std.proofs.lemmas.List.{get_or-set_same, get_or-set_other}
use Rattle.guest_end.specs.Words.{Actor}
use Rattle.thr_trip.specs.Core.{actor_count, guest_of}
use Rattle.thr_trip.specs.PortTable.Told.{WordsTold, RootTold, AreRoots, no_words, number_in, opening_root, root_at, splitting, with_split, words_at}
use Rattle.thr_trip.specs.PortTable.View.{is_among}
use Rattle.thr_trip.proofs.PortTable.AmongLemmas.{among_push}
use Rattle.thr_trip.proofs.PortTable.GuestsLemmas.{opening_roots}
use Rattle.thr_cast.specs.Split.{SplitTo}

-- as the guests open
roots_open : (words : List WordsTold) (number : ℕ) → root_at (map opening_root words) number ≡ opening_root (get_or words number no_words)
roots_open [] number = refl
roots_open (one ∷ words) zero = refl
roots_open (one ∷ words) (suc number) = roots_open words number

pub split_none : (words : List WordsTold) (root : List RootTold) → root ≡ map opening_root words → SplitTo words root 0 0
split_none words root is =
    let at : (number : ℕ) → root_at root number ≡ opening_root (get_or words number no_words) = λ number. ap (λ r. root_at r number) is ∙ roots_open words number in
    record {
      are = subst (AreRoots words) (sym is) (opening_roots words);
      none_joined = λ number. ap (λ (r : RootTold). r.joined) (at number);
      earlier = λ number actor few h. absurd (omega (arith, few));
      here = λ actor h. let none : is_among actor (root_at root 0).split ≡ false = ap (λ (r : RootTold). is_among actor r.split) (at 0) in absurd (cc);
      later = λ number past. ap (λ (r : RootTold). r.split) (at number);
    }

-- the next actor of a guest was not split off yet
pub none_yet : (words : List WordsTold) (root : List RootTold) (guest count : ℕ) → SplitTo words root guest count → is_among count (root_at root guest).split ≡ false
none_yet words root guest count so = of (is_among count (root_at root guest).split) refl
  where
    of : (b : Bool) → is_among count (root_at root guest).split ≡ b → is_among count (root_at root guest).split ≡ false
    of false e = e
    of true e = let small = so.here count e in absurd (omega (arith, small))

-- one more actor of the guest
module _ (words : List WordsTold) (root : List RootTold) (guest count : ℕ) (there : guest < length root) (so : SplitTo words root guest count) where
  next : List RootTold
  next = set root guest (with_split count (root_at root guest))

  same_guest : root_at next guest ≡ with_split count (root_at root guest)
  unfolding next
  same_guest = get_or-set_same root guest (with_split count (root_at root guest)) (opening_root no_words) there

  other_guest : (number : ℕ) → (number ≡ guest → ⊥) → root_at next number ≡ root_at root number
  unfolding next
  other_guest number apart = get_or-set_other root guest number (with_split count (root_at root guest)) (opening_root no_words) apart

  pub split_one : AreRoots words (set root guest (with_split count (root_at root guest))) → SplitTo words (set root guest (with_split count (root_at root guest))) guest (count + 1)
  unfolding next
  split_one are =
      record {
        are = are;
        none_joined = λ number.
            elim (cases_eq number guest) [
              | inl same ↦ ap (λ n. (root_at next n).joined) same ∙ ap (λ (r : RootTold). r.joined) same_guest ∙ so.none_joined guest
              | inr apart ↦ ap (λ (r : RootTold). r.joined) (other_guest number apart) ∙ so.none_joined number
            ];
        earlier = λ number actor few h.
            so.earlier number actor few (subst (λ (r : RootTold). IsTrue (is_among actor r.split)) (other_guest number (λ same. absurd (omega (arith, few, same)))) h);
        here = λ actor h.
            let among : IsTrue (is_among actor ((root_at root guest).split ++ count ∷ [])) = subst (λ (r : RootTold). IsTrue (is_among actor r.split)) same_guest h in
            elim (or_cases (is_among actor (root_at root guest).split) (count == actor) (sym (among_push actor count (root_at root guest).split) ∙ among)) [
              | inl before ↦ (let small = so.here actor before in omega (arith, small))
              | inr last ↦ (let same : count ≡ actor = eqb-true count actor last in omega (arith, same))
            ];
        later = λ number past. ap (λ (r : RootTold). r.split) (other_guest number (λ same. absurd (omega (arith, past, same)))) ∙ so.later number past;
      }

pub split_more :
    (words : List WordsTold) (root new : List RootTold) (actor : Actor) (guest count : ℕ) → guest < length words → guest_of actor ≡ guest → number_in words actor ≡ count → SplitTo words root guest count → new ≡ splitting words actor root → AreRoots words new
    → SplitTo words new guest (count + 1)
split_more words root new actor guest count there guest_is number_is so new_is are =
    let within : guest < length root = subst (λ n. guest < n) (sym so.are.each) there in
    let is : new ≡ set root guest (with_split count (root_at root guest)) = new_is ∙ ap (λ g. set root g (with_split (number_in words actor) (root_at root g))) guest_is ∙ ap (λ n. set root guest (with_split n (root_at root guest))) number_is in
    subst (λ (r : List RootTold). SplitTo words r guest (count + 1)) (sym is) (split_one words root guest count within so (subst (AreRoots words) is are))

-- then the next guest
pub split_next : (words : List WordsTold) (root : List RootTold) (guest : ℕ) → SplitTo words root guest (actor_count (words_at words guest).guest.shape) → SplitTo words root (guest + 1) 0
split_next words root guest so =
    record {
      are = so.are;
      none_joined = so.none_joined;
      earlier = λ number actor few h.
          elim (cases_eq number guest) [
            | inl same ↦
                subst (λ n. actor < actor_count (words_at words n).guest.shape) (sym same) (so.here actor (subst (λ n. IsTrue (is_among actor (root_at root n).split)) same h))
            | inr apart ↦ so.earlier number actor (omega (arith, few, apart)) h
          ];
      here = λ actor h.
          let none : is_among actor (root_at root (guest + 1)).split ≡ false = ap (is_among actor) (so.later (guest + 1) (omega arith)) in absurd (cc);
      later = λ number past. so.later number (omega (arith, past));
    }
