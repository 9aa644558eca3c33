-- A root to which the three actors of a guest by itself come back.
use Rattle.std.proofs.Common.{◌≡◌, ℕ, zero, suc, ◌==◌, Bool, true, false, ◌||◌, IsTrue, List, [], ◌∷◌, map, length, slice_set, refl, sym, ap, subst, ◌∙◌, arith}
use Rattle.std.proofs.lemmas.List.Elements.{All-nil, All-cons}
use Rattle.gic_msi.specs.Core.{Seen, shape_of, local_by, opening_local_of}
use Rattle.port_table.specs.Told.{WordsTold, RootTold, HasNoTurn, IsDone, AllDone, opening_root, opening_seen, words_at, root_at, joining_in, with_split, with_joined}
use Rattle.vm_threads.specs.Rest.{Rests}

-- its port comes back, and has not the ITS
pub record ComesBack (words : WordsTold) (number : ℕ) (seen : Seen) : Type 0 where
  pub guest : seen.number ≡ 0
  pub actor : seen.actor ≡ number
  pub idle : HasNoTurn words (record { actor = number; own = seen.own })

pub comes_back :
    (words : WordsTold) (number : ℕ) (old new : Seen) → old ≡ opening_seen words number → words.number ≡ 0 → Rests old new
    → new.local ≡ local_by (shape_of new) new.actor (opening_local_of new.guest new.number new.actor) new.own → ComesBack words number new
comes_back words number old new old_is zeroth rests made =
    let guest_is : new.guest ≡ words.guest = rests.same.guest ∙ ap (λ (s : Seen). s.guest) old_is in
    let number_is : new.number ≡ words.number = rests.same.number ∙ ap (λ (s : Seen). s.number) old_is in
    let actor_is : new.actor ≡ number = rests.same.actor ∙ ap (λ (s : Seen). s.actor) old_is in
    let local_is : new.local ≡ local_by words.guest.shape number (opening_local_of words.guest words.number number) new.own =
    made ∙ ap (λ guest. local_by guest.shape new.actor (opening_local_of guest new.number new.actor) new.own) guest_is
    ∙ ap (λ n. local_by words.guest.shape new.actor (opening_local_of words.guest n new.actor) new.own) number_is
    ∙ ap (λ actor. local_by words.guest.shape actor (opening_local_of words.guest words.number actor) new.own) actor_is in
    record { guest = number_is ∙ zeroth; actor = actor_is; idle = ap (λ local. local.turn) (sym local_is) ∙ rests.idle }

joins : (words : WordsTold) (number : ℕ) (seen : Seen) (root : RootTold) → ComesBack words number seen → joining_in seen (root ∷ []) ≡ with_joined number seen.own root ∷ []
joins words number seen root back =
    ap (λ guest. slice_set (root ∷ []) guest (with_joined seen.actor seen.own (root_at (root ∷ []) guest))) back.guest ∙ ap (λ n. with_joined n seen.own root ∷ []) back.actor

turned : (a b c : Bool) → IsTrue (a || (b || (c || false))) → IsTrue (c || (b || (a || false)))
turned a b true h = refl
turned a true false h = refl
turned true false false h = refl
turned false false false h = absurd (cc)

-- the root as it is in the end
abbrev all_back : WordsTold → ℕ → Seen → Seen → Seen → RootTold
all_back words n one two three =
    with_joined 0 one.own (with_joined 1 two.own (with_joined n three.own (with_split n (with_split 1 (with_split 0 (opening_root words))))))

back_is_done : (words : WordsTold) (n : ℕ) (one two three : Seen) → ComesBack words 0 one → ComesBack words 1 two → ComesBack words n three → IsDone words (all_back words n one two three)
back_is_done words n one two three first second third =
    record {
      back = λ actor h. turned (0 == actor) (1 == actor) (n == actor) h;
      idle =
          All-cons (HasNoTurn words) (record { actor = n; own = three.own }) (record { actor = 1; own = two.own } ∷ record { actor = 0; own = one.own } ∷ []) third.idle
          (All-cons (HasNoTurn words) (record { actor = 1; own = two.own }) (record { actor = 0; own = one.own } ∷ []) second.idle
          (All-cons (HasNoTurn words) (record { actor = 0; own = one.own }) [] first.idle (All-nil (HasNoTurn words))));
    }

-- an actor of this number in the guest is split off
abbrev pub SplitsOff : ℕ → (List RootTold → List RootTold) → Type 0
SplitsOff number splits = (root : RootTold) → splits (root ∷ []) ≡ with_split number root ∷ []

-- after the splits and the joins all is done
pub all_done :
    (words : List WordsTold) (split0 split1 split2 : List RootTold → List RootTold) (n : ℕ) (one two three : Seen) → length words ≡ 1 → SplitsOff 0 split0 → SplitsOff 1 split1 → SplitsOff n split2
    → ComesBack (words_at words 0) 0 one → ComesBack (words_at words 0) 1 two → ComesBack (words_at words 0) n three
    → AllDone words (joining_in one (joining_in two (joining_in three (split2 (split1 (split0 (map opening_root words)))))))
all_done [] split0 split1 split2 n one two three alone off0 off1 off2 back0 back1 back2 = absurd (cc)
all_done (told ∷ []) split0 split1 split2 n one two three alone off0 off1 off2 back0 back1 back2 =
    let root0 = opening_root told in
    let root1 = with_split 0 root0 in
    let root2 = with_split 1 root1 in
    let root3 = with_split n root2 in
    let root4 = with_joined n three.own root3 in
    let root5 = with_joined 1 two.own root4 in
    let split : split2 (split1 (split0 (root0 ∷ []))) ≡ root3 ∷ [] = ap (λ r. split2 (split1 r)) (off0 root0) ∙ ap split2 (off1 root1) ∙ off2 root2 in
    let joined : joining_in one (joining_in two (joining_in three (split2 (split1 (split0 (root0 ∷ [])))))) ≡ with_joined 0 one.own root5 ∷ [] =
    ap (λ r. joining_in one (joining_in two (joining_in three r))) split ∙ ap (λ r. joining_in one (joining_in two r)) (joins told n three root3 back2) ∙ ap (joining_in one) (joins told 1 two root4 back1) ∙ joins told 0 one root5 back0 in
    subst (λ r. AllDone (told ∷ []) r) (sym joined) (only told (with_joined 0 one.own root5) (back_is_done told n one two three back0 back1 back2))
  where
    only : (told : WordsTold) (root : RootTold) → IsDone told root → AllDone (told ∷ []) (root ∷ [])
    only told root done zero within = done
    only told root done (suc number) within = absurd (omega (arith, within))
all_done (told ∷ other ∷ words) split0 split1 split2 n one two three alone off0 off1 off2 back0 back1 back2 = absurd (omega (arith, alone))
