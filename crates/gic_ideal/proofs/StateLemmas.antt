-- One guest of several changes.
use Rattle.std.proofs.Common.{◌≡◌, ℕ, zero, suc, ◌+◌, ◌<◌, List, [], ◌∷◌, ◌++◌, drop, take, Bool, true, Some, All, length, get_or, map, refl, ap, subst, ◌∙◌, sym, arith}
use Rattle.std.specs.List.{slice_set, slice_get}
use Rattle.std.proofs.lemmas.List.{append_assoc, map-append, drop_more, take_more}
use Rattle.std.proofs.lemmas.List.Elements.{All-get_or}
use Rattle.std.proofs.lemmas.Option.{slice_get_read, get_or_from_slice_get, slice_get_within}
use Rattle.ideal_guest.specs.Words.{GuestShape}
use Rattle.ideal_guest.specs.Calls.{GuestSpec, passes, shapes_of}
use Rattle.ideal_guest.specs.declared.guest.IdealGuest.{IdealGuest}
use Rattle.ideal_guest.specs.Opening.{opening}
use Rattle.ideal_guest.specs.Sound.{IsSound}
use Rattle.ideal_guest.specs.GicGuest.declared.outcome.End.{End}
use Rattle.gic_ideal.specs.Ends.{end_of, ends_of}
use Rattle.gic_ideal.specs.Eager.{at_guest, state_shapes}

-- one of sound guests is sound
pub sound_got : (guests : List IdealGuest) (n : ℕ) (guest : IdealGuest) → All IsSound guests → slice_get guests n ≡ Some guest → IsSound guest
sound_got guests n guest sound h =
    subst IsSound (get_or_from_slice_get guests n guest guest h) (All-get_or IsSound guests n guest (slice_get_within guests n guest h) sound)

-- a guest whose shape passes a test is there
pub guest_there : (states : List IdealGuest) (n : ℕ) (test : GuestShape → Bool) → passes test (slice_get (state_shapes states) n) ≡ true → n < length states
guest_there [] n test h = absurd (cc)
guest_there (state ∷ states) zero test h = omega arith
guest_there (state ∷ states) (suc n) test h = omega (arith, guest_there states n test h)

-- what happens to a guest that is there
pub at_guest_there : (n : ℕ) (change : IdealGuest → IdealGuest) (states : List IdealGuest) (old : IdealGuest) → n < length states → old ≡ get_or states n old → at_guest n change states ≡ slice_set states n (change old)
at_guest_there n change states old h e = rw (slice_get_read states (length states) n old refl h e)

-- a state has the shape that its guest's number gives it
pub same_shape : (states : List IdealGuest) (guests : List GuestSpec) (n : ℕ) (state : IdealGuest) (guest : GuestSpec) → state_shapes states ≡ shapes_of guests → n < length guests → state ≡ get_or states n state → guest ≡ get_or guests n guest → state.shape ≡ guest.shape
same_shape [] [] n state guest e h s g = absurd (omega arith)
same_shape [] (one ∷ guests) n state guest e h s g = absurd (cc)
same_shape (one ∷ states) [] n state guest e h s g = absurd (cc)
same_shape (one ∷ states) (two ∷ guests) zero state guest e h s g = let heads : one.shape ≡ two.shape = cc in ap (λ x. x.shape) s ∙ heads ∙ sym (ap (λ x. x.shape) g)
same_shape (one ∷ states) (two ∷ guests) (suc n) state guest e h s g = same_shape states guests n state guest (cc) (omega (arith, h)) s g

-- the guests open with their shapes
pub shapes_opening : (guests : List GuestSpec) → state_shapes (map opening guests) ≡ shapes_of guests
shapes_opening [] = refl
shapes_opening (guest ∷ guests) = ap (λ shapes. guest.shape ∷ shapes) (shapes_opening guests)

-- the ends of the guests from a number on are that of the guest of the number and those of the guests after it
pub ends_step : (ends next : List End) (end : End) (guests : List GuestSpec) (closed : List IdealGuest) (n : ℕ) (guest : GuestSpec) (state : IdealGuest) → n < length guests → n < length closed → guest ≡ get_or guests n guest → state ≡ get_or closed n state
    → next ≡ ends ++ end ∷ [] → end ≡ end_of (opening guest) state → next ++ ends_of (map opening (drop (n + 1) guests)) (drop (n + 1) closed) ≡ ends ++ ends_of (map opening (drop n guests)) (drop n closed)
ends_step ends next end guests closed n guest state there here g s pushed e =
    let rest : List End = ends_of (map opening (drop (n + 1) guests)) (drop (n + 1) closed) in
    let left : drop n guests ≡ guest ∷ drop (n + 1) guests = drop_more guests n guest there ∙ ap (λ x. x ∷ drop (n + 1) guests) (sym g) in
    let right : drop n closed ≡ state ∷ drop (n + 1) closed = drop_more closed n state here ∙ ap (λ x. x ∷ drop (n + 1) closed) (sym s) in
    let split : ends_of (map opening (drop n guests)) (drop n closed) ≡ end_of (opening guest) state ∷ rest = rw left (rw right refl) in
    ap (λ xs. xs ++ rest) pushed ∙ append_assoc ends (end ∷ []) rest ∙ ap (λ x. ends ++ (x ∷ rest)) e ∙ ap (λ xs. ends ++ xs) (sym split)

-- the states so far, and the next one
pub opened_pushed : (old next : List IdealGuest) (state : IdealGuest) (guests : List GuestSpec) (n : ℕ) (guest : GuestSpec) → n < length guests → guest ≡ get_or guests n guest → old ≡ map opening (take n guests) → next ≡ old ++ state ∷ [] → state ≡ opening guest → next ≡ map opening (take (n + 1) guests)
opened_pushed old next state guests n guest there g so_far pushed e =
    let more : take (n + 1) guests ≡ take n guests ++ guest ∷ [] = take_more guests n guest there ∙ ap (λ x. take n guests ++ x ∷ []) (sym g) in
    pushed ∙ ap (λ xs. xs ++ state ∷ []) so_far ∙ ap (λ x. map opening (take n guests) ++ x ∷ []) e ∙ sym (map-append opening (take n guests) (guest ∷ [])) ∙ ap (map opening) (sym more)
