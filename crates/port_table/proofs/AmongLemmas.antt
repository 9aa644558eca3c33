-- Actors among those that were split off or joined, and the steps that the root keeps of them.
use Rattle.std.proofs.Common.{◌≡◌, ◌≢◌, ℕ, ◌==◌, ◌||◌, Bool, true, false, cond, List, [], ◌∷◌, ◌++◌, map, refl, ap, ◌∙◌}
use Rattle.std.proofs.lemmas.Bool.{eq-eqb, ne_eqb}
use Rattle.std.proofs.lemmas.List.{map-append}
use Rattle.port_ops.specs.PortCore.declared.run.Made.{Made}
use Rattle.port_table.specs.declared.view.Account.{Account}
use Rattle.port_table.specs.View.{is_among, is_back, steps_of, with_account}

pub among_push : (actor one : ℕ) (actors : List ℕ) → is_among actor (actors ++ one ∷ []) ≡ (is_among actor actors || (one == actor))
among_push actor one [] = or_none (one == actor)
  where
    or_none : (b : Bool) → (b || false) ≡ b
    or_none true = refl
    or_none false = refl
among_push actor one (other ∷ actors) = ap (λ b. (other == actor) || b) (among_push actor one actors) ∙ shifted (other == actor) (is_among actor actors) (one == actor)
  where
    shifted : (a b c : Bool) → (a || (b || c)) ≡ ((a || b) || c)
    shifted true b c = refl
    shifted false b c = refl

pub back_push : (actor one : ℕ) (own : List Made) (joined : List Account) → is_back actor (with_account one own joined) ≡ (is_back actor joined || (one == actor))
back_push actor one own joined =
    ap (is_among actor) (map-append (λ (account : Account). account.actor) joined (record { actor = one; own = own } ∷ [])) ∙ among_push actor one (map (λ (account : Account). account.actor) joined)

-- the steps of an actor that was not joined, of one that was joined last, and of another one
pub steps_none : (actor : ℕ) (joined : List Account) → is_back actor joined ≡ false → steps_of actor joined ≡ []
steps_none actor [] h = refl
steps_none actor (account ∷ joined) h = of (λ e. steps_none actor joined e) (account.actor == actor) h
  where
    of : (is_back actor joined ≡ false → steps_of actor joined ≡ []) → (b : Bool) → (b || is_back actor joined) ≡ false → cond b account.own (steps_of actor joined) ≡ []
    of later true e = absurd (cc)
    of later false e = later e

pub steps_last : (actor : ℕ) (own : List Made) (joined : List Account) → is_back actor joined ≡ false → steps_of actor (with_account actor own joined) ≡ own
steps_last actor own [] h = ap (λ b. cond b own []) (eq-eqb actor actor refl)
steps_last actor own (account ∷ joined) h = of (λ e. steps_last actor own joined e) (account.actor == actor) h
  where
    of : (is_back actor joined ≡ false → steps_of actor (with_account actor own joined) ≡ own) → (b : Bool) → (b || is_back actor joined) ≡ false → cond b account.own (steps_of actor (with_account actor own joined)) ≡ own
    of later true e = absurd (cc)
    of later false e = later e

pub steps_else : (actor one : ℕ) (own : List Made) (joined : List Account) → one ≢ actor → steps_of actor (with_account one own joined) ≡ steps_of actor joined
steps_else actor one own [] differ = ap (λ b. cond b own []) (ne_eqb one actor differ)
steps_else actor one own (account ∷ joined) differ = ap (λ steps. cond (account.actor == actor) account.own steps) (steps_else actor one own joined differ)
