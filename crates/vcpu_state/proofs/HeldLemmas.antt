-- What is held, by the places of the list registers.
use Rattle.std.proofs.Common.{◌≡◌, ◌≢◌, ◌↔◌, ◌∙◌, sym, ℕ, ◌+◌, true, false, Option, Some, None, List, [], ◌∷◌, All, refl, arith}
use Rattle.std.specs.Prelude.{IsTrue, is_none, position, IfNone}
use Rattle.std.specs.List.{list_all, filter_map, position_from}
use Rattle.std.specs.Option.{option_map}
use Rattle.std.proofs.lemmas.Grind.{common_steps}
use Rattle.std.proofs.lemmas.List.Elements.{All-nil, All-cons}
use Rattle.std.proofs.lemmas.Iterator.Adapters.{position_from-zero}
use Rattle.gic_ich.specs.Words.{Key, HeldIrq, intid_of}
use Rattle.vcpu_state.specs.Holding.{has_intid}

-- the interrupts at some places
abbrev keys : List (Option HeldIrq) → List Key
keys held = filter_map (option_map (λ one. one.key)) held

-- no place has an interrupt exactly where none is held
pub free_places : (held : List (Option HeldIrq)) → IsTrue (list_all is_none held) ↔ (keys held ≡ [])
free_places [] = ((λ h. refl), (λ h. refl))
free_places (None ∷ held) = free_places held
free_places (Some one ∷ held) = ((λ h. absurd (let e : false ≡ true = h in cc)), (λ h. absurd (cc)))

none_from : (id start : ℕ) (held : List (Option HeldIrq)) → position_from (has_intid id) start held ≡ None → All (λ key. intid_of key ≢ id) (keys held)
none_from id start [] h = All-nil (λ key. intid_of key ≢ id)
none_from id start (None ∷ held) h = none_from id (start + 1) held h
none_from id start (Some one ∷ held) h =
    let other : intid_of one.key ≢ id = grind (arith, common_steps, h) in
    All-cons (λ key. intid_of key ≢ id) one.key (keys held) other (none_from id (start + 1) held (grind (arith, common_steps, h, other)))

-- where no place has an INTID, none of the held interrupts has it
pub none_held : (id : ℕ) (held : List (Option HeldIrq)) (found : Option ℕ) → found ≡ position (has_intid id) held → IfNone found (All (λ key. intid_of key ≢ id) (keys held))
none_held id held None e = none_from id 0 held (sym (position_from-zero (has_intid id) held) ∙ sym e)
none_held id held (Some place) e = tt
