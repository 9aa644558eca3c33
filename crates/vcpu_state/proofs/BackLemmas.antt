-- What comes back is what the interface has.
use Rattle.std.proofs.Common.{◌≡◌, ◌≤◌, ◌<◌, ℕ, zero, suc, ◌&&◌, Some, List, [], ◌∷◌, length, take, get_or, ◌⊎◌, inl, inr, sym, ap, ◌∙◌, arith}
use Rattle.std.specs.Option.{option_map}
use Rattle.std.proofs.lemmas.Option.{none-some}
use Rattle.std.proofs.lemmas.List.{get_or-take}
use Rattle.gic_ich.specs.Words.{HeldIrq}
use Rattle.gic_ich.specs.GicPrio.Interface.{AtInterface}
use Rattle.gic_ich.specs.Place.{StandsAs}
use Rattle.gic_ich.specs.Regs.{listed_of}
use Rattle.vcpu_state.specs.Fold.{back_of, back_from, EachComesBack}

-- a list register brings back what the interface has of its interrupt
brought : (word : ℕ) (held : HeldIrq) (entry : AtInterface) → StandsAs word held entry → back_of word held ≡ back_from entry
brought word held entry stands =
    ap (λ seen. record { rise = held.rise && seen.pending; soft = held.soft && seen.pending; active = seen.active }) stands.seen
    ∙ ap (λ rise. record { rise = rise; soft = held.soft && entry.pending; active = entry.active }) (sym stands.rise)
    ∙ ap (λ soft. record { rise = entry.rise; soft = soft; active = entry.active }) (sym stands.soft)

few_taken : (n : ℕ) (xs : List ℕ) → length (take n xs) ≤ n
few_taken zero xs = omega arith
few_taken (suc n) [] = omega arith
few_taken (suc n) (x ∷ xs) = let rest = few_taken n xs in omega (arith, rest)

pub comes_back : EachComesBack
comes_back regs held interface place one stand there =
    let within : place < length (listed_of regs) = inside (grind arith) in
    let below : place < regs.n = (let few = few_taken regs.n regs.lr in omega (arith, few, within)) in
    let has = stand.places.filled place one within there in
    record {
      entry = has.entry;
      among = has.among;
      key = has.stands.key;
      back =
          ap (option_map (back_of (get_or regs.lr place 0))) there
          ∙ ap (λ word. Some (back_of word one)) (sym (get_or-take regs.n regs.lr place 0 below))
          ∙ ap Some (brought (get_or (listed_of regs) place 0) one has.entry has.stands);
    }
  where
    inside : (place < length (listed_of regs)) ⊎ (length (listed_of regs) ≤ place) → place < length (listed_of regs)
    inside (inl less) = less
    inside (inr past) = absurd (none-some one (sym (stand.places.past place past) ∙ there))
