-- What was read, and its faults.
use Rattle.std.proofs.Common.{◌≡◌, ◌<◌, ◌+◌, ℕ, Bool, true, eqb, ◌||◌, Some, None, Ok, List, ◌∷◌, find, length, drop, get_or, add-one, drop-cons, sym, ap, ◌∙◌, arith}
use Rattle.std.specs.List.{list_any}
use Rattle.scn_read.specs.ScnBase.Codes.{ok_unless}
use Rattle.gic_host.specs.declared.link.Link.{Link}
use Rattle.gic_host.specs.declared.step.HostStep.{HostStep}
use Rattle.gic_host.specs.declared.step.HostStep.TheVariants.{Phys}
use Rattle.gic_host.specs.Good.{clash, has_clash, step_fault, are_good_steps}
use Rattle.gic_host.proofs.ListLemmas.{find_in}

-- a physical interrupt whose link was found
pub phys_found : (links : List Link) (vcpus : ℕ) (loaded : Bool) (phys : ℕ) (link : Link) → find (λ l. eqb l.phys phys) links ≡ Some link → Ok link.phys ≡ ok_unless (step_fault links vcpus loaded (Phys phys None)) phys
phys_found links vcpus loaded phys link e = rw e (ap Ok (equal link.phys phys (find_in (λ l. eqb l.phys phys) links link e).1))
  where
    equal : (m n : ℕ) → eqb m n ≡ true → m ≡ n
    equal m n f = grind (arith, f)

-- links from one place on
pub clash_at : (links : List Link) (i : ℕ) (d : Link) → i < length links → has_clash (drop i links) ≡ (list_any (clash (get_or links i d)) (drop (i + 1) links) || has_clash (drop (i + 1) links))
clash_at links i d less = ap has_clash (drop-cons links i d less ∙ ap (λ (m : ℕ). get_or links i d ∷ drop m links) (sym (add-one i)))

-- steps from one place on
pub steps_at : (links : List Link) (vcpus : ℕ) (loaded : Bool) (steps : List HostStep) (i : ℕ) (d : HostStep) → i < length steps
    → are_good_steps links vcpus loaded (drop i steps) ≡ are_good_steps links vcpus loaded (get_or steps i d ∷ drop (i + 1) steps)
steps_at links vcpus loaded steps i d less = ap (are_good_steps links vcpus loaded) (drop-cons steps i d less ∙ ap (λ (m : ℕ). get_or steps i d ∷ drop m steps) (sym (add-one i)))
