-- The records of the CPU interfaces of a guest's vCPUs, one after the other.
use Rattle.std.proofs.Common.{◌≡◌, ℕ, ◌+◌, List, [], ◌∷◌, ◌++◌, map, sym, ap, ◌∙◌, arith}
use Rattle.std.specs.List.{range_with_len}
use Rattle.std.proofs.lemmas.List.{append_assoc}
use Rattle.std.proofs.lemmas.List.FromFn.{map-range_with_len_more}
use Rattle.guest_end.specs.Registers.{CpuRec}
use Rattle.port_seq.specs.Told.{GuestTold}
use Rattle.seq_guest.specs.Guest.{seen_by}

-- another actor is told
pub told_again : (told mid new : GuestTold) (actor : ℕ) → new ≡ record mid { actor = actor } → mid ≡ record told { actor = mid.actor } → new ≡ record told { actor = new.actor }
told_again told mid new actor is before =
    let e : new ≡ record told { actor = actor } = is ∙ ap (λ (t : GuestTold). record t { actor = actor }) before in
    e ∙ ap (λ actor. record told { actor = actor }) (sym (ap (λ (t : GuestTold). t.actor) e))

-- one more
pub cpus_more :
    (told mid new : GuestTold) (before cpus next : List CpuRec) (vcpu : ℕ) (cpu : CpuRec) → next ≡ cpus ++ cpu ∷ [] → cpus ≡ before ++ map (λ vcpu. (seen_by told vcpu).local.cpu) (range_with_len 0 vcpu) → new ≡ record mid { actor = vcpu }
    → mid ≡ record told { actor = mid.actor } → cpu ≡ (seen_by new new.actor).local.cpu → next ≡ before ++ map (λ vcpu. (seen_by told vcpu).local.cpu) (range_with_len 0 (vcpu + 1))
cpus_more told mid new before cpus next vcpu cpu pushed so is mids cpu_is =
    let by : ℕ → CpuRec = λ vcpu. (seen_by told vcpu).local.cpu in
    let e : new ≡ record told { actor = vcpu } = is ∙ ap (λ (t : GuestTold). record t { actor = vcpu }) mids in
    let one : cpu ≡ by vcpu = cpu_is ∙ ap (λ (t : GuestTold). (seen_by t t.actor).local.cpu) e in
    pushed
    ∙ ap (λ cpus. cpus ++ cpu ∷ []) so
    ∙ append_assoc before (map by (range_with_len 0 vcpu)) (cpu ∷ [])
    ∙ ap (λ cpu. before ++ (map by (range_with_len 0 vcpu) ++ cpu ∷ [])) one
    ∙ ap (λ cpus. before ++ cpus) (sym (map-range_with_len_more by 0 vcpu vcpu (omega arith)))
