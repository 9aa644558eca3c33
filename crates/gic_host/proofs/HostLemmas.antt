-- The state of a run as the program keeps it.
use Rattle.std.proofs.Common.{◌≡◌, ◌≤◌, ◌+◌, ℕ, Option, Some, None, List, ◌∷◌, map, set, length, replicate, take, zero, suc, add-one, refl, sym, ap, ◌∙◌, arith}
use Rattle.std.specs.Option.{option_map_or}
use Rattle.gic_ich.specs.Words.{IccReg}
use Rattle.gic_ich.specs.GicPrio.declared.cpu.CpuRec.{CpuRec}
use Rattle.gic_ich.specs.GicPrio.Interface.{interface_after}
use Rattle.gic_host.specs.declared.state.LinkState.{LinkState}
use Rattle.gic_host.specs.State.{HostState, accessed, interface_of, cpu_at, after_access}
use Rattle.gic_host.specs.Text.{planned_registers, registers_of}

-- the state after an access
pub state_after : (reg : IccReg) (write : Option ℕ) (vcpu : ℕ) (host : HostState) (cpu done : CpuRec) (states links : List LinkState) → states ≡ host.links → cpu ≡ cpu_at host.cpus vcpu → done ≡ (interface_after reg write (interface_of cpu vcpu states)).cpu
    → links ≡ map (accessed vcpu (interface_after reg write (interface_of cpu vcpu states)).at) states → record host { links = links; cpus = set host.cpus vcpu done } ≡ after_access reg write vcpu host
state_after reg write vcpu host cpu done states links same is cpu_is links_are =
    ap (λ (ls : List LinkState). record host { links = ls; cpus = set host.cpus vcpu done }) links_are
    ∙ ap (λ (d : CpuRec). record host { links = map (accessed vcpu (interface_after reg write (interface_of cpu vcpu states)).at) states; cpus = set host.cpus vcpu d }) cpu_is
    ∙ ap (λ (ls : List LinkState). record host { links = map (accessed vcpu (interface_after reg write (interface_of cpu vcpu ls)).at) ls; cpus = set host.cpus vcpu (interface_after reg write (interface_of cpu vcpu ls)).cpu }) same
    ∙ ap (λ (c : CpuRec). record host { links = map (accessed vcpu (interface_after reg write (interface_of c vcpu host.links)).at) host.links; cpus = set host.cpus vcpu (interface_after reg write (interface_of c vcpu host.links)).cpu }) is

-- what the registers show where a vCPU is loaded, and where none is
pub registers_some : (n : ℕ) (host : HostState) (vcpu : ℕ) (cpu : CpuRec) (states : List LinkState) (shown : List ℕ) → host.loaded ≡ Some vcpu → states ≡ host.links → cpu ≡ cpu_at host.cpus vcpu → shown ≡ planned_registers n (length host.cpus) cpu vcpu states → shown ≡ registers_of n host
registers_some n host vcpu cpu states shown loaded same is e =
    e
    ∙ ap (λ (ls : List LinkState). planned_registers n (length host.cpus) cpu vcpu ls) same
    ∙ ap (λ (c : CpuRec). planned_registers n (length host.cpus) c vcpu host.links) is
    ∙ sym (ap (λ (o : Option ℕ). option_map_or (λ v. planned_registers n (length host.cpus) (cpu_at host.cpus v) v host.links) o (replicate (n + 1) 0)) loaded)

abbrev zeros : ℕ → List ℕ
zeros m = replicate m 0

take_zeros : (m n : ℕ) → n ≤ m → take n (zeros m) ≡ zeros n
take_zeros m zero h = refl
take_zeros zero (suc n) h = absurd (omega (arith, h))
take_zeros (suc m) (suc n) h = ap (λ (rest : List ℕ). 0 ∷ rest) (take_zeros m n (omega (arith, h)))

pub registers_none : (n : ℕ) (host : HostState) → n ≤ 16 → host.loaded ≡ None → 0 ∷ take n (zeros 16) ≡ registers_of n host
registers_none n host few loaded =
    ap (λ (rest : List ℕ). 0 ∷ rest) (take_zeros 16 n few)
    ∙ sym (ap zeros (add-one n))
    ∙ sym (ap (λ (o : Option ℕ). option_map_or (λ v. planned_registers n (length host.cpus) (cpu_at host.cpus v) v host.links) o (replicate (n + 1) 0)) loaded)
