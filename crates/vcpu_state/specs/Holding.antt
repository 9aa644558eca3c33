-- Which interrupts a vCPU on a PE holds (own choice): those at its interface. One that is on none has no place for any.
use Rattle.std.specs.Prelude.{ℕ, ◌==◌, Bool, false, Option, List}
use Rattle.std.specs.List.{filter_map}
use Rattle.std.specs.Option.{option_map, option_map_or}
use Rattle.gic_ich.specs.Words.{Key, HeldIrq, intid_of}
use Rattle.vcpu_state.specs.declared.loaded.Loaded.{Loaded}

-- the interrupts that a loaded vCPU holds, by the places of their list registers
abbrev pub held_keys : Loaded → List Key
held_keys vcpu = filter_map (option_map (λ held. held.key)) vcpu.held

-- a list register has the interrupt with this INTID
abbrev pub has_intid : ℕ → Option HeldIrq → Bool
has_intid id place = option_map_or (λ held. intid_of held.key == id) place false
