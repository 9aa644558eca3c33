-- What happens in the ideal controller: when an event may happen, what it hands out, and what it leaves.
use Rattle.std.specs.Prelude.{ℕ, ◌&&◌, not, Bool, true, false, List, [], ◌∷◌, ◌++◌, map, filter, fold, Option, Some, None, is_none, is_some, if◌then◌else◌}
use Rattle.std.specs.List.{range_with_len}
use Rattle.std.specs.Option.{option_map_or}
use Rattle.ideal_guest.specs.Words.{IccReg, Key, is_number}
use Rattle.ideal_guest.specs.Registers.{AtInterface, interface_after, interface_answer}
use Rattle.ideal_guest.specs.Calls.{Event, Touch, Reach, Take, Leave, Cpu, Put, Enable, CtlrBegin, CtlrEnd, ItsBegin, Found, Record, Entry, may_reach, may_take, reached, taken, left, entry_of, held_at}
use Rattle.ideal_guest.specs.GicCall.declared.event.Event.TheVariants.{Read, ItsEnd, Queue}
use Rattle.ideal_guest.specs.GicCall.declared.event.Found.TheVariants.{Nothing, Answer, Word as FoundWord, Lpis as FoundLpis}
use Rattle.ideal_guest.specs.declared.guest.IdealGuest.{IdealGuest}
use Rattle.ideal_guest.specs.Ideal.{irq_at, cpu_at, with_cpu, word_at, after_event}
use Rattle.gic_history.specs.State.{Ideal, Standing, standing_at, is_of, moved_at, is_home, interface_at, view_at, with_irq, with_standing}

-- Moves.

-- an interrupt gets to a vCPU's interface
abbrev pub after_reach : Key → ℕ → Ideal → Ideal
after_reach key vcpu state =
    let moved = reached (irq_at state.guest key) in
    with_standing (with_irq state key moved.irq) vcpu (standing_at state vcpu ++ (record { key = key; entry = moved.entry }) ∷ [])

-- what stands there with another entry of an interrupt, and without it
abbrev pub with_entry : Key → Entry → List Standing → List Standing
with_entry key entry standing = map (λ one. if is_of key one then record one { entry = entry } else one) standing

abbrev pub without : Key → List Standing → List Standing
without key standing = filter (λ one. not (is_of key one)) standing

-- an interrupt that is active there becomes pending there too
abbrev pub after_take : Key → ℕ → Ideal → Ideal
after_take key vcpu state =
    option_map_or
    (λ moved. with_standing (with_irq state key (taken moved).irq) vcpu (with_entry key (taken moved).entry (standing_at state vcpu)))
    (moved_at state vcpu key)
    state

-- an interrupt leaves
abbrev pub after_leave : Key → ℕ → Ideal → Ideal
after_leave key vcpu state =
    option_map_or (λ moved. with_standing (with_irq state key (left vcpu moved)) vcpu (without key (standing_at state vcpu))) (moved_at state vcpu key) state

-- an access of a register of a vCPU's CPU interface, for which only what stands there counts
abbrev pub standing_of : AtInterface → Standing
standing_of at = record { key = at.key; entry = entry_of at }

abbrev pub after_access : ℕ → IccReg → Option ℕ → Ideal → Ideal
after_access vcpu reg write state =
    let after = interface_after reg write (interface_at state vcpu) in
    with_standing (record state { guest = with_cpu state.guest vcpu after.cpu }) vcpu (map standing_of after.at)

-- Events.

-- an actor may make an event: an interrupt is touched at home; it moves where it may; a mark is taken where it is free, and used and freed by who has it
abbrev pub is_allowed : Ideal → ℕ → Event → Bool
is_allowed state actor (Touch key touching) = is_home state key
is_allowed state actor (Reach key vcpu) = is_home state key && may_reach state.guest.shape key (irq_at state.guest key) vcpu (cpu_at state.guest vcpu)
is_allowed state actor (Take key vcpu) =
    option_map_or (λ moved. may_take state.guest.shape key moved vcpu (cpu_at state.guest vcpu)) (moved_at state vcpu key) false
is_allowed state actor (Leave key vcpu) = is_some (moved_at state vcpu key)
is_allowed state actor (CtlrBegin enables) = is_none state.spreads
is_allowed state actor CtlrEnd = is_number actor state.spreads
is_allowed state actor ItsBegin = is_none state.has_its
is_allowed state actor (Queue offset change) = is_number actor state.has_its
is_allowed state actor ItsEnd = is_number actor state.has_its
is_allowed state actor event = true

-- what it hands out
abbrev pub handed_out : Ideal → Event → Found
handed_out state (Touch key touching) = Record (irq_at state.guest key)
handed_out state (Cpu vcpu reg write) = Answer (interface_answer reg write (interface_at state vcpu))
handed_out state (Put word value) = FoundWord (word_at state.guest word)
handed_out state (Read place) = held_at (view_at state) place
handed_out state (Enable vcpu) = FoundLpis (cpu_at state.guest vcpu).lpis
handed_out state event = Nothing

-- the state after it
abbrev pub happened : ℕ → Event → Ideal → Ideal
happened actor (Reach key vcpu) state = after_reach key vcpu state
happened actor (Take key vcpu) state = after_take key vcpu state
happened actor (Leave key vcpu) state = after_leave key vcpu state
happened actor (Cpu vcpu reg write) state = after_access vcpu reg write state
happened actor (CtlrBegin enables) state = record state { guest = after_event state.guest (CtlrBegin enables); spreads = Some actor }
happened actor CtlrEnd state = record state { spreads = None }
happened actor ItsBegin state = record state { has_its = Some actor }
happened actor ItsEnd state = record state { has_its = None }
happened actor event state = record state { guest = after_event state.guest event }

-- Home.

-- the state after all that stands at an interface left it
abbrev pub emptied : Ideal → ℕ → Ideal
emptied state vcpu = fold (λ now standing. after_leave standing.key vcpu now) state (standing_at state vcpu)

abbrev pub all_left : Ideal → Ideal
all_left state = fold emptied state (range_with_len 0 state.guest.shape.vcpus)

-- what the controller would have of the guest if nothing stood at an interface
abbrev pub home : Ideal → IdealGuest
home state = (all_left state).guest
