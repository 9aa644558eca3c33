-- Moves of interrupts at a vCPU's own CPU interface.
use Rattle.std.specs.Prelude.{ℕ, Bool, false, List, Some}
use Rattle.std.specs.List.{list_all}
use Rattle.port_call.specs.Calls.{Event, Reach, Take, Leave, Happened, is_actor}

-- an event is one of them: an interrupt reaches it, brings its causes, or leaves it
abbrev pub is_move : ℕ → Event → Bool
is_move actor (Reach key vcpu) = is_actor (Some actor) vcpu
is_move actor (Take key vcpu) = is_actor (Some actor) vcpu
is_move actor (Leave key vcpu) = is_actor (Some actor) vcpu
is_move actor event = false

-- each of some events is one
abbrev pub are_moves : ℕ → List Happened → Bool
are_moves actor events = list_all (λ happened. is_move actor happened.event) events
