-- The events that were read, and those that are left.
use Rattle.std.proofs.Common.{◌≡◌, ℕ, ◌+◌, ◌<◌, List, [], ◌∷◌, ◌++◌, length, get_or, drop, map, Result, Ok, Err, append_assoc, refl, subst, arith}
use Rattle.serde_json.specs.Data.{Data}
use Rattle.scn_read.specs.ScnBase.Words.{GuestShape}
use Rattle.scn_read.specs.ScnBase.declared.fault.Fault.{Fault}
use Rattle.scn_read.proofs.StepLemmas.{all_steps, all_steps-step}
use Rattle.scn_read.proofs.ListLemmas.{drop_item}
use Rattle.trace_read.specs.declared.trace.TraceEvent.{TraceEvent}
use Rattle.trace_read.specs.Reading.{event_of, events_of}

-- of values vs, the one at i, which is v, is an event
pub events_more : {V : Type 0} (data_of : V → Data) (shape : GuestShape) (vs : List V) (done : List TraceEvent) (first i : ℕ) (v : V) → i < length vs → v ≡ get_or vs i v → (whole : Result (List TraceEvent) Fault)
    → all_steps done (events_of shape (first + i) (map data_of (drop i vs))) ≡ whole → (event : TraceEvent) → event_of shape (data_of v) ≡ Ok event
    → all_steps (done ++ event ∷ []) (events_of shape (first + (i + 1)) (map data_of (drop (i + 1) vs))) ≡ whole
events_more data_of shape vs done first i v within is whole so_far event e =
    let at_it = rw (drop_item vs i v within is, e) at so_far in
    let number : first + i + 1 ≡ first + (i + 1) = omega arith in
    subst (λ n. all_steps (done ++ event ∷ []) (events_of shape n (map data_of (drop (i + 1) vs))) ≡ whole) number
    (rw (← all_steps-step done event (events_of shape (first + i + 1) (map data_of (drop (i + 1) vs)))) at_it)
