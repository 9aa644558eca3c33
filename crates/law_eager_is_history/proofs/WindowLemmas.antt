-- What the call of an actor notes at its events: its events, the maps of the ITS, and the vCPUs that LPIs were for.
use Rattle.std.proofs.Common.{◌≡◌, ℕ, ◌<◌, ◌≤◌, cond, nat_lt, unwrap_or, Some, Bool, true, false, IsTrue, List, [], ◌∷◌, ◌++◌, Contains, Option, None, refl, sym, ap, ◌∙◌, subst, slice_index_or, arith, map}
use Rattle.std.specs.List.{list_all}
use Rattle.std.specs.Option.{option_map_or}
use Rattle.std.proofs.lemmas.Bool.{and_parts, ltb-true, le-ltb}
use Rattle.std.proofs.lemmas.List.{append_assoc, append-nil}
use Rattle.floor_histories.specs.Words.{Key, GuestShape}
use Rattle.floor_histories.specs.Calls.{Touching, Event, Up, Down, Enable, Touch, Reach, Take, Leave, Cpu, Put, CtlrBegin, CtlrEnd, ItsBegin, Runs, Done, Stalls, Operation, Happened, Beside, IsCall, Place}
use Rattle.floor_histories.specs.Registers.{Maps}
use Rattle.floor_histories.specs.GicCall.declared.event.Event.TheVariants.{Raise, Read, ItsEnd, Queue}
use Rattle.floor_histories.specs.Histories.{Ideal, handed_out, happened, Call, IsEnded, vcpu_of, targets_in, lpi_in, is_ahead, is_passed, noted, made, seeing}
use Rattle.law_eager_is_history.specs.Moments.{happenings}
use Rattle.law_eager_is_history.proofs.CourseLemmas.{call_after}

-- what the LPIs are for, and what they were for at some moments
abbrev pub Targets : Type 0
Targets = ℕ → Option ℕ

abbrev pub no_target : Targets
no_target id = None

-- what they were for at some moments, LPI by LPI
abbrev pub Window : Type 0
Window = ℕ → List (Option ℕ)

-- the first of some vCPUs
abbrev pub IsHead : List (Option ℕ) → Option ℕ → Type 0
IsHead [] t = ⊥
IsHead (x ∷ xs) t = x ≡ t

-- what a call has noted: of the vCPUs that the LPIs were for since it began the first, and those as its commands began
pub record HaveHeads (call : Call) (t : Targets) (firsts : List Targets) : Type 0 where
  pub commands : call.commands ≡ firsts
  pub heads : (id : ℕ) → IsHead (call.targets id) (t id)

-- and it has not stored EnableLPIs
pub record AreWindows (call : Call) (t : Targets) (firsts : List Targets) : Type 0 where
  pub place : call.place ≡ None
  pub commands : call.commands ≡ firsts
  pub heads : (id : ℕ) → IsHead (call.targets id) (t id)

pub heads_of : {call : Call} {t : Targets} {firsts : List Targets} → AreWindows call t firsts → HaveHeads call t firsts
heads_of are = record { commands = are.commands; heads = are.heads }

head_kept : (window more : List (Option ℕ)) (t : Option ℕ) → IsHead window t → IsHead (window ++ more) t
head_kept [] more t h = absurd h
head_kept (x ∷ xs) more t h = h

-- the first moment of a window is one of it
head_in : (window : List (Option ℕ)) (t : Option ℕ) → IsHead window t → Contains window t
head_in [] t h = absurd h
head_in (x ∷ xs) t h = (0, omega arith, h)

-- an event that begins no command and is no EnableLPIs
abbrev pub is_within : Event → Bool
is_within (Enable vcpu) = false
is_within ItsBegin = false
is_within (Queue offset Runs) = true
is_within (Queue offset change) = false
is_within event = true

-- what a call has after an event
abbrev pub next_call : Ideal → ℕ → Event → Call → Call
next_call state actor event call = seeing (happened actor event state) (made state event (handed_out state event) call)

module _ (state : Ideal) (actor : ℕ) (call : Call) (t : Targets) (firsts : List Targets) (are : AreWindows call t firsts) where
  -- a call that has not stored EnableLPIs
  unstored : (event : Event) (more : List Targets) → AreWindows (next_call state actor event (record call { place = None })) t more → AreWindows (next_call state actor event call) t more
  unstored event more is = subst (λ p. AreWindows (next_call state actor event (record call { place = p })) t more) (sym are.place) is

  kept : (event : Event) (id : ℕ) → IsHead (call.targets id ++ targets_in (happened actor event state) id ∷ []) (t id)
  kept event id = head_kept (call.targets id) (targets_in (happened actor event state) id ∷ []) (t id) (are.heads id)

  pub windows_within : (event : Event) → IsTrue (is_within event) → AreWindows (next_call state actor event call) t firsts
  windows_within (Enable vcpu) h = absurd (cc)
  windows_within ItsBegin h = absurd (cc)
  windows_within (Queue offset (Done words)) h = absurd (cc)
  windows_within (Queue offset (Stalls fault)) h = absurd (cc)
  windows_within (Raise key) h = unstored (Raise key) firsts (record { place = refl; commands = are.commands; heads = kept (Raise key) })
  windows_within (Up key) h = unstored (Up key) firsts (record { place = refl; commands = are.commands; heads = kept (Up key) })
  windows_within (Down key) h = unstored (Down key) firsts (record { place = refl; commands = are.commands; heads = kept (Down key) })
  windows_within (Touch key touch) h = unstored (Touch key touch) firsts (record { place = refl; commands = are.commands; heads = kept (Touch key touch) })
  windows_within (Reach key vcpu) h = unstored (Reach key vcpu) firsts (record { place = refl; commands = are.commands; heads = kept (Reach key vcpu) })
  windows_within (Take key vcpu) h = unstored (Take key vcpu) firsts (record { place = refl; commands = are.commands; heads = kept (Take key vcpu) })
  windows_within (Leave key vcpu) h = unstored (Leave key vcpu) firsts (record { place = refl; commands = are.commands; heads = kept (Leave key vcpu) })
  windows_within (Cpu vcpu reg write) h = unstored (Cpu vcpu reg write) firsts (record { place = refl; commands = are.commands; heads = kept (Cpu vcpu reg write) })
  windows_within (Read place) h = unstored (Read place) firsts (record { place = refl; commands = are.commands; heads = kept (Read place) })
  windows_within (Put word value) h = unstored (Put word value) firsts (record { place = refl; commands = are.commands; heads = kept (Put word value) })
  windows_within (CtlrBegin enables) h = unstored (CtlrBegin enables) firsts (record { place = refl; commands = are.commands; heads = kept (CtlrBegin enables) })
  windows_within CtlrEnd h = unstored CtlrEnd firsts (record { place = refl; commands = are.commands; heads = kept CtlrEnd })
  windows_within ItsEnd h = unstored ItsEnd firsts (record { place = refl; commands = are.commands; heads = kept ItsEnd })
  windows_within (Queue offset Runs) h = unstored (Queue offset Runs) firsts (record { place = refl; commands = are.commands; heads = kept (Queue offset Runs) })

  -- where the ITS is taken, and where a command ends, one begins
  begun_more : call.commands ++ targets_in state ∷ [] ≡ firsts ++ targets_in state ∷ []
  begun_more = ap (λ commands. commands ++ targets_in state ∷ []) are.commands

  pub windows_begun : AreWindows (next_call state actor ItsBegin call) t (firsts ++ targets_in state ∷ [])
  windows_begun = unstored ItsBegin (firsts ++ targets_in state ∷ []) (record { place = refl; commands = begun_more; heads = kept ItsBegin })

  pub windows_done : (offset : ℕ) (words : List ℕ) → AreWindows (next_call state actor (Queue offset (Done words)) call) t (firsts ++ targets_in state ∷ [])
  windows_done offset words = unstored (Queue offset (Done words)) (firsts ++ targets_in state ∷ []) (record { place = refl; commands = begun_more; heads = kept (Queue offset (Done words)) })

  pub windows_stalled : (offset fault : ℕ) → AreWindows (next_call state actor (Queue offset (Stalls fault)) call) t (firsts ++ targets_in state ∷ [])
  windows_stalled offset fault = unstored (Queue offset (Stalls fault)) (firsts ++ targets_in state ∷ []) (record { place = refl; commands = begun_more; heads = kept (Queue offset (Stalls fault)) })

-- Once EnableLPIs is stored each LPI counts by where it is about its own place: as the call came to it, where no LPI moves meanwhile.

pub record IsEnabling (call : Call) (t : Targets) (firsts : List Targets) : Type 0 where
  pub here : ℕ
  pub place : call.place ≡ Some here
  pub commands : call.commands ≡ firsts
  pub heads : (id : ℕ) → IsHead (call.targets id) (t id)

pub enabling : (state : Ideal) (actor vcpu : ℕ) (call : Call) (t : Targets) (firsts : List Targets) → AreWindows call t firsts → IsEnabling (next_call state actor (Enable vcpu) call) (targets_in (happened actor (Enable vcpu) state)) firsts
enabling state actor vcpu call t firsts are = record { here = 0; place = refl; commands = are.commands; heads = λ id. let now = targets_in (happened actor (Enable vcpu) state) in subst (λ b. IsHead (cond b [] (now id ∷ [])) (now id)) (sym (le-ltb id 0 (omega arith))) refl }

-- a read
passed_head : (b : Bool) (window : List (Option ℕ)) (t : Option ℕ) → IsHead window t → IsHead (cond b window (window ++ t ∷ [])) t
passed_head true window t h = h
passed_head false window t h = head_kept window (t ∷ []) t h

enabling_read : (state : Ideal) (actor : ℕ) (at : Place) (call : Call) (t : Targets) (firsts : List Targets) → ((id : ℕ) → targets_in state id ≡ t id) → IsEnabling call t firsts → IsEnabling (next_call state actor (Read at) call) t firsts
enabling_read state actor at call t firsts same is = record {
  here = is.here;
  place = is.place;
  commands = is.commands;
  heads = λ id. subst (λ x. IsHead (cond (is_passed call.place id) (call.targets id) (call.targets id ++ x ∷ [])) (t id)) (sym (same id)) (passed_head (is_passed call.place id) (call.targets id) (t id) (is.heads id));
}

pub enabling_reads : (state : Ideal) (actor : ℕ) (places : List Place) (call : Call) (t : Targets) (firsts : List Targets) → ((id : ℕ) → targets_in state id ≡ t id) → IsEnabling call t firsts → IsEnabling (call_after actor (map Read places) state call) t firsts
enabling_reads state actor [] call t firsts same is = is
enabling_reads state actor (at ∷ places) call t firsts same is = enabling_reads state actor places (next_call state actor (Read at) call) t firsts same (enabling_read state actor at call t firsts same is)

-- a touch
ahead_head : (key : Key) (here id : ℕ) (window : List (Option ℕ)) (t : Option ℕ) → IsHead window t → IsHead (cond (is_passed (Some (unwrap_or (lpi_in key) here)) id) (cond (is_ahead (Some here) key id) [] window) (cond (is_ahead (Some here) key id) [] window ++ t ∷ [])) t
ahead_head key here id window t h = of (lpi_in key)
  where
    both : (a p : Bool) → (a ≡ true → p ≡ false) → IsHead (cond p (cond a [] window) (cond a [] window ++ t ∷ [])) t
    both true true apart = absurd (let e = apart refl in cc)
    both true false apart = refl
    both false true apart = h
    both false false apart = head_kept window (t ∷ []) t h

    of : (o : Option ℕ) → IsHead (cond (nat_lt id (unwrap_or o here)) (cond (option_map_or (λ at. nat_lt at id) o false) [] window) (cond (option_map_or (λ at. nat_lt at id) o false) [] window ++ t ∷ [])) t
    of None = both false (nat_lt id here) (λ e. absurd (cc))
    of (Some at) = both (nat_lt at id) (nat_lt id at) (λ e. le-ltb id at (less at id (ltb-true at id e)))
      where
        less : (m n : ℕ) → m < n → m ≤ n
        less m n l = omega (arith, l)

pub enabling_touched : (state : Ideal) (actor : ℕ) (key : Key) (touch : Touching) (call : Call) (t : Targets) (firsts : List Targets) → ((id : ℕ) → targets_in (happened actor (Touch key touch) state) id ≡ t id) → IsEnabling call t firsts
    → IsEnabling (next_call state actor (Touch key touch) call) t firsts
enabling_touched state actor key touch call t firsts same is =
    subst (λ p. IsEnabling (next_call state actor (Touch key touch) (record call { place = p })) t firsts) (sym is.place)
    (record {
      here = unwrap_or (lpi_in key) is.here;
      place = refl;
      commands = is.commands;
      heads = λ id.
          subst (λ x. IsHead (cond (is_passed (Some (unwrap_or (lpi_in key) is.here)) id) (cond (is_ahead (Some is.here) key id) [] (call.targets id)) (cond (is_ahead (Some is.here) key id) [] (call.targets id) ++ x ∷ [])) (t id)) (sym (same id))
          (ahead_head key is.here id (call.targets id) (t id) (is.heads id));
    })

pub enabled_heads : {call : Call} {t : Targets} {firsts : List Targets} → IsEnabling call t firsts → HaveHeads call t firsts
enabled_heads is = record { commands = is.commands; heads = is.heads }

-- Lists of events.

pub windows_after : (actor : ℕ) (events : List Event) (state : Ideal) (call : Call) (t : Targets) (firsts : List Targets) → IsTrue (list_all is_within events) → AreWindows call t firsts → AreWindows (call_after actor events state call) t firsts
windows_after actor [] state call t firsts h are = are
windows_after actor (event ∷ events) state call t firsts h are =
    let parts = and_parts (is_within event) (list_all is_within events) h in
    windows_after actor events (happened actor event state) (next_call state actor event call) t firsts parts.1 (windows_within state actor call t firsts are event parts.0)

record IsNoted (state : Ideal) (event : Event) (call : Call) : Type 0 where
  pub operation : (noted state event call).operation ≡ call.operation
  pub piece : (noted state event call).piece ≡ call.piece

notes : (state : Ideal) (event : Event) (call : Call) → IsNoted state event call
notes state (Raise key) call = record { operation = refl; piece = refl }
notes state (Up key) call = record { operation = refl; piece = refl }
notes state (Down key) call = record { operation = refl; piece = refl }
notes state (Enable vcpu) call = record { operation = refl; piece = refl }
notes state (Touch key touch) call = record { operation = refl; piece = refl }
notes state (Reach key vcpu) call = record { operation = refl; piece = refl }
notes state (Take key vcpu) call = record { operation = refl; piece = refl }
notes state (Leave key vcpu) call = record { operation = refl; piece = refl }
notes state (Cpu vcpu reg write) call = record { operation = refl; piece = refl }
notes state (Read place) call = record { operation = refl; piece = refl }
notes state (Put word value) call = record { operation = refl; piece = refl }
notes state (CtlrBegin enables) call = record { operation = refl; piece = refl }
notes state CtlrEnd call = record { operation = refl; piece = refl }
notes state ItsBegin call = record { operation = refl; piece = refl }
notes state ItsEnd call = record { operation = refl; piece = refl }
notes state (Queue offset Runs) call = record { operation = refl; piece = refl }
notes state (Queue offset (Done words)) call = record { operation = refl; piece = refl }
notes state (Queue offset (Stalls fault)) call = record { operation = refl; piece = refl }

pub operation_after : (actor : ℕ) (events : List Event) (state : Ideal) (call : Call) → (call_after actor events state call).operation ≡ call.operation
operation_after actor [] state call = refl
operation_after actor (event ∷ events) state call = operation_after actor events (happened actor event state) (next_call state actor event call) ∙ (notes state event call).operation

pub piece_after : (actor : ℕ) (events : List Event) (state : Ideal) (call : Call) → (call_after actor events state call).piece ≡ call.piece ++ happenings actor events state
piece_after actor [] state call = sym (append-nil call.piece)
piece_after actor (event ∷ events) state call =
    let one : Happened = record { event = event; found = handed_out state event } in
    piece_after actor events (happened actor event state) (next_call state actor event call)
    ∙ ap (λ xs. (xs ++ one ∷ []) ++ happenings actor events (happened actor event state)) (notes state event call).piece
    ∙ append_assoc call.piece (one ∷ []) (happenings actor events (happened actor event state))

-- an event that does not take the ITS
abbrev pub is_no_turn : Event → Bool
is_no_turn ItsBegin = false
is_no_turn event = true

maps_kept : (state : Ideal) (event : Event) (call : Call) → IsTrue (is_no_turn event) → (noted state event call).maps ≡ call.maps
maps_kept state (Raise key) call h = refl
maps_kept state (Up key) call h = refl
maps_kept state (Down key) call h = refl
maps_kept state (Enable vcpu) call h = refl
maps_kept state (Touch key touch) call h = refl
maps_kept state (Reach key vcpu) call h = refl
maps_kept state (Take key vcpu) call h = refl
maps_kept state (Leave key vcpu) call h = refl
maps_kept state (Cpu vcpu reg write) call h = refl
maps_kept state (Read place) call h = refl
maps_kept state (Put word value) call h = refl
maps_kept state (CtlrBegin enables) call h = refl
maps_kept state CtlrEnd call h = refl
maps_kept state ItsBegin call h = absurd (cc)
maps_kept state ItsEnd call h = refl
maps_kept state (Queue offset Runs) call h = refl
maps_kept state (Queue offset (Done words)) call h = refl
maps_kept state (Queue offset (Stalls fault)) call h = refl

pub maps_after : (actor : ℕ) (events : List Event) (state : Ideal) (call : Call) → IsTrue (list_all is_no_turn events) → (call_after actor events state call).maps ≡ call.maps
maps_after actor [] state call h = refl
maps_after actor (event ∷ events) state call h =
    let parts = and_parts (is_no_turn event) (list_all is_no_turn events) h in
    maps_after actor events (happened actor event state) (next_call state actor event call) parts.1 ∙ maps_kept state event call parts.0

-- a call ends as its definition says, of maps and of vCPUs that it noted
abbrev pub beside_with : Maps → Targets → List Targets → Beside
beside_with maps t firsts = record { maps = maps; targets = t; commands = firsts; signals = false }

-- of a call that takes the ITS: of these only those count that its commands begin with
abbrev pub beside_of : Maps → List Targets → Beside
beside_of maps firsts = beside_with maps (slice_index_or firsts 0 no_target) firsts

pub call_ends :
    (shape : GuestShape) (actor : ℕ) (call : Call) (operation : Operation) (piece : List Happened) (maps : Maps) (t : Targets) (firsts : List Targets) (answer : Option ℕ) → call.operation ≡ operation → call.piece ≡ piece → call.maps ≡ maps → HaveHeads call t firsts
    → IsCall shape (beside_with maps t firsts) (vcpu_of shape actor) operation piece answer → IsEnded shape actor call answer
call_ends shape actor call operation piece maps t firsts answer o p m are is =
    record {
      beside = beside_with maps t firsts;
      maps = sym m;
      commands = sym are.commands;
      targets = λ id. head_in (call.targets id) (t id) (are.heads id);
      right = λ h. h;
      is_call = subst (λ op. IsCall shape (beside_with maps t firsts) (vcpu_of shape actor) op call.piece answer) (sym o) (subst (λ xs. IsCall shape (beside_with maps t firsts) (vcpu_of shape actor) operation xs answer) (sym p) is);
    }

-- of these maps and vCPUs
pub call_ends_by :
    (shape : GuestShape) (actor : ℕ) (call : Call) (operation : Operation) (piece : List Happened) (maps : Maps) (t : Targets) (firsts : List Targets) (answer : Option ℕ) (o : call.operation ≡ operation) (p : call.piece ≡ piece) (m : call.maps ≡ maps) (are : HaveHeads call t firsts)
    (is : IsCall shape (beside_with maps t firsts) (vcpu_of shape actor) operation piece answer) → (call_ends shape actor call operation piece maps t firsts answer o p m are is).beside ≡ beside_with maps t firsts
unfolding call_ends
call_ends_by shape actor call operation piece maps t firsts answer o p m are is = refl
