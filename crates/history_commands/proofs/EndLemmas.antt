-- From wherever a call has come in its commands, some further events end it.
use Rattle.std.proofs.Common.{◌≡◌, ℕ, zero, suc, ◌+◌, ◌<◌, ◌&&◌, not, Bool, true, false, cond, is_none, IsTrue, List, [], ◌∷◌, ◌++◌, map, fold, length, All, Option, Some, None, refl, sym, ap, ap₂, ◌∙◌, subst, arith, inr, get_or, append_assoc}
use Rattle.std.specs.List.{list_any}
use Rattle.std.specs.Option.{option_map_or}
use Rattle.std.proofs.lemmas.Bool.{or_left, or_right}
use Rattle.std.proofs.lemmas.Grind.{common_steps}
use Rattle.std.proofs.lemmas.List.Elements.{All-nil, All-cons}
use Rattle.std.proofs.lemmas.List.Sums.{fold-append}
use Rattle.history_commands.specs.Words.{GuestShape}
use Rattle.history_commands.specs.Registers.{Maps, Part as MemoryPart, part_of, extracted, fault_number, queue_bytes, advanced}
use Rattle.history_commands.specs.LegalLists.ItsCmd.Command.{decoded}
use Rattle.history_commands.specs.Calls.{Event, Touch, Found, Record, Happened, View, Part, Map, Clear, Place, Done, Stalls, HandsOut, IsLastRead, held_at, is_beside, is_its_enabled, is_queue_valid, named_of, memory_at, command_parts, command_places, command_words, decoded_parts, queue_event, takes_command, word_address, words_read, byte_places, lpi_event}
use Rattle.history_commands.specs.GicCall.declared.event.Event.TheVariants.{Read, Queue, ItsEnd}
use Rattle.history_commands.specs.GicCall.declared.event.Found.TheVariants.{Nothing}
use Rattle.history_commands.specs.GicCall.declared.command.Part.TheVariants.{Forget, Retarget, Raise, Configure}
use Rattle.history_commands.specs.HistoryCalls.Found.{found_by, reads, telling, last_found}
use Rattle.history_calls.proofs.FoundLemmas.{found_read, last_same, own_place, same_place}
use Rattle.history_commands.specs.declared.its.Its.{Its}
use Rattle.history_commands.specs.Known.{its_in, view_by, its_after, maps_left, read_at}
use Rattle.history_commands.specs.Stage.{Stage, Between, Within, Ending, Over, AreReadBy, FitsTaken, FitsParts, Follow, named_after, parts_after, noting, stage_after}
use Rattle.history_commands.proofs.ViewLemmas.{IsKnown, same_command, same_part}
use Rattle.history_commands.proofs.StepLemmas.{quiet_more, quiet_one, goes_named, over_between, over_within}
use Rattle.history_commands.proofs.FollowLaw.{named_reads, part_plain}

-- Reads, as a view has them.

any_read : (view : View) (places : List Place) (k : ℕ) (d : Place) → k < length places → list_any (λ (h : Happened). reads (get_or places k d) h.event) (map (read_at view) places) ≡ true
any_read view [] k d lt = absurd (omega (arith, lt))
any_read view (place ∷ places) zero d lt = or_left (reads place (Read place)) (list_any (λ (h : Happened). reads place h.event) (map (read_at view) places)) (own_place place)
any_read view (place ∷ places) (suc k) d lt =
    or_right (reads (get_or places k d) (Read place)) (list_any (λ (h : Happened). reads (get_or places k d) h.event) (map (read_at view) places)) (any_read view places k d (omega (arith, lt)))

all_found : (view : View) (place : Place) (places : List Place) → All (λ (h : Happened). reads place h.event ≡ true → h.found ≡ held_at view place) (map (read_at view) places)
all_found view place [] = All-nil (λ (h : Happened). reads place h.event ≡ true → h.found ≡ held_at view place)
all_found view place (one ∷ places) =
    All-cons (λ (h : Happened). reads place h.event ≡ true → h.found ≡ held_at view place) (read_at view one) (map (read_at view) places) (λ h. ap (held_at view) (same_place one place h)) (all_found view place places)

pub read_here : (view : View) (early : List Happened) (places : List Place) → AreReadBy view (early ++ map (read_at view) places) places
read_here view early places = λ k d lt.
    let place : Place = get_or places k d in
    found_read place (held_at view place) (early ++ map (read_at view) places)
    (fold-append (telling (reads place)) None early (map (read_at view) places)
    ∙ last_same (reads place) (held_at view place) (last_found (reads place) early) (map (read_at view) places) (all_found view place places) (inr (any_read view places k d lt)))

-- A command of zeros.

zero_bytes : (shape : GuestShape) (its : Its) (maps : Maps) (targets : ℕ → Option ℕ) (address : ℕ) → memory_at shape (view_by its maps targets []) address 8 ≡ 0
zero_bytes shape its maps targets address = of (part_of address 8 shape.ram)
  where
    of : (o : Option MemoryPart) → option_map_or (λ part. extracted 0 part) o 0 ≡ 0
    of None = refl
    of (Some part) = grind (arith, common_steps)

zero_fault : (shape : GuestShape) (its : Its) (maps : Maps) (targets : ℕ → Option ℕ) → fault_number shape maps (decoded (command_words shape (view_by its maps targets []))) ≡ Some 10
zero_fault shape its maps targets =
    let view : View = view_by its maps targets [] in
    let word : (n : ℕ) → memory_at shape view (word_address view n) 8 ≡ 0 = λ n. zero_bytes shape its maps targets (word_address view n) in
    ap (λ ws. fault_number shape maps (decoded ws)) (ap₂ (λ a as_. a ∷ as_) (word 0) (ap₂ (λ b bs. b ∷ bs) (word 1) (ap₂ (λ c cs. c ∷ cs) (word 2) (ap (λ (d : ℕ). d ∷ []) (word 3)))))

zero_parts : (shape : GuestShape) (its : Its) (maps : Maps) (targets : ℕ → Option ℕ) → command_parts shape (view_by its maps targets []) ≡ []
zero_parts shape its maps targets =
    let view : View = view_by its maps targets [] in
    ap (λ o. cond (is_none o) (decoded_parts shape view (decoded (command_words shape view))) []) (zero_fault shape its maps targets)

zero_queue : (shape : GuestShape) (its : Its) (maps : Maps) (targets : ℕ → Option ℕ) → queue_event shape (view_by its maps targets []) ≡ Queue its.offset (Stalls 10)
zero_queue shape its maps targets =
    let view : View = view_by its maps targets [] in
    ap (λ o. option_map_or (λ fault. Queue its.offset (Stalls fault)) o (Queue (advanced its.offset (queue_bytes its.cbaser)) (Done (command_words shape view)))) (zero_fault shape its maps targets)

and_false : (a b : Bool) → ((a && false) && b) ≡ false
and_false true b = refl
and_false false b = refl

-- The end of a call.

-- what a guest hands out for an event of an LPI
hand : View → Event → Found
hand view (Touch key touching) = Record (view.irqs key)
hand view event = Nothing

part_hands : (shape : GuestShape) (targets : ℕ → Option ℕ) (view : View) (part : Part) → HandsOut view (lpi_event shape view targets part) (hand view (lpi_event shape view targets part))
unfolding hand
part_hands shape targets view (Forget id) = refl
part_hands shape targets view (Map id target) = refl
part_hands shape targets view (Retarget id target) = refl
part_hands shape targets view (Raise id) = refl
part_hands shape targets view (Clear id) = refl
part_hands shape targets view (Configure id) = refl

queue_named : (actor : Option ℕ) (offset next : ℕ) (o : Option ℕ) (words : List ℕ) → is_beside actor (option_map_or (λ fault. Queue offset (Stalls fault)) o (Queue next (Done words))) ≡ false
queue_named actor offset next None words = refl
queue_named actor offset next (Some fault) words = refl

module _ (shape : GuestShape) (targets : ℕ → ℕ → Option ℕ) (actor : ℕ) where
  abbrev pub Runs : Stage → List Happened → Type 0
  Runs stage piece = Follow shape targets actor false stage piece

  abbrev pub Ends : Stage → Type 0
  Ends stage = (more : List Happened) × Runs stage more

  abbrev end : Happened
  end = record { event = ItsEnd; found = Nothing }

  gives_back : (number : ℕ) (its : Its) (maps : Maps) (early : List Happened) → takes_command (view_by its maps (targets number) early) ≡ false → Runs (Between number its maps early) (end ∷ [])
  gives_back number its maps early stops =
      goes_named shape targets actor false (Between number its maps early) end [] refl
      (subst (λ b. FitsTaken shape (view_by its maps (targets number) early) early b end) (sym stops) (record { event_is = refl; found_is = refl }))
      (subst (λ b. Runs (cond b (parts_after shape targets number its maps early (command_parts shape (view_by its maps (targets number) early)) end) Over) []) (sym stops) tt)

  stalls : (number : ℕ) (its : Its) (maps : Maps) (early : List Happened) → named_of (Some actor) early ≡ [] → takes_command (view_by its maps (targets number) early) ≡ true → Ends (Between number its maps early)
  stalls number its maps early quiet takes =
      let zeros : View = view_by its maps (targets number) [] in
      let places : List Place = command_places shape zeros in
      let read : List Happened = early ++ map (read_at zeros) places in
      let here : View = view_by its maps (targets number) read in
      let calm : named_of (Some actor) read ≡ [] = quiet_more (Some actor) early (map (read_at zeros) places) quiet (named_reads (Some actor) zeros places) in
      let known : IsKnown its maps (targets number) zeros = record { its_is = refl; maps_is = refl; targets_is = refl } in
      let same = same_command shape (Some actor) its maps (targets number) read zeros calm known (read_here zeros early places) in
      let one : Happened = record { event = Queue its.offset (Stalls 10); found = Nothing } in
      let none : command_parts shape here ≡ [] = same.parts_are ∙ zero_parts shape its maps (targets number) in
      let made : one.event ≡ queue_event shape here = sym (same.queue ∙ zero_queue shape its maps (targets number)) in (
        map (read_at zeros) places ++ one ∷ end ∷ [],
        over_between shape targets actor false number its maps early (map (read_at zeros) places) (one ∷ end ∷ []) (named_reads (Some actor) zeros places)
            (goes_named shape targets actor false (Between number its maps read) one (end ∷ []) refl
            (subst (λ b. FitsTaken shape here read b one) (sym takes) (same.read, subst (λ parts. FitsParts shape here parts read one) (sym none) (record { event_is = made; found_is = refl })))
            (subst (λ b. Runs (cond b (parts_after shape targets number its maps read (command_parts shape here) one) Over) (end ∷ [])) (sym takes)
            (subst (λ parts. Runs (parts_after shape targets number its maps read parts one) (end ∷ [])) (sym none)
            (gives_back (number + 1) (its_after its one.event) maps [] (and_false (is_its_enabled here && is_queue_valid its.cbaser) _))))),
      )

  ends_between : (number : ℕ) (its : Its) (maps : Maps) (early : List Happened) → named_of (Some actor) early ≡ [] → Ends (Between number its maps early)
  ends_between number its maps early quiet = of (takes_command (view_by its maps (targets number) early)) refl
    where
      of : (b : Bool) → takes_command (view_by its maps (targets number) early) ≡ b → Ends (Between number its maps early)
      of true takes = stalls number its maps early quiet takes
      of false stops = (end ∷ [], gives_back number its maps early stops)

  ends_within : (number : ℕ) (its : Its) (maps : Maps) (fetch : List Happened) (parts : List Part) (early : List Happened) → named_of (Some actor) early ≡ [] → Ends (Within number its maps fetch parts early)
  ends_within number its maps fetch [] early quiet =
      let here : View = view_by its maps (targets number) fetch in
      let one : Happened = record { event = queue_event shape here; found = Nothing } in
      let rest = ends_between (number + 1) (its_after its one.event) (maps_left maps one.event) [] refl in (
        one ∷ rest.0,
        goes_named shape targets actor false (Within number its maps fetch [] early) one rest.0
            (queue_named (Some actor) its.offset (advanced its.offset (queue_bytes its.cbaser)) (fault_number shape maps (decoded (command_words shape here))) (command_words shape here))
            (record { event_is = refl; found_is = refl }) rest.1,
      )
  ends_within number its maps fetch (part ∷ parts) early quiet =
      let here : View = view_by its maps (targets number) fetch in
      let zeros : View = found_by [] in
      let places : List Place = byte_places shape zeros (targets number) part in
      let read : List Happened = early ++ map (read_at zeros) places in
      let event : Event = lpi_event shape zeros (targets number) part in
      let one : Happened = record { event = event; found = hand zeros event } in
      let same = same_part shape (Some actor) (targets number) read zeros (quiet_more (Some actor) early (map (read_at zeros) places) quiet (named_reads (Some actor) zeros places)) part (read_here zeros early places) in
      let rest = ends_within number its maps fetch parts (words_read shape here) (named_reads (Some actor) here (command_places shape here)) in
      let plain = part_plain (Some actor) shape zeros (targets number) part in (
        map (read_at zeros) places ++ one ∷ rest.0,
        over_within shape targets actor false number its maps fetch (part ∷ parts) early (map (read_at zeros) places) (one ∷ rest.0) (named_reads (Some actor) zeros places)
            (goes_named shape targets actor false (Within number its maps fetch (part ∷ parts) read) one rest.0 plain.named
            (record { event_is = sym same.event; found_in = zeros; found = part_hands shape (targets number) zeros part; read = same.read }) rest.1),
      )

  -- what counts for the next event has no named one
  abbrev pub IsCalm : Stage → Type 0
  IsCalm (Between number its maps early) = named_of (Some actor) early ≡ []
  IsCalm (Within number its maps fetch parts early) = named_of (Some actor) early ≡ []
  IsCalm stage = Unit {0}

  pub ends_any : (stage : Stage) → IsCalm stage → Ends stage
  ends_any (Between number its maps early) calm = ends_between number its maps early calm
  ends_any (Within number its maps fetch parts early) calm = ends_within number its maps fetch parts early calm
  ends_any Ending calm = (end ∷ [], goes_named shape targets actor false Ending end [] refl (record { event_is = refl; found_is = refl }) tt)
  ends_any Over calm = ([], tt)

  calm_parts : (number : ℕ) (its : Its) (maps : Maps) (fetch : List Happened) (parts : List Part) (one : Happened) → IsCalm (parts_after shape targets number its maps fetch parts one)
  calm_parts number its maps fetch [] one = refl
  calm_parts number its maps fetch (part ∷ parts) one = named_reads (Some actor) (view_by its maps (targets number) fetch) (command_places shape (view_by its maps (targets number) fetch))

  calm_noting : (stage : Stage) (one : Happened) → is_beside (Some actor) one.event ≡ true → IsCalm stage → IsCalm (noting stage one)
  calm_noting (Between number its maps early) one e calm = quiet_more (Some actor) early (one ∷ []) calm (quiet_one (Some actor) one e)
  calm_noting (Within number its maps fetch parts early) one e calm = quiet_more (Some actor) early (one ∷ []) calm (quiet_one (Some actor) one e)
  calm_noting Ending one e calm = tt
  calm_noting Over one e calm = tt

  calm_named : (stage : Stage) (one : Happened) → IsCalm (named_after shape targets stage one)
  calm_named (Between number its maps early) one = of (takes_command (view_by its maps (targets number) early))
    where
      of : (b : Bool) → IsCalm (cond b (parts_after shape targets number its maps early (command_parts shape (view_by its maps (targets number) early)) one) Over)
      of true = calm_parts number its maps early (command_parts shape (view_by its maps (targets number) early)) one
      of false = tt
  calm_named (Within number its maps fetch parts early) one = calm_parts number its maps fetch parts one
  calm_named Ending one = tt
  calm_named Over one = tt

  calm_after : (stage : Stage) (one : Happened) → IsCalm stage → IsCalm (stage_after shape targets actor stage one)
  calm_after stage one calm = of (is_beside (Some actor) one.event) refl
    where
      of : (b : Bool) → is_beside (Some actor) one.event ≡ b → IsCalm (cond b (noting stage one) (named_after shape targets stage one))
      of true e = calm_noting stage one e calm
      of false e = calm_named stage one

  -- what was followed so far goes on to an end
  pub goes_on : (piece : List Happened) (stage : Stage) → IsCalm stage → Follow shape targets actor true stage piece → (more : List Happened) × Runs stage (piece ++ more)
  goes_on [] stage calm h = ends_any stage calm
  goes_on (one ∷ piece) stage calm h = let rest = goes_on piece (stage_after shape targets actor stage one) (calm_after stage one calm) h.1 in (rest.0, (h.0, rest.1))

  pub stops_before : (piece more : List Happened) (stage : Stage) → Runs stage (piece ++ more) → Follow shape targets actor true stage piece
  stops_before [] more (Between number its maps early) h = refl
  stops_before [] more (Within number its maps fetch parts early) h = refl
  stops_before [] more Ending h = refl
  stops_before [] more Over h = tt
  stops_before (one ∷ piece) more stage h = (h.0, stops_before piece more (stage_after shape targets actor stage one) h.1)
