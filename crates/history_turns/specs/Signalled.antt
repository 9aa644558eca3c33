-- Message-signalled interrupts: when what one made is the call, and when it can still become it, said of its own events and of what it noted. One reads whether the ITS
-- is enabled while it has that; what it reads after it gave that back does not count, and of what it read since it raised its LPI any read may be the one that counts.
use Rattle.std.specs.Prelude.{ℕ, ◌&&◌, ◌||◌, not, Bool, true, false, List, [], ◌∷◌, Option, Some, None, is_none, is_some, if◌then◌else◌}
use Rattle.std.specs.List.{list_any}
use Rattle.std.specs.Option.{option_map_or}
use Rattle.history_turns.specs.Words.{Lpi, is_number}
use Rattle.history_turns.specs.Registers.{enabled_in}
use Rattle.history_turns.specs.Calls.{Event, ItsBegin, Found, Happened, ItsCtlr}
use Rattle.history_turns.specs.GicCall.declared.event.Event.TheVariants.{Raise, ItsEnd}
use Rattle.history_turns.specs.GicCall.declared.event.Place.TheVariants.{Word}
use Rattle.history_turns.specs.GicCall.declared.event.Found.TheVariants.{Nothing, Word as FoundWord}
use Rattle.history_turns.specs.HistoryCalls.Found.{last_found, reads}
use Rattle.history_turns.specs.Walked.{from_named, before_named, is_idle}

-- Single events.

abbrev pub is_taken : Event → Found → Bool
is_taken ItsBegin Nothing = true
is_taken event found = false

abbrev pub is_given_back : Event → Found → Bool
is_given_back ItsEnd Nothing = true
is_given_back event found = false

-- the LPI that is raised
abbrev pub raised_in : Event → Found → Option ℕ
raised_in (Raise (Lpi id)) Nothing = Some id
raised_in event found = None

-- a read of GITS_CTLR found the ITS enabled, or not
abbrev pub enabled_by : Found → Option Bool
enabled_by (FoundWord value) = Some (enabled_in value)
enabled_by found = None

abbrev pub is_enabled_by : Option Found → Bool
is_enabled_by found = option_map_or (λ one. option_map_or (λ enabled. enabled) (enabled_by one) false) found false

abbrev pub finds_enabled : Happened → Bool
finds_enabled happened = reads (Word ItsCtlr) happened.event && is_enabled_by (Some happened.found)

-- such a read after which nothing is raised, where this is the LPI that is signalled while the ITS is enabled
abbrev pub finds_none : Option ℕ → Happened → Bool
finds_none lpi happened = reads (Word ItsCtlr) happened.event && option_map_or (λ enabled. not enabled || is_none lpi) (enabled_by happened.found) false

-- What follows; a call that is open may break off after any event.

-- the LPI is raised: the ITS is given back, and a read that counts found it enabled
abbrev pub after_raise : Bool → Bool → List Happened → List Happened → Bool
after_raise is_open was_enabled piece [] = is_open
after_raise is_open was_enabled piece (happened ∷ rest) =
    is_given_back happened.event happened.found && (is_idle None rest && (was_enabled || list_any finds_enabled (before_named None piece)))

-- the ITS is taken: the LPI is raised, or the ITS is given back
abbrev pub after_take : Bool → Option ℕ → List Happened → List Happened → Bool
after_take is_open lpi piece [] = is_open
after_take is_open lpi piece (happened ∷ rest) =
    if is_given_back happened.event happened.found then is_idle None rest && list_any (finds_none lpi) (before_named None piece)
    else option_map_or (λ id. is_number id lpi && after_raise is_open (is_enabled_by (last_found (reads (Word ItsCtlr)) (before_named None piece))) rest (from_named None rest)) (raised_in happened.event happened.found) false

-- the first event takes the ITS, or raises an LPI alone, which has to be the one that the message signals there
abbrev pub signals_from : Bool → Bool → Option ℕ → List Happened → Bool
signals_from is_open signals lpi [] = is_open
signals_from is_open signals lpi (happened ∷ rest) =
    if is_taken happened.event happened.found then after_take is_open lpi rest (from_named None rest)
    else (is_some (raised_in happened.event happened.found) && (signals && is_idle None rest))

abbrev pub is_signalled : Bool → Bool → Option ℕ → List Happened → Bool
is_signalled is_open signals lpi piece = signals_from is_open signals lpi (from_named None piece)
