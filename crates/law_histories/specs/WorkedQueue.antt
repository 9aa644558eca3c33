-- A worked history of an ITS whose queue has three commands: a MAPC, a SYNC, and one that is no command.
use Rattle.std.specs.Prelude.{◌≡◌, ℕ, ◌*◌, ◌^◌, true, false, List, [], ◌∷◌, ◌++◌, Some, None, Ok}
use Rattle.floor_histories.specs.Words.{Its, Ram as Memory, Mem}
use Rattle.floor_histories.specs.Registers.{Sync, Mapc, encoded}
use Rattle.floor_histories.specs.ItsCmd.Command.{decoded}
use Rattle.floor_histories.specs.Calls.{PlainWord, Ram, ItsCtlr, Cbaser, Cwriter, Event, Put, ItsBegin, Found, Moment, Begin, Happens, Access, Runs, Done, Stalls, GuestSpec}
use Rattle.floor_histories.specs.GicCall.declared.event.Event.TheVariants.{Read, ItsEnd, Queue}
use Rattle.floor_histories.specs.GicCall.declared.event.Found.TheVariants.{Nothing, Word as FoundWord, Queue as FoundQueue}
use Rattle.floor_histories.specs.GicCall.declared.event.Moment.TheVariants.{End}
use Rattle.floor_histories.specs.GicCall.declared.event.Place.TheVariants.{Word, Queue as QueuePlace}
use Rattle.floor_histories.specs.Histories.{IsHistory, IsWhole, last_of, IdealGuest, CanOpen, opening_guest}
use Rattle.law_histories.specs.Sync.{commands_of}

-- a vCPU, an LPI, and memory for three commands
abbrev pub its_spec : GuestSpec
its_spec = record { shape = record { vcpus = 1; spis = 0; espis = 0; devices = 0; lpis = 1; ram = 96 }; on = true; presets = [] }

-- as it opens
abbrev pub its_guest : IdealGuest
its_guest = opening_guest its_spec

-- the vCPU makes an event
abbrev pub does : Event → Found → Moment
does event found = Happens 0 event found

abbrev pub finds : PlainWord → ℕ → Moment
finds word value = does (Read (Word word)) (FoundWord value)

-- it stores a doubleword in memory
abbrev pub stores : ℕ → ℕ → List Moment
stores index value = Begin 0 (Access (Mem Memory (8 * index) 8 (Some value))) ∷ does (Put (Ram index) value) (FoundWord 0) ∷ End 0 None ∷ []

-- it writes GITS_CBASER: there is a queue, at the address 0
abbrev pub makes_queue : List Moment
makes_queue =
    Begin 0 (Access (Mem Its 0x80 8 (Some (2 ^ 63))))
    ∷ does ItsBegin Nothing
    ∷ finds ItsCtlr 0
    ∷ does (Put Cwriter 0) (FoundWord 0)
    ∷ does (Queue 0 Runs) Nothing
    ∷ does (Put Cbaser (2 ^ 63)) (FoundWord 0)
    ∷ does ItsEnd Nothing
    ∷ End 0 None
    ∷ []

-- it enables the ITS, whose queue is empty
abbrev pub enables_its : List Moment
enables_its =
    Begin 0 (Access (Mem Its 0 4 (Some 1)))
    ∷ does ItsBegin Nothing
    ∷ finds Cbaser (2 ^ 63)
    ∷ finds Cwriter 0
    ∷ does (Read QueuePlace) (FoundQueue 0 false)
    ∷ does (Put ItsCtlr 1) (FoundWord 0)
    ∷ does ItsEnd Nothing
    ∷ End 0 None
    ∷ []

-- the commands: collection 0 is mapped to vCPU 0, and then a SYNC
abbrev pub maps_collection : List ℕ
maps_collection = encoded (Mapc 0 0 true)

abbrev pub syncs : List ℕ
syncs = encoded (Sync 0)

abbrev pub before_write : List Moment
before_write = stores 0 9 ++ stores 2 (2 ^ 63) ++ stores 4 5 ++ makes_queue ++ enables_its

-- it writes GITS_CWRITER: up to the end of the SYNC, and from there on
abbrev pub to_sync : List Moment
to_sync =
    Begin 0 (Access (Mem Its 0x88 8 (Some 96)))
    ∷ does ItsBegin Nothing
    ∷ finds ItsCtlr 1
    ∷ finds Cbaser (2 ^ 63)
    ∷ does (Read QueuePlace) (FoundQueue 0 false)
    ∷ finds Cwriter 0
    ∷ does (Put Cwriter 96) (FoundWord 0)
    ∷ finds (Ram 0) 9
    ∷ finds (Ram 1) 0
    ∷ finds (Ram 2) (2 ^ 63)
    ∷ finds (Ram 3) 0
    ∷ does (Queue 32 (Done maps_collection)) Nothing
    ∷ finds (Ram 4) 5
    ∷ finds (Ram 5) 0
    ∷ finds (Ram 6) 0
    ∷ finds (Ram 7) 0
    ∷ does (Queue 64 (Done syncs)) Nothing
    ∷ []

abbrev pub to_end : List Moment
to_end =
    finds (Ram 8) 0
    ∷ finds (Ram 9) 0
    ∷ finds (Ram 10) 0
    ∷ finds (Ram 11) 0
    ∷ does (Queue 64 (Stalls 10)) Nothing
    ∷ does ItsEnd Nothing
    ∷ End 0 None
    ∷ []

-- all is a whole history; at the end of the SYNC both commands count, and the collection is mapped
pub record QueueIsSynced : Type 0 where
  pub good : CanOpen its_guest
  pub history : IsHistory its_guest ((before_write ++ to_sync) ++ to_end)
  pub whole : IsWhole its_guest ((before_write ++ to_sync) ++ to_end)
  pub sync : decoded syncs ≡ Ok (Sync 0)
  pub commands : commands_of (before_write ++ to_sync) ≡ maps_collection ∷ syncs ∷ []
  pub collections : (last_of its_guest (before_write ++ to_sync)).guest.tables.collections ≡ (0, 0) ∷ []
  pub stalled : (last_of its_guest ((before_write ++ to_sync) ++ to_end)).guest.is_stalled ≡ true
  pub offset : (last_of its_guest ((before_write ++ to_sync) ++ to_end)).guest.offset ≡ 64
