-- What may still become a write of a register of the ITS that takes it, said of the same.
use Rattle.std.specs.Prelude.{◌≡◌, ◌↔◌, ◌⊎◌, ℕ, true, List, [], ◌++◌, map, All, Option, Some}
use Rattle.history_commands.specs.Words.{GuestShape, Its as ItsFrame}
use Rattle.history_commands.specs.Registers.{Maps}
use Rattle.history_commands.specs.Calls.{Event, ItsBegin, Happened, View, HandsOut, access_events, named_of}
use Rattle.history_commands.specs.GicCall.declared.event.Found.TheVariants.{Nothing}
use Rattle.history_commands.specs.Written.{IsWritten, IsFirstNamed, IsItsMade}

-- the named events are the first ones of the register's in some guest, and hand out what that has
pub record IsWriteBegun (shape : GuestShape) (actor offset size value : ℕ) (piece : List Happened) : Type 0 where
  pub view : View
  pub more : List Event
  pub events_are : map (λ happened. happened.event) (named_of (Some actor) piece) ++ more ≡ access_events shape view ItsFrame offset size (Some value)
  pub found : All (λ happened. HandsOut view happened.event happened.found) (named_of (Some actor) piece)

-- the ITS is taken first, and what follows is the beginning of the register's part, or all of it and then commands up to any event
pub record IsTakenBegun (shape : GuestShape) (maps : Maps) (targets : ℕ → ℕ → Option ℕ) (actor offset size value : ℕ) (piece : List Happened) : Type 0 where
  pub first : Happened
  pub rest : List Happened
  pub is_first : IsFirstNamed actor piece first rest
  pub taken : first.event ≡ ItsBegin
  pub found : first.found ≡ Nothing
  pub goes_on : IsWriteBegun shape actor offset size value rest ⊎ IsWritten shape maps targets actor offset size value true rest

-- no event is named yet, or that
abbrev pub IsItsBegun : GuestShape → Maps → (ℕ → ℕ → Option ℕ) → ℕ → ℕ → ℕ → ℕ → List Happened → Type 0
IsItsBegun shape maps targets actor offset size value piece = (named_of (Some actor) piece ≡ []) ⊎ IsTakenBegun shape maps targets actor offset size value piece

-- it is so exactly of what becomes such a write by some further events
abbrev pub ItsWritesMayGoOn : Type 0
ItsWritesMayGoOn =
    (shape : GuestShape) (maps : Maps) (targets : ℕ → ℕ → Option ℕ) (actor offset size value : ℕ) (piece : List Happened)
    → IsItsBegun shape maps targets actor offset size value piece ↔ ((more : List Happened) × IsItsMade shape maps targets actor offset size value (piece ++ more))
