-- Worked lists: the worked histories, each cut after each of its moments, and what open calls may yet make.
use Rattle.std.specs.Prelude.{◌≡◌, ℕ, ◌+◌, Bool, true, false, List, [], ◌∷◌, map, take, Some, None}
use Rattle.law_histories.specs.Words.{Key, Private, Spi, Lpi, Sgi1r, Message, Msi, Dist, Redist, Its, Ram as Memory, Icc, Mem, ClearPending, SetPending, GuestShape}
use Rattle.law_histories.specs.Registers.{encoded, Sync}
use Rattle.law_histories.specs.Calls.{Event, Cpu, Touch, Enable, Put, Cwriter, ItsBegin, Done, Moment, Operation, Access, Device, Register}
use Rattle.law_histories.specs.GicCall.declared.event.Event.TheVariants.{Raise, ItsEnd, Queue}
use Rattle.law_histories.specs.Histories.{IdealGuest, worked_guest, lpi_guest, served, preempted, withdrawn, migrated, refilled, repeated, returned, in_flight, awaited, overlooked, outdated, unended, kept}
use Rattle.legal_lists.specs.Legal.{IsLegal, may_make_after}

-- a list of moments of the worked guest, cut after each of them, is legal
abbrev pub IsCutLegally : List Moment → Type 0
IsCutLegally moments = (count : ℕ) → IsLegal worked_guest (take count moments)

-- so is each worked history that is fresh
pub record WorkedListsAreLegal : Type 0 where
  pub served : IsCutLegally served
  pub preempted : IsCutLegally preempted
  pub withdrawn : IsCutLegally withdrawn
  pub migrated : IsCutLegally migrated
  pub refilled : IsCutLegally refilled
  pub repeated : IsCutLegally repeated
  pub returned : IsCutLegally returned
  pub in_flight : IsCutLegally in_flight
  pub awaited : IsCutLegally awaited

-- so many first moments of a list are legal, and with the next one they are not
pub record IsRefusedAfter (guest : IdealGuest) (moments : List Moment) (count : ℕ) : Type 0 where
  pub before : IsLegal guest (take count moments)
  pub refused : IsLegal guest (take (count + 1) moments) → ⊥

-- each worked history that one clause of fresh refuses is refused at its moment: at the read of IAR that overlooks an interrupt, at the access of an interface
-- that is out of date, at the write of EOIR of one that has left, and at the end of the call in which one had to leave
pub record UnfreshOnesAreRefused : Type 0 where
  pub overlooked : IsRefusedAfter worked_guest overlooked 4
  pub outdated : IsRefusedAfter worked_guest outdated 10
  pub unended : IsRefusedAfter worked_guest unended 11
  pub kept : IsRefusedAfter worked_guest kept 11

-- What an open call may yet make.

-- of the worked guest, which of these interrupts an actor's operation may make an event of after events
abbrev may : GuestShape → ℕ → Operation → List Key → List Event → List Bool
may shape actor operation keys events = map (may_make_after shape actor operation events) keys

-- a message of SPI 40, by actor 2: that and no other, until it is raised
abbrev message_may : List Event → List Bool
message_may = may worked_guest.shape 2 (Device (Message 40)) (Spi 40 ∷ Spi 41 ∷ Lpi 8192 ∷ [])

-- a write of ICPENDR1 by vCPU 1: what is not touched yet, whatever its bit is
abbrev clear_may : List Event → List Bool
clear_may = may worked_guest.shape 1 (Access (Mem Dist 0x284 4 (Some 0x100))) (Private 0 31 ∷ Spi 32 ∷ Spi 33 ∷ Spi 63 ∷ [])

-- a write of ICC_SGI1R by vCPU 0 for SGI 5 of both vCPUs
abbrev sgi_may : List Event → List Bool
sgi_may = may worked_guest.shape 0 (Access (Icc Sgi1r (Some 0x5000003))) (Private 0 5 ∷ Private 1 5 ∷ Private 1 6 ∷ [])

-- a write of GICR_CTLR that sets EnableLPIs of vCPU 0, by vCPU 1: LPIs above what it touched
abbrev enable_may : List Event → List Bool
enable_may = may lpi_guest.shape 1 (Access (Mem (Redist 0) 0 4 (Some 1))) (Lpi 8192 ∷ Lpi 8193 ∷ Lpi 8194 ∷ Private 0 5 ∷ [])

-- a message-signalled interrupt: any LPI, until one was raised or the ITS is given back
abbrev msi_may : List Event → List Bool
msi_may = may lpi_guest.shape 2 (Device (Msi 0 0)) (Lpi 8192 ∷ Lpi 8194 ∷ Private 0 5 ∷ [])

-- a write of GITS_CWRITER: any LPI, until the ITS is given back
abbrev queue_may : List Event → List Bool
queue_may = may lpi_guest.shape 0 (Access (Mem Its 0x88 8 (Some 32))) (Lpi 8192 ∷ Lpi 8194 ∷ Private 0 5 ∷ [])

-- a read of GITS_CWRITER and a write of memory: nothing
abbrev its_read_may : List Event → List Bool
its_read_may = may lpi_guest.shape 0 (Access (Mem Its 0x88 8 None)) (Lpi 8192 ∷ Private 0 5 ∷ [])

abbrev store_may : List Event → List Bool
store_may = may worked_guest.shape 0 (Access (Mem Memory 0 8 (Some 1))) (Lpi 8192 ∷ Spi 40 ∷ [])

-- the rows of these
pub record WhatMayBeMade : Type 0 where
  pub message : message_may [] ≡ true ∷ false ∷ false ∷ []
  pub raised : message_may (Raise (Spi 40) ∷ []) ≡ false ∷ false ∷ false ∷ []
  pub clear : clear_may [] ≡ false ∷ true ∷ true ∷ true ∷ []
  pub clears : clear_may (Touch (Spi 32) (Register ClearPending 0) ∷ []) ≡ false ∷ false ∷ true ∷ true ∷ []
  pub sgi : sgi_may (Cpu 0 Sgi1r (Some 0x5000003) ∷ []) ≡ true ∷ true ∷ false ∷ []
  pub sent : sgi_may (Cpu 0 Sgi1r (Some 0x5000003) ∷ Raise (Private 0 5) ∷ []) ≡ false ∷ true ∷ false ∷ []
  pub enable : enable_may (Enable 0 ∷ []) ≡ true ∷ true ∷ true ∷ false ∷ []
  pub enabled : enable_may (Enable 0 ∷ Touch (Lpi 8193) (Register SetPending 1) ∷ []) ≡ false ∷ false ∷ true ∷ false ∷ []
  pub msi : msi_may (ItsBegin ∷ []) ≡ true ∷ true ∷ false ∷ []
  pub signalled : msi_may (ItsBegin ∷ Raise (Lpi 8193) ∷ []) ≡ false ∷ false ∷ false ∷ []
  pub passed : msi_may (ItsBegin ∷ ItsEnd ∷ []) ≡ false ∷ false ∷ false ∷ []
  pub queue : queue_may (ItsBegin ∷ Put Cwriter 32 ∷ Raise (Lpi 8193) ∷ []) ≡ true ∷ true ∷ false ∷ []
  pub moved_on : queue_may (ItsBegin ∷ Put Cwriter 32 ∷ Queue 32 (Done (encoded (Sync 0))) ∷ []) ≡ true ∷ true ∷ false ∷ []
  pub given_back : queue_may (ItsBegin ∷ Put Cwriter 32 ∷ ItsEnd ∷ []) ≡ false ∷ false ∷ false ∷ []
  pub its_read : its_read_may [] ≡ false ∷ false ∷ []
  pub store : store_may [] ≡ false ∷ false ∷ []
