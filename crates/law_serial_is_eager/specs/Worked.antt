-- The worked run, part by part: what the law asks of it holds.
use Rattle.std.specs.Prelude.{◌≡◌, ℕ, ◌^◌, false, List, [], ◌∷◌, Option, Some, None}
use Rattle.law_lone_calls_are_eager.specs.Words.{Eoir1, Iar1, Message}
use Rattle.law_lone_calls_are_eager.specs.Calls.{Operation, Device, Residence}
use Rattle.law_lone_calls_are_eager.specs.Histories.{opening_course, CanOpen}
use Rattle.law_lone_accesses_find_all.specs.Core.{Made, CoreStep, Claim, GiveBack, Kick, Look, Mark, Poll, Raise, Release, TakeIndex, Irq, Vcpu, opening, IsProperRun, worked_guest, worked_run, spi, opened_word, pending_word, held_word, reads_iar, writes_eoir}
use Rattle.law_lone_accesses_find_all.specs.LawCoreIsHistory.Laws.{AreCalls}
use Rattle.law_serial_is_eager.specs.Serial.{AreFit, IsEager, WholePart, moments_of}

-- a step that found a word and left another
abbrev pub step : CoreStep → ℕ → ℕ → Made
step what found left = record { step = what; found = found; left = left; tables = None }

-- a part of the vCPU, on a PE with 4 list registers
abbrev pub by_vcpu : Operation → List Made → Option ℕ → WholePart
by_vcpu operation steps answer = record { actor = 0; operation = operation; lrs = 4; steps = steps; answer = answer }

-- it enters; a device makes SPI 40 pending; the vCPU leaves and enters, acknowledges the SPI, ends it, acknowledges nothing, and leaves
abbrev pub worked_parts : List WholePart
worked_parts =
    by_vcpu Residence (step (Poll None None) 0 0 ∷ step (TakeIndex 0) 0 0 ∷ []) None
    ∷ record { actor = 1; operation = Device (Message 40); lrs = 0; steps = step (Raise spi) opened_word pending_word ∷ step (Mark spi 0) 0 (2 ^ 40) ∷ step (Kick 0) 0 2 ∷ []; answer = None }
    ∷ by_vcpu Residence (step (Look (Vcpu 0)) 2 2 ∷ step (Poll None None) 2 0 ∷ step (TakeIndex 0) (2 ^ 40) 0 ∷ step (Look (Irq spi)) pending_word pending_word ∷ step (Claim spi pending_word) pending_word held_word ∷ []) None
    ∷ by_vcpu reads_iar (step (Poll (Some Iar1) None) 0 0 ∷ []) (Some 40)
    ∷ by_vcpu writes_eoir (step (Poll (Some Eoir1) (Some 40)) 0 0 ∷ []) None
    ∷ by_vcpu reads_iar (step (Poll (Some Iar1) None) 0 0 ∷ []) (Some 1023)
    ∷ by_vcpu Residence (step (GiveBack spi (record { rise = false; soft = false; active = false })) held_word held_word ∷ step (Release spi) held_word opened_word ∷ step (Mark spi 0) 0 (2 ^ 40) ∷ []) None
    ∷ []

pub record WorkedPartsAreFit : Type 0 where
  pub good : CanOpen worked_guest
  pub same : moments_of worked_parts ≡ worked_run
  pub proper : IsProperRun worked_guest 0 (moments_of worked_parts)
  pub calls : AreCalls worked_guest.shape (opening worked_guest 0) (opening_course worked_guest) (moments_of worked_parts)
  pub fit : AreFit worked_guest 0 [] worked_parts
  pub eager : IsEager worked_guest 0 worked_parts
