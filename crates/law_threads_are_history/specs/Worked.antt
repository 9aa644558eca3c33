-- A worked run of two actors side by side: a device makes SPI 40 pending while a vCPU enters, step by step between its own.
use Rattle.std.specs.Prelude.{ℕ, ◌^◌, zero, suc, false, List, [], ◌∷◌, Option, Some, None}
use Rattle.law_ends_agree.specs.Words.{Eoir1, Iar1, Message}
use Rattle.law_ends_agree.specs.Calls.{Operation, Device}
use Rattle.law_ends_agree.specs.Histories.{CanOpen}
use Rattle.law_ends_agree.specs.Core.{Entry, Made, CoreStep, Claim, GiveBack, Kick, Look, Mark, Poll, Raise, Release, TakeIndex, Irq, Vcpu, IsRun, opening, entry_by, held_word, opened_word, pending_word, reads_iar, spi, worked_guest, writes_eoir}
use Rattle.pe_place.specs.Parts.{Part, residence}
use Rattle.law_threads_are_history.specs.History.{HasHistory}
use Rattle.law_threads_are_history.specs.Woven.{HaveDone}

-- a step that found a word and left another
abbrev pub step : CoreStep → ℕ → ℕ → Made
step what found left = record { step = what; found = found; left = left; tables = None }

-- the vCPU enters a PE with 4 list registers, and looks for an interrupt
abbrev pub polls : Made
polls = step (Poll None None) 0 0

abbrev pub takes_none : Made
takes_none = step (TakeIndex 0) 0 0

-- the device makes the SPI pending, and marks and kicks the vCPU
abbrev pub raises : Made
raises = step (Raise spi) opened_word pending_word

abbrev pub marks : Made
marks = step (Mark spi 0) 0 (2 ^ 40)

abbrev pub kicks : Made
kicks = step (Kick 0) 0 2

-- the vCPU finds the kick, and takes the SPI to its interface
abbrev pub takes_spi : List Made
takes_spi = step (Look (Vcpu 0)) 2 2 ∷ step (Poll None None) 2 0 ∷ step (TakeIndex 0) (2 ^ 40) 0 ∷ step (Look (Irq spi)) pending_word pending_word ∷ step (Claim spi pending_word) pending_word held_word ∷ []

-- it acknowledges the SPI, ends it, and leaves
abbrev pub acknowledges : Made
acknowledges = step (Poll (Some Iar1) None) 0 0

abbrev pub ends_spi : Made
ends_spi = step (Poll (Some Eoir1) (Some 40)) 0 0

abbrev pub leaves : List Made
leaves = step (GiveBack spi (record { rise = false; soft = false; active = false })) held_word held_word ∷ step (Release spi) held_word opened_word ∷ step (Mark spi 0) 0 (2 ^ 40) ∷ []

abbrev pub on_pe : Operation → List Made → Option ℕ → Part
on_pe operation steps answer = record { operation = operation; lrs = 4; steps = steps; answer = answer }

-- what each of them did
abbrev pub worked_parts : ℕ → List Part
worked_parts zero = residence 4 (polls ∷ takes_none ∷ []) ∷ residence 4 takes_spi ∷ on_pe reads_iar (acknowledges ∷ []) (Some 40) ∷ on_pe writes_eoir (ends_spi ∷ []) None ∷ residence 4 leaves ∷ []
worked_parts (suc zero) = record { operation = Device (Message 40); lrs = 0; steps = raises ∷ marks ∷ kicks ∷ []; answer = None } ∷ []
worked_parts (suc (suc actor)) = []

-- the order in which their steps came
abbrev pub vcpu_makes : Made → Entry
vcpu_makes made = entry_by 0 made

abbrev pub device_makes : Made → Entry
device_makes made = entry_by 1 made

abbrev pub worked_world : List Entry
worked_world =
    vcpu_makes polls
    ∷ device_makes raises
    ∷ vcpu_makes takes_none
    ∷ device_makes marks
    ∷ device_makes kicks
    ∷ vcpu_makes (step (Look (Vcpu 0)) 2 2)
    ∷ vcpu_makes (step (Poll None None) 2 0)
    ∷ vcpu_makes (step (TakeIndex 0) (2 ^ 40) 0)
    ∷ vcpu_makes (step (Look (Irq spi)) pending_word pending_word)
    ∷ vcpu_makes (step (Claim spi pending_word) pending_word held_word)
    ∷ vcpu_makes acknowledges
    ∷ vcpu_makes ends_spi
    ∷ vcpu_makes (step (GiveBack spi (record { rise = false; soft = false; active = false })) held_word held_word)
    ∷ vcpu_makes (step (Release spi) held_word opened_word)
    ∷ vcpu_makes (step (Mark spi 0) 0 (2 ^ 40))
    ∷ []

-- it meets what the law asks, so that is no law of nothing
pub record WorkedThreadsAreAHistory : Type 0 where
  pub good : CanOpen worked_guest
  pub run : IsRun worked_guest.shape (opening worked_guest 0) worked_world
  pub done : HaveDone worked_guest 0 worked_world worked_parts
  pub history : HasHistory worked_guest 0 worked_world worked_parts
