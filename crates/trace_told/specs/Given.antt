-- The values that a trace gives: which of them are what is there (own choice).
use Rattle.std.specs.Prelude.{ℕ, ◌||◌, ◌==◌, Bool, true, false, Option, Some, None, is_none}
use Rattle.std.specs.Option.{option_map_or}
use Rattle.trace_read.specs.declared.trace.Act.{Act}
use Rattle.trace_read.specs.declared.trace.Act.TheVariants.{Cpu, Touch, Read}
use Rattle.trace_read.specs.declared.place.Place.{Place as TracePlace}
use Rattle.trace_read.specs.declared.place.Place.TheVariants.{Ram as RamAt, Propbaser as PropbaserOf, Pendbaser as PendbaserOf, ItsCtlr as ItsCtlrThere, Cbaser as CbaserThere, Cwriter as CwriterThere, Baser0 as Baser0There, Baser1 as Baser1There, Creadr as CreadrThere, Ctlr as CtlrThere, Lpis as LpisOf}
use Rattle.legal_play.specs.Words.{bit_of, is_number}
use Rattle.legal_play.specs.Registers.{enabled_in, baser_bits, baser_of, creadr_of, Devices, Collections}
use Rattle.legal_play.specs.LegalLists.GicDmap.Contents.{ctlr_of as dist_ctlr_of}
use Rattle.legal_play.specs.LegalLists.GicImap.Contents.{ctlr_of as its_ctlr_of}
use Rattle.legal_play.specs.Calls.{Found, Record, Place, PlainWord, Ram, Propbaser, Pendbaser, ItsCtlr, Cbaser, Cwriter, Baser0, Baser1, touch_answer}
use Rattle.legal_play.specs.GicCall.declared.event.Found.TheVariants.{Answer, Word as FoundWord, Queue as FoundQueue, Ctlr as FoundCtlr, Lpis as FoundLpis}
use Rattle.legal_play.specs.GicCall.declared.event.Place.TheVariants.{Word, Queue as QueuePlace, Ctlr, Lpis}

-- Places.

-- the plain word that is put there, if one is
abbrev pub word_at : TracePlace → Option PlainWord
word_at (RamAt index) = Some (Ram index)
word_at (PropbaserOf vcpu) = Some (Propbaser vcpu)
word_at (PendbaserOf vcpu) = Some (Pendbaser vcpu)
word_at ItsCtlrThere = Some ItsCtlr
word_at CbaserThere = Some Cbaser
word_at CwriterThere = Some Cwriter
word_at Baser0There = Some Baser0
word_at Baser1There = Some Baser1
word_at place = None

-- what is read there: GITS_CREADR is where the queue is
abbrev pub place_at : TracePlace → Place
place_at (RamAt index) = Word (Ram index)
place_at (PropbaserOf vcpu) = Word (Propbaser vcpu)
place_at (PendbaserOf vcpu) = Word (Pendbaser vcpu)
place_at ItsCtlrThere = Word ItsCtlr
place_at CbaserThere = Word Cbaser
place_at CwriterThere = Word Cwriter
place_at Baser0There = Word Baser0
place_at Baser1There = Word Baser1
place_at CreadrThere = QueuePlace
place_at CtlrThere = Ctlr
place_at (LpisOf vcpu) = Lpis vcpu

-- Values.

-- what a register reads that stores this: GITS_CTLR and the GITS_BASER<n> have fields that they do not store
abbrev pub shown : TracePlace → ℕ → ℕ
shown ItsCtlrThere stored = its_ctlr_of (enabled_in stored)
shown Baser0There stored = baser_of Devices stored
shown Baser1There stored = baser_of Collections stored
shown place stored = stored

-- what it stores of this
abbrev pub stored_of : TracePlace → ℕ → ℕ
stored_of ItsCtlrThere value = bit_of (enabled_in value)
stored_of Baser0There value = baser_bits value
stored_of Baser1There value = baser_bits value
stored_of place value = value

-- a word is given as it is stored, or as the register reads
abbrev pub is_word : TracePlace → ℕ → ℕ → Bool
is_word place value stored = value == stored || value == shown place stored

-- what was read is this: GITS_CREADR with Stalled, GICD_CTLR with RWP, and EnableLPIs as 0 or 1
abbrev pub is_read_as : TracePlace → ℕ → Found → Bool
is_read_as place value (FoundWord stored) = is_word place value stored
is_read_as place value (FoundQueue offset is_stalled) = value == creadr_of is_stalled offset
is_read_as place value (FoundCtlr enables is_spreading) = value == dist_ctlr_of enables is_spreading
is_read_as place value (FoundLpis is_on) = value == bit_of is_on
is_read_as place value found = false

-- an answer is this, or there is none
abbrev pub is_answer : Option ℕ → Option ℕ → Bool
is_answer given answer = option_map_or (λ value. is_number value answer) given (is_none answer)

-- what is given of an event that handed this out is what is there: the answer of an access of the CPU interface, of a touch what that reads of the record, and
-- what is read at a place
abbrev pub gives : Act → Found → Bool
gives (Cpu reg write answer) (Answer there) = is_answer answer there
gives (Touch key what answer) (Record irq) = is_answer answer (touch_answer what irq)
gives (Read place value) found = is_read_as place value found
gives act found = true
