-- What stands in registers, tables and memory is in range in each state that the ideal controller reaches.
use Rattle.std.proofs.Common.{◌≡◌, ℕ, ◌^◌, ◌<◌, ◌||◌, Bool, true, false, cond, IsTrue, Option, Some, None, List, [], ◌∷◌, All, length, refl, sym, ap, ◌∙◌, subst}
use Rattle.std.specs.Option.{option_map_or}
use Rattle.std.specs.List.{slice_index, slice_set}
use Rattle.std.proofs.lemmas.List.Elements.{All-head, All-tail, All-set}
use Rattle.std.proofs.lemmas.List.{length-set}
use Rattle.eager_rest.specs.LawSavesGoOn.RunsSplit.GicIdeal.IdealGuests.Words.{GuestShape, Key, Irq, IccReg, key_of, acknowledged, deactivated}
use Rattle.eager_rest.specs.LawSavesGoOn.RunsSplit.GicIdeal.IdealGuests.Registers.{CpuRec, Candidate, Maps, has_lpis, taken_by, deactivated_by, cpu_after}
use Rattle.eager_rest.specs.LawSavesGoOn.RunsSplit.GicIdeal.IdealGuests.GicCall.declared.event.Event.TheVariants.{Raise, Read, ItsEnd, Queue}
use Rattle.eager_rest.specs.LawSavesGoOn.RunsSplit.GicIdeal.IdealGuests.Calls.{PlainWord, Ram, Propbaser, Pendbaser, ItsCtlr, Cbaser, Cwriter, Baser0, Baser1, Fault, has_plain, place_of_plain, plain_count, Event, Up, Down, Enable, Touch, Reach, Take, Leave, Cpu, Put, CtlrBegin, CtlrEnd, ItsBegin, Runs, Done, Stalls, maps_done}
use Rattle.eager_rest.specs.LawSavesGoOn.RunsSplit.GicIdeal.IdealGuests.declared.guest.IdealGuest.{IdealGuest}
use Rattle.eager_rest.specs.LawSavesGoOn.RunsSplit.GicIdeal.IdealGuests.Ideal.{cpu_at, candidates, changed_irq, after_acknowledge, after_deactivation, after_access, after_event, after_events}
use Rattle.eager_rest.proofs.LawSavesGoOn.RunsSplit.GicIdeal.EffectLemmas.{shape_event}
use Rattle.eager_rest.specs.SavedCheck.SavedGuest.Valid.{is_fault}
use Rattle.eager_rest.proofs.LawSavesGoOn.OwnLemmas.{StoresOwn}
use Rattle.eager_rest.proofs.LawSavesGoOn.StoredLemmas.{put_one}
use Rattle.law_unmapped_lpis.proofs.PartLemmas.{clash}
use Rattle.law_saved_runs_are_valid.proofs.CpuLemmas.{IsInRange, after_in_range, cpu_in_range}
use Rattle.law_saved_runs_are_valid.proofs.MapLemmas.{AreShort, done_short}

-- a word of memory has 64 bits
abbrev pub IsDoubleword : ℕ → Type 0
IsDoubleword value = value < 2 ^ 64

-- so it has, and while the queue is stalled the number of the fault is one
abbrev pub FitsWord : Bool → PlainWord → ℕ → Type 0
FitsWord stalled (Ram index) value = IsDoubleword value
FitsWord stalled Fault value = stalled ≡ true → IsTrue (is_fault true value)
FitsWord stalled word value = Unit {0}

-- nothing is mapped
pub record IsBare (maps : Maps) : Type 0 where
  pub devices : maps.devices ≡ []
  pub collections : maps.collections ≡ []

pub record AreFit (shape : GuestShape) (cpus : List CpuRec) (words : List ℕ) (stalled : Bool) (maps : Maps) : Type 0 where
  pub long : length words ≡ plain_count shape
  pub each_cpu : All (IsInRange shape) cpus
  pub each_word : (word : PlainWord) → IsTrue (has_plain shape word) → FitsWord stalled word (slice_index words (place_of_plain shape word))
  pub short : AreShort maps
  pub bare : has_lpis shape ≡ false → IsBare maps

abbrev pub IsFit : IdealGuest → Type 0
IsFit guest = AreFit guest.shape guest.cpus guest.words guest.is_stalled guest.tables

module _ (shape : GuestShape) (cpus : List CpuRec) (words : List ℕ) (stalled : Bool) (maps : Maps) (fit : AreFit shape cpus words stalled maps) where
  cpu_fit : (vcpu : ℕ) (cpu : CpuRec) → IsInRange shape cpu → AreFit shape (slice_set cpus vcpu cpu) words stalled maps
  cpu_fit vcpu cpu is = record { long = fit.long; each_cpu = All-set (IsInRange shape) cpus vcpu cpu is fit.each_cpu; each_word = fit.each_word; short = fit.short; bare = fit.bare }

  word_fit : (word : PlainWord) (value : ℕ) → FitsWord stalled word value → (b : Bool) → has_plain shape word ≡ b → AreFit shape cpus (cond b (slice_set words (place_of_plain shape word) value) words) stalled maps
  word_fit word value fits false here = fit
  word_fit word value fits true here = record {
    long = length-set words (place_of_plain shape word) value ∙ fit.long;
    each_cpu = fit.each_cpu;
    each_word = λ other there. put_one (FitsWord stalled) shape words word other value fit.long here there (λ is. fits) (λ differ. fit.each_word other there);
    short = fit.short;
    bare = fit.bare;
  }

  -- the queue is not stalled
  runs_fit : (next : Maps) → AreShort next → (has_lpis shape ≡ false → IsBare next) → AreFit shape cpus words false next
  runs_fit next short bare = record { long = fit.long; each_cpu = fit.each_cpu; each_word = λ word there. runs word (slice_index words (place_of_plain shape word)) (fit.each_word word there); short = short; bare = bare }
    where
      runs : (word : PlainWord) (value : ℕ) → FitsWord stalled word value → FitsWord false word value
      runs (Ram index) value is = is
      runs Fault value is = λ e. absurd (cc)
      runs (Propbaser vcpu) value is = tt
      runs (Pendbaser vcpu) value is = tt
      runs ItsCtlr value is = tt
      runs Cbaser value is = tt
      runs Cwriter value is = tt
      runs Baser0 value is = tt
      runs Baser1 value is = tt

  -- it stalls
  stalls_fit : (fault : ℕ) → IsTrue (is_fault true fault) → AreFit shape cpus (slice_set words (place_of_plain shape Fault) fault) true maps
  stalls_fit fault is = record {
    long = length-set words (place_of_plain shape Fault) fault ∙ fit.long;
    each_cpu = fit.each_cpu;
    each_word = λ other there. put_one (FitsWord true) shape words Fault other fault fit.long refl there (λ same. λ e. is) (λ differ. still other (slice_index words (place_of_plain shape other)) differ (fit.each_word other there));
    short = fit.short;
    bare = fit.bare;
  }
    where
      still : (word : PlainWord) (value : ℕ) → (word ≡ Fault → ⊥) → FitsWord stalled word value → FitsWord true word value
      still (Ram index) value differ is = is
      still Fault value differ is = absurd (differ refl)
      still (Propbaser vcpu) value differ is = tt
      still (Pendbaser vcpu) value differ is = tt
      still ItsCtlr value differ is = tt
      still Cbaser value differ is = tt
      still Cwriter value differ is = tt
      still Baser0 value differ is = tt
      still Baser1 value differ is = tt

-- what is stored fits
fits_own : (Moves : Type 0) (shape : GuestShape) (stalled : Bool) (word : PlainWord) (value : ℕ) → StoresOwn shape IsDoubleword Moves (Put word value) → FitsWord stalled word value
fits_own Moves shape stalled (Ram index) value own = own
fits_own Moves shape stalled Fault value own = absurd own
fits_own Moves shape stalled (Propbaser vcpu) value own = tt
fits_own Moves shape stalled (Pendbaser vcpu) value own = tt
fits_own Moves shape stalled ItsCtlr value own = tt
fits_own Moves shape stalled Cbaser value own = tt
fits_own Moves shape stalled Cwriter value own = tt
fits_own Moves shape stalled Baser0 value own = tt
fits_own Moves shape stalled Baser1 value own = tt

-- an access of a CPU interface register
access_fit : (reg : IccReg) (write : Option ℕ) (guest : IdealGuest) (vcpu : ℕ) → IsFit guest → IsFit (after_access reg write guest vcpu)
access_fit reg write guest vcpu fit = ended (deactivated_by reg write cpu) (after_acknowledge taken guest vcpu) (begun taken)
  where
    cpu : CpuRec
    cpu = cpu_at guest vcpu

    taken : Option Candidate
    taken = taken_by reg write cpu (candidates guest vcpu)

    next : CpuRec
    next = cpu_after reg write cpu (candidates guest vcpu)

    written : AreFit guest.shape (slice_set guest.cpus vcpu next) guest.words guest.is_stalled guest.tables
    written = cpu_fit guest.shape guest.cpus guest.words guest.is_stalled guest.tables fit vcpu next (after_in_range guest.shape reg write cpu (candidates guest vcpu) (cpu_in_range guest.shape guest.cpus vcpu fit.each_cpu))

    changed : (o : Option Key) (change : Key → Irq → Irq) (g : IdealGuest) → AreFit g.shape (slice_set g.cpus vcpu next) g.words g.is_stalled g.tables
        → (let h = option_map_or (λ key. changed_irq key (change key) g) o g in AreFit h.shape (slice_set h.cpus vcpu next) h.words h.is_stalled h.tables)
    changed None change g fit = fit
    changed (Some key) change g fit = fit

    begun : (o : Option Candidate) → (let h = after_acknowledge o guest vcpu in AreFit h.shape (slice_set h.cpus vcpu next) h.words h.is_stalled h.tables)
    begun None = written
    begun (Some found) = changed (key_of found.id vcpu guest.shape) (λ key irq. acknowledged key vcpu irq) guest written

    ended : (o : Option ℕ) (g : IdealGuest) → AreFit g.shape (slice_set g.cpus vcpu next) g.words g.is_stalled g.tables → (let h = after_deactivation o g vcpu in AreFit h.shape (slice_set h.cpus vcpu next) h.words h.is_stalled h.tables)
    ended None g fit = fit
    ended (Some id) g fit = changed (key_of id vcpu g.shape) (λ key irq. deactivated vcpu irq) g fit

-- EnableLPIs becomes 1 in a guest with LPIs
enabled_fit : (shape : GuestShape) (cpu : CpuRec) → IsTrue (has_lpis shape) → IsInRange shape cpu → IsInRange shape (record cpu { lpis = true })
enabled_fit shape cpu there is = record {
  mask = is.mask;
  mask_bits = is.mask_bits;
  least_0 = is.least_0;
  most_0 = is.most_0;
  least_1 = is.least_1;
  most_1 = is.most_1;
  enabled = ap (λ b. b || false) there;
}

event_fit : (Moves : Type 0) (guest : IdealGuest) (event : Event) → StoresOwn guest.shape IsDoubleword Moves event → IsFit guest → IsFit (after_event guest event)
event_fit Moves guest (Raise key) own fit = fit
event_fit Moves guest (Up key) own fit = fit
event_fit Moves guest (Down key) own fit = fit
event_fit Moves guest (Enable vcpu) own fit =
    cpu_fit guest.shape guest.cpus guest.words guest.is_stalled guest.tables fit vcpu (record (cpu_at guest vcpu) { lpis = true }) (enabled_fit guest.shape (cpu_at guest vcpu) own (cpu_in_range guest.shape guest.cpus vcpu fit.each_cpu))
event_fit Moves guest (Touch key touch) own fit = fit
event_fit Moves guest (Reach key vcpu) own fit = fit
event_fit Moves guest (Take key vcpu) own fit = fit
event_fit Moves guest (Leave key vcpu) own fit = fit
event_fit Moves guest (Cpu vcpu reg write) own fit = access_fit reg write guest vcpu fit
event_fit Moves guest (Read place) own fit = fit
event_fit Moves guest (Put word value) own fit = word_fit guest.shape guest.cpus guest.words guest.is_stalled guest.tables fit word value (fits_own Moves guest.shape guest.is_stalled word value own) (has_plain guest.shape word) refl
event_fit Moves guest (CtlrBegin enables) own fit = fit
event_fit Moves guest CtlrEnd own fit = fit
event_fit Moves guest ItsBegin own fit = fit
event_fit Moves guest ItsEnd own fit = fit
event_fit Moves guest (Queue offset Runs) own fit = runs_fit guest.shape guest.cpus guest.words guest.is_stalled guest.tables fit guest.tables fit.short fit.bare
event_fit Moves guest (Queue offset (Done words)) own fit = runs_fit guest.shape guest.cpus guest.words guest.is_stalled guest.tables fit (maps_done guest.tables words) (done_short guest.tables fit.short words) (λ none. absurd (clash (has_lpis guest.shape) own none))
event_fit Moves guest (Queue offset (Stalls fault)) own fit = stalls_fit guest.shape guest.cpus guest.words guest.is_stalled guest.tables fit fault own.1

pub events_fit : (Moves : Type 0) (events : List Event) (guest : IdealGuest) → All (StoresOwn guest.shape IsDoubleword Moves) events → IsFit guest → IsFit (after_events events guest)
events_fit Moves [] guest own fit = fit
events_fit Moves (event ∷ events) guest own fit =
    events_fit Moves events (after_event guest event) (subst (λ shape. All (StoresOwn shape IsDoubleword Moves) events) (sym (shape_event event guest)) (All-tail (StoresOwn guest.shape IsDoubleword Moves) event events own))
    (event_fit Moves guest event (All-head (StoresOwn guest.shape IsDoubleword Moves) event events own) fit)
