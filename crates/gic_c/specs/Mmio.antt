-- An access of the frames: it is refused, or asks for a range of the guest's memory, or is made of the memory that was fed.
use Rattle.std.specs.Prelude.{ℕ, ◌≡◌, ◌&&◌, nat_lt, if◌then◌else◌, List, Option, Some, None, Result, Ok, Err, ℤ}
use Rattle.vm_saved.specs.GicVm.IdealGuest.Words.{Frame}
use Rattle.vm_saved.specs.GicVm.IdealGuest.Registers.{is_size}
use Rattle.vm_saved.specs.GicVm.Mmio.{place_at, IsMade}
use Rattle.vm_saved.specs.GicVm.declared.done.Done.{Done}
use Rattle.vm_saved.specs.GicVm.GuestMemory.declared.wants.Span.{Span}
use Rattle.gic_c.specs.declared.answer.Refusal.{Refusal}
use Rattle.gic_c.specs.declared.answer.Refusal.TheVariants.{NotFound, Invalid}
use Rattle.gic_c.specs.declared.answer.Reply.{Reply}
use Rattle.gic_c.specs.declared.answer.Reply.TheVariants.{Done as Finished, Fetch}
use Rattle.gic_c.specs.declared.answer.RvDone.{RvDone}
use Rattle.gic_c.specs.declared.board.Board.{Board}
use Rattle.gic_c.specs.declared.feed.Call.{Call}
use Rattle.gic_c.specs.Answer.{status_of, shown}
use Rattle.gic_c.specs.Board.{forgotten, with_machine}
use Rattle.gic_c.specs.Calls.{is_flag, written}
use Rattle.gic_c.specs.Feed.{begun, read_at}
use Rattle.gic_c.specs.Fetch.{access_of, wanted, next_for}

-- the call that arguments are, of a machine with so many vCPUs, or why they are none
abbrev pub call_in : ℕ → ℕ → ℕ → ℕ → ℕ → ℕ → Result Call Refusal
call_in vcpus vcpu address size is_write value =
    if nat_lt vcpu vcpus && is_size size && is_flag is_write
    then Ok (record { vcpu = vcpu; address = address; size = size; write = written is_write value }) else Err Invalid

-- a read of the guest's memory answers what was fed: these bytes, of these ranges, and nothing outside of them
abbrev pub WasFed : List Span → List ℕ → ℕ → Option ℕ → Type 0
WasFed spans bytes address answer = answer ≡ read_at spans bytes address

-- a call is made, with what was fed as the guest's memory; that is dropped then
pub record IsDone (call : Call) (spans : List Span) (bytes : List ℕ) (before after : Board) (answer : Result Reply Refusal) : Type 0 where
  pub done : Done
  pub replies : answer ≡ Ok (Finished done)
  pub made : IsMade (WasFed spans bytes) (access_of before.machine call) call.vcpu before.machine after.machine done
  pub alone : after ≡ with_machine before after.machine

-- a call asks for a range, for which it waits, or is made where it wants none any more
abbrev pub Proceeds : Option Span → Call → Board → Board → Result Reply Refusal → Type 0
Proceeds (Some span) call before after answer = (answer ≡ Ok (Fetch span)) × (after ≡ record before { feed = begun before.feed call })
Proceeds None call before after answer = IsDone call (wanted before.machine call) (begun before.feed call).bytes before after answer

-- it does so where its address is in a frame
abbrev pub Reaches : Option (Frame × ℕ) → Call → Board → Board → Result Reply Refusal → Type 0
Reaches (Some place) call before after answer = Proceeds (next_for before.machine call (begun before.feed call).bytes) call before after answer
Reaches None call before after answer = (answer ≡ Err NotFound) × (after ≡ forgotten before)

abbrev pub Accesses : Call → Board → Board → Result Reply Refusal → Type 0
Accesses call before after answer = Reaches (place_at before.machine call.vcpu call.address) call before after answer

-- and where its arguments are good
abbrev pub Answers : Result Call Refusal → Board → Board → Result Reply Refusal → Type 0
Answers (Ok call) before after answer = Accesses call before after answer
Answers (Err refusal) before after answer = (answer ≡ Err refusal) × (after ≡ forgotten before)

-- and where the handle has a machine
abbrev pub OfHandle : ℕ → ℕ → ℕ → ℕ → ℕ → Option Board → Option Board → Result Reply Refusal → Type 0
OfHandle vcpu address size is_write value (Some before) (Some after) answer = Answers (call_in before.vcpus vcpu address size is_write value) before after answer
OfHandle vcpu address size is_write value None after answer = (after ≡ None) × (answer ≡ Err Invalid)
OfHandle vcpu address size is_write value (Some before) None answer = ⊥

-- so it is answered: by what it returns, and what it shows
pub record IsMmio (vcpu address size is_write value : ℕ) (before after : Option Board) (status : ℤ) (done : RvDone) : Type 0 where
  pub answer : Result Reply Refusal
  pub status_is : status ≡ status_of answer
  pub done_is : done ≡ shown answer
  pub call : OfHandle vcpu address size is_write value before after answer
