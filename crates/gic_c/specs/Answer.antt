-- What C is answered: 0, 1 where bytes of the guest's memory are wanted first (own choice), or an error number of POSIX as a negative number.
use Rattle.std.specs.Prelude.{ℤ, pos, negsuc, Result, Ok, Err}
use Rattle.vm_saved.specs.GicVm.declared.done.Done.{Done}
use Rattle.vm_saved.specs.GicVm.declared.done.NotDone.{NotDone}
use Rattle.vm_saved.specs.GicVm.declared.done.NotDone.TheVariants.{NoRegister, Undefined}
use Rattle.gic_c.specs.declared.answer.Refusal.{Refusal}
use Rattle.gic_c.specs.declared.answer.Refusal.TheVariants.{NotFound, NoMemory, NoAccess, Invalid, Untold, TooSmall}
use Rattle.gic_c.specs.declared.answer.Reply.{Reply}
use Rattle.gic_c.specs.declared.answer.Reply.TheVariants.{Done as Finished, Fetch}
use Rattle.gic_c.specs.declared.answer.RvDone.{RvDone}

-- the error number of a refusal: -ENOENT, -ENOMEM, -EACCES, -EINVAL, -EDOM, -ERANGE
abbrev pub errno_of : Refusal → ℤ
errno_of NotFound = negsuc 1
errno_of NoMemory = negsuc 11
errno_of NoAccess = negsuc 12
errno_of Invalid = negsuc 21
errno_of Untold = negsuc 32
errno_of TooSmall = negsuc 33

-- what a call returns
abbrev pub status_of : Result Reply Refusal → ℤ
status_of (Ok (Finished done)) = pos 0
status_of (Ok (Fetch span)) = pos 1
status_of (Err refusal) = errno_of refusal

-- what it shows: zeros where it is refused
abbrev pub shown : Result Reply Refusal → RvDone
shown (Ok (Finished done)) = record { value = done.value; changed = done.changed; reserved = 0; address = 0; length = 0 }
shown (Ok (Fetch span)) = record { value = 0; changed = 0; reserved = 0; address = span.address; length = span.bytes }
shown (Err refusal) = record { value = 0; changed = 0; reserved = 0; address = 0; length = 0 }

-- the answer of a call of the machine whose one refusal is that what is named is not there
abbrev pub found : {E : Type 0} → Result Done E → Result Reply Refusal
found (Ok done) = Ok (Finished done)
found (Err refusal) = Err NotFound

-- the answer of an access of a system register
abbrev pub accessed : Result Done NotDone → Result Reply Refusal
accessed (Ok done) = Ok (Finished done)
accessed (Err NoRegister) = Err NotFound
accessed (Err Undefined) = Err NoAccess
