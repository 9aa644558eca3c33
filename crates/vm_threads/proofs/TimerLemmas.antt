-- A line that moves, or has its level already.
use Rattle.std.proofs.Common.{◌≡◌, ℕ, Bool, true, false, if◌then◌else◌, MatchBool, Result, Ok, Err, IfOk, IfErr, sym, subst}
use Rattle.dev_port.specs.declared.wire.AlreadySo.{AlreadySo}
use Rattle.dev_port.specs.Core.{Seen}
use Rattle.dev_port.specs.Device.{CanCall}
use Rattle.vm_threads.specs.Timer.{Moves}

pub moves_so :
    (old new : Seen) (vcpu ppi : ℕ) (up level : Bool) (result : Result (Unit {0}) AlreadySo) → result ≡ (if level then Err (record {}) else Ok tt) → IfErr result (λ so. new ≡ old) → IfOk result (λ done. Moves old new vcpu ppi up)
    → MatchBool level (new ≡ old) (Moves old new vcpu ppi up)
moves_so old new vcpu ppi up true result is same moves = let Same : Result (Unit {0}) AlreadySo → Type 0 = λ result. IfErr result (λ so. new ≡ old) in subst Same is same
moves_so old new vcpu ppi up false result is same moves = let Moved : Result (Unit {0}) AlreadySo → Type 0 = λ result. IfOk result (λ done. Moves old new vcpu ppi up) in subst Moved is moves

-- after either the device may call again
pub calls_again : (old new : Seen) (vcpu ppi : ℕ) (up level : Bool) → MatchBool level (new ≡ old) (Moves old new vcpu ppi up) → CanCall old → CanCall new
calls_again old new vcpu ppi up true same can = subst CanCall (sym same) can
calls_again old new vcpu ppi up false moves can = moves.done.after
