-- A call of a course that writes a register of the ITS that takes it is over exactly where it is made so.
use Rattle.std.proofs.Common.{◌≡◌, ◌↔◌, ℕ, nat_lt, Bool, true, false, cond, IsTrue, List, Contains, Option, Some, None, slice_index_or, refl, sym, ap, ◌∙◌, subst}
use Rattle.history_commands.specs.Words.{GuestShape, Its as ItsFrame, Mem}
use Rattle.history_commands.specs.Registers.{Maps}
use Rattle.history_commands.specs.GicImap.Map.{decoded as its_decoded}
use Rattle.history_commands.specs.Calls.{Access, Operation, Beside, IsCall, IsItsCall, IsItsWrite, takes_turn}
use Rattle.history_commands.specs.Histories.{Call, vcpu_of, IsEndedAs}
use Rattle.history_commands.specs.HistoryCalls.Exact.{IsOpen}
use Rattle.history_commands.specs.Written.{IsItsMade}
use Rattle.history_commands.specs.Taking.{targets_of, TakingCallsEnd}
use Rattle.history_commands.proofs.WriteLaw.{writes_exact}

module _ (shape : GuestShape) (actor offset size value : ℕ) (call : Call) (signals : Bool) (answer : Option ℕ) (takes : takes_turn shape (its_decoded offset size) (Some value) ≡ true) (there : nat_lt actor shape.vcpus ≡ true)
    (same : call.operation ≡ Access (Mem ItsFrame offset size (Some value)))
  where
    operation : Operation
    operation = Access (Mem ItsFrame offset size (Some value))

    is_vcpu : vcpu_of shape actor ≡ Some actor
    is_vcpu = ap (λ b. cond b (Some actor) None) there

    call_is : (beside : Beside) → IsCall shape beside (vcpu_of shape actor) call.operation call.piece answer → IsItsCall shape beside actor offset size value call.piece answer
    call_is beside is =
        subst (λ b. IsItsWrite b shape beside actor offset size value call.piece answer) takes
        (subst (λ who. IsCall shape beside who (Access (Mem ItsFrame offset size (Some value))) call.piece answer) is_vcpu (subst (λ o. IsCall shape beside (vcpu_of shape actor) o call.piece answer) same is))

    is_call : (beside : Beside) → IsItsCall shape beside actor offset size value call.piece answer → IsCall shape beside (vcpu_of shape actor) call.operation call.piece answer
    is_call beside is =
        subst (λ o. IsCall shape beside (vcpu_of shape actor) o call.piece answer) (sym same)
        (subst (λ who. IsCall shape beside who (Access (Mem ItsFrame offset size (Some value))) call.piece answer) (sym is_vcpu)
        (subst (λ b. IsItsWrite b shape beside actor offset size value call.piece answer) (sym takes) is))

    pub ended_made : IsEndedAs signals shape actor call answer → IsItsMade shape call.maps (targets_of call) actor offset size value call.piece × (answer ≡ None)
    ended_made is =
        let made = (writes_exact shape is.beside actor offset size value call.piece answer).0 (call_is is.beside is.is_call) in (
          subst (λ (commands : List (ℕ → Option ℕ)). IsItsMade shape call.maps (λ number. slice_index_or commands number (λ id. None)) actor offset size value call.piece) is.commands
              (subst (λ (maps : Maps). IsItsMade shape maps (λ number. slice_index_or is.beside.commands number (λ id. None)) actor offset size value call.piece) is.maps made.0),
          made.1,
        )

    back : IsOpen call → IsItsMade shape call.maps (targets_of call) actor offset size value call.piece × (answer ≡ None) → IsEndedAs signals shape actor call answer
    back opened h =
        let beside : Beside = record { maps = call.maps; targets = λ id. (opened.seen id).0; commands = call.commands; signals = false } in
        record {
          beside = beside;
          maps = refl;
          commands = refl;
          targets = λ id. (opened.seen id).1;
          right = λ t. absurd (cc);
          is_call = is_call beside ((writes_exact shape beside actor offset size value call.piece answer).1 h);
        }

pub taking_end : TakingCallsEnd
taking_end shape actor offset size value call signals answer takes there same opened = (ended_made shape actor offset size value call signals answer takes there same, back shape actor offset size value call signals answer takes there same opened)
