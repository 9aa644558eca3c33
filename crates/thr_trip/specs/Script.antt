-- What the steps of a scenario give each actor to do, and which calls some operations are (own choice).
use Rattle.std.specs.Prelude.{ℕ, ◌==◌, ◌&&◌, List, [], ◌∷◌, map, Option, None, if◌then◌else◌}
use Rattle.std.specs.List.{flat_map, range_with_len}
use Rattle.pe_place.specs.LawEagerIsHistory.Calls.{Made, answer_of}
use Rattle.gic_io.specs.Words.{DeviceOp, GuestOp}
use Rattle.port_table.specs.Calls.{Access, Device}
use Rattle.port_table.specs.Told.{WordsTold}
use Rattle.port_table.specs.ScnBase.declared.pes.VcpuName.{VcpuName}
use Rattle.port_table.specs.ScnBase.declared.step.Step.{Step}
use Rattle.port_table.specs.ScnBase.declared.step.Step.TheVariants.{Vcpu as VcpuStep, Device as DeviceStep, Pe as PeStep}

-- the operations of a vCPU among some steps, in order, and those of a device
abbrev pub vcpu_ops : ℕ → ℕ → List Step → List GuestOp
vcpu_ops number actor [] = []
vcpu_ops number actor (VcpuStep guest vcpu op ∷ steps) = if guest == number && vcpu == actor then op ∷ vcpu_ops number actor steps else vcpu_ops number actor steps
vcpu_ops number actor (DeviceStep guest device op ∷ steps) = vcpu_ops number actor steps
vcpu_ops number actor (PeStep pe op ∷ steps) = vcpu_ops number actor steps

abbrev pub device_ops : ℕ → ℕ → List Step → List DeviceOp
device_ops number actor [] = []
device_ops number actor (VcpuStep guest vcpu op ∷ steps) = device_ops number actor steps
device_ops number actor (DeviceStep guest device op ∷ steps) = if guest == number && device == actor then op ∷ device_ops number actor steps else device_ops number actor steps
device_ops number actor (PeStep pe op ∷ steps) = device_ops number actor steps

-- the vCPUs of all guests, in the order of guest and number
abbrev pub vcpus_of : WordsTold → List VcpuName
vcpus_of words = map (λ vcpu. record { guest = words.number; vcpu = vcpu }) (range_with_len 0 words.guest.shape.vcpus)

abbrev pub all_vcpus : List WordsTold → List VcpuName
all_vcpus words = flat_map vcpus_of words

-- the calls that a vCPU's first operations are, with their answers: as many as there are answers
abbrev pub calls_answered : List GuestOp → List (Option ℕ) → List Made
calls_answered [] answers = []
calls_answered (op ∷ script) [] = []
calls_answered (op ∷ script) (answer ∷ answers) = (record { operation = Access op; answer = answer_of answer }) ∷ calls_answered script answers

-- the calls that a device's operations are
abbrev pub calls_received : List DeviceOp → List Made
calls_received script = map (λ op. record { operation = Device op; answer = answer_of None }) script
