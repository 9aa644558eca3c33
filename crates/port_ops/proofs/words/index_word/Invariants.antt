use Rattle.std.proofs.Common.{◌≡◌, ◌+◌, ◌*◌, fold}
use Rattle.std.specs.List.{range_with_len}
use Rattle.port_core.specs.Run.{is_asked}
use Rattle.port_ops.proofs.WordLemmas.{put}
use Rattle.port_ops.proofs.words.index_word.Given as goal

-- the bits so far
abbrev pub invariant-loop-bit : goal.invariant-loop-bit
invariant-loop-bit l = l.word ≡ fold (put (λ bit. is_asked l.guest l.vcpu (64 * l.number + bit))) 0 (range_with_len 0 l.bit)
