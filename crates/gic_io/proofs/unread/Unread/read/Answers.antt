use Rattle.std.proofs.Common.{◌≡◌, ℕ, ◌+◌, List, ◌++◌, length, take, drop, arith, sym}
use Rattle.std.proofs.Math.Seq.{take-append_seam}
use Rattle.std.proofs.lemmas.Grind.{common_steps}
use Rattle.std.proofs.lemmas.List.{drop-drop, take-append-drop}
use Rattle.gic_io.proofs.unread.Unread.read.Goals as goal

-- the bytes that were moved to the front of a buffer
take-moved : (piece tail : List ℕ) (count : ℕ) → length piece ≡ count → take count (piece ++ tail) ≡ piece
take-moved piece tail count h = rw (← h) (take-append_seam piece tail)

-- what was left is the next bytes, now at the front of the buffer, and what is left after them
split_there : (bytes piece tail : List ℕ) (start count : ℕ) → length piece ≡ count → piece ≡ take count (drop start bytes) → drop start bytes ≡ take count (piece ++ tail) ++ drop (start + count) bytes
split_there bytes piece tail start count h k =
    rw (take-moved piece tail count h, k, ← drop-drop count start bytes) (sym (take-append-drop count (drop start bytes)))

pub returns-clause-bytes : goal.returns-clause-bytes
returns-clause-bytes c =
    let len : length c.copy_from_slice.new.self ≡ c.min-count.result = grind (arith, common_steps) in
    let moved : c.copy_from_slice.new.self ≡ take c.min-count.result (drop c.self.inside.start c.self.inside.bytes.items) = grind (arith, common_steps) in
    rw (← c.self.view_is) (split_there c.self.inside.bytes.items c.copy_from_slice.new.self _ c.self.inside.start c.min-count.result len moved)
