use Rattle.std.proofs.Common.{◌≡◌, ℕ, ◌+◌, ◌-◌, ◌≤◌, List, ◌++◌, length, take, drop, sym, ap, append_assoc, arith, length-append, ◌∙◌}
use Rattle.std.proofs.Math.Seq.{take-add}
use Rattle.std.specs.Prelude.{Some, None}
use Rattle.std.specs.declared.option.Option.{Option}
use Rattle.std.proofs.lemmas.Grind.{common_steps}
use Rattle.gic_io.specs.Sink.{Grew}
use Rattle.gic_io.specs.Source.{HasRead, HasReadCount, HasReadAtMost}

-- what a sink took first, and what it took then
pub grew_twice : (old mid new : Option (List ℕ)) (first next : List ℕ) → Grew old mid first → Grew mid new next → Grew old new (first ++ next)
grew_twice old mid None first next h k = record { told = tt }
grew_twice old None (Some after) first next h k = absurd k.told
grew_twice None (Some between) (Some after) first next h k = absurd h.told
grew_twice (Some before) (Some between) (Some after) first next h k =
    record { told = k.told ∙ ap (λ part. part ++ next) h.told ∙ append_assoc before first next }

-- a text taken up to one place, and then the first bytes of what stands behind it
pub grew_on : (old mid new : Option (List ℕ)) (text : List ℕ) (done count : ℕ) → Grew old mid (take done text) → Grew mid new (take count (take (length text - done) (drop done text))) → Grew old new (take (done + count) text)
grew_on old mid new text done count h k =
    let behind : take (length text - done) (drop done text) ≡ drop done text = grind (arith, common_steps) in
    rw (take-add done count text) (grew_twice old mid new (take done text) (take count (drop done text)) h (rw behind at k))

-- what was read of a source first, and what was read then
pub read_twice : (old mid new : Option (List ℕ)) (first next : List ℕ) → HasRead old mid first → HasRead mid new next → HasRead old new (first ++ next)
read_twice None mid new first next h k = record { told = tt }
read_twice (Some all) None new first next h k = absurd h.told
read_twice (Some all) (Some rest) None first next h k = absurd k.told
read_twice (Some all) (Some rest) (Some end) first next h k =
    record { told = h.told ∙ ap (λ part. first ++ part) k.told ∙ sym (append_assoc first next end) }

-- the same, where what was read then is a number of bytes
pub count_twice : (old mid new : Option (List ℕ)) (first : List ℕ) (count total : ℕ) → HasRead old mid first → HasReadCount mid new count → length first + count ≡ total → HasReadCount old new total
count_twice old mid new first count total h k e = record {
  part = first ++ k.part;
  counted = omega (arith, length-append first k.part, k.counted);
  read = read_twice old mid new first k.part h k.read;
}

-- the same, where it is at most a number of bytes
pub most_twice : (old mid new : Option (List ℕ)) (first : List ℕ) (most total : ℕ) → HasRead old mid first → HasReadAtMost mid new most → length first + most ≤ total → HasReadAtMost old new total
most_twice old mid new first most total h k e = record {
  part = first ++ k.part;
  within = omega (arith, length-append first k.part, k.within);
  read = read_twice old mid new first k.part h k.read;
}
