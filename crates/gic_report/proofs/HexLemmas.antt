-- What a hole `{:0Nx}` writes.
use Rattle.std.proofs.Common.{◌≡◌, ℕ, ◌-◌, ◌^◌, ◌++◌, [], false, length, ap, replicate, arith}
use Rattle.std.proofs.lemmas.List.{append-nil}
use Rattle.std.specs.Fmt.{digits, padded_integral, format_spec, char_count}
use Rattle.gic_report.specs.Text.{hex}

-- zeros up to the width, and then the digits
pub padded_hex : (width n : ℕ) → padded_integral (format_spec 32 0 4 width (2 ^ 64 - 1)) false [] (digits 16 false n) ≡ hex width n
unfolding padded_integral char_count
padded_hex width n =
    let short : (width - length (digits 16 false n) - 0) - 0 ≡ width - length (digits 16 false n) = omega arith in
    rw (append-nil (digits 16 false n)) (ap (λ k. replicate k 48 ++ digits 16 false n) short)
