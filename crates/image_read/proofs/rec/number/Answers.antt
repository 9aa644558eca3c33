use Rattle.std.proofs.Common.{◌∙◌, ap, arith}
use Rattle.std.proofs.lemmas.Fmt.{parse-decimal}
use Rattle.std.specs.Result.{result_ok}
use Rattle.image_read.proofs.rec.number.Goals as goal

pub returns : goal.returns
returns c n fits e = c.ok.ensures.value ∙ ap result_ok (parse-decimal 32 n c.args.text.now c.parse.result fits (omega (arith, fits)) e c.parse.ensures.value.0)
