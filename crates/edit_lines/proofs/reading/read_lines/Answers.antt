use Rattle.std.proofs.Common.{◌≡◌, ◌∙◌, List, ap, arith, length, map}
use Rattle.net_text.specs.Lines.{piece}
use Rattle.edit_lines.specs.Built.{spaced}
use Rattle.edit_lines.specs.Refusals.{Word}
use Rattle.edit_lines.proofs.WordSizes.{line_size}
use Rattle.edit_lines.proofs.reading.read_lines.Goals as goal

pub read_line-requires : goal.read_line-requires
read_line-requires c =
    let words : c.deref.result.now ≡ map (piece c.args.bytes.now) c.line-item.result.words = c.deref.ensures.value ∙ c.in_ok-words.ensures ∙ ap (map (piece c.args.bytes.now)) c.as_slice.ensures in
    let same = ap (λ (ws : List Word). length (spaced ws)) words in
    let fits = line_size c.args.bytes.now c.args.lines.now c.requires.lines c.loop-line.line-index c.line-item.result c.loop-line-test.true c.line-item.is in
    omega (arith, same, fits, c.requires.size)
