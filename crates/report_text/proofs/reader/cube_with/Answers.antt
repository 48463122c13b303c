use Rattle.std.proofs.Common.{ap, ◌∙◌}
use Rattle.report_text.specs.Reading.{masks_cube}
use Rattle.report_text.proofs.ReportLaws.{made}
use Rattle.report_text.proofs.reader.cube_with.Goals as goal

pub returns : goal.returns
returns c =
    made c.to_bits.result c.to_bits-2.result c.from_masks.result c.to_bits.ensures.below c.from_masks.ensures.valid c.from_masks.ensures.masks
    ∙ ap (λ n. masks_cube n c.to_bits-2.result) c.to_bits.ensures.number ∙ ap (masks_cube _) c.to_bits-2.ensures.number
