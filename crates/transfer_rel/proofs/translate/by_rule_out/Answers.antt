use Rattle.std.proofs.Common.{◌≡◌, ◌∙◌, sym}
use Rattle.hdr_bits.specs.declared.header.Header.{Header}
use Rattle.hdr_bits.specs.HeaderBits.{number, IsHeader}
use Rattle.hdr_bits.specs.CubeBits.{IsIn}
use Rattle.net_types.specs.Translation.{from_inside}
use Rattle.nat_static.specs.Rules.{outer_from_inside}
use Rattle.transfer_rel.proofs.StampLemmas.{change_stamped}
use Rattle.transfer_rel.proofs.translate.by_rule_out.Goals as goal

pub returns-in-All : goal.returns-in-All
returns-in-All c =
    let rules = c.args.rules.now in
    let cube = c.args.cube.now in
    let outer : (h : Header) → IsHeader h → IsIn cube (number h) → outer_from_inside rules h ≡ c.in-All.answer = λ h v i. sym (c.requires.exact h v) ∙ c.in-All.ensures.answer h v i in
    change_stamped (from_inside rules) cube c.inside_stamp.result c.made_by.result c.made_by.ensures (λ h v i. c.inside_stamp.ensures.applies h (c.requires.rule h v i) (outer h v i)) (c.inside_stamp.ensures.fixed cube c.requires.rule outer)
