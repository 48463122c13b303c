use Rattle.std.proofs.Common.{◌≡◌, ◌^◌, ◌+◌, ◌-◌, ◌%◌, ◌&&◌, nat_le, ap, sym, ◌∙◌}
use Rattle.report_groups.proofs.SpanLemmas.{span_is}
use Rattle.report_groups.proofs.spans.span_with.Goals as goal

pub returns : goal.returns
returns c =
    let w = c.args.width in
    let k = c.args.free in
    let p = c.args.pattern.now in
    let fixed : p.fixed ≡ 2 ^ w - 2 ^ k = sym c.from.ensures ∙ c.if-from-whole.false ∙ λ i. c.power-whole.ensures.value i - c.power-size.ensures.value i in
    let zero : p.bits % 2 ^ k ≡ 0 = (λ i. sym c.from-low.ensures i % sym c.power-size.ensures.value i) ∙ c.if-low-size-ne0.false in
    let high : c.in-Ok.high ≡ p.bits + 2 ^ k - 1 = c.in-Ok.ensures.1 ∙ (λ i. c.from-low.ensures i + c.power-size.ensures.value i - 1) in
    λ v below. ap (λ h. nat_le p.bits v && nat_le v h) high ∙ span_is w k v p.bits p.fixed c.requires.free below fixed zero
