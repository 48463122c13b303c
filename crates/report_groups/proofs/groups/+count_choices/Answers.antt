use Rattle.std.proofs.Common.{◌≡◌, ◌<◌, ◌*◌, ◌^◌, ◌==◌, ℕ, List, length, ap, sym, subst, ◌∙◌, arith}
use Rattle.report_groups.specs.declared.types.Pattern.{Pattern}
use Rattle.report_groups.specs.Groups.{choices}
use Rattle.report_groups.proofs.Counting.{count_at, fewer_at, positive}
use Rattle.report_groups.proofs.groups.+count_choices.Goals as goal

pub count_choices-requires : goal.count_choices-requires
count_choices-requires t c =
    let filled : (n : ℕ) → c.is_empty.result ≡ (n == 0) → 0 < n = λ n e. positive n (sym e ∙ c.if-is_empty.false) in
    let some : 0 < length c.first-item.result = subst (λ (x : List Pattern). 0 < length x) c.as_slice-patterns.ensures (filled (length c.as_slice-patterns.result.now) c.is_empty.ensures) in
    (omega arith, fewer_at c.args.fields.now c.first-item.result (2 ^ 64) c.in-len1-up.len_at_least c.first-item.is some c.requires)

pub overflow_mul-result : goal.overflow_mul-result
overflow_mul-result t c =
    let e = count_at c.args.fields.now c.first-item.result c.in-len1-up.len_at_least c.first-item.is in
    let product : length c.as_slice-patterns.result.now * c.count_choices.result ≡ length (choices c.args.fields.now) = (λ i. length (c.as_slice-patterns.ensures i) * c.count_choices.ensures i) ∙ sym e in
    let small : length c.as_slice-patterns.result.now * c.count_choices.result < 2 ^ 64 = subst (λ n. n < 2 ^ 64) (sym product) c.requires in
    omega (arith, small)

pub returns-else-is_empty : goal.returns-else-is_empty
returns-else-is_empty t c =
    let e = count_at c.args.fields.now c.first-item.result c.in-len1-up.len_at_least c.first-item.is in
    (λ i. length (c.as_slice-patterns.ensures i) * c.count_choices.ensures i) ∙ sym e
