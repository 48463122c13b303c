use Rattle.std.proofs.Common.{◌≡◌, ℕ, arith, ap, ◌∙◌, Vec, Global, map}
use Rattle.std.specs.Str.{bytes_eq}
use Rattle.report_text.proofs.NameNumbers.{with_name, added, next_name}
use Rattle.report_text.proofs.names.Numbers.of.Goals as goal

pub loop-text-preserved : goal.loop-text-preserved
loop-text-preserved c =
    let e : c.in_ok-to_vec.field-0.items ≡ c.text-item.result = c.in_ok-to_vec.ensures.items_if_clones_equal (λ x y h. h) ∙ c.as_bytes.ensures in
    ap (map (λ (k : Vec ℕ Global). k.items)) c.in_ok-insert.ensures.keys
    ∙ added {K = Vec ℕ Global} (λ k. k.items) c.text-item.result (λ y. bytes_eq c.in_ok-to_vec.field-0.items y.items) (λ k. ap (λ x. bytes_eq x k.items) e) c.loop-text.found.keys c.in_ok-to_vec.field-0 e
    ∙ ap (λ ns. with_name ns c.text-item.result) c.loop-text.invariant
    ∙ next_name c.args.names.now.texts c.as_slice-text-items.result.now c.loop-text.text-index c.text-item.result c.requires c.as_slice-text-items.ensures (omega arith) c.text-item.is
