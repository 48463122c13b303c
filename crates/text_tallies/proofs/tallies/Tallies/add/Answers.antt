use Rattle.std.proofs.Common.{List, ℕ, ap, ◌∙◌, ◌∷◌, [], cond, Some, arith, length-append}
use Rattle.std.specs.Prelude.{option_map}
use Rattle.std.specs.Map.{lookup}
use Rattle.std.specs.Str.{bytes_eq}
use Rattle.text_tallies.specs.Tallies.{counted, kept, raised}
use Rattle.text_tallies.proofs.Lookups.{kept_put, count_added, first_added}
use Rattle.text_tallies.proofs.tallies.Tallies.add.Goals as goal

pub returns : goal.returns
returns c = λ ts short are.
    let old = kept c.args.self.now in
    let x = c.args.text.now in
    let key = c.in_ok-to_vec.field-0 in
    let is = λ (text : List ℕ).
    ap (lookup (λ k. bytes_eq text k.items)) c.in_ok-insert.ensures.entries ∙ kept_put text key c.raised-seen.result c.args.self.now.seen.entries
    ∙ (λ i. cond (bytes_eq text (c.in_ok-to_vec.ensures.items_if_clones_equal (λ a b e. e) i)) (Some ((c.raised-seen.ensures ∙ ap (λ o. raised o c.args.self.now.length) c.get.ensures) i)) (old text)) in
    record {
      length = (let l = length-append ts (x ∷ []) in omega (arith, l, short, are.length, c.saturating_add-self.ensures));
      counts = λ text. ap counted (is text) ∙ count_added old x ts text c.args.self.now.length short are.counts;
      firsts = λ text. ap (option_map (λ s. s.first)) (is text) ∙ first_added old x ts text c.args.self.now.length are.length are.firsts;
    }
