use Rattle.std.proofs.Common.{◌≡◌, ◌++◌, ◌∙◌, List, filter, length, ap, rules, tests, arith, IsOk, if◌then◌else◌}
use Rattle.std.specs.Vec.{vec_len}
use Rattle.std.proofs.lemmas.Fn.{filter_same}
use Rattle.std.proofs.lemmas.List.Sums.{length-filter}
use Rattle.incr_review.specs.declared.regions.Region.{Region}
use Rattle.incr_review.specs.Regions.{stays}
use Rattle.incr_review.proofs.walks.put_regions.Goals as goal

pub returns-clause-regions : goal.returns-clause-regions
returns-clause-regions c =
    let kept : c.retain.new.self.items ≡ filter (stays c.args.device) c.args.regions.now.items = filter_same _ (stays c.args.device) _ (λ x b f k. search (rules, tests)) c.args.regions.now.items c.retain.new.self.items c.retain.ensures.filtered in
    let bound = c.retain.ensures.bound in
    let capacity = c.retain.ensures.capacity in
    let room = c.requires in
    let ok : IsOk c.append.result = c.append.ensures.succeeds (omega (arith, bound, capacity, room)) in
    c.append.ensures.items ∙ (ap (λ b. if b then c.retain.new.self.items ++ c.args.more.now.items else c.retain.new.self.items) ok ∙ ap (λ (xs : List Region). xs ++ c.args.more.now.items) kept)

pub returns-clause-kept : goal.returns-clause-kept
returns-clause-kept c =
    let kept : c.retain.new.self.items ≡ filter (stays c.args.device) c.args.regions.now.items = filter_same _ (stays c.args.device) _ (λ x b f k. search (rules, tests)) c.args.regions.now.items c.retain.new.self.items c.retain.ensures.filtered in
    let counted : vec_len c.retain.new.self ≡ length c.retain.new.self.items = search (rules) in
    c.len-kept.ensures ∙ (counted ∙ (ap (λ (xs : List Region). length xs) kept ∙ length-filter (stays c.args.device) c.args.regions.now.items))
