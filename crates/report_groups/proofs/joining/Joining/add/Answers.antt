use Rattle.std.proofs.Common.{◌≡◌, inr, List, ◌∷◌, [], ◌++◌, map, slice_set, slice_get, slice_index_or, length, subst, ◌<◌, sym, ap, ◌∙◌, if◌then◌else◌, Vec, Global}
use Rattle.std.proofs.lemmas.List.{map-set, get_or-map, length-map}
use Rattle.std.proofs.lemmas.Option.{slice_get_within}
use Rattle.report_groups.specs.declared.types.Pattern.{Pattern}
use Rattle.report_groups.specs.contracts.types.DraftPartialEq.TheImpl.{eq-value}
use Rattle.report_groups.specs.Drafts.{shown}
use Rattle.report_groups.proofs.Keys.{draft_decides}
use Rattle.report_groups.proofs.Distinct.{item_at, distinct_items, taken_twice}
use Rattle.report_groups.proofs.joining.Joining.add.Goals as goal

pub returns-then-added-clause-distinct : goal.returns-then-added-clause-distinct
returns-then-added-clause-distinct c = distinct_items shown eq-value.it draft_decides c.insert_full.new.self.keys c.insert_full.ensures.unique

pub returns-clause-distinct : goal.returns-clause-distinct
returns-clause-distinct c = distinct_items shown eq-value.it draft_decides c.insert_full.new.self.keys c.insert_full.ensures.unique

abbrev bytes : Vec Pattern Global → List Pattern
bytes v = v.items

pub returns-clause-added : goal.returns-clause-added
returns-clause-added c =
    let place = c.in_ok-place.place in
    let old = c.self.inside.lists.items in
    let there = taken_twice c.in_ok-place.added _ c.in_ok-place.ensures.added c.if-added.false in
    let keys = c.in_ok-place.ensures.keys ∙ ap (λ b. if b then c.self.inside.keys.keys else c.self.inside.keys.keys ++ c.take_field-list.new.draft ∷ []) there in
    let s = c.in_ok-place.ensures.stored in
    let g = sym ((draft_decides c.take_field-list.new.draft s.0).0 s.2) ∙ c.take_field-list.ensures.left in
    let at = item_at shown eq-value.it draft_decides c.insert_full.new.self.keys place s.0 _ s.1 g in
    let same = ap (map shown) keys in
    let list = map-set bytes old place c.append.new.self in
    let keys' = same ∙ ap (λ p. p.0) c.self.view_is in
    let found = sym (ap (λ ks. slice_get ks place) keys') ∙ at in
    let lists' : map bytes old ≡ c.args.self.now.1 = ap (λ p. p.1) c.self.view_is in
    let within = subst (λ n. place < n) (c.requires.paired ∙ sym (ap length lists') ∙ length-map old bytes) (slice_get_within c.args.self.now.0 place _ found) in
    let was = ap bytes c.index_mut.ensures.value ∙ sym (get_or-map bytes old place c.index_mut.result.now [] within) ∙ ap (λ l. slice_index_or l place []) lists' in
    let items = c.in_ok-append.ensures.items ∙ (λ i. was i ++ c.take_field-list.ensures.taken i) in
    inr (place, (keys', found, list ∙ (λ i. slice_set (lists' i) place (items i))))
