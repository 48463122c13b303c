use Rattle.std.proofs.Common.{◌≡◌, ◌∙◌, ap, sym, List, Ok, position, set, get_or}
use Rattle.std.proofs.lemmas.Result.{on_ok_weaker, IfErr-weaker}
use Rattle.net_types.specs.declared.config.AccessList.{AccessList}
use Rattle.net_types.specs.declared.config.Entry.{Entry}
use Rattle.incr_review.specs.declared.edits.EditKind.TheVariants as kind
use Rattle.incr_review.specs.Edited.{map_ok, is_list, list_edited}
use Rattle.incr_review.specs.Entries.{entries_by}
use Rattle.incr_review.proofs.FirstLemmas.{changed, unchanged, fail_map, map_twice, at_index, within}
use Rattle.incr_review.proofs.entries.edit_lists.Goals as goal

pub returns-in_default-clause-fail : goal.returns-in_default-clause-fail
returns-in_default-clause-fail c =
    let test = is_list c.args.name.now in
    unchanged test kind.UnknownList (list_edited (entries_by c.args.change)) c.args.lists.now (sym c.in_default.is ∙ (c.list_position.ensures ∙ ap (position test) c.as_slice.ensures))

pub returns-clause-ok : goal.returns-clause-ok
returns-clause-ok c =
    let test = is_list c.args.name.now in
    let lists = c.args.lists.now in
    let change = entries_by c.args.change in
    let i = c.in-Some.position in
    let x : AccessList = c.index_mut.result.now in
    let there = sym c.in-Some.is ∙ (c.list_position.ensures ∙ ap (position test) c.as_slice.ensures) in
    let same : c.into_vec-all.result.items ≡ lists = c.into_vec-all.ensures ∙ c.replace.ensures.value in
    let at = at_index lists i x (within test lists i there) (c.index_mut.ensures.value ∙ ap (λ xs. get_or xs i x) same) in
    let is = changed test kind.UnknownList (list_edited change) lists i x there at in
    let y : AccessList = record x { entries = c.edit_entries-edited.new.entries } in
    on_ok_weaker c.edit_entries-edited.result
    (λ h. is ∙ (ap (λ r. map_ok (λ z. set lists i z) (map_ok (λ es. record x { entries = es }) r)) h ∙ (ap (λ xs. Ok (set xs i y)) (sym same) ∙ ap Ok (sym c.new.ensures))))
    c.edit_entries-edited.ensures.ok

pub returns-clause-fail : goal.returns-clause-fail
returns-clause-fail c =
    let test = is_list c.args.name.now in
    let lists = c.args.lists.now in
    let change = entries_by c.args.change in
    let i = c.in-Some.position in
    let x : AccessList = c.index_mut.result.now in
    let there = sym c.in-Some.is ∙ (c.list_position.ensures ∙ ap (position test) c.as_slice.ensures) in
    let same : c.into_vec-all.result.items ≡ lists = c.into_vec-all.ensures ∙ c.replace.ensures.value in
    let at = at_index lists i x (within test lists i there) (c.index_mut.ensures.value ∙ ap (λ xs. get_or xs i x) same) in
    let is = changed test kind.UnknownList (list_edited change) lists i x there at in
    let put : AccessList → List AccessList = λ z. set lists i z in
    let edited : List Entry → AccessList = λ es. record x { entries = es } in
    IfErr-weaker c.edit_entries-edited.result _ _
    (λ e h. fail_map (λ es. put (edited es)) (change x.entries) _ (is ∙ map_twice edited put (change x.entries)) e h)
    c.edit_entries-edited.ensures.fail
