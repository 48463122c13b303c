use Rattle.std.proofs.Common.{ℕ, List, ◌++◌, codes, ap, ◌∙◌}
use Rattle.json_text.proofs.Joined.{two_more}
use Rattle.json_text.specs.Json.{string_member}
use Rattle.answer_view.specs.Answered.{group_of, group_name}
use Rattle.answer_view.specs.ShownJson.{before_json, answer_json, answer_members}
use Rattle.answer_view.proofs.json.append_answer_members.Goals as goal

pub returns : goal.returns
unfolding answer_members
returns c =
    let o = c.args.out.now.items in
    let x0 : List ℕ = codes ", " in
    let x1 : List ℕ = string_member (codes "group") (group_name (group_of c.args.answered.now)) in
    let x2 : List ℕ = codes ", \"before\": " in
    let x3 : List ℕ = before_json c.args.answered.now.before in
    let x4 : List ℕ = codes ", \"after\": " in
    let x5 : List ℕ = answer_json c.args.answered.now.after in
    let group = c.in_ok-append_member.ensures ∙ ap (λ t. c.append.new.out.items ++ string_member (codes "group") t) (c.group_name.ensures ∙ ap group_name c.group_of.ensures) in
    two_more o (x0 ++ x1 ++ x2 ++ x3 ++ x4) x5 _ _ (two_more o (x0 ++ x1 ++ x2 ++ x3) x4 _ _ (two_more o (x0 ++ x1 ++ x2) x3 _ _ (two_more o (x0 ++ x1) x2 _ _ (two_more o x0 x1 _ _ c.in_ok-append.ensures group) c.in_ok-append-2.ensures) c.in_ok-append_before.ensures) c.in_ok-append-3.ensures) c.in_ok-append_answer.ensures
