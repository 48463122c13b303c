use Rattle.std.proofs.Common.{ℕ, List, ◌++◌, codes}
use Rattle.json_text.proofs.Joined.{two_more}
use Rattle.answer_view.specs.ShownJson.{packet_json, fails_json}
use Rattle.answer_view.proofs.json.append_failing.Goals as goal

pub returns : goal.returns
unfolding fails_json
returns c =
    let o = c.args.out.now.items in
    let x0 : List ℕ = codes "{\"holds\": false, \"packet\": " in
    let x1 : List ℕ = packet_json c.args.header.now in
    let x2 : List ℕ = codes "}" in
    two_more o (x0 ++ x1) x2 _ _ (two_more o x0 x1 _ _ c.in_ok-append.ensures c.in_ok-append_packet_object.ensures) c.in_ok-append-2.ensures
