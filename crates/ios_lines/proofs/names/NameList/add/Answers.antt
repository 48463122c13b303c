use Rattle.std.proofs.Common.{◌≡◌, ℕ, ap, ◌∙◌, Vec, Global, map}
use Rattle.std.specs.Str.{bytes_eq}
use Rattle.ios_lines.specs.Lists.{add_name}
use Rattle.ios_lines.proofs.Keys.{added}
use Rattle.ios_lines.proofs.names.NameList.add.Goals as goal

pub returns : goal.returns
returns c =
    let e : c.in_ok-bytes.bytes.items ≡ c.args.name.now = c.in_ok-bytes.ensures.items_if_clones_equal (λ x y h. h) ∙ c.as_bytes.ensures in
    ap (map (λ (k : Vec ℕ Global). k.items)) c.in_ok-insert.ensures.keys
    ∙ added {K = Vec ℕ Global} (λ k. k.items) c.args.name.now (λ y. bytes_eq c.in_ok-bytes.bytes.items y.items) (λ k. ap (λ x. bytes_eq x k.items) e) c.self.inside.names.keys c.in_ok-bytes.bytes e
    ∙ ap (λ ns. add_name ns c.args.name.now) c.self.view_is
