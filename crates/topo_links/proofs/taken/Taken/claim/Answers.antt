use Rattle.std.proofs.Common.{◌≡◌, ℕ, ap, ◌∙◌, Vec, Global, not}
use Rattle.std.specs.Prelude.{◌&&◌}
use Rattle.std.specs.Str.{bytes_eq}
use Rattle.topo_links.specs.Ends.{is_taken}
use Rattle.topo_links.proofs.Keys.{any_end}
use Rattle.topo_links.proofs.taken.Taken.claim.Goals as goal

pub returns-clause-free : goal.returns-clause-free
returns-clause-free c =
    let d : c.in_ok-device.device.items ≡ c.args.device.now = c.in_ok-device.ensures.items_if_clones_equal (λ x y h. h) ∙ c.as_bytes.ensures in
    let i : c.in_ok-interface.interface.items ≡ c.args.interface.now = c.in_ok-interface.ensures.items_if_clones_equal (λ x y h. h) ∙ c.as_bytes-2.ensures in
    c.in_ok-insert.ensures.added
    ∙ ap not (any_end {K = Vec ℕ Global × Vec ℕ Global} (λ k. (k.0.items, k.1.items)) (c.args.device.now, c.args.interface.now) (λ k. bytes_eq c.in_ok-device.device.items k.0.items && bytes_eq c.in_ok-interface.interface.items k.1.items) (λ k. λ j. bytes_eq (d j) k.0.items && bytes_eq (i j) k.1.items) c.self.inside.ends.keys)
    ∙ ap (λ es. not (is_taken (c.args.device.now, c.args.interface.now) es)) c.self.view_is
