use Rattle.std.proofs.Common.{◌≡◌, is_some, sym, ap, ◌∙◌, ℕ, Vec, Global}
use Rattle.std.specs.Prelude.{◌&&◌}
use Rattle.std.specs.Map.{lookup}
use Rattle.std.specs.Str.{bytes_eq}
use Rattle.indexmap.proofs.CallerLemmas.{insert_entry-new}
use Rattle.net_types.proofs.Runs.{and_left, and_right}
use Rattle.topo_links.specs.Ends.{End}
use Rattle.topo_links.proofs.NameOrder.{same_if_eq}
use Rattle.place_checks.specs.Homes.{is_end, line_number}
use Rattle.place_checks.specs.Index.{place_in, kept_line}
use Rattle.place_checks.proofs.Firsts.{found_before, found_pushed_same, absent}
use Rattle.place_checks.proofs.segments.Segments.add.Goals as goal

pub returns-then-contains_key-clause-ends : goal.returns-then-contains_key-clause-ends
returns-then-contains_key-clause-ends c = λ ps ends e.
    let key = c.in_ok-key.key in
    let x : End × ℕ = (place_in c.args.end, c.args.line) in
    found_before line_number (is_end e) x ps (kept_line c.args.self.now e) (ends e) (λ h.
    (let d : e.0 ≡ key.0.items = same_if_eq e.0 (place_in c.args.end).0 (and_left (bytes_eq e.0 (place_in c.args.end).0) _ h) ∙ sym c.in_ok-key.ensures.device in
    let i : e.1 ≡ key.1.items = same_if_eq e.1 (place_in c.args.end).1 (and_right (bytes_eq e.0 (place_in c.args.end).0) _ h) ∙ sym c.in_ok-key.ensures.interface in
    (λ j. is_some (lookup (λ (k : Vec ℕ Global × Vec ℕ Global). bytes_eq (d j) k.0.items && bytes_eq (i j) k.1.items) c.args.self.now.lines.entries)) ∙ sym c.if-contains_key.ensures))

pub returns-clause-ends : goal.returns-clause-ends
returns-clause-ends c = λ ps ends e.
    let key = c.in_ok-key.key in
    let x : End × ℕ = (place_in c.args.end, c.args.line) in
    let test = λ (k : Vec ℕ Global × Vec ℕ Global). bytes_eq e.0 k.0.items && bytes_eq e.1 k.1.items in
    let eq = λ (a : Vec ℕ Global × Vec ℕ Global) (b : Vec ℕ Global × Vec ℕ Global). bytes_eq a.0.items b.0.items && bytes_eq a.1.items b.1.items in
    ap (lookup test) (c.in_ok-insert.ensures.entries ∙ insert_entry-new eq c.args.self.now.lines key c.args.line (absent _ c.if-contains_key.ensures))
    ∙ found_pushed_same line_number (is_end e) x test key c.args.line c.args.self.now.lines.entries ps
    (λ j. bytes_eq e.0 (c.in_ok-key.ensures.device j) && bytes_eq e.1 (c.in_ok-key.ensures.interface j)) (λ j. c.args.line) (ends e)
