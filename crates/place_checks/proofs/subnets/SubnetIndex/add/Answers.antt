use Rattle.std.proofs.Common.{◌≡◌, is_some, nat_eq, sym, ap, ◌∙◌, ℕ, eqb-true}
use Rattle.std.specs.Prelude.{◌&&◌, ◌==◌, option_map}
use Rattle.std.specs.Map.{lookup}
use Rattle.indexmap.proofs.CallerLemmas.{insert_entry-new}
use Rattle.net_types.specs.Routes.{prefix_number}
use Rattle.net_types.proofs.Runs.{and_left, and_right}
use Rattle.place_checks.specs.Homes.{home_of, has_bits, home_place}
use Rattle.place_checks.specs.Index.{place_in, kept_place}
use Rattle.place_checks.proofs.Firsts.{found_before, found_pushed, absent, is_some-map}
use Rattle.place_checks.proofs.subnets.SubnetIndex.add.Goals as goal

pub returns-then-contains_key : goal.returns-then-contains_key
returns-then-contains_key c = λ hs homes number length.
    let s = c.args.subnet.now in
    let x = home_of c.args.device.now c.args.interface.now s in
    found_before home_place (has_bits number length) x hs (kept_place c.args.self.now number length) (homes number length) (λ h.
    (let n : number ≡ c.first_bits.result = eqb-true number (prefix_number s.length s.address) (and_left (number == prefix_number s.length s.address) _ h) ∙ sym c.first_bits.ensures in
    let l : length ≡ s.length = eqb-true length s.length (and_right (number == prefix_number s.length s.address) _ h) in
    is_some-map place_in (lookup (λ (k : ℕ × ℕ). nat_eq number k.0 && nat_eq length k.1) c.args.self.now.firsts.entries)
    ∙ (λ j. is_some (lookup (λ (k : ℕ × ℕ). nat_eq (n j) k.0 && nat_eq (l j) k.1) c.args.self.now.firsts.entries)) ∙ sym c.if-contains_key.ensures))

pub returns : goal.returns
returns c = λ hs homes number length.
    let s = c.args.subnet.now in
    let x = home_of c.args.device.now c.args.interface.now s in
    let key : ℕ × ℕ = (c.first_bits.result, s.length) in
    let test = λ (k : ℕ × ℕ). nat_eq number k.0 && nat_eq length k.1 in
    let eq = λ (a : ℕ × ℕ) (b : ℕ × ℕ). nat_eq a.0 b.0 && nat_eq a.1 b.1 in
    ap (λ es. option_map place_in (lookup test es)) (c.in_ok-insert.ensures.entries ∙ insert_entry-new eq c.args.self.now.firsts key _ (absent _ c.if-contains_key.ensures))
    ∙ found_pushed home_place (has_bits number length) x place_in test key _ c.args.self.now.firsts.entries hs
    (λ j. nat_eq number (c.first_bits.ensures j) && nat_eq length s.length) (λ j. x.place) (homes number length)
