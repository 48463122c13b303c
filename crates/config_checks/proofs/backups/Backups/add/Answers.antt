use Rattle.std.proofs.Common.{◌<◌, sym, ap, ◌∙◌, arith, lt-ltb}
use Rattle.std.specs.Prelude.{◌==◌, ◌&&◌}
use Rattle.std.specs.HashMap.{get}
use Rattle.config_checks.specs.Held.{has_from}
use Rattle.config_checks.proofs.Farther.{distance_added}
use Rattle.config_checks.proofs.backups.Backups.add.Goals as goal

pub returns : goal.returns
returns c = λ address length d.
    let e = c.args.route.now.distance in
    let low : e < 255 = omega (arith, c.if-route.false) in
    distance_added (λ a l. get (λ x y. (x.0 == y.0) && (x.1 == y.1)) c.args.self.now.greatest (a, l)) c.args.route.now.prefix.address c.args.route.now.prefix.length e address length d _ (lt-ltb e 255 low) (ap (λ k. has_from c.args.self.now c.args.route.now.prefix.address c.args.route.now.prefix.length k) (sym c.from.ensures) ∙ sym c.has_from.ensures ∙ c.if-has_from.false) (c.in_ok-insert.ensures.updates.0 (address, length))
