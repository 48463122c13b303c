use Rattle.std.proofs.Common.{false, [], ◌∷◌, ◌++◌}
use Rattle.std.specs.Prelude.{codes, decimal}
use Rattle.ios_print.specs.Print.{subnet_words, exit_words}
use Rattle.ios_print.proofs.Appends.{line, spelled}
use Rattle.ios_print.proofs.routes.append_route.Goals as goal

pub returns : goal.returns
returns c =
    let r = c.args.route.now in
    let ws = subnet_words r.prefix ++ (exit_words r.exit ++ (decimal r.distance ∷ [])) in
    line _ _ _ _ _ (codes "ip route") _ ws c.in_ok-append.ensures c.in_ok-append_route_words.ensures c.append-2.ensures (spelled false (codes "ip") (codes "route" ∷ ws))
