use Rattle.std.proofs.Common.{true, [], ◌∷◌}
use Rattle.std.specs.Prelude.{codes}
use Rattle.ios_print.proofs.Appends.{line, spelled}
use Rattle.ios_print.proofs.interfaces.append_group.Goals as goal

pub returns : goal.returns
returns c =
    let ws = c.args.name.now ∷ c.args.direction.now ∷ [] in
    line _ _ _ _ _ (codes " ip access-group") _ ws c.in_ok-append.ensures c.in_ok-append_group_words.ensures c.append-2.ensures (spelled true (codes "ip") (codes "access-group" ∷ ws))
