use Rattle.std.proofs.Common.{[], ◌∷◌, ◌++◌}
use Rattle.std.specs.Prelude.{decimal}
use Rattle.ios_print.specs.Print.{subnet_words, exit_words}
use Rattle.ios_print.proofs.Appends.{words_after, last_word}
use Rattle.ios_print.proofs.routes.append_route_words.Goals as goal

pub returns : goal.returns
returns c =
    let r = c.args.route.now in
    let last = decimal r.distance ∷ [] in
    words_after _ _ _ _ (subnet_words r.prefix) (exit_words r.exit ++ last) c.in_ok-append_subnet.ensures
    (words_after _ _ _ _ (exit_words r.exit) last c.in_ok-append_exit.ensures
    (last_word _ _ _ (decimal r.distance) (rw c.from.ensures at c.append_number.ensures)))
