use Rattle.std.proofs.Common.{false, [], ◌∷◌}
use Rattle.std.specs.Prelude.{codes}
use Rattle.ios_print.specs.Print.{kind_word}
use Rattle.ios_print.proofs.Appends.{line, spelled}
use Rattle.ios_print.proofs.entries.append_list_line.Goals as goal

pub returns : goal.returns
returns c =
    let l = c.args.list.now in
    let ws = kind_word l.extended ∷ l.name ∷ [] in
    line _ _ _ _ _ (codes "ip access-list") _ ws c.in_ok-append.ensures c.in_ok-append_list_words.ensures c.append-2.ensures (spelled false (codes "ip") (codes "access-list" ∷ ws))
