use Rattle.std.proofs.Common.{true, ◌∷◌}
use Rattle.std.specs.Prelude.{decimal}
use Rattle.ios_print.specs.Print.{verb_word, entry_words}
use Rattle.ios_print.proofs.Appends.{line, spelled}
use Rattle.ios_print.proofs.entries.append_entry.Goals as goal

pub returns : goal.returns
returns c =
    let e = c.args.entry.now in
    let ws = verb_word e.permit ∷ entry_words c.args.extended e in
    line _ _ _ _ _ (32 ∷ decimal e.sequence) _ ws c.in_ok-append_number.ensures c.in_ok-append_action.ensures c.append.ensures (spelled true (decimal e.sequence) ws)
