use Rattle.std.proofs.Common.{◌∷◌}
use Rattle.ios_print.specs.Print.{verb_word, entry_words}
use Rattle.ios_print.specs.Tail.{tail}
use Rattle.ios_print.proofs.Appends.{text_after}
use Rattle.ios_print.proofs.entries.append_action.Goals as goal

pub returns : goal.returns
returns c =
    let e = c.args.entry.now in
    text_after _ _ _ _ (32 ∷ verb_word e.permit) (tail (entry_words c.args.extended e)) c.in_ok-append_verb.ensures c.append_tests.ensures
