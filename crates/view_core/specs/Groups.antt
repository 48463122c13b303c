-- How a group stands in a line.
use Rattle.std.specs.Prelude.{ℕ, List, ◌++◌, codes}
use Rattle.net_types.specs.declared.network.Names.{Names}
use Rattle.report_groups.specs.declared.types.Change.{Change}
use Rattle.report_groups.specs.declared.types.Change.TheVariants.{Loops, Closes, Opens, Sometimes, Translated, Moves, LoopGone}
use Rattle.report_groups.specs.declared.types.Entry.{Entry}
use Rattle.report_text.specs.ReportText.{label_text}
use Rattle.view_core.specs.FieldWords.{words_text}

-- what a kind of change is called
abbrev pub change_words : Change → List ℕ
change_words Loops = codes "loops"
change_words Closes = codes "closes"
change_words Opens = codes "opens"
change_words Sometimes = codes "sometimes"
change_words Translated = codes "translated otherwise"
change_words Moves = codes "moves"
change_words LoopGone = codes "loop gone"

-- the headers of a group, and their outcomes in the two networks
unfoldable pub headers_text : Names → Entry → List ℕ
headers_text names e =
    words_text e.shown ++ codes ": " ++ label_text names e.group.old ++ codes " -> " ++ label_text names e.group.new

-- the words of a group: what the change does to its packets, and its headers
unfoldable pub group_words : Names → Entry → List ℕ
group_words names e = change_words e.change ++ headers_text names e

-- its line
unfoldable pub group_text : Names → Entry → List ℕ
group_text names e = group_words names e ++ codes "\n"
