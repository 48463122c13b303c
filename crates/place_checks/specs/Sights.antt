-- What borrowed networks and places stand for.
use Rattle.std.specs.Option.{option_copied}
use Rattle.place_checks.specs.declared.checks.Folders.{Folders}
use Rattle.place_checks.specs.declared.ends.SeenPlace.{SeenPlace}
use Rattle.place_checks.specs.declared.nets.Net.{Net}
use Rattle.place_checks.specs.declared.nets.Nets.{Nets}
use Rattle.net_types.specs.declared.config.Loaded.{Loaded}
use Rattle.std.specs.Prelude.{List}
use Rattle.place_checks.specs.Findings.{Pair, Sight}
use Rattle.place_checks.specs.Index.{place_in}

-- the folder of a network
abbrev pub folder_of : Net → List Loaded
folder_of n = n.devices.folder.now

abbrev pub pair_of : Nets → Pair
pair_of n = record { old = folder_of n.old.now; new = folder_of n.new.now; judged = n.judged }

abbrev pub folders_of : Folders → Pair
folders_of f = record { old = f.old.now; new = f.new.now; judged = f.judged }

abbrev pub seen : SeenPlace → Sight
seen s = record { line = s.line; place = place_in s.place; old = option_copied s.old; new = option_copied s.new }
