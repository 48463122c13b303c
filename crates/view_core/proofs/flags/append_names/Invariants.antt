use Rattle.std.proofs.Common.{◌≡◌, ◌++◌, map, take}
use Rattle.std.specs.List.{flat_map}
use Rattle.ios_words.specs.Names.{row_of}
use Rattle.view_core.specs.FieldWords.{flag_text}
use Rattle.view_core.proofs.flags.append_names.Given as goal

abbrev pub invariant-loop-name : goal.invariant-loop-name
invariant-loop-name l = l.out.items ≡ l.fn.out.items ++ flat_map (flag_text l.pattern) (map row_of (take l.name-index l.names))
