-- What is done to the entries of a list.
use Rattle.std.specs.Prelude.{List, Result}
use Rattle.net_types.specs.declared.config.Entry.{Entry}
use Rattle.incr_review.specs.declared.edits.EditKind.{EditKind}
use Rattle.incr_review.specs.declared.edits.EditKind.TheVariants.{NoSuchEntry}
use Rattle.incr_review.specs.declared.entries.EntryEdit.{EntryEdit}
use Rattle.incr_review.specs.declared.entries.EntryEdit.TheVariants.{Add, Drop}
use Rattle.incr_review.specs.Edited.{entry_added, drop_first, has_sequence}

abbrev pub entries_by : EntryEdit → List Entry → Result (List Entry) EditKind
entries_by (Add e) = entry_added e.now
entries_by (Drop n) = drop_first (has_sequence n) NoSuchEntry
