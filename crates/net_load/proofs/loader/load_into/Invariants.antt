use Rattle.std.proofs.Common.{◌≡◌, map, take, length}
use Rattle.std.specs.Prelude.{All}
use Rattle.net_io.specs.Files.{Told}
use Rattle.net_load.specs.Folder.{AreLoaded, total}
use Rattle.net_load.specs.Loader.{IsLoader}
use Rattle.net_load.specs.Texts.{AreReadings, Holds, file_of}
use Rattle.net_load.proofs.loader.load_into.Given as goal

abbrev pub invariant-loop-at : goal.invariant-loop-at
invariant-loop-at l = record {
  loader : IsLoader l.loader;
  known : AreReadings l.texts l.known.items;
  count : length l.loader.loaded.items ≡ l.at;
  done : (t : Told) → All (Holds t l.folder) l.texts → AreLoaded t l.folder (map file_of (take l.at l.texts)) l.loader.loaded.items;
  size : (t : Told) → All (Holds t l.folder) l.texts → l.loader.total ≡ total t l.folder (map file_of (take l.at l.texts));
}
