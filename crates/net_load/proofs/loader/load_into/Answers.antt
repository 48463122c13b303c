use Rattle.std.proofs.Common.{◌≡◌, ◌+◌, ◌∷◌, [], List, map, take, drop, suc, length, refl, sym, ap, subst, ◌∙◌, arith, rules}
use Rattle.std.specs.Prelude.{Result, Err, All}
use Rattle.std.proofs.lemmas.List.{take_all, length-append}
use Rattle.net_io.specs.Files.{Told}
use Rattle.topo_links.specs.Ends.{Word}
use Rattle.std.proofs.lemmas.Option.{slice_get_read}
use Rattle.net_types.specs.declared.config.Loaded.{Loaded}
use Rattle.net_load.specs.declared.folder.LoadFail.{LoadFail}
use Rattle.net_load.specs.declared.texts.FileText.{FileText}
use Rattle.net_load.specs.Folder.{AreLoaded, LoadsNames, total}
use Rattle.net_load.specs.Texts.{Holds, ReadsText, file_of}
use Rattle.net_load.proofs.ReadingLemmas.{if_some}
use Rattle.net_load.proofs.Steps.{none_loaded, more, more_size, stops, split_at, one_name}
use Rattle.net_load.proofs.loader.load_into.Goals as goal

pub loop-at-init : goal.loop-at-init
loop-at-init c = record {
  loader = c.requires.loader;
  known = c.requires.known;
  count = ap length c.requires.loaded;
  done = λ t hold. subst (λ (ls : List Loaded). AreLoaded t c.args.folder.now [] ls) (sym c.requires.loaded) (none_loaded t c.args.folder.now);
  size = λ t hold. c.requires.total;
}

pub accept-requires-clause-known : goal.accept-requires-clause-known
accept-requires-clause-known c =
    let texts = c.args.texts.now in
    let at = c.loop-at.at in
    let item = c.index-texts-at.result in
    let there = slice_get_read texts (length texts) at item refl c.loop-at-test.true c.index-texts-at.is in
    if_some (ReadsText item) c.take_reading-reading.result (λ r is. c.loop-at.invariant.known at item r there (c.take_reading-reading.ensures.taken r is))

pub returns-in_err-accept-clause-files : goal.returns-in_err-accept-clause-files
returns-in_err-accept-clause-files c t hold =
    let texts = c.args.texts.now in
    let at = c.loop-at.at in
    let item = c.index-texts-at.result in
    let folder = c.args.folder.now in
    let e = c.in_err-accept.field-0.0 in
    let split = split_at file_of texts at item item.file c.loop-at-test.true c.index-texts-at.is refl in
    let holds : Holds t folder item = subst (Holds t folder) (sym c.index-texts-at.is) (hold at item c.loop-at-test.true) in
    let first = stops t folder (map file_of texts) (map file_of (take at texts)) item (map file_of (drop (suc at) texts)) c.loop-at.loader e (c.loop-at.invariant.done t hold) (c.loop-at.invariant.size t hold) split holds c.in_err-accept.ensures.accepts in
    let handed : c.from_residual.result ≡ Err e = search rules in
    subst (λ (r : Result (Unit {0}) LoadFail). LoadsNames (λ _. c.accept.new.self.loaded.items) t folder (map file_of texts) r) (sym handed) first

pub loop-at-preserved : goal.loop-at-preserved
loop-at-preserved c =
    let texts = c.args.texts.now in
    let at = c.loop-at.at in
    let item = c.index-texts-at.result in
    let folder = c.args.folder.now in
    let v = c.loop-at.invariant in
    let one = one_name file_of texts at item item.file c.loop-at-test.true c.index-texts-at.is refl in
    let holds = λ (t : Told) (hold : All (Holds t folder) texts). subst (Holds t folder) (sym c.index-texts-at.is) (hold at item c.loop-at-test.true) in
    record {
      loader = c.in_ok-accept.ensures.loader;
      known = λ n x r there found. v.known n x r there (c.take_reading-reading.ensures.kept n r found);
      count = ap length c.in_ok-accept.ensures.accepts.1.adds.loaded ∙ length-append c.loop-at.loader.loaded.items (c.in_ok-accept.ensures.accepts.0 ∷ []) ∙ ap (λ n. n + 1) v.count;
      done = λ t hold. subst (λ (ns : List Word). AreLoaded t folder ns c.accept.new.self.loaded.items) (sym one)
          (more t folder (map file_of (take at texts)) item c.loop-at.loader c.accept.new.self (v.done t hold) (v.size t hold) (holds t hold) c.in_ok-accept.ensures.accepts c.in_ok-accept.ensures.loader);
      size = λ t hold. subst (λ (ns : List Word). c.accept.new.self.total ≡ total t folder ns) (sym one)
          (more_size t folder (map file_of (take at texts)) item c.loop-at.loader c.accept.new.self (v.size t hold) (holds t hold) c.in_ok-accept.ensures.accepts);
    }

pub returns-clause-files : goal.returns-clause-files
returns-clause-files c t hold =
    let texts = c.args.texts.now in
    let all : take c.loop-at.at texts ≡ texts = take_all c.loop-at.at texts (omega arith) in
    subst (λ (xs : List FileText). AreLoaded t c.args.folder.now (map file_of xs) c.loop-at.loader.loaded.items) all (c.loop-at.invariant.done t hold)
