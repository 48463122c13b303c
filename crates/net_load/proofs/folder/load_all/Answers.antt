use Rattle.std.proofs.Common.{◌≡◌, List, map, sym, subst, rules, Vec, Global}
use Rattle.std.specs.Prelude.{Result, Err, All}
use Rattle.net_types.specs.declared.config.Loaded.{Loaded}
use Rattle.net_load.specs.declared.folder.LoadFail.{LoadFail}
use Rattle.net_load.specs.declared.texts.FileText.{FileText}
use Rattle.net_load.specs.Folder.{FailsAt, LoadsNames, UnlessMemory}
use Rattle.net_load.specs.Texts.{AreReadings, Holds, file_of}
use Rattle.net_load.proofs.Steps.{fails}
use Rattle.net_load.proofs.folder.load_all.Goals as goal

pub load_texts-requires-clause-known : goal.load_texts-requires-clause-known
load_texts-requires-clause-known c = subst (λ (xs : List FileText). AreReadings xs c.args.known.items) (sym c.deref.ensures.value) c.requires.known

pub returns-in_err-loaded-clause-files : goal.returns-in_err-loaded-clause-files
returns-in_err-loaded-clause-files c t names are =
    let e = c.in_err-loaded.field-0.0 in
    let folder = c.args.folder.now in
    let read = c.args.texts.read.items in
    let holds : All (Holds t folder) c.deref.result.now = subst (λ (xs : List FileText). All (Holds t folder) xs) (sym c.deref.ensures.value) are.hold in
    let first : UnlessMemory e (FailsAt t folder (map file_of read) e) = subst (λ (xs : List FileText). UnlessMemory e (FailsAt t folder (map file_of xs) e)) c.deref.ensures.value (c.in_err-loaded.ensures.files t holds) in
    let handed : c.from_residual.result ≡ Err e = search rules in
    subst (λ (r : Result (Vec Loaded Global) LoadFail). LoadsNames (λ loaded. loaded.items) t folder names r) (sym handed) (fails t folder names c.args.texts e are first)
