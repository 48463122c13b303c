use Rattle.std.proofs.Common.{◌+◌, Option, IfSome, ℕ, Global, map, drop, length, subst, ap, sym, ◌∙◌, arith, refl}
use Rattle.std.specs.Prelude.{string_bytes, Ok, Err}
use Rattle.net_io.specs.Files.{Told}
use Rattle.doctor_core.specs.Folders.{GivesFile, total}
use Rattle.doctor_core.proofs.FileSteps.{left_of, next, none_left, start, stops, total_more, whole}
use Rattle.doctor_core.proofs.reading.read_files.Goals as goal

pub loop-name-init : goal.loop-name-init
loop-name-init g c = record {
  same = refl;
  later = omega arith;
  sum = ap total (sym c.empty-read.ensures);
  within = omega arith;
  goes = start c.args.folder.now (map (string_bytes {Z = Global}) c.args.names.now) (g.F.Files.told c.args.files.now) c.empty-read.result c.empty-read.ensures;
}

pub returns-in-Err-clause-texts : goal.returns-in-Err-clause-texts
returns-in-Err-clause-texts g c =
    let o : Option Told = g.F.Files.told c.args.files.now in
    let folder = c.args.folder.now in
    let l = c.loop-name in
    let name = c.as_str.result.now in
    let left = left_of (string_bytes {Z = Global}) c.args.names.now l.name-index c.name-item.result name (omega arith) c.name-item.is c.as_str.ensures.value in
    let behind = subst (λ (n : ℕ). IfSome (g.F.Files.told l.files) (λ t. GivesFile t folder name n (Err c.in-Err.stop))) l.invariant.sum c.in-Err.ensures.file in
    let given = subst (λ (x : Option Told). IfSome x (λ t. GivesFile t folder name (total l.read) (Err c.in-Err.stop))) l.invariant.same behind in
    stops folder (map (string_bytes {Z = Global}) c.args.names.now) o l.read (map (string_bytes {Z = Global}) (drop l.name-index c.args.names.now)) (map (string_bytes {Z = Global}) (drop (l.name-index + 1) c.args.names.now)) name c.in-Err.stop left l.invariant.goes given

pub loop-name-preserved : goal.loop-name-preserved
loop-name-preserved g c =
    let o : Option Told = g.F.Files.told c.args.files.now in
    let folder = c.args.folder.now in
    let l = c.loop-name in
    let name = c.as_str.result.now in
    let file = c.in-Ok.file in
    let more = c.in_ok-push-in-Ok.ensures.ok in
    let left = left_of (string_bytes {Z = Global}) c.args.names.now l.name-index c.name-item.result name (omega arith) c.name-item.is c.as_str.ensures.value in
    let behind = subst (λ (n : ℕ). IfSome (g.F.Files.told l.files) (λ t. GivesFile t folder name n (Ok file))) l.invariant.sum c.in-Ok.ensures.file in
    let given = subst (λ (x : Option Told). IfSome x (λ t. GivesFile t folder name (total l.read) (Ok file))) l.invariant.same behind in
    record {
      same = c.in-Ok.ensures.same ∙ l.invariant.same;
      later = omega (arith, c.in-Ok.ensures.cause.later, l.invariant.later);
      sum = omega (arith, l.invariant.sum, ap length c.as_slice.ensures, total_more l.read c.push.new.self file more);
      within = omega (arith, c.in-Ok.ensures.limit, ap length c.as_slice.ensures);
      goes = next folder (map (string_bytes {Z = Global}) c.args.names.now) o l.read c.push.new.self (map (string_bytes {Z = Global}) (drop l.name-index c.args.names.now)) (map (string_bytes {Z = Global}) (drop (l.name-index + 1) c.args.names.now)) name file left more l.invariant.goes given;
    }

pub returns-clause-texts : goal.returns-clause-texts
returns-clause-texts g c =
    let l = c.loop-name in
    whole c.args.folder.now (map (string_bytes {Z = Global}) c.args.names.now) (g.F.Files.told c.args.files.now) l.read (map (string_bytes {Z = Global}) (drop l.name-index c.args.names.now))
    (none_left (string_bytes {Z = Global}) c.args.names.now l.name-index (omega arith)) l.invariant.goes
