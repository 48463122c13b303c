use Rattle.std.proofs.Common.{◌≡◌, ◌+◌, ◌++◌, ◌∷◌, [], List, ℕ, map, take, drop, suc, sym, ap, subst, ◌∙◌, arith, Global}
use Rattle.std.specs.Prelude.{string_bytes, All, IfSome, length}
use Rattle.std.proofs.lemmas.List.{take_all, map-append}
use Rattle.net_load.specs.declared.texts.FileText.{FileText}
use Rattle.net_load.specs.Folder.{total}
use Rattle.net_load.specs.Texts.{IsText, Holds, file_of}
use Rattle.net_load.proofs.Steps.{split_at, one_name}
use Rattle.net_load.proofs.TextLemmas.{all_read, too_long, stopped, parted, hold_more, size_more}
use Rattle.net_load.proofs.ReadingLemmas.{all_more}
use Rattle.net_load.proofs.texts.read_texts.Goals as goal

pub returns-then-total-gt-FOLDER_LIMIT-clause-texts : goal.returns-then-total-gt-FOLDER_LIMIT-clause-texts
returns-then-total-gt-FOLDER_LIMIT-clause-texts g c =
    let i = c.loop-name.name-index in
    let names = c.args.names.now in
    too_long (g.F.Files.told c.args.files.now) c.args.folder.now (map (string_bytes {Z = Global}) names) c.loop-name.read (map (string_bytes {Z = Global}) (drop i names)) c.loop-name.total
    c.loop-name.invariant.hold (parted (string_bytes {Z = Global}) names i _ c.loop-name.invariant.names) c.loop-name.invariant.size c.if-total-gt-FOLDER_LIMIT.true

pub returns-in-Err-clause-texts : goal.returns-in-Err-clause-texts
returns-in-Err-clause-texts g c =
    let i = c.loop-name.name-index in
    let names = c.args.names.now in
    let split = split_at (string_bytes {Z = Global}) names i c.name-item.result c.as_str.result.now (omega arith) c.name-item.is c.as_str.ensures.value in
    stopped (g.F.Files.told c.args.files.now) (g.F.Files.told c.loop-name.files) c.args.folder.now (map (string_bytes {Z = Global}) names) c.loop-name.read c.as_str.result.now (map (string_bytes {Z = Global}) (drop (suc i) names)) c.in-Err.fail
    c.loop-name.invariant.same c.loop-name.invariant.hold (split ∙ ap (λ zs. zs ++ c.as_str.result.now ∷ map (string_bytes {Z = Global}) (drop (suc i) names)) (sym c.loop-name.invariant.names)) c.in-Err.ensures.text

pub returns-clause-texts : goal.returns-clause-texts
returns-clause-texts g c =
    let names = c.args.names.now in
    let all : take c.loop-name.name-index names ≡ names = take_all c.loop-name.name-index names (omega arith) in
    all_read (g.F.Files.told c.args.files.now) c.args.folder.now (map (string_bytes {Z = Global}) names) c.loop-name.read c.loop-name.invariant.hold (ap (map (string_bytes {Z = Global})) (sym all) ∙ sym c.loop-name.invariant.names)

pub loop-name-preserved : goal.loop-name-preserved
loop-name-preserved g c =
    let o = g.F.Files.told c.args.files.now in
    let p = g.F.Files.told c.loop-name.files in
    let folder = c.args.folder.now in
    let names = c.args.names.now in
    let i = c.loop-name.name-index in
    let v = c.loop-name.invariant in
    let read = c.loop-name.read.items in
    let text = c.in-Ok.text in
    let is = c.in-Ok.ensures.is in
    let items = c.in_ok-push-in-Ok.ensures.items in
    let last = one_name (string_bytes {Z = Global}) names i c.name-item.result c.as_str.result.now (omega arith) c.name-item.is c.as_str.ensures.value in
    let small = is.0.size in
    let long : c.len-total.result ≡ length text.bytes.items = (let a = c.len-total.ensures in let b = text.bytes.ok in omega (arith, a, b)) in
    let short = c.if-total-gt-FOLDER_LIMIT.false in
    record {
      same = c.in-Ok.ensures.same ∙ v.same;
      later = omega (arith, c.in-Ok.ensures.cause.later, v.later);
      are = subst (λ (xs : List FileText). All (IsText folder) xs) (sym items) (all_more (IsText folder) read text v.are is.0);
      count = omega (arith, v.count, c.in_ok-push-in-Ok.ensures.len);
      names = ap (map file_of) items ∙ map-append file_of read (text ∷ []) ∙ ap (λ ns. ns ++ text.file ∷ []) v.names ∙ ap (λ n. map (string_bytes {Z = Global}) (take i names) ++ n ∷ []) is.1 ∙ sym last;
      hold = subst (λ (xs : List FileText). IfSome o (λ t. All (Holds t folder) xs)) (sym items) (hold_more o p folder read c.as_str.result.now text v.same v.hold c.in-Ok.ensures.text);
      size = subst (λ (xs : List FileText). IfSome o (λ t. c.loop-name.total + c.len-total.result ≡ total t folder (map file_of xs))) (sym items)
          (subst (λ (n : ℕ). IfSome o (λ t. c.loop-name.total + n ≡ total t folder (map file_of (read ++ text ∷ [])))) (sym long) (size_more o p folder read c.as_str.result.now text c.loop-name.total v.same c.in-Ok.ensures.text v.size));
      most = omega (arith, small, short, long);
    }
