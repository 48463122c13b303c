-- Lists with their findings, one behind the other.
use Rattle.std.proofs.Common.{ℕ, ◌≡◌, ◌<◌, ◌+◌, List, [], ◌∷◌, ◌++◌, map, take, length, get_or, nat_lt, refl, ap, sym, ◌∙◌, subst, arith, append_assoc}
use Rattle.std.proofs.lemmas.List.{take_more, map-append, append-nil}
use Rattle.std.proofs.lemmas.List.Elements.{All-append, All-nil, All-push}
use Rattle.std.proofs.lemmas.Grind.{flat_map-append}
use Rattle.std.proofs.lemmas.List.Sums.{sum_by-append}
use Rattle.std.specs.List.{flat_map}
use Rattle.net_types.specs.declared.config.AccessList.{AccessList}
use Rattle.net_types.specs.declared.config.Loaded.{Loaded}
use Rattle.acl_audit.specs.declared.finding.Finding.{Finding}
use Rattle.acl_audit.specs.Findings.{AreFindings}
use Rattle.job_core.specs.declared.report.Report.{Report}
use Rattle.result_text.specs.AuditText.{audit_text, list_text, finding_count, findings_text, total_line}
use Rattle.audit_core.specs.AuditText.{Audited, audited_lists}
use Rattle.audit_core.specs.Audits.{Appends, IsAudit, IsRight, named, lists_in, lists_of}

pub appends_nothing : (text : List ℕ) (count : ℕ) → Appends [] text text count count
appends_nothing text count =
    record { audited = []; every = refl; right = All-nil IsRight; text = sym (append-nil text); count = omega arith }

pub appends_one : (file : List ℕ) (list : AccessList) (fs : List Finding) (old new : List ℕ) (before now : ℕ) → AreFindings list.entries (length list.entries) fs → new ≡ old ++ findings_text audited_lists file list.name fs → now ≡ before + length fs → Appends ((file, list) ∷ []) old new before now
appends_one file list fs old new before now r t c =
    let a : Audited = record { file = file; list = list; findings = fs } in
    record {
      audited = a ∷ [];
      every = refl;
      right = All-push IsRight [] a (All-nil IsRight) r;
      text = t ∙ ap (λ x. old ++ x) (sym (append-nil (findings_text audited_lists file list.name fs)));
      count = (let d : finding_count audited_lists (a ∷ []) ≡ length fs = omega arith in omega (arith, c, d));
    }

pub appends_then : (xs ys : List (List ℕ × AccessList)) (a b c : List ℕ) (i j k : ℕ) → Appends xs a b i j → Appends ys b c j k → Appends (xs ++ ys) a c i k
appends_then xs ys a b c i j k p q =
    let m = p.count in
    let n = q.count in
    let s = sum_by-append (λ (x : Audited). length x.findings) p.audited q.audited in
    record {
      audited = p.audited ++ q.audited;
      every = map-append named p.audited q.audited ∙ (ap (λ z. z ++ map named q.audited) p.every ∙ ap (λ z. xs ++ z) q.every);
      right = All-append IsRight p.audited q.audited p.right q.right;
      text = q.text ∙ (ap (λ z. z ++ flat_map (list_text audited_lists) q.audited) p.text ∙ (append_assoc a (flat_map (list_text audited_lists) p.audited) (flat_map (list_text audited_lists) q.audited) ∙ ap (λ z. a ++ z) (sym (flat_map-append (list_text audited_lists) p.audited q.audited))));
      count = omega (arith, m, n, s);
    }

-- one list more of a configuration
pub appends_list : (file : List ℕ) (ls : List AccessList) (i : ℕ) (l : AccessList) (a b c : List ℕ) (j k m : ℕ) → i < length ls → l ≡ get_or ls i l → Appends (map (λ x. (file, x)) (take i ls)) a b j k → Appends ((file, l) ∷ []) b c k m → Appends (map (λ x. (file, x)) (take (i + 1) ls)) a c j m
appends_list file ls i l a b c j k m h q p r =
    let t : take (i + 1) ls ≡ take i ls ++ l ∷ [] = rw (← q) at (take_more ls i l h) in
    let e : map (λ x. (file, x)) (take (i + 1) ls) ≡ map (λ x. (file, x)) (take i ls) ++ (file, l) ∷ [] = ap (λ xs. map (λ x. (file, x)) xs) t ∙ map-append (λ x. (file, x)) (take i ls) (l ∷ []) in
    subst (λ xs. Appends xs a c j m) (sym e) (appends_then (map (λ x. (file, x)) (take i ls)) ((file, l) ∷ []) a b c j k m p r)

-- one configuration more
pub appends_device : (ds : List Loaded) (i : ℕ) (d : Loaded) (a b c : List ℕ) (j k m : ℕ) → i < length ds → d ≡ get_or ds i d → Appends (lists_of (take i ds)) a b j k → Appends (lists_in d) b c k m → Appends (lists_of (take (i + 1) ds)) a c j m
appends_device ds i d a b c j k m h q p r =
    let t : take (i + 1) ds ≡ take i ds ++ d ∷ [] = rw (← q) at (take_more ds i d h) in
    let e : lists_of (take (i + 1) ds) ≡ lists_of (take i ds) ++ lists_in d = ap lists_of t ∙ (flat_map-append lists_in (take i ds) (d ∷ []) ∙ ap (λ z. lists_of (take i ds) ++ z) (append-nil (lists_in d))) in
    subst (λ xs. Appends xs a c j m) (sym e) (appends_then (lists_of (take i ds)) (lists_in d) a b c j k m p r)

-- all of them, and the last line
pub whole_audit : (ds : List Loaded) (body : List ℕ) (count : ℕ) (r : Report) → Appends (lists_of ds) [] body 0 count → r.text.items ≡ body ++ total_line count → r.affected ≡ nat_lt 0 count → IsAudit ds r
unfolding audit_text
whole_audit ds body count r p t f =
    let q = p.count in
    let n : count ≡ finding_count audited_lists p.audited = omega (arith, q) in
    record {
      audited = p.audited;
      every = p.every;
      right = p.right;
      text = t ∙ (ap (λ z. z ++ total_line count) p.text ∙ ap (λ z. flat_map (list_text audited_lists) p.audited ++ total_line z) n);
      affected = f ∙ ap (λ z. nat_lt 0 z) n;
    }
