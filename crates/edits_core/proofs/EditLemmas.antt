-- Edits that are made one after the other.
use Rattle.std.proofs.Common.{◌≡◌, ℕ, ◌+◌, ◌<◌, ◌≤◌, List, [], ◌∷◌, ◌++◌, length, take, drop, get_or, refl, sym, ap, subst, ◌∙◌}
use Rattle.std.specs.Prelude.{Result, Ok}
use Rattle.std.specs.List.{flat_map}
use Rattle.std.proofs.lemmas.List.{append-nil, at_drop_more, map-append, take_all, take_more}
use Rattle.std.proofs.lemmas.Grind.{flat_map-append}
use Rattle.net_types.specs.declared.network.Names.{Names}
use Rattle.net_types.specs.declared.network.Network.{Network}
use Rattle.net_types.specs.World.{World}
use Rattle.incr_review.specs.declared.edits.EditKind.{EditKind}
use Rattle.incr_review.specs.Edited.{edited}
use Rattle.edit_lines.specs.declared.reading.EditLine.{EditLine}
use Rattle.edit_lines.specs.declared.refusal.EditsFail.{EditsFail}
use Rattle.edit_lines.specs.Refusals.{◌>>=◌}
use Rattle.incr_review.specs.Reviews.{ReviewState}
use Rattle.incr_review.specs.Reviews as review
use Rattle.net_types.specs.Report.{IsReport}
use Rattle.report_text.specs.ReportText.{report_text}
use Rattle.job_core.specs.declared.report.Report.{Report}
use Rattle.job_core.specs.declared.stop.Stop.{Stop}
use Rattle.job_core.specs.declared.stop.Stop.TheVariants as stop
use Rattle.edits_core.specs.Edits.{AreDone, Done, HasRows, IsReported, IsReview, Makes, at_line, first_ttl, count_text, done_text, edit_at, last_after, network_after}
use Rattle.edits_core.specs.Job.{Refuses}

done_more : (old : World) (net : Network) (ds : List Done) (d : Done) → AreDone old net ds → edited d.of.edit (last_after net ds) ≡ Ok d.after → HasRows old d.after d.count → AreDone old net (ds ++ d ∷ [])
done_more old net [] d a e r = (e, r, tt)
done_more old net (x ∷ ds) d (made, rows, rest) e r = (made, rows, done_more old x.after ds d rest e r)

last_more : (net : Network) (ds : List Done) (d : Done) → last_after net (ds ++ d ∷ []) ≡ d.after
last_more net [] d = refl
last_more net (x ∷ ds) d = last_more x.after ds d

pub makes_none : (old : World) (net : Network) (lines : List EditLine) (text : List ℕ) → text ≡ [] → Makes old net (take 0 lines) net [] text
makes_none old net lines text none = record { done = []; every = refl; right = tt; last = refl; text = none }

-- one edit more
pub makes_more : (old : World) (net mid after : Network) (lines : List EditLine) (i : ℕ) (l : EditLine) (count : ℕ) (now new : List ℕ)
    → i < length lines → l ≡ get_or lines i l
    → Makes old net (take i lines) mid [] now → edited l.edit mid ≡ Ok after → HasRows old after count → new ≡ now ++ count_text l.line count
    → Makes old net (take (i + 1) lines) after [] new
makes_more old net mid after lines i l count now new h q m made rows text =
    let d : Done = record { of = l; after = after; count = count } in
    let t : take (i + 1) lines ≡ take i lines ++ l ∷ [] = rw (← q) at (take_more lines i l h) in
    record {
      done = m.done ++ d ∷ [];
      every = map-append (λ x. x.of) m.done (d ∷ []) ∙ ap (λ ls. ls ++ l ∷ []) m.every ∙ sym t;
      right = done_more old net m.done d m.right (subst (λ n. edited l.edit n ≡ Ok after) m.last made) rows;
      last = sym (last_more net m.done d);
      text = text ∙ ap (λ x. x ++ count_text l.line count) m.text ∙ ap (λ x. flat_map done_text m.done ++ x) (sym (append-nil (count_text l.line count))) ∙ sym (flat_map-append done_text m.done (d ∷ []));
    }

-- all of them
pub makes_all : (old : World) (net after : Network) (lines : List EditLine) (i : ℕ) (text : List ℕ) → length lines ≤ i → Makes old net (take i lines) after [] text → Makes old net lines after [] text
makes_all old net after lines i text h m = subst (λ ls. Makes old net ls after [] text) (take_all i lines h) m

-- the rows of a review are those of its two worlds
pub rows_of : (old : World) (r : ReviewState) (count : ℕ) → r.baseline ≡ old → r.ttl ≡ first_ttl → review.HasRows r count → HasRows old r.edited count
rows_of old r count same ttl h = record {
  sections = h.sections;
  report =
      subst (λ (w : World). IsReport w.links.ingress w (record { network = r.edited; links = w.links }) first_ttl h.sections) same
      (subst (λ (t : ℕ). IsReport r.baseline.links.ingress r.baseline (record { network = r.edited; links = r.baseline.links }) t h.sections) ttl h.report);
  count_is = h.count_is;
}

-- ---- refusals

dropped : {A : Type 0} (xs : List A) (i : ℕ) (x : A) → i < length xs → x ≡ get_or xs i x → drop i xs ≡ x ∷ drop (i + 1) xs
dropped xs i x l e = at_drop_more (λ ys. ys) xs i x l ∙ ap (λ z. z ∷ drop (i + 1) xs) (sym e)

module _ (lines : List EditLine) (i : ℕ) (l : EditLine) (h : i < length lines) (q : l ≡ get_or lines i l) (cur : Network) (total : Result Network EditsFail) (so_far : network_after cur (drop i lines) ≡ total) where
  rest : Network → Result Network EditsFail
  rest after = network_after after (drop (i + 1) lines)

  pub goes_on : (new : Network) → edited l.edit cur ≡ Ok new → network_after new (drop (i + 1) lines) ≡ total
  goes_on new made =
      sym (ap (λ (r : Result Network EditKind). at_line l r >>= λ after. network_after after (drop (i + 1) lines)) made)
      ∙ sym (ap (network_after cur) (dropped lines i l h q))
      ∙ so_far

  pub stops : (path : List ℕ) (s : Stop) → Refuses path (edit_at cur l) s → Refuses path total s
  stops path stop.NoMemory r = tt
  stops path (stop.CannotRead p) r = r
  stops path (stop.NotFound p) r = r
  stops path (stop.TooLong p) r = r
  stops path (stop.TooManyFiles p) r = r
  stops path (stop.HostnameTaken p x) r = r
  stops path (stop.Refused p n k w) (same, kind, named, refused) =
      (same, kind, named, sym so_far ∙ ap (network_after cur) (dropped lines i l h q) ∙ ap (λ (r : Result Network EditsFail). r >>= λ after. network_after after (drop (i + 1) lines)) refused)

pub first_network : (net : Network) (lines : List EditLine) → network_after net (drop 0 lines) ≡ network_after net lines
first_network net lines = refl

-- ---- the whole

pub whole : (names : Names) (old base : World) (net after : Network) (lines : List EditLine) (text : List ℕ) (r : Report) → base ≡ old → net ≡ old.network → Makes base net lines after [] text → IsReported names base after text r → IsReview names old lines r
whole names old base net after lines text r same first m reported =
    let made : Makes old old.network lines after [] text = subst (λ (n : Network). Makes old n lines after [] text) first (subst (λ (w : World). Makes w net lines after [] text) same m) in
    let on : IsReported names old (last_after old.network made.done) text r = subst (λ (n : Network). IsReported names old n text r) made.last (subst (λ (w : World). IsReported names w after text r) same reported) in
    record { done = made.done; every = made.every; right = made.right; sections = on.sections; report = on.report; text = on.text ∙ ap (λ (x : List ℕ). x ++ report_text names on.sections) made.text; affected = on.affected }
