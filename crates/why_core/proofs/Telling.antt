-- What is told of a report, from what is told of its groups.
use Rattle.std.proofs.Common.{◌≡◌, ℕ, true, List, ◌++◌, length, map, Result, Ok, Err, IfOk, inr, sym, ap, ◌∙◌, subst}
use Rattle.std.specs.Prelude.{Contains}
use Rattle.std.specs.List.{list_all}
use Rattle.std.proofs.lemmas.List.{length-map}
use Rattle.net_types.specs.declared.network.Place.{Place}
use Rattle.net_types.specs.declared.network.Section.{Section}
use Rattle.report_groups.specs.declared.types.Entry.{Entry}
use Rattle.why_core.specs.declared.explain.Told.{Told}
use Rattle.why_core.specs.declared.explain.Told.TheVariants.{Explained, Other}
use Rattle.why_core.specs.declared.cases.CaseRef.{CaseRef}
use Rattle.why_core.specs.declared.words.Manner.{Manner}
use Rattle.why_core.specs.Cases.{AreGroups, Case, Ground, case_in, cases, explained, is_right}
use Rattle.why_core.specs.Shown.{IsGathered, IsShown, case_shown}
use Rattle.why_core.specs.Told.{AreRight, IsTold, IsToldOf}
use Rattle.why_core.specs.Why.{AreOfIngresses}

module _ (g : Ground) (ingress : List Place) (m : Manner) (sections : List Section) (of : AreOfIngresses g sections ingress) (groups : List (List Entry)) (grouped : AreGroups sections groups) (cs : List Case) (is : cs ≡ cases sections ingress groups) where
  told_one : (t : Told) → IsToldOf g cs m t → IsTold g ingress m sections t
  told_one (Explained text) h =
      record {
        ingresses = of;
        groups = groups;
        grouped = grouped;
        right = subst (λ l. list_all (is_right g) (explained m.all l) ≡ true) is h.0;
        shown = subst (λ l. IsShown g m l text.items) is h.1;
      }
  told_one (Other line) h =
      inr (record {
        groups = groups;
        grouped = grouped;
        case = h.0;
        among = subst (λ l. Contains (explained m.all l) h.0) is h.1.0;
        wrong = h.1.1;
        line_is = h.2;
      })

  pub told_all : {E : Type 0} (r : Result Told E) → IfOk r (IsToldOf g cs m) → IfOk r (IsTold g ingress m sections)
  told_all (Ok t) h = told_one t h
  told_all (Err e) h = tt

-- of none of the groups that are explained the report says something else: these are what is shown
pub none_wrong : (g : Ground) (m : Manner) (cs some : List CaseRef) (told : List (List ℕ)) (text : List ℕ) → map case_in some ≡ explained m.all (map case_in cs)
    → told ≡ map (case_shown m.format g) (map case_in some) → IsGathered m.format (length cs) told text → AreRight g (map case_in some)
    → AreRight g (explained m.all (map case_in cs)) × IsShown g m (map case_in cs) text
none_wrong g m cs some told text these each gathered right =
    let of_these : told ≡ map (case_shown m.format g) (explained m.all (map case_in cs)) = each ∙ ap (map (case_shown m.format g)) these in
    let shown = subst (λ l. IsGathered m.format (length cs) l text) of_these gathered in
    (subst (AreRight g) these right, subst (λ n. IsGathered m.format n (map (case_shown m.format g) (explained m.all (map case_in cs))) text) (sym (length-map cs case_in)) shown)
