-- Lines that are gone through beside those of another file.
use Rattle.std.proofs.Common.{◌≡◌, ℕ, ◌+◌, ◌<◌, ◌≤◌, Bool, false, List, [], ◌∷◌, ◌++◌, length, take, drop, get_or, map, refl, sym, ap, subst, ◌∙◌, append_assoc}
use Rattle.std.specs.Prelude.{Option, Some, None, Result, Ok, Err, IfOk}
use Rattle.std.proofs.lemmas.List.{append-nil, at_drop_more, drop_all, take_more, map-append}
use Rattle.ios_config.specs.declared.passed.Mode.TheVariants as mode
use Rattle.text_tallies.specs.Tallies.{AreSeen}
use Rattle.doctor_warnings.specs.declared.passing.Beside.{Beside}
use Rattle.doctor_warnings.specs.declared.told.ToldLine.{ToldLine}
use Rattle.doctor_warnings.specs.declared.warning.Warning.{Warning}
use Rattle.doctor_warnings.specs.declared.warning.Reason.{Reason}
use Rattle.doctor_warnings.specs.Beside.{IsBeside, IsGone, IsJudged, IsMarked, IsTold}
use Rattle.doctor_warnings.specs.Told.{key}
use Rattle.doctor_warnings.specs.Warnings.{passed_behind, passed_by, reason_by, reason_of, look_of}

-- no other file
pub judged_alone : (ks : Option (List (List ℕ))) (before : List (List ℕ)) (k : List ℕ) → IsBeside ks before None → IsJudged ks before k false None
judged_alone None before k h = record { says = refl; beside = tt }
judged_alone (Some ks) before k h = absurd h

-- another file, whose lines and this one's are counted
pub judged_beside : {E : Type 0} (ks : Option (List (List ℕ))) (before : List (List ℕ)) (k : List ℕ) (old new : Beside) (r : Result Bool E) → IsBeside ks before (Some old)
    → ((there : List (List ℕ)) → AreSeen there old.there → AreSeen before old.here → IfOk r (λ more. IsMarked there before k more new)) → IfOk r (λ only. IsJudged ks before k only (Some new))
judged_beside None before k old new r h mark = absurd h
judged_beside (Some ks) before k old new (Ok more) h mark = let m = mark ks h.there h.here in record { says = m.says; beside = m.keys }
judged_beside (Some ks) before k old new (Err e) h mark = mark ks h.there h.here

pub told_for : (ks : Option (List (List ℕ))) (before : List (List ℕ)) (path bytes : List ℕ) (t : ToldLine) (only : Bool) (b : Option Beside) (r : Option Reason) (old new : List Warning)
    → IsJudged ks before (key bytes t) only b → r ≡ reason_by (look_of bytes t) only → new ≡ old ++ passed_by path bytes t r
    → IsTold ks before (key bytes t) (passed_by path bytes t (reason_of ks before bytes t)) old new b
told_for ks before path bytes t only b r old new j e h = record {
  adds = h ∙ ap (λ r. old ++ passed_by path bytes t r) (e ∙ ap (reason_by (look_of bytes t)) j.says);
  beside = j.beside;
}

passed_next : (ks : Option (List (List ℕ))) (path bytes : List ℕ) (before : List (List ℕ)) (t : ToldLine) (ts : List ToldLine)
    → passed_by path bytes t (reason_of ks before bytes t) ++ passed_behind ks path bytes (before ++ key bytes t ∷ []) ts ≡ passed_behind ks path bytes before (t ∷ ts)
passed_next ks path bytes before t ts = refl

-- what is read where there is no line
abbrev pub no_line : ToldLine
no_line = record { number = 0; mode = mode.Banner; under = None; start = 0 }

-- one line more
module _ (bytes : List ℕ) (ts : List ToldLine) (i : ℕ) (t : ToldLine) (low : i < length ts) (is : t ≡ get_or ts i t) where
  next : take (i + 1) ts ≡ take i ts ++ t ∷ []
  next = take_more ts i t low ∙ ap (λ y. take i ts ++ y ∷ []) (sym is)

  pub keys_more : map (key bytes) (take i ts) ++ key bytes t ∷ [] ≡ map (key bytes) (take (i + 1) ts)
  keys_more = sym (ap (map (key bytes)) next ∙ map-append (key bytes) (take i ts) (t ∷ []))

  left_more : drop i ts ≡ t ∷ drop (i + 1) ts
  left_more = at_drop_more (λ ys. ys) ts i t low ∙ ap (λ z. z ∷ drop (i + 1) ts) (sym is)

  pub gone_more : (ks : Option (List (List ℕ))) (path : List ℕ) (old mid new : List Warning) (b b' : Option Beside)
      → IsGone ks path bytes ts i old mid b
      → IsTold ks (map (key bytes) (take i ts)) (key bytes t) (passed_by path bytes t (reason_of ks (map (key bytes) (take i ts)) bytes t)) mid new b'
      → IsGone ks path bytes ts (i + 1) old new b'
  gone_more ks path old mid new b b' gone told =
      let before = map (key bytes) (take i ts) in
      let here = passed_by path bytes t (reason_of ks before bytes t) in
      record {
        told = ap (λ l. l ++ passed_behind ks path bytes (map (key bytes) (take (i + 1) ts)) (drop (i + 1) ts)) told.adds
            ∙ append_assoc mid here (passed_behind ks path bytes (map (key bytes) (take (i + 1) ts)) (drop (i + 1) ts))
            ∙ ap (λ ks'. mid ++ (here ++ passed_behind ks path bytes ks' (drop (i + 1) ts))) (sym keys_more)
            ∙ ap (λ l. mid ++ l) (passed_next ks path bytes before t (drop (i + 1) ts))
            ∙ ap (λ l. mid ++ passed_behind ks path bytes before l) (sym left_more)
            ∙ gone.told;
        beside = subst (λ (ks' : List (List ℕ)). IsBeside ks ks' b') keys_more told.beside;
      }

-- all lines are gone through
pub gone_all : (ks : Option (List (List ℕ))) (path bytes : List ℕ) (ts : List ToldLine) (n : ℕ) (old new : List Warning) (b : Option Beside) → length ts ≤ n
    → IsGone ks path bytes ts n old new b → new ≡ old ++ passed_behind ks path bytes [] ts
gone_all ks path bytes ts n old new b all gone =
    sym (append-nil new) ∙ ap (λ l. new ++ passed_behind ks path bytes (map (key bytes) (take n ts)) l) (sym (drop_all n ts all)) ∙ gone.told
