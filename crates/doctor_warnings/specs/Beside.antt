-- How often lines stand in two files, as the lines of one are gone through.
use Rattle.std.specs.Prelude.{◌≡◌, ℕ, Bool, List, [], ◌∷◌, ◌++◌, map, take, drop, Option, Some, None, count_by, nat_le}
use Rattle.std.specs.Str.{bytes_eq}
use Rattle.text_tallies.specs.Tallies.{AreSeen}
use Rattle.doctor_warnings.specs.declared.passing.Beside.{Beside}
use Rattle.doctor_warnings.specs.declared.told.ToldLine.{ToldLine}
use Rattle.doctor_warnings.specs.declared.warning.Warning.{Warning}
use Rattle.doctor_warnings.specs.Told.{key}
use Rattle.doctor_warnings.specs.Warnings.{is_only_here, passed_behind}

-- these are the keys of the other file, and those of this one so far
pub record AreKeys (ks before : List (List ℕ)) (b : Beside) : Type 0 where
  pub there : AreSeen ks b.there
  pub here : AreSeen before b.here

-- there is another file exactly where there are its keys
abbrev pub IsBeside : Option (List (List ℕ)) → List (List ℕ) → Option Beside → Type 0
IsBeside None before None = Unit {0}
IsBeside None before (Some b) = ⊥
IsBeside (Some ks) before None = ⊥
IsBeside (Some ks) before (Some b) = AreKeys ks before b

-- a key is counted, and it is judged whether it stands here more often so far
pub record IsMarked (ks before : List (List ℕ)) (k : List ℕ) (more : Bool) (b : Beside) : Type 0 where
  pub says : more ≡ nat_le (count_by (bytes_eq k) ks) (count_by (bytes_eq k) before)
  pub keys : AreKeys ks (before ++ k ∷ []) b

pub record IsJudged (ks : Option (List (List ℕ))) (before : List (List ℕ)) (k : List ℕ) (only : Bool) (b : Option Beside) : Type 0 where
  pub says : only ≡ is_only_here ks before k
  pub beside : IsBeside ks (before ++ k ∷ []) b

-- what is told of a line is added
pub record IsTold (ks : Option (List (List ℕ))) (before : List (List ℕ)) (k : List ℕ) (told old new : List Warning) (b : Option Beside) : Type 0 where
  pub adds : new ≡ old ++ told
  pub beside : IsBeside ks (before ++ k ∷ []) b

-- as many of the lines as this are gone through
pub record IsGone (ks : Option (List (List ℕ))) (path bytes : List ℕ) (ts : List ToldLine) (n : ℕ) (old new : List Warning) (b : Option Beside) : Type 0 where
  pub told : new ++ passed_behind ks path bytes (map (key bytes) (take n ts)) (drop n ts) ≡ old ++ passed_behind ks path bytes [] ts
  pub beside : IsBeside ks (map (key bytes) (take n ts)) b
