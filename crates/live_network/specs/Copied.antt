-- Ways that are copied to another table.
use Rattle.std.specs.Prelude.{ℕ, ◌≡◌, ◌<◌, ◌↔◌, List, Some, slice_get}
use Rattle.std.specs.List.{AllZip}
use Rattle.hdr_bits.specs.declared.header.Header.{Header}
use Rattle.cube_diagram.specs.Functions.{Functions, count_of}
use Rattle.set_walk.specs.declared.net.PlaceWays.{PlaceWays}
use Rattle.set_walk.specs.declared.step.Way.{Way}
use Rattle.set_walk.specs.Sets.{InSet}

-- the copy, a set of the second table, has the headers that the set has in the first
pub record IsSetCopy (s : Functions) (set : ℕ) (t : Functions) (copy : ℕ) : Type 0 where
  pub below : copy < count_of t
  pub same : (h : Header) → InSet t copy h ↔ InSet s set h

-- the second way has the step of the first, for the same headers
pub record IsWayCopy (s t : Functions) (x y : Way) : Type 0 where
  pub step : y.step ≡ x.step
  pub headers : IsSetCopy s x.headers t y.headers

abbrev pub AreWayCopies : Functions → Functions → List Way → List Way → Type 0
AreWayCopies s t xs ys = AllZip (IsWayCopy s t) xs ys

-- at the position stands a list of copies of these ways
pub record HasCopyAt (s t : Functions) (lists : List PlaceWays) (i : ℕ) (v : PlaceWays) : Type 0 where
  pub list : PlaceWays
  pub there : slice_get lists i ≡ Some list
  pub copies : AreWayCopies s t v.ways.items list.ways.items

-- so it does at each of these positions
abbrev pub HaveCopies : Functions → Functions → List PlaceWays → List PlaceWays → (ℕ → Type 0) → Type 0
HaveCopies s t old new P = (i : ℕ) (v : PlaceWays) → P i → slice_get old i ≡ Some v → HasCopyAt s t new i v
