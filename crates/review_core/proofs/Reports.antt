-- The report on ingresses one behind the other.
use Rattle.std.proofs.Common.{List, [], ◌∷◌, ◌++◌}
use Rattle.std.specs.List.{AllZip}

-- two lists that agree place by place, and two more behind them
pub zip_behind : {X Y : Type 0} (R : X → Y → Type 0) (xs us : List X) (ys vs : List Y) → AllZip R xs ys → AllZip R us vs → AllZip R (xs ++ us) (ys ++ vs)
zip_behind R [] us [] vs a b = b
zip_behind R [] us (y ∷ ys) vs a b = absurd a
zip_behind R (x ∷ xs) us [] vs a b = absurd a
zip_behind R (x ∷ xs) us (y ∷ ys) vs a b = (a.0, zip_behind R xs us ys vs a.1 b)
