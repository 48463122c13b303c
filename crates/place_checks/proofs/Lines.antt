-- The ends of a line, beside the first of them.
use Rattle.std.proofs.Common.{◌≡◌, ℕ, ◌<◌, List, [], ◌∷◌, length, get_or, ap, arith}
use Rattle.std.specs.Prelude.{flat_map}
use Rattle.topo_links.specs.Ends.{End}
use Rattle.place_checks.specs.Findings.{Pair, end_findings, ends_findings}

pub beside_first : (p : Pair) (n : ℕ) (xs : List End) (f : End) → 0 < length xs → f ≡ get_or xs 0 f → flat_map (end_findings p n f) xs ≡ ends_findings p n xs
beside_first p n [] f h e = absurd (omega arith)
beside_first p n (x ∷ xs) f h e = ap (λ g. flat_map (end_findings p n g) (x ∷ xs)) e
