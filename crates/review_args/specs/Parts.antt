-- Words that are lent, as texts.
use Rattle.std.specs.Prelude.{ℕ, List, map, Vec}
use denote.Ref.{Bor}

abbrev pub texts : {A : Type 0} → Vec (Bor (List ℕ)) A → List (List ℕ)
texts v = map (λ w. w.now) v.items
