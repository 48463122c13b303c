-- What a sink took.
use Rattle.std.specs.Prelude.{◌≡◌, ℕ, List, ◌++◌, Option, take, option_map}

-- the sink took some prefix of the bytes
abbrev pub TookPrefix : Option (List ℕ) → List ℕ → Option (List ℕ) → Type 0
TookPrefix before bytes now = (n : ℕ) × (now ≡ option_map (λ taken. taken ++ take n bytes) before)
