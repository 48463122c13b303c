-- Lines that stand two blanks to the right.
use Rattle.std.specs.Prelude.{ℕ, Bool, true, false, ◌==◌, List, [], ◌∷◌, ◌++◌, if◌then◌else◌}

-- a byte, behind two blanks where a line begins
abbrev pub indented_byte : Bool → ℕ → List ℕ
indented_byte begins b = if begins then 32 ∷ 32 ∷ b ∷ [] else b ∷ []

-- a text, where a line begins or goes on: a line begins behind each LF
abbrev pub indented_from : Bool → List ℕ → List ℕ
indented_from begins [] = []
indented_from begins (b ∷ bs) = indented_byte begins b ++ indented_from (b == 10) bs

-- two blanks before each line
abbrev pub indented : List ℕ → List ℕ
indented text = indented_from true text

-- back: a text without the two bytes before each line
abbrev pub outdented_from : Bool → List ℕ → List ℕ
outdented_from true (a ∷ b ∷ c ∷ bs) = c ∷ outdented_from (c == 10) bs
outdented_from true (a ∷ b ∷ []) = []
outdented_from true (a ∷ []) = []
outdented_from true [] = []
outdented_from false [] = []
outdented_from false (b ∷ bs) = b ∷ outdented_from (b == 10) bs

abbrev pub outdented : List ℕ → List ℕ
outdented text = outdented_from true text
