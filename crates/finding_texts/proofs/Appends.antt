-- Texts that are added one after the other.
use Rattle.std.proofs.Common.{◌≡◌, ℕ, List, ◌++◌, ap, ◌∙◌, append_assoc}
use Rattle.std.specs.Prelude.{OnOk, Result, Ok, Err}

-- a text, and then another one
pub then_text : (old mid new a b : List ℕ) → mid ≡ old ++ a → new ≡ mid ++ b → new ≡ old ++ (a ++ b)
then_text old mid new a b e f = f ∙ ap (λ t. t ++ b) e ∙ append_assoc old a b

-- a text, and then what the last call adds
pub text_after : {T E : Type 0} (r : Result T E) (old mid new a b : List ℕ) → mid ≡ old ++ a → OnOk r (new ≡ mid ++ b) → OnOk r (new ≡ old ++ (a ++ b))
text_after (Ok x) old mid new a b e f = then_text old mid new a b e f
text_after (Err x) old mid new a b e f = tt
