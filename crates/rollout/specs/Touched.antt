-- The questions that a step may touch.
use Rattle.std.specs.Prelude.{ℕ, ◌≡◌, Bool, true, false, List, [], ◌∷◌}
use Rattle.std.specs.List.{AllZip}
use Rattle.hdr_bits.specs.declared.header.Header.{Header}
use Rattle.hdr_bits.specs.HeaderBits.{number, IsHeader}
use Rattle.hdr_bits.specs.CubeBits.{IsIn}
use Rattle.cube_diagram.specs.Functions.{Functions}
use Rattle.difference_reach.specs.declared.reach.Reach.{Reach}
use Rattle.difference_reach.specs.Reaches.{IsReach}
use Rattle.net_types.specs.declared.question.Answer.{Answer}
use Rattle.net_types.specs.declared.question.Answer.TheVariants as answer
use Rattle.net_types.specs.declared.question.Question.{Question}
use Rattle.net_types.specs.SameWalks.{SameWalksUnder}
use Rattle.net_types.specs.World.{World}
use Rattle.set_walk.specs.Scopes.{AreAlikeBeyond}

-- each header of the filter walks alike in both networks where it enters
abbrev pub Stands : World → World → Question → Type 0
Stands old new q = (h : Header) → IsHeader h → IsIn q.filter (number h) → (t : ℕ) → SameWalksUnder old new t q.from h

-- it does where the question isn't touched
abbrev pub IsTouchedSo : World → World → Question → Bool → Type 0
IsTouchedSo old new q touched = touched ≡ false → Stands old new q

abbrev pub AreTouched : World → World → List Question → List Bool → Type 0
AreTouched old new questions touched = AllZip (IsTouchedSo old new) questions touched

-- what is known of the headers that may meet a difference of the two networks
abbrev pub MayTouch : World → World → Functions → ℕ → Reach → Type 0
MayTouch old new fs scope reach = IsReach old new fs scope reach × AreAlikeBeyond old new fs scope

-- the questions that are touched, in their order
abbrev pub asked_again : List Question → List Bool → List Question
asked_again (q ∷ qs) (true ∷ ts) = q ∷ asked_again qs ts
asked_again (q ∷ qs) (false ∷ ts) = asked_again qs ts
asked_again _ _ = []

-- the answers to all questions: those of the touched ones, and Holds for all others
abbrev pub with_others : List Bool → List Answer → List Answer
with_others (true ∷ ts) (a ∷ answers) = a ∷ with_others ts answers
with_others (true ∷ ts) [] = answer.Holds ∷ with_others ts []
with_others (false ∷ ts) answers = answer.Holds ∷ with_others ts answers
with_others [] answers = []
