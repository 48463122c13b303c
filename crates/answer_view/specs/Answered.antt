-- Questions with their answers, in groups.
use Rattle.std.specs.Prelude.{ℕ, ◌+◌, ◌==◌, Bool, true, false, List, [], ◌∷◌, Option, Some, None, filter, length, codes}
use Rattle.net_types.specs.declared.question.Answer.{Answer}
use Rattle.net_types.specs.declared.question.Answer.TheVariants.{Holds, Fails}
use Rattle.answer_view.specs.declared.asked.Asked.{Asked}
use Rattle.answer_view.specs.declared.groups.Group.{Group}
use Rattle.answer_view.specs.declared.groups.Group.TheVariants as group
use Rattle.answer_view.specs.declared.answered.Answered.{Answered}

-- each question, numbered from k on, with its answer before, where it has one, and now
abbrev pub answered_from : ℕ → List Asked → List (Option Answer) → List Answer → List Answered
answered_from k (q ∷ asked) (b ∷ before) (a ∷ after) = record { number = k; question = q; before = b; after = a } ∷ answered_from (k + 1) asked before after
answered_from k asked before after = []

-- ---- groups

-- what became of a question; of one that has no answer before, what it is
abbrev pub group_by : Option Answer → Answer → Group
group_by None Holds = group.Holds
group_by None (Fails h) = group.Fails
group_by (Some Holds) Holds = group.HoldsInBoth
group_by (Some Holds) (Fails h) = group.FailsNow
group_by (Some (Fails g)) Holds = group.HoldsNow
group_by (Some (Fails g)) (Fails h) = group.FailsInBoth

abbrev pub group_of : Answered → Group
group_of t = group_by t.before t.after

abbrev pub group_name : Group → List ℕ
group_name group.FailsNow = codes "fail now"
group_name group.FailsInBoth = codes "fail in both"
group_name group.HoldsNow = codes "hold only now"
group_name group.HoldsInBoth = codes "hold in both"
group_name group.Fails = codes "fail"
group_name group.Holds = codes "hold"

-- the groups in the order in which they are shown: of questions with an answer before, and of others
abbrev pub groups_of : Bool → List Group
groups_of true = group.FailsNow ∷ group.FailsInBoth ∷ group.HoldsNow ∷ group.HoldsInBoth ∷ []
groups_of false = group.Fails ∷ group.Holds ∷ []

-- the questions of the group are shown, and not only counted
abbrev pub is_listed : Group → Bool
is_listed group.HoldsInBoth = false
is_listed group.Holds = false
is_listed _ = true

abbrev pub place_of : Group → ℕ
place_of group.FailsNow = 0
place_of group.FailsInBoth = 1
place_of group.HoldsNow = 2
place_of group.HoldsInBoth = 3
place_of group.Fails = 4
place_of group.Holds = 5

-- the question is one of the group
abbrev pub is_in : Group → Answered → Bool
is_in g t = place_of (group_of t) == place_of g

-- how many questions the group has
unfoldable pub count_in : List Answered → Group → ℕ
count_in answered g = length (filter (is_in g) answered)
