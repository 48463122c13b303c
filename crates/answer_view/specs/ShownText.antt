-- Answers as text for a person.
use Rattle.std.specs.Prelude.{ℕ, Bool, ◌&&◌, List, [], ◌++◌, Option, Some, None, length, nat_lt, codes, decimal, if◌then◌else◌}
use Rattle.std.specs.List.{flat_map, join_by}
use Rattle.net_types.specs.declared.question.Answer.{Answer}
use Rattle.net_types.specs.declared.question.Answer.TheVariants.{Holds, Fails}
use Rattle.answer_view.specs.declared.groups.Group.{Group}
use Rattle.answer_view.specs.declared.answered.Answered.{Answered}
use Rattle.answer_view.specs.Answered.{group_name, groups_of, is_listed, is_in, count_in}
use Rattle.answer_view.specs.Packet.{packet_words}

-- ---- a question

-- its number, its line in the file, and its words
unfoldable pub name_text : Answered → List ℕ
name_text t = decimal t.number ++ codes " (line " ++ decimal t.question.line ++ codes "): " ++ t.question.words

-- the packet for which an answer fails
unfoldable pub packet_line : List ℕ → Answer → List ℕ
packet_line side Holds = []
packet_line side (Fails h) = codes "    packet" ++ side ++ codes ": " ++ packet_words h ++ codes "\n"

abbrev pub before_line : Option Answer → List ℕ
before_line None = []
before_line (Some a) = packet_line (codes " before") a

unfoldable pub question_text : Answered → List ℕ
question_text t = codes "  " ++ name_text t ++ codes "\n" ++ before_line t.before ++ packet_line [] t.after

-- ---- groups

abbrev pub question_part : Group → Answered → List ℕ
question_part g t = if is_in g t then question_text t else []

-- a group behind its name
unfoldable pub group_text : List Answered → Group → List ℕ
group_text answered g = codes "\n" ++ group_name g ++ codes "\n" ++ flat_map (question_part g) answered

-- a group that has no question has no part
abbrev pub group_part : List Answered → Group → List ℕ
group_part answered g = if is_listed g && nat_lt 0 (count_in answered g) then group_text answered g else []

unfoldable pub count_text : List Answered → Group → List ℕ
count_text answered g = group_name g ++ codes " " ++ decimal (count_in answered g)

-- how many questions there are, and how many of each group
unfoldable pub head_text : Bool → List Answered → List ℕ
head_text compared answered =
    codes "questions " ++ decimal (length answered) ++ codes ": " ++ join_by (count_text answered) (codes ", ") (groups_of compared) ++ codes "\n"

-- the counts, and the questions of the groups that are shown
unfoldable pub view_text : Bool → List Answered → List ℕ
view_text compared answered = head_text compared answered ++ flat_map (group_part answered) (groups_of compared)
