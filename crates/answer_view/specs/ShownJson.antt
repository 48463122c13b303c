-- Answers as one document of JSON.
use Rattle.std.specs.Prelude.{ℕ, Bool, List, ◌++◌, Option, Some, None, length, codes, decimal}
use Rattle.std.specs.List.{join_by}
use Rattle.hdr_bits.specs.declared.header.Header.{Header}
use Rattle.net_types.specs.declared.question.Answer.{Answer}
use Rattle.net_types.specs.declared.question.Answer.TheVariants.{Holds, Fails}
use Rattle.json_text.specs.Json.{string_member, header_members}
use Rattle.answer_view.specs.declared.groups.Group.{Group}
use Rattle.answer_view.specs.declared.answered.Answered.{Answered}
use Rattle.answer_view.specs.Answered.{group_of, group_name, groups_of, count_in}
use Rattle.answer_view.specs.Packet.{packet_words}

unfoldable pub packet_json : Header → List ℕ
packet_json h = codes "{" ++ header_members h ++ codes ", " ++ string_member (codes "words") (packet_words h) ++ codes "}"

unfoldable pub fails_json : Header → List ℕ
fails_json h = codes "{\"holds\": false, \"packet\": " ++ packet_json h ++ codes "}"

unfoldable pub answer_json : Answer → List ℕ
answer_json Holds = codes "{\"holds\": true}"
answer_json (Fails h) = fails_json h

abbrev pub before_json : Option Answer → List ℕ
before_json None = codes "null"
before_json (Some a) = answer_json a

-- the question
unfoldable pub question_members : Answered → List ℕ
question_members t =
    codes "\"number\": " ++ decimal t.number
    ++ codes ", \"line\": " ++ decimal t.question.line
    ++ codes ", " ++ string_member (codes "question") t.question.words

-- what became of it, and its answers
unfoldable pub answer_members : Answered → List ℕ
answer_members t =
    codes ", " ++ string_member (codes "group") (group_name (group_of t))
    ++ codes ", \"before\": " ++ before_json t.before
    ++ codes ", \"after\": " ++ answer_json t.after

unfoldable pub question_json : Answered → List ℕ
question_json t = codes "{" ++ question_members t ++ answer_members t ++ codes "}"

unfoldable pub count_member : List Answered → Group → List ℕ
count_member answered g = codes "\"" ++ group_name g ++ codes "\": " ++ decimal (count_in answered g)

-- the schema with its version, up to the number of all questions
unfoldable pub json_front : List ℕ
json_front = codes "{\"schema\": \"diqenyu-answers\", \"version\": 1, \"questions\": "

-- how many questions there are, and how many of each group
unfoldable pub counts_json : Bool → List Answered → List ℕ
counts_json compared answered =
    json_front ++ decimal (length answered)
    ++ codes ",\n\"groups\": {" ++ join_by (count_member answered) (codes ", ") (groups_of compared)

-- the counts, and all questions in their order
unfoldable pub answers_json : Bool → List Answered → List ℕ
answers_json compared answered = counts_json compared answered ++ codes "},\n\"answers\": [" ++ join_by question_json (codes ",\n") answered ++ codes "]}\n"
