-- How notes are written: a line each, with the file and the line first, or counted.
use Rattle.std.specs.Prelude.{◌≡◌, ℕ, Bool, true, false, ◌||◌, ◌==◌, nat_lt, List, [], ◌∷◌, ◌++◌, map, length, Option, Some, None, slice_get, codes, decimal, if◌then◌else◌}
use Rattle.std.specs.List.{flat_map}
use Rattle.look_alikes.specs.declared.look.LookAlike.{LookAlike}
use Rattle.look_alikes.specs.declared.look.LookAlike.TheVariants as look
use Rattle.look_alikes.specs.Commands.{command_text}
use Rattle.finding_texts.specs.ConfigTexts.{config_text}
use Rattle.finding_texts.specs.PlaceTexts.{line_of, place_text as finding_text}
use Rattle.finding_texts.specs.Shown.{shown}
use Rattle.finding_texts.specs.StrayTexts.{stray_text}
use Rattle.text_tallies.specs.declared.tallies.Tally.{Tally}
use Rattle.text_tallies.specs.Tallies.{AreTallies}
use Rattle.doctor_warnings.specs.declared.limit.Limit.{Limit}
use Rattle.doctor_warnings.specs.declared.limit.LimitKind.{LimitKind}
use Rattle.doctor_warnings.specs.declared.limit.LimitKind.TheVariants as limit
use Rattle.doctor_warnings.specs.declared.listing.ListedLine.{ListedLine}
use Rattle.doctor_warnings.specs.declared.network.Notes.{Notes}
use Rattle.doctor_warnings.specs.declared.warning.Reason.{Reason}
use Rattle.doctor_warnings.specs.declared.warning.Reason.TheVariants as reason
use Rattle.doctor_warnings.specs.declared.warning.Warning.{Warning}
use Rattle.doctor_warnings.specs.declared.warning.Warning.TheVariants as warning

-- a text of the file behind a colon, or nothing
abbrev pub shown_behind : List ℕ → List ℕ
shown_behind [] = []
shown_behind (b ∷ bs) = codes ": " ++ shown (b ∷ bs)

-- a word of the file behind a blank, or nothing where there is none
abbrev pub shown_word : List ℕ → List ℕ
shown_word [] = []
shown_word (b ∷ bs) = 32 ∷ shown (b ∷ bs)

-- `PATH:LINE`, without a number where the whole file is meant
abbrev pub place_text : List ℕ → ℕ → List ℕ
place_text path line = if line == 0 then shown path else shown path ++ codes ":" ++ decimal line

abbrev pub head_text : List ℕ → ℕ → List ℕ
head_text path line = place_text path line ++ codes ": "

abbrev pub look_text : LookAlike → List ℕ
look_text look.Pager = codes "has a pager's mark"
look_text look.Prompt = codes "has a prompt"
look_text (look.Like c) = codes "looks like " ++ command_text c

abbrev pub reason_text : Reason → List ℕ
reason_text (reason.Looks l) = codes "passed over, " ++ look_text l
reason_text reason.OnlyHere = codes "passed over, only in this folder"
reason_text reason.Idle = codes "passed over, and no packet depends on it"

abbrev pub refused_text : List ℕ → List ℕ → List ℕ → List ℕ
refused_text kind word text = codes "refused " ++ kind ++ shown_word word ++ shown_behind text

-- the file that a warning is about, and its line, from 1; 0 where the whole file is meant
abbrev pub warned_path : Warning → List ℕ
warned_path (warning.NoConfigs folder) = folder
warned_path (warning.Unread path) = path
warned_path (warning.OneFolder path) = path
warned_path (warning.HostTaken path first) = path
warned_path (warning.Refused path line kind word text) = path
warned_path (warning.Passed path line r text) = path
warned_path (warning.Config path f) = path
warned_path (warning.Place path two f) = path
warned_path (warning.Stray path two s) = path

abbrev pub warned_line : Warning → ℕ
warned_line (warning.Refused path line kind word text) = line
warned_line (warning.Passed path line r text) = line
warned_line (warning.Place path two f) = line_of f
warned_line (warning.Stray path two s) = s.line
warned_line _ = 0

-- what it says of it
abbrev pub says_text : Warning → List ℕ
says_text (warning.NoConfigs folder) = codes "no file whose name ends in .cfg"
says_text (warning.Unread path) = codes "not read, since its name doesn't end in .cfg"
says_text (warning.OneFolder path) = codes "the other folder has no file of this name"
says_text (warning.HostTaken path first) = codes "refused hostname taken by " ++ shown first
says_text (warning.Refused path line kind word text) = refused_text kind word text
says_text (warning.Passed path line r text) = reason_text r ++ shown_behind text
says_text (warning.Config path f) = config_text f
says_text (warning.Place path two f) = finding_text two f
says_text (warning.Stray path two s) = stray_text two s

abbrev pub warning_text : Warning → List ℕ
warning_text w = head_text (warned_path w) (warned_line w) ++ says_text w

abbrev pub warning_line : Warning → List ℕ
warning_line w = warning_text w ++ 10 ∷ []

-- ---- what texts have in common

-- ` (N), first PATH:LINE`: how many there are, and where the first one is
abbrev pub count_text : ℕ → List ℕ → ℕ → List ℕ
count_text n path line = codes " (" ++ decimal n ++ codes "), first " ++ place_text path line

-- ---- limits

-- what becomes of such a network, and the chapter of the guide
abbrev pub kind_text : LimitKind → List ℕ
kind_text limit.Ethernet = codes "a packet to an unused address of the subnet, as its first one, goes to and fro until it expires; GUIDE.md, section 7"
kind_text limit.Prepared = codes "refused; prepare brings it into what is read; GUIDE.md, section 15"
kind_text limit.Idle = codes "passed over, and not compared"
kind_text limit.Refused = codes "refused, since it isn't in the model; GUIDE.md, section 14"

abbrev pub is_idle : LimitKind → Bool
is_idle limit.Idle = true
is_idle _ = false

abbrev pub limit_text : Tally → Limit → List ℕ
limit_text r l = codes "limit: " ++ shown r.text ++ count_text r.count l.path l.line ++ codes ": " ++ kind_text l.kind ++ 10 ∷ []

-- limits of the model are told where they are asked for; how many lines no packet depends on is told always
abbrev pub limit_by : Bool → Tally → Option Limit → List ℕ
limit_by asked r None = []
limit_by asked r (Some l) = if asked || is_idle l.kind then limit_text r l else []

abbrev pub limit_line : Bool → List Limit → Tally → List ℕ
limit_line asked ls r = limit_by asked r (slice_get ls r.first)

-- ---- lines that are passed over

abbrev pub counted_if_any : Tally → Option ListedLine → List ℕ
counted_if_any r None = []
counted_if_any r (Some l) = codes "passed over: " ++ shown r.text ++ count_text r.count l.path l.line ++ 10 ∷ []

abbrev pub counted_line : List ListedLine → Tally → List ℕ
counted_line ls r = counted_if_any r (slice_get ls r.first)

abbrev pub listed_line : ListedLine → List ℕ
listed_line l = head_text l.path l.line ++ codes "passed over" ++ shown_behind l.text ++ 10 ∷ []

-- ---- all together

-- limits are asked for by a warning, or where all is
abbrev pub are_asked : Bool → List Warning → Bool
are_asked all ws = all || nat_lt 0 (length ws)

-- the warnings, the limits, the lines that are passed over, first as they are counted; and how many warnings there are
abbrev pub notes_text : Bool → Notes → List Tally → List Tally → List ℕ
notes_text all n limits lines =
    flat_map warning_line n.warnings
    ++ flat_map (limit_line (are_asked all n.warnings) n.limits) limits
    ++ flat_map (counted_line n.lines) lines
    ++ flat_map listed_line n.lines
    ++ codes "warnings " ++ decimal (length n.warnings) ++ 10 ∷ []

abbrev pub limit_words : List Limit → List (List ℕ)
limit_words ls = map (λ l. l.words) ls

abbrev pub line_words : List ListedLine → List (List ℕ)
line_words ls = map (λ l. l.words) ls

-- limits and lines are counted by their words
pub record IsText (all : Bool) (n : Notes) (written : List ℕ) : Type 0 where
  pub limits : List Tally
  pub lines : List Tally
  pub are_limits : AreTallies (limit_words n.limits) limits
  pub are_lines : AreTallies (line_words n.lines) lines
  pub text : written ≡ notes_text all n limits lines
