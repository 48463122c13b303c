-- How the audit of access lists is written: by `audit`, and read back by who shows one.
use Rattle.std.specs.Prelude.{ℕ, Bool, true, false, not, List, ◌++◌, length, filter, codes, decimal}
use Rattle.std.specs.List.{flat_map, sum_by}

-- ---- lines

abbrev pub line : List ℕ → List ℕ
line text = text ++ codes "\n"

-- `list FILE NAME`
unfoldable pub name_text : (file name : List ℕ) → List ℕ
name_text file name = codes "list " ++ file ++ codes " " ++ name

-- ` dead D redundant R`
unfoldable pub kinds_text : (dead redundant : ℕ) → List ℕ
kinds_text dead redundant = codes " dead " ++ decimal dead ++ codes " redundant " ++ decimal redundant ++ codes "\n"

-- `list FILE NAME dead D redundant R`
abbrev pub list_line : (file name : List ℕ) (dead redundant : ℕ) → List ℕ
list_line file name dead redundant = name_text file name ++ kinds_text dead redundant

abbrev pub kind_name : (dead : Bool) → List ℕ
kind_name true = codes "dead"
kind_name false = codes "redundant"

-- `entry SEQ dead` or `entry SEQ redundant`
unfoldable pub entry_line : (sequence : ℕ) (dead : Bool) → List ℕ
entry_line sequence dead = codes "entry " ++ decimal sequence ++ codes " " ++ kind_name dead ++ codes "\n"

-- `by SEQ rows N`
unfoldable pub by_line : (sequence rows : ℕ) → List ℕ
by_line sequence rows = codes "by " ++ decimal sequence ++ codes " rows " ++ decimal rows ++ codes "\n"

-- `findings N`
unfoldable pub total_line : ℕ → List ℕ
total_line count = codes "findings " ++ decimal count ++ codes "\n"

-- ---- an audit

-- What an audit's lists L, findings F, takers T and rows R tell: of a list its file, its name and its findings; of a finding its entry,
-- whether that decides no packet, and the earlier entries that take its packets; of such an entry its number and these packets.
pub record Findings (L F T R : Type 0) : Type 0 where
  pub file : L → List ℕ
  pub name : L → List ℕ
  pub findings : L → List F
  pub sequence : F → ℕ
  pub is_dead : F → Bool
  pub taken : F → List T
  pub by : T → ℕ
  pub rows : T → List R
  pub row : R → List ℕ

-- an earlier entry: its line, and the rows of the packets that it takes
unfoldable pub taken_text : {L F T R : Type 0} → Findings L F T R → T → List ℕ
taken_text of t = by_line (of.by t) (length (of.rows t)) ++ flat_map (λ r. line (of.row r)) (of.rows t)

-- a finding: its entry's line, and what takes its packets
unfoldable pub finding_text : {L F T R : Type 0} → Findings L F T R → F → List ℕ
finding_text of f = entry_line (of.sequence f) (of.is_dead f) ++ flat_map (taken_text of) (of.taken f)

-- the findings of a list, after its line, which counts them by their kind
unfoldable pub findings_text : {L F T R : Type 0} → Findings L F T R → (file name : List ℕ) → List F → List ℕ
findings_text of file name fs =
    list_line file name (length (filter of.is_dead fs)) (length (filter (λ f. not (of.is_dead f)) fs)) ++ flat_map (finding_text of) fs

abbrev pub list_text : {L F T R : Type 0} → Findings L F T R → L → List ℕ
list_text of l = findings_text of (of.file l) (of.name l) (of.findings l)

-- the number of all findings
abbrev pub finding_count : {L F T R : Type 0} → Findings L F T R → List L → ℕ
finding_count of ls = sum_by (λ l. length (of.findings l)) ls

-- the lists one after the other, and the number of all findings
unfoldable pub audit_text : {L F T R : Type 0} → Findings L F T R → List L → List ℕ
audit_text of ls = flat_map (list_text of) ls ++ total_line (finding_count of ls)
