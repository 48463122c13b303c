-- Sets of headers in a table of diagrams, as the audit of a list makes them.
use Rattle.std.specs.Prelude.{ℕ, zero, suc, ◌≡◌, ◌<◌, ◌≤◌, ◌-◌, ◌+◌, ◌*◌, ◌/◌, ◌||◌, Bool, false, List, [], ◌∷◌, drop, length, get_or, slice_get, Option, Some, None, option_and_then, if◌then◌else◌}
use Rattle.std.specs.List.{list_any}
use Rattle.hdr_bits.specs.HeaderBits.{header_of}
use Rattle.cube_diagram.specs.Functions.{Functions, count_of, value_at}
use Rattle.net_types.specs.declared.config.Entry.{Entry}
use Rattle.net_types.specs.AccessLists.{matches, entries_verdict}
use Rattle.acl_audit.specs.declared.audited.Audited.{Audited}
use Rattle.acl_audit.specs.Findings.{is_by}

-- 1 where the test holds, else nothing
abbrev pub if_true : Bool → Option ℕ
if_true t = if t then Some 1 else None

-- the function with this number gives 1 to the headers that pass the test, and nothing to the others
pub record IsSet (fs : Functions) (test : ℕ → Bool) (r : ℕ) : Type 0 where
  pub below : r < count_of fs
  pub value : (h : ℕ) → value_at fs r h ≡ if_true (test h)

-- the sets of the headers that the entries match
pub record AreMatched (fs : Functions) (es : List Entry) (sets : List ℕ) : Type 0 where
  pub all : length sets ≡ length es
  pub each : (k : ℕ) (e : Entry) → slice_get es k ≡ Some e → IsSet fs (λ h. matches e (header_of h)) (get_or sets k 0)

-- some entry matches the header
abbrev pub any_matches : List Entry → ℕ → Bool
any_matches es h = list_any (λ e. matches e (header_of h)) es

-- the entries pass the header, or this end does where none of them matches
abbrev pub passes_to : Bool → List Entry → ℕ → Bool
passes_to end [] h = end
passes_to end (e ∷ es) h = if matches e (header_of h) then e.permit else passes_to end es h

-- the sets of what the last entries pass, by how many these are, where the end denies
pub record AreTails (fs : Functions) (es : List Entry) (tails : List ℕ) : Type 0 where
  pub few : length tails ≤ length es + 1
  pub each : (k : ℕ) → k < length tails → IsSet fs (passes_to false (drop (length es - k) es)) (get_or tails k 0)

-- what is known by keys are numbers of functions
abbrev pub AreNumbers : Functions → (ℕ → Option ℕ) → Type 0
AreNumbers fs known = (s r : ℕ) → known s ≡ Some r → r < count_of fs

-- by sequence numbers the sets of what the entries decide
pub record AreDecided (fs : Functions) (es : List Entry) (known : ℕ → Option ℕ) : Type 0 where
  pub below : AreNumbers fs known
  pub value : (s h : ℕ) → option_and_then (λ r. value_at fs r h) (known s) ≡ if_true (is_by s (entries_verdict es (header_of h)))

-- the verdict of the header is that of the entry, if there is one, by its sequence number
abbrev pub is_of : List Entry → Option Entry → ℕ → Bool
is_of es None h = false
is_of es (Some e) h = is_by e.sequence (entries_verdict es (header_of h))

-- the position at which a block of 2 ^ level entries begins
abbrev pub start_of : ℕ → ℕ → ℕ
start_of zero block = block
start_of (suc level) block = start_of level (2 * block)

-- the verdict of the header is that of an entry in this block of 2 ^ level entries
abbrev pub decided_in : List Entry → ℕ → ℕ → ℕ → Bool
decided_in es zero block h = is_of es (slice_get es block) h
decided_in es (suc level) block h = decided_in es level (2 * block) h || decided_in es level (2 * block + 1) h

-- the sets of what the first blocks of 2 ^ level entries decide
abbrev pub AreLevel : Functions → List Entry → ℕ → List ℕ → Type 0
AreLevel fs es level sets = (block : ℕ) → block < length sets → IsSet fs (decided_in es level block) (get_or sets block 0)

-- how many blocks of 2 ^ level entries there are among so many entries
abbrev pub blocks_of : ℕ → ℕ → ℕ
blocks_of zero n = n
blocks_of (suc level) n = blocks_of level n / 2

-- level by level the sets of all blocks
pub record AreUnions (fs : Functions) (es : List Entry) (levels : List (List ℕ)) : Type 0 where
  pub long : (level : ℕ) → length (get_or levels level []) ≡ blocks_of level (length es)
  pub sets : (level : ℕ) → AreLevel fs es level (get_or levels level [])

-- these are the sets of the list's entries
pub record IsAudited (fs : Functions) (a : Audited) : Type 0 where
  pub tails : AreTails fs a.entries.now a.tails.now
  pub all : length a.tails.now ≡ length a.entries.now + 1
  pub unions : AreUnions fs a.entries.now a.unions.now
