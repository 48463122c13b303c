-- What an audit finds in an access list: entries that decide nothing, and entries that could go. The rules are those of
-- IOS access lists; the kinds are this product's own.
use Rattle.std.specs.Prelude.{ℕ, zero, suc, ◌≡◌, Bool, false, ◌&&◌, ◌==◌, List, [], ◌∷◌, ◌++◌, Option, Some, None, slice_get, if◌then◌else◌}
use Rattle.std.specs.List.{remove}
use Rattle.hdr_bits.specs.declared.header.Header.{Header}
use Rattle.hdr_bits.specs.HeaderBits.{header_of, IsHeader}
use Rattle.hdr_bits.specs.Rows.{AreRows}
use Rattle.cube_diagram.specs.Functions.{GivesNothing}
use Rattle.net_types.specs.declared.config.Entry.{Entry}
use Rattle.net_types.specs.declared.network.Verdict.{Verdict}
use Rattle.net_types.specs.declared.network.Verdict.TheVariants.{Passed, Permit, Deny, DenyEnd}
use Rattle.net_types.specs.AccessLists.{matches, entries_verdict, passes}
use Rattle.acl_audit.specs.declared.finding.Finding.{Finding}
use Rattle.acl_audit.specs.declared.finding.FindingKind.{FindingKind}
use Rattle.acl_audit.specs.declared.finding.FindingKind.TheVariants.{Dead, Redundant}
use Rattle.acl_audit.specs.declared.finding.Taken.{Taken}

-- the verdict is a permit or a denial under this sequence number
abbrev pub is_by : ℕ → Verdict → Bool
is_by s Passed = false
is_by s (Permit n) = n == s
is_by s (Deny n) = n == s
is_by s DenyEnd = false

-- an entry is dead where its sequence is the Permit or Deny verdict of no header
abbrev pub IsDead : List Entry → Entry → Type 0
IsDead es e = (h : Header) → IsHeader h → is_by e.sequence (entries_verdict es h) ≡ false

-- the entry at position i is redundant where it isn't dead, and the list without it passes the same headers
pub record IsRedundant (es : List Entry) (i : ℕ) (e : Entry) : Type 0 where
  pub alive : IsDead es e → ⊥
  pub same : (h : Header) → IsHeader h → passes (entries_verdict (remove es i) h) ≡ passes (entries_verdict es h)

-- it is of this kind, or of none
abbrev pub IsKind : List Entry → ℕ → Entry → Option FindingKind → Type 0
IsKind es i e None = (IsDead es e → ⊥) × (IsRedundant es i e → ⊥)
IsKind es i e (Some Dead) = IsDead es e
IsKind es i e (Some Redundant) = IsRedundant es i e

-- what an earlier entry takes of another: the headers that match that one and whose verdict is the earlier one's, each
-- with the value 1
abbrev pub taken_by : List Entry → Entry → Entry → ℕ → Option ℕ
taken_by es f e h = if matches e (header_of h) && is_by f.sequence (entries_verdict es (header_of h)) then Some 1 else None

-- the rows of that set, or nothing where it is empty
abbrev pub Takes : List Entry → Entry → Entry → Option Taken → Type 0
Takes es f e None = GivesNothing (taken_by es f e)
Takes es f e (Some t) =
    (t.sequence ≡ f.sequence) × (GivesNothing (taken_by es f e) → ⊥) × AreRows (taken_by es f e) t.rows

-- the list, and behind it the item if there is one
abbrev pub with_last : {T : Type 0} → List T → Option T → List T
with_last ts None = ts
with_last ts (Some t) = ts ++ t ∷ []

-- one after the other what there is to tell of the first n positions; of some there may be nothing
abbrev pub Gathers : {T : Type 0} → (ℕ → Option T → Type 0) → ℕ → List T → Type 0
Gathers Tells zero ts = ts ≡ []
Gathers {T} Tells (suc n) ts = (earlier : List T) × (t : Option T) × Gathers Tells n earlier × Tells n t × (ts ≡ with_last earlier t)

-- what the first n entries take of an entry, in the list's order
abbrev pub AreTaken : List Entry → ℕ → Entry → List Taken → Type 0
AreTaken es n e taken = Gathers (λ k t. (f : Entry) → slice_get es k ≡ Some f → Takes es f e t) n taken

-- what is found of the entry at position i
abbrev pub Finds : List Entry → ℕ → Entry → Option Finding → Type 0
Finds es i e None = IsKind es i e None
Finds es i e (Some f) = (f.sequence ≡ e.sequence) × IsKind es i e (Some f.kind) × AreTaken es i e f.taken

-- the findings of the first n entries of a list, in its order
abbrev pub AreFindings : List Entry → ℕ → List Finding → Type 0
AreFindings es n findings = Gathers (λ i f. (e : Entry) → slice_get es i ≡ Some e → Finds es i e f) n findings
