-- What is told of entries, one after the other.
use Rattle.std.proofs.Common.{ℕ, suc, ◌≡◌, ◌<◌, ◌+◌, ◌&&◌, ◌||◌, Bool, List, [], ◌∷◌, ◌++◌, take, length, inl, inr, slice_get, Option, Some, None, refl, sym, ◌∙◌, subst, arith}
use Rattle.std.proofs.lemmas.Option.{slice_get_cases}
use Rattle.hdr_bits.specs.HeaderBits.{header_of}
use Rattle.hdr_bits.specs.Rows.{AreRows}
use Rattle.cube_diagram.specs.Functions.{Functions, Keeps, GivesNothing, count_of, value_at}
use Rattle.net_types.specs.declared.config.Entry.{Entry}
use Rattle.net_types.specs.AccessLists.{matches, entries_verdict}
use Rattle.acl_audit.specs.declared.finding.Finding.{Finding}
use Rattle.acl_audit.specs.declared.finding.Taken.{Taken}
use Rattle.acl_audit.specs.Findings.{Takes, Finds, Gathers, AreFindings, with_last, is_by, taken_by}
use Rattle.acl_audit.specs.Sets.{IsSet, any_matches}
use Rattle.acl_audit.proofs.ListLemmas.{any-more}
use Rattle.acl_audit.proofs.SetLemmas.{same_set, keeps_same, keeps_then}
use Rattle.acl_audit.proofs.LoopLemmas.{next_entries}
use Rattle.acl_audit.proofs.RowLemmas.{rows_of_same}

pub gathers_next : {T : Type 0} (Tells : ℕ → Option T → Type 0) (n : ℕ) (ts : List T) (t : Option T) → Gathers Tells n ts → Tells n t → Gathers Tells (n + 1) (with_last ts t)
gathers_next Tells n ts t g x =
    let e : suc n ≡ n + 1 = omega arith in
    subst (λ m. Gathers Tells m (with_last ts t)) e (ts, t, g, x, refl)

-- ---- what one entry takes of another
abbrev pub is_taken : List Entry → Entry → Entry → ℕ → Bool
is_taken es f e h = matches e (header_of h) && is_by f.sequence (entries_verdict es (header_of h))

pub takes_some : (fs : Functions) (es : List Entry) (f e : Entry) (r : ℕ) (t : Taken) → IsSet fs (is_taken es f e) r → (GivesNothing (value_at fs r) → ⊥) → t.sequence ≡ f.sequence → AreRows (value_at fs r) t.rows → Takes es f e (Some t)
takes_some fs es f e r t s n q a =
    (q, λ g. n (λ h l. s.value h ∙ g h l), rows_of_same (value_at fs r) (taken_by es f e) s.value t.rows a)

-- ---- what is found of all entries
pub record HasFindings (start now : Functions) (es : List Entry) (i head : ℕ) (findings : List Finding) : Type 0 where
  pub kept : Keeps start now
  pub front : IsSet now (any_matches (take i es)) head
  pub told : AreFindings es i findings

pub findings_start : (f : Functions) (es : List Entry) (r : ℕ) → r < count_of f → ((h : ℕ) → value_at f r h ≡ None) → HasFindings f f es 0 r []
findings_start f es r l v = record { kept = keeps_same f; front = record { below = l; value = v }; told = refl }

pub front_more : (g : Functions) (es : List Entry) (i front : ℕ) → i < length es → ((e : Entry) → slice_get es i ≡ Some e → IsSet g (λ h. any_matches (take i es) h || matches e (header_of h)) front) → IsSet g (any_matches (take (i + 1) es)) front
front_more g es i front l s =
    elim (slice_get_cases es i).1 [
      | inl p ↦ subst (λ xs. IsSet g (any_matches xs) front) (sym (next_entries es i p.0 l (sym p.3))) (same_set g (λ h. any_matches (take i es) h || matches p.0 (header_of h)) (any_matches (take i es ++ p.0 ∷ [])) front (λ h. sym (any-more (take i es) p.0 h)) (s p.0 p.2))
      | inr p ↦ absurd (let m = p.0 in omega (arith, l, m))
    ]

pub findings_next : (start f g : Functions) (es : List Entry) (i head front : ℕ) (findings : List Finding) (x : Option Finding) → Keeps f g → HasFindings start f es i head findings → IsSet g (any_matches (take (i + 1) es)) front → ((y : Entry) → slice_get es i ≡ Some y → Finds es i y x) → HasFindings start g es (i + 1) front (with_last findings x)
findings_next start f g es i head front findings x k a s t =
    record {
      kept = keeps_then start f g a.kept k;
      front = s;
      told = gathers_next (λ n t. (y : Entry) → slice_get es n ≡ Some y → Finds es n y t) i findings x a.told t;
    }
