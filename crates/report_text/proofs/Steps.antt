-- One more item is read in a loop of at most n.
use Rattle.std.proofs.Common.{◌≡◌, ℕ, zero, suc, ◌+◌, ◌-◌, ◌<◌, true, false, ◌==◌, List, [], ◌∷◌, ◌++◌, length, refl, arith}
use Rattle.std.proofs.lemmas.Bool.{eqb-true}
use Rattle.std.specs.Prelude.{Some, None, codes}
use Rattle.net_types.specs.declared.label.Outcome.{Outcome}
use Rattle.net_types.specs.declared.network.Row.{Row}
use Rattle.net_types.specs.declared.network.Section.{Section}
use Rattle.report_text.specs.Reading.{skip_word, is_next, outcome_at, outcomes_from, row_at, rows_from, section_at, sections_from}

one_less : (n i : ℕ) → i < n → n - i ≡ suc (n - (i + 1))
one_less n i h = omega (arith, h)

pub outcomes_more : (texts : List (List ℕ)) (n i : ℕ) (found : List Outcome) (bytes : List ℕ) (o : Outcome) (rest : List ℕ) → i < n → (bytes ≡ [] → ⊥) → outcome_at texts bytes ≡ Some (o, rest)
    → outcomes_from texts (n - i) found bytes ≡ outcomes_from texts (n - (i + 1)) (found ++ o ∷ []) (skip_word rest)
unfolding outcomes_from
outcomes_more texts n i found [] o rest h some e = absurd (some refl)
outcomes_more texts n i found (b ∷ bytes) o rest h some e = rw (one_less n i h, e) refl

pub outcomes_stop : (texts : List (List ℕ)) (n i : ℕ) (found : List Outcome) (bytes : List ℕ) → i < n → (bytes ≡ [] → ⊥) → outcome_at texts bytes ≡ None → outcomes_from texts (n - i) found bytes ≡ None
unfolding outcomes_from
outcomes_stop texts n i found [] h some e = absurd (some refl)
outcomes_stop texts n i found (b ∷ bytes) h some e = rw (one_less n i h, e) refl

pub outcomes_done : (texts : List (List ℕ)) (n : ℕ) (found : List Outcome) (bytes : List ℕ) → bytes ≡ [] → outcomes_from texts n found bytes ≡ Some found
unfolding outcomes_from
outcomes_done texts zero found bytes e = refl
outcomes_done texts (suc n) found bytes e = rw e refl

pub no_bytes : (w : List ℕ) → (length w == 0) ≡ true → w ≡ []
no_bytes [] e = refl
no_bytes (x ∷ w) e = absurd (omega (arith, eqb-true (length (x ∷ w)) 0 e))

pub outcomes_out : (texts : List (List ℕ)) (n i : ℕ) (found : List Outcome) (bytes : List ℕ) → n - i ≡ 0 → outcomes_from texts (n - i) found bytes ≡ Some found
unfolding outcomes_from
outcomes_out texts n i found bytes e = rw e refl

pub rows_more : (texts : List (List ℕ)) (n i : ℕ) (found : List Row) (bytes : List ℕ) (r : Row) (rest : List ℕ) → i < n → is_next (codes "dst") bytes ≡ true → row_at texts bytes ≡ Some (r, rest)
    → rows_from texts (n - i) found bytes ≡ rows_from texts (n - (i + 1)) (found ++ r ∷ []) rest
unfolding rows_from
rows_more texts n i found bytes r rest h next e = rw (one_less n i h, next, e) refl

pub rows_stop : (texts : List (List ℕ)) (n i : ℕ) (found : List Row) (bytes : List ℕ) → i < n → is_next (codes "dst") bytes ≡ true → row_at texts bytes ≡ None → rows_from texts (n - i) found bytes ≡ None
unfolding rows_from
rows_stop texts n i found bytes h next e = rw (one_less n i h, next, e) refl

pub rows_done : (texts : List (List ℕ)) (n : ℕ) (found : List Row) (bytes : List ℕ) → is_next (codes "dst") bytes ≡ false → rows_from texts n found bytes ≡ Some (found, bytes)
unfolding rows_from
rows_done texts zero found bytes e = refl
rows_done texts (suc n) found bytes e = rw e refl

pub rows_out : (texts : List (List ℕ)) (n i : ℕ) (found : List Row) (bytes : List ℕ) → n - i ≡ 0 → rows_from texts (n - i) found bytes ≡ Some (found, bytes)
unfolding rows_from
rows_out texts n i found bytes e = rw e refl

pub sections_more : (texts : List (List ℕ)) (n i : ℕ) (found : List Section) (bytes : List ℕ) (s : Section) (rest : List ℕ) → i < n → is_next (codes "ingress") bytes ≡ true → section_at texts bytes ≡ Some (s, rest)
    → sections_from texts (n - i) found bytes ≡ sections_from texts (n - (i + 1)) (found ++ s ∷ []) rest
unfolding sections_from
sections_more texts n i found bytes s rest h next e = rw (one_less n i h, next, e) refl

pub sections_stop : (texts : List (List ℕ)) (n i : ℕ) (found : List Section) (bytes : List ℕ) → i < n → is_next (codes "ingress") bytes ≡ true → section_at texts bytes ≡ None → sections_from texts (n - i) found bytes ≡ None
unfolding sections_from
sections_stop texts n i found bytes h next e = rw (one_less n i h, next, e) refl

pub sections_done : (texts : List (List ℕ)) (n : ℕ) (found : List Section) (bytes : List ℕ) → is_next (codes "ingress") bytes ≡ false → sections_from texts n found bytes ≡ Some found
unfolding sections_from
sections_done texts zero found bytes e = refl
sections_done texts (suc n) found bytes e = rw e refl

pub sections_out : (texts : List (List ℕ)) (n i : ℕ) (found : List Section) (bytes : List ℕ) → n - i ≡ 0 → sections_from texts (n - i) found bytes ≡ Some found
unfolding sections_from
sections_out texts n i found bytes e = rw e refl
