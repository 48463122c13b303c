-- Lines, from the last to the first.
use Rattle.std.proofs.Common.{◌≡◌, ℕ, ◌+◌, ◌<◌, ◌≤◌, List, map, drop, length, get_or, sym, ap, ◌∙◌}
use Rattle.std.proofs.lemmas.List.{drop_more, drop_all}
use denote.Ref.{Bor}
use Rattle.audit_view.specs.declared.findings.Behind.{Behind}
use Rattle.audit_view.specs.declared.said.Said.{Said}
use Rattle.audit_view.specs.Said.{said_of, with_line, nothing, behind}

abbrev bytes_in : Bor (List ℕ) → List ℕ
bytes_in line = line.now

-- what the lines from number i on say
abbrev pub IsBehind : List (Bor (List ℕ)) → ℕ → Behind → Type 0
IsBehind lines i b = b ≡ behind (map (λ line. line.now) (drop i lines))

pub first_behind : (lines : List (Bor (List ℕ))) (i : ℕ) (b : Behind) → length lines ≤ i → b ≡ nothing → IsBehind lines i b
first_behind lines i b k e = e ∙ sym (ap (λ ls. behind (map bytes_in ls)) (drop_all i lines k))

pub next_behind : (lines : List (Bor (List ℕ))) (i j : ℕ) (d : Bor (List ℕ)) (is : Said) (b c : Behind) → j ≡ i + 1 → i < length lines
    → is ≡ said_of (get_or lines i d).now → c ≡ with_line is (get_or lines i d).now b → IsBehind lines j b → IsBehind lines i c
next_behind lines i j d is b c e k g s h =
    let l = get_or lines i d in
    s ∙ ap (λ x. with_line x l.now b) g
    ∙ ap (with_line (said_of l.now) l.now) (h ∙ ap (λ n. behind (map bytes_in (drop n lines))) e)
    ∙ sym (ap (λ ls. behind (map bytes_in ls)) (drop_more lines i d k))

pub all_behind : (lines : List (Bor (List ℕ))) (i : ℕ) (b : Behind) → i ≡ 0 → IsBehind lines i b → b ≡ behind (map (λ line. line.now) lines)
all_behind lines i b e h = h ∙ ap (λ n. behind (map bytes_in (drop n lines))) e
