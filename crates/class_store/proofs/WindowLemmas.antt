-- The cells of a window, by their positions in the store.
use Rattle.std.proofs.Common.{ℕ, ◌≡◌, ◌+◌, ◌-◌, ◌<◌, ◌≤◌, List, ◌++◌, length, map, get_or, take, drop, Some, slice_get, ap, sym, ◌∙◌, arith}
use Rattle.std.proofs.lemmas.List.{get_or-take, get_or-drop, get_or-append-add, get_or_append_left, length-take, length-take-le, length-drop, length-append, length-map, get_or-map}
use Rattle.std.proofs.lemmas.Option.{slice_get-get_or}
use Rattle.class_store.specs.Windows.{window}

pub window_most : (xs : List ℕ) (start : ℕ) → length (window xs start) ≤ 32
window_most xs start = let e = length-take 32 (drop start xs ++ take start xs) in omega (arith, e)

window_length : (xs : List ℕ) (start : ℕ) → start < length xs → 32 ≤ length xs → length (window xs start) ≡ 32
window_length xs start l n =
    let front = length-take-le start xs (omega arith) in
    let back = length-drop start xs in
    let whole = length-append (drop start xs) (take start xs) in
    length-take-le 32 (drop start xs ++ take start xs) (omega arith)

-- before the end of the store
window_on : (xs : List ℕ) (start offset d : ℕ) → start + offset < length xs → offset < 32 → get_or (window xs start) offset d ≡ get_or xs (start + offset) d
window_on xs start offset d l p =
    let back = length-drop start xs in
    get_or-take 32 (drop start xs ++ take start xs) offset d p
    ∙ (get_or_append_left (drop start xs) (take start xs) d offset (omega arith) ∙ get_or-drop start xs offset d)

-- past its end, from its beginning on
window_round : (xs : List ℕ) (start rest d : ℕ) → start < length xs → rest < start → length xs - start + rest < 32 → get_or (window xs start) (length xs - start + rest) d ≡ get_or xs rest d
window_round xs start rest d l r p =
    let offset = length xs - start + rest in
    get_or-take 32 (drop start xs ++ take start xs) offset d p
    ∙ (ap (λ n. get_or (drop start xs ++ take start xs) (n + rest) d) (sym (length-drop start xs))
    ∙ (get_or-append-add (drop start xs) (take start xs) rest d ∙ get_or-take start xs rest d r))

module _ {X : Type 0} (name : X → ℕ) (cells : List X) (start offset : ℕ) (cell : X) where
  named : (i : ℕ) → i < length cells → cell ≡ get_or cells i cell → get_or (map name cells) i 0 ≡ name cell
  named i l e = get_or-map name cells i cell 0 l ∙ ap name (sym e)

  found : start < length cells → offset < 32 → 32 ≤ length cells → get_or (window (map name cells) start) offset 0 ≡ name cell → slice_get (window (map name cells) start) offset ≡ Some (name cell)
  found l p n e =
      let count = length-map cells name in
      let whole = window_length (map name cells) start (omega arith) (omega arith) in
      slice_get-get_or (window (map name cells) start) offset 0 (omega arith) ∙ ap Some e

  pub cell_on : start + offset < length cells → offset < 32 → 32 ≤ length cells → cell ≡ get_or cells (start + offset) cell → slice_get (window (map name cells) start) offset ≡ Some (name cell)
  cell_on l p n e =
      let count = length-map cells name in
      found (omega arith) p n (window_on (map name cells) start offset 0 (omega arith) p ∙ named (start + offset) l e)

  pub cell_round : start < length cells → length cells ≤ start + offset → offset < 32 → 32 ≤ length cells → cell ≡ get_or cells (start + offset - length cells) cell → slice_get (window (map name cells) start) offset ≡ Some (name cell)
  cell_round l m p n e =
      let names = map name cells in
      let count = length-map cells name in
      let rest = start + offset - length cells in
      let there : length names - start + rest ≡ offset = omega arith in
      found l p n (ap (λ i. get_or (window names start) i 0) (sym there)
      ∙ (window_round names start rest 0 (omega arith) (omega arith) (omega arith) ∙ named rest (omega arith) e))
