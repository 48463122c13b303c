-- What the cells that a class has passed are known to hold.
use Rattle.std.proofs.Common.{◌≡◌, ◌≢◌, ℕ, zero, suc, ◌<◌, ◌≤◌, List, [], ◌∷◌, ◌++◌, length, get_or, Some, slice_get, sym, subst, arith}
use Rattle.std.proofs.lemmas.Option.{slice_get_within}
use Rattle.net_types.specs.declared.label.Outcome.{Outcome}
use Rattle.class_store.specs.declared.known.Known.{Known}
use Rattle.class_store.specs.declared.class.Class.{Class}
use Rattle.class_store.specs.declared.class.Held.{Held}
use Rattle.class_store.specs.declared.class.Held.TheVariants.{Cell, Alone}
use Rattle.class_store.specs.Windows.{window}
use Rattle.class_store.specs.Classes.{label_of, HoldOthers, Follows, IsClass}
use Rattle.class_store.proofs.WindowLemmas.{window_most}

-- no more cells are passed than there are
pub others_within : (cells : List ℕ) (label : List Outcome) (passed : List (Known (List Outcome))) → HoldOthers cells label passed → length passed ≤ length cells
others_within cells label [] p = omega arith
others_within [] label (k ∷ ks) p = absurd p
others_within (c ∷ cells) label (k ∷ ks) p = let w = others_within cells label ks p.2 in omega (arith, w)

pub others_at : (cells : List ℕ) (label : List Outcome) (passed : List (Known (List Outcome))) → HoldOthers cells label passed → (i : ℕ) → i < length passed → (e : Known (List Outcome))
    → (slice_get cells i ≡ Some (get_or passed i e).cell) × ((get_or passed i e).value ≢ label)
others_at cells label [] p i l e = absurd (omega arith)
others_at [] label (k ∷ ks) p i l e = absurd p
others_at (c ∷ cells) label (k ∷ ks) p zero l e = (cc, p.1)
others_at (c ∷ cells) label (k ∷ ks) p (suc i) l e = others_at cells label ks p.2 i (omega arith) e

pub others_more : (cells : List ℕ) (label : List Outcome) (passed : List (Known (List Outcome))) (k : Known (List Outcome)) → HoldOthers cells label passed → slice_get cells (length passed) ≡ Some k.cell → k.value ≢ label → HoldOthers cells label (passed ++ k ∷ [])
others_more [] label [] k p s v = absurd cc
others_more (c ∷ cells) label [] k p s v = (cc, v, tt)
others_more [] label (j ∷ ks) k p s v = absurd p
others_more (c ∷ cells) label (j ∷ ks) k p s v = (p.0, p.1, others_more cells label ks k p.2 s v)

-- ---- a class
pub passed_most : (cells : List ℕ) (class : Class) → IsClass cells class → length class.passed.items ≤ 32
passed_most cells class i =
    let w = others_within (window cells class.start) (label_of class) class.passed.items i.passed in
    let m = window_most cells class.start in
    omega (arith, w, m)

held_within : (cells : List ℕ) (passed : ℕ) (held : Held) (k : Known (List Outcome)) → held ≡ Cell k → Follows cells passed held → passed < length cells
held_within cells passed held k e h = let s : Follows cells passed (Cell k) = subst (Follows cells passed) e h in slice_get_within cells passed k.cell s

pub cell_within : (cells : List ℕ) (class : Class) (k : Known (List Outcome)) → IsClass cells class → class.held ≡ Cell k → length class.passed.items < 32
cell_within cells class k i e =
    let w = held_within (window cells class.start) (length class.passed.items) class.held k e i.held in
    let m = window_most cells class.start in
    omega (arith, w, m)

held_alone : (cells : List ℕ) (passed : ℕ) (held : Held) (own : List Outcome) → held ≡ Alone own → Follows cells passed held → passed ≡ 32
held_alone cells passed held own e h = let s : Follows cells passed (Alone own) = subst (Follows cells passed) e h in s

pub alone_passed : (cells : List ℕ) (class : Class) (own : List Outcome) → IsClass cells class → class.held ≡ Alone own → length class.passed.items ≡ 32
alone_passed cells class own i e = held_alone (window cells class.start) (length class.passed.items) class.held own e i.held

-- ---- a cell that a class has passed
passed_known : (cells : List ℕ) (class : Class) (start i cell : ℕ) (k : Known (List Outcome)) → IsClass cells class → start ≡ class.start → i < length class.passed.items → k ≡ get_or class.passed.items i k → slice_get (window cells start) i ≡ Some cell → (k.cell ≡ cell) × (k.value ≢ label_of class)
passed_known cells class start i cell k c s l e g =
    let at = others_at (window cells class.start) (label_of class) class.passed.items c.passed i l k in
    let there : slice_get (window cells class.start) i ≡ Some cell = subst (λ n. slice_get (window cells n) i ≡ Some cell) s g in
    let name : slice_get (window cells class.start) i ≡ Some k.cell = subst (λ j. slice_get (window cells class.start) i ≡ Some j.cell) (sym e) at.0 in
    (cc, subst (λ j. j.value ≢ label_of class) (sym e) at.1)

pub passed_cell : (cells : List ℕ) (class : Class) (start i cell : ℕ) (k : Known (List Outcome)) → IsClass cells class → start ≡ class.start → i < length class.passed.items → k ≡ get_or class.passed.items i k → slice_get (window cells start) i ≡ Some cell → k.cell ≡ cell
passed_cell cells class start i cell k c s l e g = (passed_known cells class start i cell k c s l e g).0

pub passed_value : (cells : List ℕ) (class : Class) (start i cell : ℕ) (k : Known (List Outcome)) → IsClass cells class → start ≡ class.start → i < length class.passed.items → k ≡ get_or class.passed.items i k → slice_get (window cells start) i ≡ Some cell → k.value ≢ label_of class
passed_value cells class start i cell k c s l e g = (passed_known cells class start i cell k c s l e g).1
