-- A thief's ports are the ends of its path, and half of them are the ends of an extension.
use Rattle.std.proofs.Common.{◌≡◌, ◌≢◌, ℕ, zero, suc, ◌+◌, ◌-◌, ◌/◌, ◌^◌, ◌<◌, true, false, List, [], ◌∷◌, ◌++◌, length, take, drop, get_or, sym, refl, ap, ◌∙◌, append_assoc, append-nil, arith, length-append}
use Rattle.std.proofs.lemmas.List.{map-append, length-map, take-map, drop-map}
use Rattle.std.proofs.Math.Seq.{take-append_seam, drop-append_seam}
use Rattle.steal_pool.specs.Paths.{Path, Word, total, begins, extensions}
use Rattle.steal_pool.specs.Seats.{port_paths, singles, path_before}
use Rattle.std.specs.declared.alloc.Global.{Global}
use Rattle.atomic_blocks.specs.Lent.{RowsId}
use Rattle.std.proofs.Common.{All, subst}
use Rattle.std.proofs.lemmas.List.Elements.{All-drop, All-take, All-append}
use Rattle.crossbeam_deque.specs.Handles.{Pass, view, IsPassOf}
use Rattle.steal_pool.specs.declared.rule.Task.{Task}
use Rattle.steal_pool.specs.declared.rule.View.{View}
use Rattle.steal_pool.proofs.PathLemmas.{ends, total_append}

pub many : (k : ℕ) (p : Path) → length (extensions k p) ≡ 2 ^ k
unfolding extensions
many zero p = refl
many (suc k) p = let f = p ++ false ∷ [] in let t = p ++ true ∷ [] in let a = many k f in let b = many k t in let l = length-append (extensions k f) (extensions k t) in omega (arith, a, b, l)

abbrev zeros : ℕ → Path
zeros zero = []
zeros (suc k) = false ∷ zeros k

zeros_length : (k : ℕ) → length (zeros k) ≡ k
zeros_length zero = refl
zeros_length (suc k) = let e = zeros_length k in omega (arith, e)

first_end : (k : ℕ) (p : Path) → (rest : List Path) × (extensions k p ≡ (p ++ zeros k) ∷ rest)
unfolding extensions
first_end zero p = ([], ap (λ q. q ∷ []) (sym (append-nil p)))
first_end (suc k) p = let r = first_end k (p ++ false ∷ []) in let others = extensions k (p ++ true ∷ []) in
    (r.0 ++ others, ap (λ l. l ++ others) r.1 ∙ ap (λ q. q ∷ (r.0 ++ others)) (append_assoc p (false ∷ []) (zeros k)))

first_single : (k : ℕ) (p : Path) (x : List Path) (xs : List (List Path)) → x ∷ xs ≡ singles (extensions k p) → x ≡ (p ++ zeros k) ∷ []
first_single k p x xs e = let r = first_end k p in ap (λ l. get_or l 0 []) (e ∙ ap singles r.1)

pub live : (k : ℕ) (p : Path) (x : List Path) (xs : List (List Path)) → x ∷ xs ≡ singles (extensions k p) → x ≢ []
live k p x xs e none = let l : 0 ≡ 1 = ap (λ ps. length ps) (sym none ∙ first_single k p x xs e) in absurd (omega (arith, l))

-- the first port tells the path
pub path_before_end : (k : ℕ) (p : Path) (x : List Path) (xs : List (List Path)) → x ∷ xs ≡ singles (extensions k p) → path_before k x ≡ p
path_before_end k p x xs e =
    let long = length-append p (zeros k) in let z = zeros_length k in let n : length (p ++ zeros k) - k ≡ length p = omega (arith, long, z) in
    ap (path_before k) (first_single k p x xs e) ∙ ap (λ m. take m (p ++ zeros k)) n ∙ take-append_seam p (zeros k)

pub own_ends : (k : ℕ) (p : Path) (x : List Path) (xs : List (List Path)) → x ∷ xs ≡ singles (extensions k p) → x ∷ xs ≡ singles (extensions k (path_before k x))
own_ends k p x xs e = e ∙ ap (λ q. singles (extensions k q)) (sym (path_before_end k p x xs e))

front : (a b : List Path) (xs : List (List Path)) → xs ≡ singles (a ++ b) → take (length a) xs ≡ singles a
front a b xs e = let f = λ (l : Path). l ∷ [] in ap (take (length a)) (e ∙ map-append f a b) ∙ ap (λ n. take n (singles a ++ singles b)) (sym (length-map a f)) ∙ take-append_seam (singles a) (singles b)

back : (a b : List Path) (xs : List (List Path)) → xs ≡ singles (a ++ b) → drop (length a) xs ≡ singles b
back a b xs e = let f = λ (l : Path). l ∷ [] in ap (drop (length a)) (e ∙ map-append f a b) ∙ ap (λ n. drop n (singles a ++ singles b)) (sym (length-map a f)) ∙ drop-append_seam (singles a) (singles b)

half_of : (k : ℕ) (p : Path) (x : List Path) (xs : List (List Path)) → x ∷ xs ≡ singles (extensions (suc k) p) → length (extensions k (p ++ false ∷ [])) ≡ suc (length xs / 2)
unfolding extensions
half_of k p x xs e = let f = extensions k (p ++ false ∷ []) in let t = extensions k (p ++ true ∷ []) in
    let all : suc (length xs) ≡ length (f ++ t) = ap (λ l. length l) e ∙ length-map (f ++ t) (λ l. l ∷ []) in
    let a = many k (p ++ false ∷ []) in let b = many k (p ++ true ∷ []) in let l = length-append f t in omega (arith, all, a, b, l)

pub first_part : (n : ℕ) (p : Path) (x : List Path) (xs : List (List Path)) → 0 < n → x ∷ xs ≡ singles (extensions n p) → x ∷ take (length xs / 2) xs ≡ singles (extensions (n - 1) (p ++ false ∷ []))
unfolding extensions
first_part zero p x xs some e = absurd (omega (arith, some))
first_part (suc k) p x xs some e = let less : suc k - 1 ≡ k = omega arith in let h = half_of k p x xs e in
    ap (λ m. take m (x ∷ xs)) (sym h) ∙ front (extensions k (p ++ false ∷ [])) (extensions k (p ++ true ∷ [])) (x ∷ xs) e ∙ ap (λ m. singles (extensions m (p ++ false ∷ []))) (sym less)

pub second_part : (n : ℕ) (p : Path) (x : List Path) (xs : List (List Path)) → 0 < n → x ∷ xs ≡ singles (extensions n p) → drop (length xs / 2) xs ≡ singles (extensions (n - 1) (p ++ true ∷ []))
unfolding extensions
second_part zero p x xs some e = absurd (omega (arith, some))
second_part (suc k) p x xs some e = let less : suc k - 1 ≡ k = omega arith in let h = half_of k p x xs e in
    ap (λ m. drop m (x ∷ xs)) (sym h) ∙ back (extensions k (p ++ false ∷ [])) (extensions k (p ++ true ∷ [])) (x ∷ xs) e ∙ ap (λ m. singles (extensions m (p ++ true ∷ []))) (sym less)

total_singles : (w : Word) (ls : List Path) → total (total (begins w)) (singles ls) ≡ total (begins w) ls
total_singles w [] = refl
total_singles w (l ∷ ls) = let e = total_singles w ls in omega (arith, e)

-- what the ports total is what the path weighs
pub total_ports : (w : Word) (k : ℕ) (p : Path) (ports : List (List Path)) → ports ≡ singles (extensions k p) → total (total (begins w)) ports ≡ begins w p
total_ports w k p ports e = ap (total (total (begins w))) e ∙ total_singles w (extensions k p) ∙ ends w k p

abbrev Port : Type 0
Port = Pass Task View Global

pub some_rest : (n : ℕ) (p : Path) (x : List Path) (xs : List (List Path)) → 0 < n → x ∷ xs ≡ singles (extensions n p) → 0 < length xs
some_rest zero p x xs some e = absurd (omega (arith, some))
some_rest (suc k) p x xs some e = let h = half_of k p x xs e in let a = many (suc k) p in let b = many k (p ++ false ∷ []) in
    let all : suc (length xs) ≡ length (extensions (suc k) p) = ap (λ l. length l) e ∙ length-map (extensions (suc k) p) (λ l. l ∷ []) in omega (arith, h, a, b, all)

pub ports_front : (n : ℕ) (p : Path) (pass : Port) (rest mine : List Port) → 0 < n → port_paths (pass ∷ rest) ≡ singles (extensions n p) → mine ≡ take (length rest / 2) rest → port_paths (pass ∷ mine) ≡ singles (extensions (n - 1) (p ++ false ∷ []))
ports_front n p pass rest mine some e is = let f = λ (q : Port). (view q).paths in
    ap (λ l. f pass ∷ port_paths l) is ∙ ap (λ l. f pass ∷ l) (sym (take-map f (length rest / 2) rest)) ∙ ap (λ m. f pass ∷ take (m / 2) (port_paths rest)) (sym (length-map rest f)) ∙ first_part n p (f pass) (port_paths rest) some e

pub ports_back : (n : ℕ) (p : Path) (pass : Port) (rest theirs : List Port) → 0 < n → port_paths (pass ∷ rest) ≡ singles (extensions n p) → theirs ≡ drop (length rest / 2) rest → port_paths theirs ≡ singles (extensions (n - 1) (p ++ true ∷ []))
ports_back n p pass rest theirs some e is = let f = λ (q : Port). (view q).paths in
    ap port_paths is ∙ sym (drop-map f (length rest / 2) rest) ∙ ap (λ m. drop (m / 2) (port_paths rest)) (sym (length-map rest f)) ∙ second_part n p (f pass) (port_paths rest) some e

-- a port of this deque that has taken nothing
abbrev pub IsSpare : RowsId × Global → Port → Type 0
IsSpare deque q = IsPassOf deque q × ((view q).taken ≡ [])

pub spares_back : (deque after : RowsId × Global) → after ≡ deque → (n : ℕ) (rest theirs : List Port) → theirs ≡ drop n rest → All (IsSpare deque) rest → All (IsSpare after) theirs
spares_back deque after same n rest theirs e all = subst (λ d. All (IsSpare d) theirs) (sym same) (subst (All (IsSpare deque)) (sym e) (All-drop (IsSpare deque) n rest all))

pub spares_front : (deque : RowsId × Global) (n : ℕ) (rest mine : List Port) → mine ≡ take n rest → All (IsSpare deque) rest → All (IsSpare deque) mine
spares_front deque n rest mine e all = subst (All (IsSpare deque)) (sym e) (All-take (IsSpare deque) n rest all)

pub first_spare : (deque : RowsId × Global) (q : Port) (qs : List Port) → All (IsSpare deque) (q ∷ qs) → IsSpare deque q
first_spare deque q qs all = all 0 q (omega arith)

pub other_spares : (deque : RowsId × Global) (q : Port) (qs : List Port) → All (IsSpare deque) (q ∷ qs) → All (IsSpare deque) qs
other_spares deque q qs all k d less = all (suc k) d (omega (arith, less))

pub some_ports : (n : ℕ) (p : Path) (pass : Port) (rest : List Port) → 0 < n → port_paths (pass ∷ rest) ≡ singles (extensions n p) → 0 < length rest
some_ports n p pass rest some e = let f = λ (q : Port). (view q).paths in let l = some_rest n p (f pass) (port_paths rest) some e in let m = length-map rest f in omega (arith, l, m)

-- the last port's paths, apart from those of the others
pub last_port : (w : Word) (rest all : List Port) (q : Port) → all ≡ rest ++ q ∷ [] → total (total (begins w)) (port_paths all) ≡ total (total (begins w)) (port_paths rest) + total (begins w) (view q).paths
last_port w rest all q e = let f = λ (p : Port). (view p).paths in let s = total_append (total (begins w)) (port_paths rest) (f q ∷ []) in
    ap (λ l. total (total (begins w)) (port_paths l)) e ∙ ap (total (total (begins w))) (map-append f rest (q ∷ [])) ∙ (omega (arith, s))

-- the paths of the owner and of a thief's ports are those of the owner and the thief's path
pub all_ports : (w : Word) (k : ℕ) (old now : List Path) (pass : Port) (rest : List Port) → port_paths (pass ∷ rest) ≡ singles (extensions k (path_before k (view pass).paths)) → total (begins w) now ≡ total (begins w) old + total (total (begins w)) (port_paths rest)
    → total (begins w) (old ++ path_before k (view pass).paths ∷ []) ≡ total (begins w) now + total (begins w) (view pass).paths
all_ports w k old now pass rest e gained = let p = path_before k (view pass).paths in let s = total_append (begins w) old (p ∷ []) in let t = total_ports w k p (port_paths (pass ∷ rest)) e in omega (arith, s, t, gained)

-- one more port of the owner's first path
pub one_port : (ports : List Port) (q : Port) (before after all : List Path) → 0 < length before → (view q).paths ≡ take 1 before → after ≡ drop 1 before → port_paths ports ++ singles before ≡ singles all → port_paths (ports ++ q ∷ []) ++ singles after ≡ singles all
one_port ports q [] after all some mine rest so = absurd (omega (arith, some))
one_port ports q (b ∷ bs) after all some mine rest so = let f = λ (p : Port). (view p).paths in
    ap (λ l. l ++ singles after) (map-append f ports (q ∷ [])) ∙ append_assoc (port_paths ports) (f q ∷ []) (singles after) ∙ ap (λ l. port_paths ports ++ l ∷ singles after) mine ∙ ap (λ l. port_paths ports ++ (b ∷ []) ∷ singles l) rest ∙ so

pub counted : (ports : List Port) (left all : List Path) → port_paths ports ++ singles left ≡ singles all → length ports + length left ≡ length all
counted ports left all e = let f = λ (p : Port). (view p).paths in let g = λ (l : Path). l ∷ [] in
    let a = length-append (port_paths ports) (singles left) in let b = length-map ports f in let c = length-map left g in let d = length-map all g in let l : length (port_paths ports ++ singles left) ≡ length (singles all) = ap (λ x. length x) e in omega (arith, a, b, c, d, l)

pub no_left : (left : List Path) → length left ≡ 0 → left ≡ []
no_left [] none = refl
no_left (l ∷ ls) none = absurd (omega (arith, none))

pub closed : (ports : List Port) (left all : List Path) → left ≡ [] → port_paths ports ++ singles left ≡ singles all → port_paths ports ≡ singles all
closed ports left all none e = sym (append-nil (port_paths ports)) ∙ ap (λ l. port_paths ports ++ singles l) (sym none) ∙ e

last_of : (ys : List Port) (q d : Port) → get_or (ys ++ q ∷ []) (length ys) d ≡ q
last_of [] q d = refl
last_of (y ∷ ys) q d = last_of ys q d

pub last_spare : (deque : RowsId × Global) (ys all : List Port) (q : Port) → all ≡ ys ++ q ∷ [] → All (IsSpare deque) all → IsSpare deque q
last_spare deque ys all q e spares = let a = subst (All (IsSpare deque)) e spares in let l = length-append ys (q ∷ []) in subst (IsSpare deque) (last_of ys q q) (a (length ys) q (omega (arith, l)))

pub spares_add : (deque : RowsId × Global) (ys all : List Port) (q : Port) → all ≡ ys ++ q ∷ [] → All (IsSpare deque) ys → IsSpare deque q → All (IsSpare deque) all
spares_add deque ys all q e spares spare = subst (All (IsSpare deque)) (sym e) (All-append (IsSpare deque) ys (q ∷ []) spares (λ k d less. one_spare k d less))
  where
    one_spare : (k : ℕ) (d : Port) → k < 1 → IsSpare deque (get_or (q ∷ []) k d)
    one_spare zero d less = spare
    one_spare (suc k) d less = absurd (omega (arith, less))

pub no_ports : (w : Word) (ports : List Port) → length ports ≡ 0 → total (total (begins w)) (port_paths ports) ≡ 0
no_ports w [] none = refl
no_ports w (p ∷ ps) none = absurd (omega (arith, none))
