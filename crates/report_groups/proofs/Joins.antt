-- What joining groups keeps.
use Rattle.std.proofs.Common.{◌≡◌, ◌<◌, ℕ, zero, suc, ◌+◌, ◌⊎◌, inl, inr, List, [], ◌∷◌, ◌++◌, length, map, Some, slice_get, slice_set, slice_index_or, refl, sym, ap, subst, ◌∙◌, arith}
use Rattle.std.specs.List.{flat_map, AllByRecursion}
use Rattle.std.specs.List.Sorted.{IsPermutation}
use Rattle.std.proofs.lemmas.List.{map-append, map-set, append_assoc, append-nil, length-append, length-map, length-set, set-set, set-get_or, get_or-set_same}
use Rattle.std.proofs.Math.Nat.{eq-or-lt_of_le}
use Rattle.std.proofs.lemmas.List.Concat.{flat_map-append}
use Rattle.std.proofs.lemmas.List.Sorted.{IsPermutation-refl, IsPermutation-trans, IsPermutation-map, IsPermutation-append, IsPermutation-append_left, IsPermutation-append_right, IsPermutation-append_comm, length_permutation}
use Rattle.report_groups.specs.declared.types.Group.{Group}
use Rattle.report_groups.specs.declared.types.Pattern.{Pattern}
use Rattle.report_groups.specs.declared.types.Draft.{Draft}
use Rattle.net_types.specs.declared.network.Row.{Row}
use Rattle.report_groups.specs.Groups.{Cell, choices, cells_of, field_at, with_field, without, AreDistinct, NoneJoin, HasRows, HasFields, cell_of, IsGrouping}
use Rattle.report_groups.specs.Drafts.{AddsNew, AddsAt, Adds, IsFilled, filled_of, JoinsIn, JoinsBelow, Settles, shown}

equal : {X : Type 0} (xs ys : List X) → xs ≡ ys → IsPermutation xs ys
equal xs ys e = subst (IsPermutation xs) e (IsPermutation-refl xs)

-- the middle two of four parts change places
middle : {X : Type 0} (a b c d : List X) → IsPermutation ((a ++ b) ++ (c ++ d)) ((a ++ c) ++ (b ++ d))
middle a b c d =
    let l : (a ++ b) ++ (c ++ d) ≡ a ++ ((b ++ c) ++ d) = append_assoc a b (c ++ d) ∙ ap (λ x. a ++ x) (sym (append_assoc b c d)) in
    let r : a ++ ((c ++ b) ++ d) ≡ (a ++ c) ++ (b ++ d) = ap (λ x. a ++ x) (append_assoc c b d) ∙ sym (append_assoc a c (b ++ d)) in
    subst (λ x. IsPermutation x ((a ++ c) ++ (b ++ d))) (sym l)
    (subst (IsPermutation (a ++ ((b ++ c) ++ d))) r
    (IsPermutation-append_right a ((b ++ c) ++ d) ((c ++ b) ++ d) (IsPermutation-append_left d (b ++ c) (c ++ b) (IsPermutation-append_comm b c))))

-- lists that are two lists each, one after the other
both : {X Y : Type 0} (f g h : X → List Y) → ((x : X) → IsPermutation (f x ++ g x) (h x)) → (xs : List X) → IsPermutation (flat_map f xs ++ flat_map g xs) (flat_map h xs)
both f g h e [] = IsPermutation-refl []
both f g h e (x ∷ xs) =
    IsPermutation-trans _ _ _ (middle (f x) (flat_map f xs) (g x) (flat_map g xs))
    (IsPermutation-append (f x ++ g x) (h x) (flat_map f xs ++ flat_map g xs) (flat_map h xs) (e x) (both f g h e xs))

abbrev chosen : {A : Type 0} → List (List A) → A → List (List A)
chosen cs x = map (λ c. x ∷ c) cs

-- the choices of two lists of lists that differ in one list
choices_joined : {A : Type 0} (fs : List (List A)) (k : ℕ) (a b : List A) → k < length fs → IsPermutation (choices (slice_set fs k a) ++ choices (slice_set fs k b)) (choices (slice_set fs k (a ++ b)))
choices_joined [] k a b l = absurd (omega (arith, l))
choices_joined (f ∷ fs) zero a b l = equal _ _ (sym (flat_map-append (chosen (choices fs)) a b))
choices_joined (f ∷ fs) (suc k) a b l =
    both (chosen (choices (slice_set fs k a))) (chosen (choices (slice_set fs k b))) (chosen (choices (slice_set fs k (a ++ b))))
    (λ x. subst (λ z. IsPermutation z (chosen (choices (slice_set fs k (a ++ b))) x)) (map-append (λ c. x ∷ c) (choices (slice_set fs k a)) (choices (slice_set fs k b)))
    (IsPermutation-map (λ c. x ∷ c) _ _ (choices_joined fs k a b (omega (arith, l))))) f

abbrev cell : Group → List Pattern → Cell
cell g c = record { fields = c; old = g.old; new = g.new }

-- the rows of two groups that are equal but for field k
cells_joined : (g : Group) (k : ℕ) (a b : List Pattern) → k < length g.fields → IsPermutation (cells_of (with_field k a g) ++ cells_of (with_field k b g)) (cells_of (with_field k (a ++ b) g))
cells_joined g k a b l =
    subst (λ z. IsPermutation z (cells_of (with_field k (a ++ b) g))) (map-append (cell g) (choices (slice_set g.fields k a)) (choices (slice_set g.fields k b)))
    (IsPermutation-map (cell g) _ _ (choices_joined g.fields k a b l))

-- ---- lists of groups

abbrev rows : List Group → List Cell
rows gs = flat_map cells_of gs

-- a group stands for what it did and for what another did
changed : (xs : List Group) (i : ℕ) (f g h : Group) → slice_get xs i ≡ Some f → IsPermutation (cells_of f ++ cells_of g) (cells_of h) → IsPermutation (rows xs ++ cells_of g) (rows (slice_set xs i h))
changed [] i f g h at p = absurd cc
changed (x ∷ xs) zero f g h at p =
    let same : x ≡ f = cc in
    let left : (cells_of x ++ rows xs) ++ cells_of g ≡ cells_of x ++ (rows xs ++ cells_of g) = append_assoc (cells_of x) (rows xs) (cells_of g) in
    let turned = IsPermutation-append_right (cells_of x) (rows xs ++ cells_of g) (cells_of g ++ rows xs) (IsPermutation-append_comm (rows xs) (cells_of g)) in
    let right : cells_of x ++ (cells_of g ++ rows xs) ≡ (cells_of f ++ cells_of g) ++ rows xs = sym (append_assoc (cells_of x) (cells_of g) (rows xs)) ∙ ap (λ y. (cells_of y ++ cells_of g) ++ rows xs) same in
    IsPermutation-trans _ _ _ (equal _ _ left) (IsPermutation-trans _ _ _ turned (IsPermutation-trans _ _ _ (equal _ _ right) (IsPermutation-append_left (rows xs) (cells_of f ++ cells_of g) (cells_of h) p)))
changed (x ∷ xs) (suc i) f g h at p =
    IsPermutation-trans _ _ _ (equal _ _ (append_assoc (cells_of x) (rows xs) (cells_of g)))
    (IsPermutation-append_right (cells_of x) (rows xs ++ cells_of g) (rows (slice_set xs i h)) (changed xs i f g h at p))

-- one more group at the end
rows_more : (xs : List Group) (g : Group) → rows (xs ++ g ∷ []) ≡ rows xs ++ cells_of g
rows_more xs g = flat_map-append cells_of xs (g ∷ []) ∙ ap (λ y. rows xs ++ y) (append-nil (cells_of g))

long_more : (P : Group → Type 0) (xs : List Group) (g : Group) → AllByRecursion P xs → P g → AllByRecursion P (xs ++ g ∷ [])
long_more P [] g h p = (p, tt)
long_more P (x ∷ xs) g h p = (h.0, long_more P xs g h.1 p)

long_front : (P : Group → Type 0) (xs : List Group) (g : Group) → AllByRecursion P (xs ++ g ∷ []) → AllByRecursion P xs
long_front P [] g h = tt
long_front P (x ∷ xs) g h = (h.0, long_front P xs g h.1)

long_last : (P : Group → Type 0) (xs : List Group) (g : Group) → AllByRecursion P (xs ++ g ∷ []) → P g
long_last P [] g h = h.0
long_last P (x ∷ xs) g h = long_last P xs g h.1

rows_of_both : (f g h : Group) → HasRows f → IsPermutation (cells_of f ++ cells_of g) (cells_of h) → HasRows h
rows_of_both f g h some p = omega (arith, some, length-append (cells_of f) (cells_of g), length_permutation (cells_of f ++ cells_of g) (cells_of h) p)

long_set : (P : Group → Type 0) (xs : List Group) (i : ℕ) (g : Group) → AllByRecursion P xs → P g → AllByRecursion P (slice_set xs i g)
long_set P [] i g h p = h
long_set P (x ∷ xs) zero g h p = (p, h.1)
long_set P (x ∷ xs) (suc i) g h p = (h.0, long_set P xs i g h.1 p)

long_at : (P : Group → Type 0) (xs : List Group) (i : ℕ) (g : Group) → AllByRecursion P xs → slice_get xs i ≡ Some g → P g
long_at P [] i g h e = absurd cc
long_at P (x ∷ xs) zero g h e = (let same : x ≡ g = cc in subst P same h.0)
long_at P (x ∷ xs) (suc i) g h e = long_at P xs i g h.1 e

-- field k put where nothing stood
whole : (k : ℕ) (g : Group) → with_field k (field_at k g) (without k g) ≡ g
whole k g = ap (λ fs. record { fields = fs; old = g.old; new = g.new }) (set-set g.fields k [] (field_at k g) ∙ set-get_or g.fields k [])

kept : (k : ℕ) (g : Group) → with_field k (field_at k g) g ≡ g
kept k g = ap (λ fs. record { fields = fs; old = g.old; new = g.new }) (set-get_or g.fields k [])

again : (k : ℕ) (a b : List Pattern) (g : Group) → with_field k b (with_field k a g) ≡ with_field k b g
again k a b g = ap (λ fs. record { fields = fs; old = g.old; new = g.new }) (set-set g.fields k a b)

-- a group that is equal to another but for field k, with that of the other, is the other
like : (k : ℕ) (f g : Group) → without k f ≡ without k g → with_field k (field_at k g) f ≡ g
like k f g e = sym (again k [] (field_at k g) f) ∙ ap (with_field k (field_at k g)) e ∙ whole k g

abbrev joined : ℕ → Group → Group → Group
joined k f g = with_field k (field_at k f ++ field_at k g) f

joined_cells : (k : ℕ) (f g : Group) → k < length f.fields → without k f ≡ without k g → IsPermutation (cells_of f ++ cells_of g) (cells_of (joined k f g))
joined_cells k f g l e =
    subst (λ x. IsPermutation (cells_of x ++ cells_of g) (cells_of (joined k f g))) (kept k f)
    (subst (λ y. IsPermutation (cells_of (with_field k (field_at k f) f) ++ cells_of y) (cells_of (joined k f g))) (like k f g e)
    (cells_joined f k (field_at k f) (field_at k g) l))

-- what is at a place of a list, and what a list gives when it is replaced
at_map : {A B : Type 0} (f : A → B) (xs : List A) (i : ℕ) (b : B) → slice_get (map f xs) i ≡ Some b → (x : A) × (slice_get xs i ≡ Some x) × (f x ≡ b)
at_map f [] i b e = absurd cc
at_map f (x ∷ xs) zero b e = (x, refl, cc)
at_map f (x ∷ xs) (suc i) b e = at_map f xs i b e

get_map : {A B : Type 0} (f : A → B) (xs : List A) (i : ℕ) (x : A) (d : B) → slice_get xs i ≡ Some x → slice_index_or (map f xs) i d ≡ f x
get_map f [] i x d e = absurd cc
get_map f (y ∷ xs) zero x d e = (let same : y ≡ x = cc in ap f same)
get_map f (y ∷ xs) (suc i) x d e = get_map f xs i x d e

map_kept : {A B : Type 0} (f : A → B) (xs : List A) (i : ℕ) (x y : A) → slice_get xs i ≡ Some x → f y ≡ f x → map f (slice_set xs i y) ≡ map f xs
map_kept f [] i x y e h = absurd cc
map_kept f (z ∷ xs) zero x y e h = (let same : z ≡ x = cc in ap (λ b. b ∷ map f xs) (h ∙ sym (ap f same)))
map_kept f (z ∷ xs) (suc i) x y e h = ap (λ bs. f z ∷ bs) (map_kept f xs i x y e h)

-- ---- the table of groups

pub filled_none : (k : ℕ) → IsFilled k [] [] []
filled_none k = record { filled = []; keys_are = refl; lists_are = refl; long = tt; same = IsPermutation-refl []; some = λ h. h; fewer = omega arith; none = λ e. refl }

filled_new : (k : ℕ) (g : Group) (done keys : List Group) (lists : List (List Pattern)) (keys' : List Group) (lists' : List (List Pattern)) → k < length g.fields → IsFilled k done keys lists → AddsNew k g keys lists keys' lists' → IsFilled k (done ++ g ∷ []) keys' lists'
filled_new k g done keys lists keys' lists' l is adds = record {
  filled = is.filled ++ g ∷ [];
  keys_are = adds.0 ∙ ap (λ x. x ++ without k g ∷ []) is.keys_are ∙ sym (map-append (without k) is.filled (g ∷ []));
  lists_are = adds.1 ∙ ap (λ x. x ++ field_at k g ∷ []) is.lists_are ∙ sym (map-append (field_at k) is.filled (g ∷ []));
  long = long_more (λ g. k < length g.fields) is.filled g is.long l;
  same = IsPermutation-trans _ _ _ (equal _ _ (rows_more done g)) (IsPermutation-trans _ _ _ (IsPermutation-append_left (cells_of g) (rows done) (rows is.filled) is.same) (equal _ _ (sym (rows_more is.filled g))));
  some = λ h. long_more HasRows is.filled g (is.some (long_front HasRows done g h)) (long_last HasRows done g h);
  fewer = omega (arith, length-append is.filled (g ∷ []), length-append done (g ∷ []), is.fewer);
  none = λ e. ap (λ xs. xs ++ g ∷ []) (is.none (omega (arith, length-append is.filled (g ∷ []), length-append done (g ∷ []), e)));
}

filled_at : (k : ℕ) (g : Group) (done keys : List Group) (lists : List (List Pattern)) (keys' : List Group) (lists' : List (List Pattern)) (i : ℕ) → IsFilled k done keys lists → AddsAt k g keys lists keys' lists' i → IsFilled k (done ++ g ∷ []) keys' lists'
filled_at k g done keys lists keys' lists' i is adds =
    let found = at_map (without k) is.filled i (without k g) (sym (ap (λ ks. slice_get ks i) is.keys_are) ∙ adds.1) in
    let f = found.0 in
    let long = long_at (λ g. k < length g.fields) is.filled i f is.long found.1 in
    let both = joined k f g in
    let field : field_at k both ≡ field_at k f ++ field_at k g = get_or-set_same f.fields k (field_at k f ++ field_at k g) [] long in
    let before : slice_index_or lists i [] ≡ field_at k f = ap (λ ls. slice_index_or ls i []) is.lists_are ∙ get_map (field_at k) is.filled i f [] found.1 in
    let lists_at : slice_set lists i (slice_index_or lists i [] ++ field_at k g) ≡ slice_set (map (field_at k) is.filled) i (field_at k both) = λ j. slice_set (is.lists_are j) i ((ap (λ x. x ++ field_at k g) before ∙ sym field) j) in
    record {
      filled = slice_set is.filled i both;
      keys_are = adds.0 ∙ is.keys_are ∙ sym (map_kept (without k) is.filled i f both found.1 (again k (field_at k f ++ field_at k g) [] f));
      lists_are = adds.2 ∙ lists_at ∙ sym (map-set (field_at k) is.filled i both);
      long = long_set (λ g. k < length g.fields) is.filled i both is.long (omega (arith, long, length-set f.fields k (field_at k f ++ field_at k g)));
      same = IsPermutation-trans _ _ _ (equal _ _ (rows_more done g)) (IsPermutation-trans _ _ _ (IsPermutation-append_left (cells_of g) (rows done) (rows is.filled) is.same) (changed is.filled i f g both found.1 (joined_cells k f g long found.2)));
      some = λ h. (let rest = is.some (long_front HasRows done g h) in long_set HasRows is.filled i both rest (rows_of_both f g both (long_at HasRows is.filled i f rest found.1) (joined_cells k f g long found.2)));
      fewer = omega (arith, length-set is.filled i both, length-append done (g ∷ []), is.fewer);
      none = λ e. absurd (omega (arith, length-set is.filled i both, length-append done (g ∷ []), is.fewer, e));
    }

-- a group is added
pub filled_more : (k : ℕ) (g : Group) (done keys : List Group) (lists : List (List Pattern)) (keys' : List Group) (lists' : List (List Pattern)) → k < length g.fields → IsFilled k done keys lists → Adds k g keys lists keys' lists' → IsFilled k (done ++ g ∷ []) keys' lists'
filled_more k g done keys lists keys' lists' l is (inl new) = filled_new k g done keys lists keys' lists' l is new
filled_more k g done keys lists keys' lists' l is (inr (i, at)) = filled_at k g done keys lists keys' lists' i is at

filled_again : (k : ℕ) (gs : List Group) → filled_of k (map (without k) gs) (map (field_at k) gs) ≡ gs
filled_again k [] = refl
filled_again k (g ∷ gs) = λ i. whole k g i ∷ filled_again k gs i

-- all groups are added
pub filled_joins : (k : ℕ) (done keys : List Group) (lists : List (List Pattern)) (new : List Group) → IsFilled k done keys lists → AreDistinct keys → new ≡ filled_of k keys lists → JoinsIn k done new
filled_joins k done keys lists new is distinct e =
    let same : new ≡ is.filled = e ∙ (λ i. filled_of k (is.keys_are i) (is.lists_are i)) ∙ filled_again k is.filled in
    subst (JoinsIn k done) (sym same) (record {
      same = is.same;
      apart = subst AreDistinct is.keys_are distinct;
      some = is.some;
      fewer = is.fewer;
      none = is.none;
    })

-- ---- rounds

pub none_below : (gs : List Group) → JoinsBelow 0 gs gs
none_below gs = record { same = IsPermutation-refl (rows gs); some = λ h. h; fewer = omega arith; apart = λ e k l. absurd (omega (arith, l)) }

one_of : (n k : ℕ) (new : List Group) → NoneJoin n new → (k < n → NoneJoin k new) → (k ≡ n) ⊎ (k < n) → NoneJoin k new
one_of n k new now before (inl same) = subst (λ j. NoneJoin j new) (sym same) now
one_of n k new now before (inr below) = before below

-- one more field
pub joins_more : (n : ℕ) (old mid new : List Group) → JoinsBelow n old mid → JoinsIn n mid new → JoinsBelow (n + 1) old new
joins_more n old mid new before now = record {
  same = IsPermutation-trans _ _ _ before.same now.same;
  some = λ h. now.some (before.some h);
  fewer = omega (arith, before.fewer, now.fewer);
  apart = λ e k l. (let none = now.none (omega (arith, before.fewer, now.fewer, e)) in
      one_of n k new now.apart (λ below. subst (NoneJoin k) (sym none) (before.apart (omega (arith, before.fewer, now.fewer, e)) k below)) (eq-or-lt_of_le {n = k} {m = n} (omega (arith, l))));
}

pub settles_more : (old mid new : List Group) → IsPermutation (rows old) (rows mid) → (AllByRecursion HasRows old → AllByRecursion HasRows mid) → JoinsBelow 6 mid new → length new ≡ length mid → Settles old new
settles_more old mid new same some joins e = record {
  same = IsPermutation-trans _ _ _ same joins.same;
  some = λ h. joins.some (some h);
  apart = joins.apart e;
}

-- ---- the groups of rows

-- a group for each row
pub one_each : (ds : List Draft) (rs : List Row) → map (λ d. cells_of (shown d)) ds ≡ map (λ row. cell_of row ∷ []) rs → rows (map shown ds) ≡ map cell_of rs
one_each [] [] e = refl
one_each [] (r ∷ rs) e = absurd cc
one_each (d ∷ ds) [] e = absurd cc
one_each (d ∷ ds) (r ∷ rs) e =
    let head : cells_of (shown d) ≡ cell_of r ∷ [] = cc in
    let tail : map (λ d. cells_of (shown d)) ds ≡ map (λ row. cell_of row ∷ []) rs = cc in
    λ i. head i ++ one_each ds rs tail i

pub some_each : (ds : List Draft) (rs : List Row) → map (λ d. cells_of (shown d)) ds ≡ map (λ row. cell_of row ∷ []) rs → AllByRecursion HasRows (map shown ds)
some_each [] rs e = tt
some_each (d ∷ ds) [] e = absurd cc
some_each (d ∷ ds) (r ∷ rs) e =
    let head : cells_of (shown d) ≡ cell_of r ∷ [] = cc in
    let tail : map (λ d. cells_of (shown d)) ds ≡ map (λ row. cell_of row ∷ []) rs = cc in
    (omega (arith, ap length head), some_each ds rs tail)

six_each : (ds : List Draft) → AllByRecursion HasFields (map shown ds)
six_each [] = tt
six_each (d ∷ ds) = (length-map d.fields.items (λ f. f.items) ∙ d.six, six_each ds)

pub grouping : (ds : List Draft) (rs : List Row) (settled : List Draft) (groups : List Group) → map (λ d. cells_of (shown d)) ds ≡ map (λ row. cell_of row ∷ []) rs → Settles (map shown ds) (map shown settled) → groups ≡ map shown settled → IsGrouping rs groups
grouping ds rs settled groups e s g = subst (IsGrouping rs) (sym g) (record {
  same = subst (λ x. IsPermutation x (rows (map shown settled))) (one_each ds rs e) s.same;
  some = s.some (some_each ds rs e);
  six = six_each settled;
  apart = s.apart;
})
