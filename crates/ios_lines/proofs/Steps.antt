-- What one more thing at the end of a list changes.
use Rattle.std.proofs.Common.{◌≡◌, Bool, true, false, ◌||◌, List, [], ◌∷◌, ◌++◌, map, refl, ap, ◌∙◌, append-nil}
use Rattle.std.specs.Prelude.{Option, Some, None, filter_map, fold, option_to_list}
use Rattle.std.specs.Option.{option_or}
use Rattle.std.specs.List.{list_any, cons_option}
use Rattle.ios_lines.specs.Lists.{first, last, latest}

pub filter_map_more : {E A : Type 0} (f : E → Option A) (es : List E) (e : E) → filter_map f (es ++ e ∷ []) ≡ filter_map f es ++ option_to_list (f e)
filter_map_more f [] e = elim (f e) as (λ o. cons_option o [] ≡ option_to_list o) [ None ↦ refl | Some x ↦ refl ]
filter_map_more f (x ∷ es) e = ap (cons_option (f x)) (filter_map_more f es e) ∙ elim (f x) as (λ o. cons_option o (filter_map f es ++ option_to_list (f e)) ≡ cons_option o (filter_map f es) ++ option_to_list (f e)) [ None ↦ refl | Some y ↦ refl ]

last_more : {A : Type 0} (xs : List A) (y : A) → last (xs ++ y ∷ []) ≡ Some y
last_more [] y = refl
last_more (x ∷ xs) y = ap (λ o. option_or o (Some x)) (last_more xs y)

pub latest_more : {E A : Type 0} (f : E → Option A) (es : List E) (e : E) → latest f (es ++ e ∷ []) ≡ option_or (f e) (latest f es)
latest_more {E} {A} f es e = ap last (filter_map_more f es e) ∙ elim (f e) as (λ o. last (filter_map f es ++ option_to_list o) ≡ option_or o (latest f es)) [ None ↦ ap (last {A = A}) (append-nil (filter_map f es)) | Some y ↦ last_more (filter_map f es) y ]

first_append : {A : Type 0} (xs ys : List A) → first (xs ++ ys) ≡ option_or (first xs) (first ys)
first_append [] ys = refl
first_append (x ∷ xs) ys = refl

-- the first of what is found
pub first_more : {E A : Type 0} (f : E → Option A) (es : List E) (e : E) → first (filter_map f (es ++ e ∷ [])) ≡ option_or (first (filter_map f es)) (f e)
first_more f es e = ap first (filter_map_more f es e) ∙ first_append (filter_map f es) (option_to_list (f e)) ∙ ap (option_or (first (filter_map f es))) (elim (f e) as (λ o. first (option_to_list o) ≡ o) [ None ↦ refl | Some r ↦ refl ])

pub any_more : {A : Type 0} (p : A → Bool) (xs : List A) (y : A) → list_any p (xs ++ y ∷ []) ≡ (list_any p xs || p y)
any_more p [] y = elim (p y) as (λ b. (b || false) ≡ b) [ true ↦ refl | false ↦ refl ]
any_more p (x ∷ xs) y = ap (λ b. p x || b) (any_more p xs y) ∙ elim (p x) as (λ b. (b || (list_any p xs || p y)) ≡ ((b || list_any p xs) || p y)) [ true ↦ refl | false ↦ refl ]

pub fold_more : {A B : Type 0} (f : B → A → B) (b : B) (xs : List A) (y : A) → fold f b (xs ++ y ∷ []) ≡ f (fold f b xs) y
fold_more f b [] y = refl
fold_more f b (x ∷ xs) y = fold_more f (f b x) xs y

pub map_more : {A B : Type 0} (f : A → B) (xs : List A) (y : A) → map f (xs ++ y ∷ []) ≡ map f xs ++ f y ∷ []
map_more f [] y = refl
map_more f (x ∷ xs) y = ap (λ l. f x ∷ l) (map_more f xs y)
