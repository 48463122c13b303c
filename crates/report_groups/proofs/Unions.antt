-- A group holds what its rows hold.
use Rattle.std.proofs.Common.{◌≡◌, ℕ, Bool, true, false, ◌&&◌, ◌||◌, List, [], ◌∷◌, map, refl, sym, ap, ◌∙◌}
use Rattle.std.specs.List.{list_any, flat_map}
use Rattle.std.proofs.lemmas.List.Folds.{list_any-append}
use Rattle.hdr_bits.specs.declared.header.Header.{Header}
use Rattle.net_types.specs.declared.label.Outcome.{Outcome}
use Rattle.report_groups.specs.declared.types.Group.{Group}
use Rattle.report_groups.specs.declared.types.Pattern.{Pattern}
use Rattle.report_groups.specs.Groups.{choices, cells_of}
use Rattle.report_groups.specs.Values.{matches}
use Rattle.report_groups.specs.Meaning.{each_matches, each_matches_some, fields_of, is_in_row, is_in_group}

shared : (a b c d : Bool) → ((a && c) || (b && c)) ≡ ((a || b) && c)
shared true true true d = refl
shared true true false d = refl
shared true false true d = refl
shared true false false d = refl
shared false b c d = refl

one_more : (a b c : Bool) → ((a && b) || (a && c)) ≡ (a && (b || c))
one_more true b c = refl
one_more false b c = refl

never : (a : Bool) → (a && false) ≡ false
never true = refl
never false = refl

with_head : (v : ℕ) (vs : List ℕ) (x : Pattern) (cs : List (List Pattern)) → list_any (each_matches (v ∷ vs)) (map (λ c. x ∷ c) cs) ≡ (matches v x && list_any (each_matches vs) cs)
with_head v vs x [] = sym (never (matches v x))
with_head v vs x (c ∷ cs) = ap (λ b. (matches v x && each_matches vs c) || b) (with_head v vs x cs) ∙ one_more (matches v x) (each_matches vs c) (list_any (each_matches vs) cs)

with_heads : (v : ℕ) (vs : List ℕ) (f : List Pattern) (cs : List (List Pattern)) → list_any (each_matches (v ∷ vs)) (flat_map (λ x. map (λ c. x ∷ c) cs) f) ≡ (list_any (matches v) f && list_any (each_matches vs) cs)
with_heads v vs [] cs = refl
with_heads v vs (x ∷ f) cs =
    list_any-append (each_matches (v ∷ vs)) (map (λ c. x ∷ c) cs) (flat_map (λ x. map (λ c. x ∷ c) cs) f)
    ∙ (λ i. with_head v vs x cs i || with_heads v vs f cs i)
    ∙ shared (matches v x) (list_any (matches v) f) (list_any (each_matches vs) cs) true

too_short : (x : Pattern) (cs : List (List Pattern)) → list_any (each_matches []) (map (λ c. x ∷ c) cs) ≡ false
too_short x [] = refl
too_short x (c ∷ cs) = too_short x cs

none_short : (f : List Pattern) (cs : List (List Pattern)) → list_any (each_matches []) (flat_map (λ x. map (λ c. x ∷ c) cs) f) ≡ false
none_short [] cs = refl
none_short (x ∷ f) cs = list_any-append (each_matches []) (map (λ c. x ∷ c) cs) (flat_map (λ x. map (λ c. x ∷ c) cs) f) ∙ (λ i. too_short x cs i || none_short f cs i)

chosen_some : (vs : List ℕ) (fs : List (List Pattern)) → list_any (each_matches vs) (choices fs) ≡ each_matches_some vs fs
chosen_some [] [] = refl
chosen_some (v ∷ vs) [] = refl
chosen_some [] (f ∷ fs) = none_short f (choices fs)
chosen_some (v ∷ vs) (f ∷ fs) = with_heads v vs f (choices fs) ∙ ap (λ b. list_any (matches v) f && b) (chosen_some vs fs)

rows_hold : (h : Header) (old new : List Outcome) (cs : List (List Pattern)) → list_any (is_in_row h) (map (λ c. record { fields = c; old = old; new = new }) cs) ≡ list_any (each_matches (fields_of h)) cs
rows_hold h old new [] = refl
rows_hold h old new (c ∷ cs) = ap (λ b. each_matches (fields_of h) c || b) (rows_hold h old new cs)

pub group_is_union : (g : Group) (h : Header) → list_any (is_in_row h) (cells_of g) ≡ is_in_group h g
group_is_union g h = rows_hold h g.old g.new (choices g.fields) ∙ chosen_some (fields_of h) g.fields
