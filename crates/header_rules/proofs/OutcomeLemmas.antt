-- The outcomes of the ends are the outcomes by the moves.
use Rattle.std.proofs.Common.{◌≡◌, Bool, List, [], ◌∷◌, Option, Some, None, map, refl, ap, ◌∙◌}
use Rattle.std.specs.Prelude.{filter_map, option_map}
use Rattle.std.specs.List.{cons_option}
use Rattle.hdr_bits.specs.declared.header.Header.{Header}
use Rattle.net_types.specs.declared.network.Move.{Move}
use Rattle.net_types.specs.Walks.{end_of, outcome_of}
use Rattle.header_rules.specs.Outcomes.{outcome_by}

map_cons_option : {A B : Type 0} (f : A → B) (o : Option A) (xs : List A) → map f (cons_option o xs) ≡ cons_option (option_map f o) (map f xs)
map_cons_option f None xs = refl
map_cons_option f (Some x) xs = refl

pub outcomes_of_ends : (g : Header) (last : Bool) (ms : List Move) → map (outcome_of g) (filter_map (end_of last) ms) ≡ filter_map (outcome_by g last) ms
outcomes_of_ends g last [] = refl
outcomes_of_ends g last (m ∷ ms) =
    map_cons_option (outcome_of g) (end_of last m) (filter_map (end_of last) ms) ∙ ap (cons_option (outcome_by g last m)) (outcomes_of_ends g last ms)
