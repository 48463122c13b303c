-- All that is told of a file, one kind after the other.
use Rattle.std.proofs.Common.{◌≡◌, ℕ, Bool, List, ◌++◌, ap, ◌∙◌, append_assoc}
use Rattle.std.specs.Prelude.{Option, option_map, option_to_list, Result, Ok, Err, OnOk}
use Rattle.ios_config.specs.Reads.{effects, refusal}
use Rattle.doctor_warnings.specs.declared.warning.Warning.{Warning}
use Rattle.doctor_warnings.specs.Readings.{config_by}
use Rattle.doctor_warnings.specs.Warnings.{alone_warnings, config_warnings, file_warnings, passed_warnings, refused_warning}

then_more : {A : Type 0} (old mid new a b : List A) → mid ≡ old ++ a → new ≡ mid ++ b → new ≡ old ++ (a ++ b)
then_more old mid new a b e f = f ∙ ap (λ t. t ++ b) e ∙ append_assoc old a b

more_after : {A T E : Type 0} (r : Result T E) (old mid new a b : List A) → mid ≡ old ++ a → OnOk r (new ≡ mid ++ b) → OnOk r (new ≡ old ++ (a ++ b))
more_after (Ok x) old mid new a b e f = then_more old mid new a b e f
more_after (Err x) old mid new a b e f = f

pub file_told : {T E : Type 0} (r : Result T E) (path bytes : List ℕ) (alone : Bool) (others : Option (List (List ℕ))) (w0 w1 w2 w3 w4 : List Warning)
    → w1 ≡ w0 ++ alone_warnings alone path → w2 ≡ w1 ++ option_to_list (option_map (refused_warning path bytes) (refusal (effects bytes)))
    → w3 ≡ w2 ++ passed_warnings others path bytes → OnOk r (w4 ≡ w3 ++ config_warnings path bytes (config_by bytes))
    → OnOk r (w4 ≡ w0 ++ file_warnings alone others path bytes)
file_told r path bytes alone others w0 w1 w2 w3 w4 a b p c =
    let refused = option_to_list (option_map (refused_warning path bytes) (refusal (effects bytes))) in
    let passed = passed_warnings others path bytes in
    let t2 = then_more w0 w1 w2 (alone_warnings alone path) refused a b in
    let t3 = then_more w0 w2 w3 (alone_warnings alone path ++ refused) passed t2 p in
    more_after r w0 w3 w4 (alone_warnings alone path ++ refused ++ passed) (config_warnings path bytes (config_by bytes)) t3 c
