-- Variants that are compared one after the other.
use Rattle.std.proofs.Common.{◌≡◌, ℕ, ◌+◌, ◌<◌, ◌≤◌, Bool, true, false, List, [], ◌∷◌, ◌++◌, length, take, drop, map, get_or, refl, sym, ap, subst, ◌∙◌, arith}
use Rattle.std.specs.Prelude.{◌||◌, nat_lt}
use Rattle.std.specs.List.{AllByRecursion, flat_map, list_any}
use Rattle.std.proofs.lemmas.List.{append-nil, append_assoc, at_drop_more, length-map, map-append, take_all, take_more}
use Rattle.std.proofs.lemmas.Grind.{flat_map-append}
use Rattle.net_types.specs.declared.config.Loaded.{Loaded}
use Rattle.net_types.specs.declared.network.NetDevice.{NetDevice}
use Rattle.net_load.specs.declared.numbering.Numbered.{Numbered}
use Rattle.net_load.specs.Numbering.{device_of}
use Rattle.net_variants.specs.Variants.{IsVariantReport}
use Rattle.report_text.specs.ReportText.{report_text, row_count}
use Rattle.job_core.specs.declared.report.Report.{Report}
use Rattle.variants_core.specs.declared.reading.Variant.{Variant}
use Rattle.variants_core.specs.Report.{AreCompared, Compared, IsCompared, IsWritten, base_world, compared_text, devices_of, first_ttl, has_rows, text_if, variant_line}
use Rattle.variants_core.specs.Taking.{changes_of}

all_more : {A : Type 0} (P : A → Type 0) (xs : List A) (x : A) → AllByRecursion P xs → P x → AllByRecursion P (xs ++ x ∷ [])
all_more P [] x all one = (one, tt)
all_more P (y ∷ xs) x all one = (all.0, all_more P xs x all.1 one)

or_false : (b : Bool) → (b || false) ≡ (false || b)
or_false true = refl
or_false false = refl

or_assoc : (a b c : Bool) → (a || (b || c)) ≡ ((a || b) || c)
or_assoc true b c = refl
or_assoc false b c = refl

any_more : {A : Type 0} (p : A → Bool) (xs : List A) (x : A) → list_any p (xs ++ x ∷ []) ≡ (list_any p xs || p x)
any_more p [] x = or_false (p x)
any_more p (y ∷ xs) x = ap (λ b. p y || b) (any_more p xs x) ∙ or_assoc (p y) (list_any p xs) (p x)

pub none_compared : (n : Numbered) (variants : List Variant) (text : List ℕ) → text ≡ [] → AreCompared n (take 0 variants) text false
none_compared n variants text none = record { all = []; every = refl; right = tt; text_is = none; affected_is = refl }

-- a variant more
pub compared_more : (n : Numbered) (variants : List Variant) (i : ℕ) (v : Variant) (was now : Report) (devices : List NetDevice)
    → i < length variants → v ≡ get_or variants i v
    → AreCompared n (take i variants) was.text.items was.affected
    → devices ≡ devices_of n v
    → IsWritten (base_world n) v.name devices n.names was now
    → AreCompared n (take (i + 1) variants) now.text.items now.affected
compared_more n variants i v was now devices h q m same w =
    let c : Compared = record { of = v; sections = w.sections } in
    let t : take (i + 1) variants ≡ take i variants ++ v ∷ [] = rw (← q) at (take_more variants i v h) in
    let line = variant_line v.name (row_count w.sections) in
    let report = text_if (nat_lt 0 (row_count w.sections)) (report_text n.names w.sections) in
    record {
      all = m.all ++ c ∷ [];
      every = map-append (λ x. x.of) m.all (c ∷ []) ∙ ap (λ vs. vs ++ v ∷ []) m.every ∙ sym t;
      right = all_more (IsCompared n) m.all c m.right (subst (λ (ds : List NetDevice). IsVariantReport (base_world n) ds first_ttl w.sections) same w.report);
      text_is =
          w.text ∙ append_assoc was.text.items line report ∙ ap (λ x. x ++ (line ++ report)) m.text_is
          ∙ ap (λ x. flat_map (compared_text n.names) m.all ++ x) (sym (append-nil (line ++ report))) ∙ sym (flat_map-append (compared_text n.names) m.all (c ∷ []));
      affected_is = w.affected ∙ ap (λ b. b || nat_lt 0 (row_count w.sections)) m.affected_is ∙ sym (any_more has_rows m.all c);
    }

-- all of them
pub compared_whole : (n : Numbered) (variants : List Variant) (i : ℕ) (text : List ℕ) (affected : Bool) → length variants ≤ i → AreCompared n (take i variants) text affected → AreCompared n variants text affected
compared_whole n variants i text affected h m = subst (λ vs. AreCompared n vs text affected) (take_all i variants h) m

-- ---- the devices of the variants one behind the other

module _ (n : Numbered) (variants : List Variant) where
  abbrev pub devices_from : ℕ → List NetDevice
  devices_from i = map (device_of n.names.texts) (changes_of (drop i variants))

  pub devices_at : (i : ℕ) (v : Variant) → i < length variants → v ≡ get_or variants i v → devices_from i ≡ devices_of n v ++ devices_from (i + 1)
  devices_at i v h q =
      ap (λ vs. map (device_of n.names.texts) (changes_of vs)) (at_drop_more (λ ys. ys) variants i v h ∙ ap (λ z. z ∷ drop (i + 1) variants) (sym q))
      ∙ map-append (device_of n.names.texts) v.changes (changes_of (drop (i + 1) variants))

take_front : {A : Type 0} (xs ys : List A) → take (length xs) (xs ++ ys) ≡ xs
take_front [] ys = refl
take_front (x ∷ xs) ys = ap (λ zs. x ∷ zs) (take_front xs ys)

drop_front : {A : Type 0} (xs ys : List A) → drop (length xs) (xs ++ ys) ≡ ys
drop_front [] ys = refl
drop_front (x ∷ xs) ys = drop_front xs ys

-- cut where the devices of the first one end
pub front_is : (n : Numbered) (v : Variant) (rest others : List NetDevice) → rest ≡ devices_of n v ++ others → take (length v.changes) rest ≡ devices_of n v
front_is n v rest others e =
    ap (λ k. take k rest) (sym (length-map v.changes (device_of n.names.texts))) ∙ ap (take (length (devices_of n v))) e ∙ take_front (devices_of n v) others

pub back_is : (n : Numbered) (v : Variant) (rest others : List NetDevice) → rest ≡ devices_of n v ++ others → drop (length v.changes) rest ≡ others
back_is n v rest others e =
    ap (λ k. drop k rest) (sym (length-map v.changes (device_of n.names.texts))) ∙ ap (drop (length (devices_of n v))) e ∙ drop_front (devices_of n v) others
