-- Lists that are made, and what is known of the devices' lists, as tables grow.
use Rattle.std.proofs.Common.{ℕ, zero, suc, ◌≡◌, ◌≢◌, ◌<◌, ◌≤◌, ◌++◌, ◌⊎◌, inl, inr, All, List, [], ◌∷◌, length, get_or, slice_get, slice_set, Option, Some, None, option_and_then, refl, ap, sym, ◌∙◌, subst, arith}
use Rattle.std.specs.Prelude.{Result, Ok, Err, IfSome, OnOk}
use Rattle.std.proofs.lemmas.Bool.Decides.{eqb_tells}
use Rattle.std.proofs.lemmas.List.Elements.{All-append, All-nil, All-weaker}
use Rattle.std.proofs.lemmas.Option.{slice_get_read}
use Rattle.cube_diagram.specs.Absorbed.{TellsOthers}
use Rattle.cube_diagram.specs.Functions.{Functions, Keeps, count_of, value_at}
use Rattle.device_fates.specs.declared.fate.Fate.{Fate}
use Rattle.device_fates.specs.Fates.{IsFateFunction}
use Rattle.device_fates.specs.Pieces.{AreNumbers}
use Rattle.device_fates.proofs.FateLemmas.{told_function}
use Rattle.hdr_bits.specs.HeaderBits.{number}
use Rattle.net_types.specs.declared.config.AccessList.{AccessList}
use Rattle.net_types.specs.declared.network.NetDevice.{NetDevice}
use Rattle.net_forms.specs.declared.forms.DeviceLists.{DeviceLists}
use Rattle.net_forms.specs.declared.forms.KnownList.{KnownList}
use Rattle.net_forms.specs.Forms.{IsKnown, IsList, TablesGrow}
use Rattle.net_forms.specs.declared.forms.Tables.{Tables}
use Rattle.net_forms.specs.Known.{AreKnownFates, AreKnownLists, known_at, lists_of}
use Rattle.net_forms.proofs.FormLemmas.{fates_kept, list_kept}
use Rattle.list_tables.specs.declared.lists.BothDevices.{BothDevices}
use Rattle.list_tables.specs.declared.lists.ListPosition.{ListPosition}
use Rattle.list_tables.specs.declared.shares.MadeList.{MadeList}
use Rattle.list_tables.specs.declared.shares.MadeShare.{MadeShare}
use Rattle.list_tables.specs.declared.fates.MadeFates.{MadeFates}
use Rattle.list_tables.specs.Made.{IsMadeFates, IsMadeList, IsMadeShare, devices_of, list_at}

get_set_same : {A : Type 0} (xs : List A) (i : ℕ) (v : A) → i < length xs → slice_get (slice_set xs i v) i ≡ Some v
get_set_same [] i v l = absurd (omega arith)
get_set_same (x ∷ xs) zero v l = refl
get_set_same (x ∷ xs) (suc i) v l = get_set_same xs i v (omega arith)

get_set_other : {A : Type 0} (xs : List A) (i j : ℕ) (v : A) → i ≢ j → slice_get (slice_set xs i v) j ≡ slice_get xs j
get_set_other [] i j v n = refl
get_set_other (x ∷ xs) zero zero v n = absurd (n refl)
get_set_other (x ∷ xs) zero (suc j) v n = refl
get_set_other (x ∷ xs) (suc i) zero v n = refl
get_set_other (x ∷ xs) (suc i) (suc j) v n = get_set_other xs i j v (λ e. n (ap suc e))

All-one : {A : Type 0} (P : A → Type 0) (x : A) → P x → All P (x ∷ [])
All-one P x p zero d l = p
All-one P x p (suc i) d l = absurd (omega arith)

-- ---- what one worker made
pub made_kept : (f g : Functions) (both : BothDevices) (lists : List MadeList) → Keeps f g → All (IsMadeList f both) lists → All (IsMadeList g both) lists
made_kept f g both lists k a = All-weaker (IsMadeList f both) (IsMadeList g both) (λ m r. list_kept f g (list_at (devices_of both m.at.version) m.at) m.function k r) lists a

pub made_more : (f g : Functions) (both : BothDevices) (lists : List MadeList) (m : MadeList) → Keeps f g → All (IsMadeList f both) lists → IsMadeList g both m → All (IsMadeList g both) (lists ++ m ∷ [])
made_more f g both lists m k a r = All-append (IsMadeList g both) lists (m ∷ []) (made_kept f g both lists k a) (All-one (IsMadeList g both) m r)

pub numbers_below : (both : BothDevices) (share : MadeShare) → IsMadeShare both share → All (λ m. m.function < count_of share.table) share.lists.items
numbers_below both share a = All-weaker (IsMadeList share.table both) (λ m. m.function < count_of share.table) (λ m r. r.below) share.lists.items a

-- ---- what is copied from one table to another
pub copied_list : (source fs : Functions) (list : Option AccessList) (a r : ℕ) → r < count_of fs → ((h : ℕ) → value_at fs r h ≡ value_at source a h) → IsList source list a → IsList fs list r
copied_list source fs list a r below same l = record { below = below; exact = λ h v. same (number h) ∙ l.exact h v }

pub ok_then : {A E : Type 0} (P Q : Type 0) (r : Result A E) → (P → Q) → OnOk r P → OnOk r Q
ok_then P Q (Ok x) f p = f p
ok_then P Q (Err e) f p = tt

-- ---- what is known of the devices
module _ (fs : Functions) (ds : List NetDevice) where
  pub nothing_known : (known : List DeviceLists) → ((n : ℕ) (k : DeviceLists) → slice_get known n ≡ Some k → k.lists.items ≡ []) → AreKnownLists fs ds known
  nothing_known known empty n d e = nothing d (slice_get known n) (λ k. empty n k) where
    nothing : (d : NetDevice) (o : Option DeviceLists) → ((k : DeviceLists) → o ≡ Some k → k.lists.items ≡ []) → All (IsKnown fs d.config.lists) (lists_of o)
    nothing d None f = All-nil (IsKnown fs d.config.lists)
    nothing d (Some k) f = subst (All (IsKnown fs d.config.lists)) (sym (f k refl)) (All-nil (IsKnown fs d.config.lists))

  known_here : (at : ListPosition) (function : ℕ) (d : NetDevice) → slice_get ds at.device ≡ Some d → IsList fs (list_at ds at) function → IsList fs (slice_get d.config.lists at.list) function
  known_here at function d e r = subst (λ (o : Option NetDevice). IsList fs (option_and_then (λ x. slice_get x.config.lists at.list) o) function) e r

  -- one list more of one device, whose known lists were s and are v
  pub known_more : (known : List DeviceLists) (at : ListPosition) (s v : DeviceLists) (k : KnownList) → at.device < length known → s ≡ get_or known at.device s → v.lists.items ≡ s.lists.items ++ k ∷ [] → k.position ≡ at.list → IsList fs (list_at ds at) k.function → AreKnownLists fs ds known → AreKnownLists fs ds (slice_set known at.device v)
  known_more known at s v k within read more position right a n d e =
      elim (eqb_tells at.device n) [
        | inl q ↦
            let P = IsKnown fs d.config.lists in
            let here : slice_get ds at.device ≡ Some d = ap (slice_get ds) q.1 ∙ e in
            let was : All P (known_at known at.device) = a at.device d here in
            let old : All P s.lists.items = subst (λ (o : Option DeviceLists). All P (lists_of o)) (slice_get_read known (length known) at.device s refl within read) was in
            let one : P k = subst (λ (p : ℕ). IsList fs (slice_get d.config.lists p) k.function) (sym position) (known_here at k.function d here right) in
            let new : All P v.lists.items = subst (All P) (sym more) (All-append P s.lists.items (k ∷ []) old (All-one P k one)) in
            let there : slice_get (slice_set known at.device v) n ≡ Some v = sym (ap (slice_get (slice_set known at.device v)) q.1) ∙ get_set_same known at.device v within in
            subst (λ (o : Option DeviceLists). All P (lists_of o)) (sym there) new
        | inr q ↦ subst (λ (o : Option DeviceLists). All (IsKnown fs d.config.lists) (lists_of o)) (sym (get_set_other known at.device n v q.1)) (a n d e)
      ]

-- ---- what is known of destinations
pub nothing_of_fates : (fs : Functions) (fates : List Fate) (ds : List NetDevice) (known : List (Option ℕ)) → ((n : ℕ) (o : Option ℕ) → slice_get known n ≡ Some o → o ≡ None) → AreKnownFates fs fates ds known
nothing_of_fates fs fates ds known none n d f e k = (let q : Some f ≡ None = none n (Some f) k in absurd cc)

set_cases : {A : Type 0} (xs : List A) (i n : ℕ) (v y : A) → slice_get (slice_set xs i v) n ≡ Some y → ((i ≡ n) × (v ≡ y)) ⊎ (slice_get xs n ≡ Some y)
set_cases [] i n v y e = inr e
set_cases (x ∷ xs) zero zero v y e = let s : v ≡ y = cc in inl (refl, s)
set_cases (x ∷ xs) zero (suc n) v y e = inr e
set_cases (x ∷ xs) (suc i) zero v y e = inr e
set_cases (x ∷ xs) (suc i) (suc n) v y e =
    elim (set_cases xs i n v y e) [
      | inl p ↦ inl (ap suc p.0, p.1)
      | inr q ↦ inr q
    ]

pub set_beyond : {A : Type 0} (xs : List A) (i : ℕ) (v : A) → length xs ≤ i → slice_set xs i v ≡ xs
set_beyond [] i v l = refl
set_beyond (x ∷ xs) zero v l = absurd (omega arith)
set_beyond (x ∷ xs) (suc i) v l = ap (λ ys. x ∷ ys) (set_beyond xs i v (omega arith))

-- the function of one device more
pub fates_more : (fs : Functions) (fates : List Fate) (ds : List NetDevice) (known : List (Option ℕ)) (i : ℕ) (o : Option ℕ) → ((d : NetDevice) → slice_get ds i ≡ Some d → IfSome o (IsFateFunction fs fates d.config)) → AreKnownFates fs fates ds known → AreKnownFates fs fates ds (slice_set known i o)
fates_more fs fates ds known i o right a n d f e k =
    elim (set_cases known i n o (Some f) k) [
      | inl p ↦
          let here : slice_get ds i ≡ Some d = ap (slice_get ds) p.0 ∙ e in
          subst (λ (q : Option ℕ). IfSome q (IsFateFunction fs fates d.config)) p.1 (right d here)
      | inr q ↦ a n d f e q
    ]

-- a device more that a worker made
pub made_fates_more : (old new : Tables) (ds : List NetDevice) (made : List MadeFates) (m : MadeFates) → TablesGrow old new → All (IsMadeFates old ds) made → IsMadeFates new ds m → All (IsMadeFates new ds) (made ++ m ∷ [])
made_fates_more old new ds made m g a r =
    All-append (IsMadeFates new ds) made (m ∷ []) (All-weaker (IsMadeFates old ds) (IsMadeFates new ds) (λ x p d e. fates_kept old new d.config x.function g (p d e)) made a) (All-one (IsMadeFates new ds) m r)

-- what a worker made of a device, with the numbers that its fates have here
pub fates_told : (new others : Tables) (numbers absorbed : List ℕ) (ds : List NetDevice) (m : MadeFates) (o : Option ℕ) → o ≡ slice_get absorbed m.function → AreNumbers new.fates numbers others.fates → ((a n : ℕ) → slice_get absorbed a ≡ Some n → TellsOthers others.diagrams numbers new.diagrams a n) → IsMadeFates others ds m → (d : NetDevice) → slice_get ds m.device ≡ Some d → IfSome o (IsFateFunction new.diagrams new.fates d.config)
fates_told new others numbers absorbed ds m None e are tells made d there = tt
fates_told new others numbers absorbed ds m (Some n) e are tells made d there =
    told_function d.config others.diagrams new.diagrams others.fates new.fates numbers m.function n are (tells m.function n (sym e)) (made d there)

pub same_item : {A : Type 0} (x y : A) → Some x ≡ Some y → x ≡ y
same_item x y e = cc
