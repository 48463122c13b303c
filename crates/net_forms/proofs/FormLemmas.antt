-- Compiled forms, as the tables grow.
use Rattle.std.proofs.Common.{ℕ, zero, suc, ◌≡◌, ◌<◌, ◌≤◌, ◌+◌, inl, inr, All, List, [], ◌∷◌, ◌++◌, take, length, get_or, slice_get, Option, Some, None, position, option_and_then, refl, ap, sym, ◌∙◌, subst, arith, Bor}
use Rattle.std.specs.Prelude.{Contains, Result, Ok, Err, IfOk, IfSome, OnOk}
use Rattle.no_memory.specs.declared.NoMemory.{NoMemory}
use Rattle.std.proofs.lemmas.Bool.{cases_lt}
use Rattle.std.proofs.lemmas.List.{take_more, length-append}
use Rattle.std.proofs.lemmas.List.Elements.{All-weaker}
use Rattle.std.proofs.lemmas.Option.{slice_get_within}
use Rattle.acl_match.proofs.NumberLemmas.{keeps_same, keeps_then}
use Rattle.cube_diagram.specs.Functions.{Functions, Keeps, count_of, value_at}
use Rattle.hdr_bits.specs.declared.header.Header.{Header}
use Rattle.hdr_bits.specs.HeaderBits.{number, IsHeader}
use Rattle.nat_static.specs.Rules.{rule_from_outside, rule_from_inside, outer_from_outside, outer_from_inside}
use Rattle.net_types.specs.declared.config.AccessList.{AccessList}
use Rattle.net_types.specs.declared.config.Config.{Config}
use Rattle.net_types.specs.declared.config.Interface.{Interface}
use Rattle.net_types.specs.declared.config.NatRule.{NatRule}
use Rattle.cube_alg.specs.declared.cut.Piece.{Piece}
use Rattle.cube_alg.specs.Pieces.{value_of}
use Rattle.net_types.specs.declared.network.NetDevice.{NetDevice}
use Rattle.net_types.specs.Routes.{same_text}
use Rattle.net_types.specs.World.{Seat}
use Rattle.device_fates.specs.declared.fate.Fate.{Fate}
use Rattle.hdr_bits.specs.Lists.{Extends}
use Rattle.hdr_bits.proofs.ListLemmas.{extends_get, extends_none, extends_then}
use Rattle.device_fates.specs.Fates.{HasFate, IsFateFunction}
use Rattle.net_forms.specs.declared.forms.Beforehand.{Beforehand}
use Rattle.net_forms.specs.declared.forms.DeviceForm.{DeviceForm}
use Rattle.net_forms.specs.declared.forms.DeviceLists.{DeviceLists}
use Rattle.net_forms.specs.declared.forms.KnownList.{KnownList}
use Rattle.net_forms.specs.declared.forms.RuleForms.{RuleForms}
use Rattle.net_forms.specs.declared.forms.SeatForm.{SeatForm}
use Rattle.net_forms.specs.declared.forms.Tables.{Tables}
use Rattle.net_forms.specs.Along.{AreAlong}
use Rattle.net_forms.specs.Forms.{IsList, IsKnown, IsSeatForm, AreSeatForms, IsDeviceForm, IsFormOfSeat, TablesGrow, list_in}
use Rattle.net_forms.specs.Known.{AreKnownBefore, AreKnownFates, AreKnownLists, known_at}
use Rattle.net_forms.specs.declared.forms.NetworkForm.{NetworkForm}
use Rattle.net_forms.specs.Rules.{AreRuleForms, TellsRule}
use Rattle.net_forms.specs.Networks.{AreDevices, IsCopy, IsFormIn, IsNetworkForm}
use Rattle.net_forms.proofs.FindLemmas.{at_position, found, not_found, there}

-- ---- lists side by side
get_same : {A : Type 0} (xs ys : List A) (i : ℕ) → i < length xs → slice_get (xs ++ ys) i ≡ slice_get xs i
get_same [] ys i l = absurd (omega arith)
get_same (x ∷ xs) ys zero l = refl
get_same (x ∷ xs) ys (suc i) l = get_same xs ys i (omega arith)

get_pushed : {A : Type 0} (xs : List A) (x : A) → slice_get (xs ++ x ∷ []) (length xs) ≡ Some x
get_pushed [] x = refl
get_pushed (y ∷ xs) x = get_pushed xs x

module _ {A B : Type 0} (P : A → B → Type 0) where
  pub along_none : AreAlong P [] []
  along_none = record { count = refl; each = λ n x e. (let s : None ≡ Some x = e in absurd cc) }

  along_push : (xs : List A) (ys : List B) (x : A) (y : B) → AreAlong P xs ys → P x y → AreAlong P (xs ++ x ∷ []) (ys ++ y ∷ [])
  along_push xs ys x y a p =
      let c = a.count in
      let lx = length-append xs (x ∷ []) in
      let ly = length-append ys (y ∷ []) in
      record {
        count = omega (arith, lx, ly, c);
        each = λ n z e. elim (cases_lt n (length xs)) [
          | inl l ↦
              let h = a.each n z (sym (get_same xs (x ∷ []) n l) ∙ e) in
              record { item = h.item; there = get_same ys (y ∷ []) n (omega (arith, l, c)) ∙ h.there; right = h.right }
          | inr l ↦
              let w = slice_get_within (xs ++ x ∷ []) n z e in
              let q : n ≡ length xs = omega (arith, w, lx, l) in
              let s : Some z ≡ Some x = sym e ∙ (ap (λ m. slice_get (xs ++ x ∷ []) m) q ∙ get_pushed xs x) in
              let t : x ≡ z = cc in
              let r : n ≡ length ys = omega (arith, q, c) in
              record { item = y; there = ap (λ m. slice_get (ys ++ y ∷ []) m) r ∙ get_pushed ys y; right = subst (λ v. P v y) t p }
        ];
      }

  pub along_more : (xs : List A) (ys : List B) (i : ℕ) (x : A) (y : B) → i < length xs → x ≡ get_or xs i x → AreAlong P (take i xs) ys → P x y → AreAlong P (take (i + 1) xs) (ys ++ y ∷ [])
  along_more xs ys i x y l e a p =
      let t : take (i + 1) xs ≡ take i xs ++ x ∷ [] = take_more xs i x l ∙ ap (λ z. take i xs ++ z ∷ []) (sym e) in
      subst (λ z. AreAlong P z (ys ++ y ∷ [])) (sym t) (along_push (take i xs) ys x y a p)

pub along_weaker : {A B : Type 0} (P Q : A → B → Type 0) (xs : List A) (ys : List B) → ((x : A) (y : B) → P x y → Q x y) → AreAlong P xs ys → AreAlong Q xs ys
along_weaker P Q xs ys f a =
    record { count = a.count; each = λ n x e. (let h = a.each n x e in record { item = h.item; there = h.there; right = f x h.item h.right }) }

-- ---- more functions and fates
pub list_kept : (f g : Functions) (list : Option AccessList) (n : ℕ) → Keeps f g → IsList f list n → IsList g list n
list_kept f g list n k a =
    let c = k.count in
    let b = a.below in
    record { below = omega (arith, c, b); exact = λ h v. k.value n a.below (number h) ∙ a.exact h v }

pub known_kept : (f g : Functions) (lists : List AccessList) (known : List KnownList) → Keeps f g → All (IsKnown f lists) known → All (IsKnown g lists) known
known_kept f g lists known k a = All-weaker (IsKnown f lists) (IsKnown g lists) (λ x r. list_kept f g (slice_get lists x.position) x.function k r) known a

pub lists_kept : (f g : Functions) (ds : List NetDevice) (known : List DeviceLists) → Keeps f g → AreKnownLists f ds known → AreKnownLists g ds known
lists_kept f g ds known k a n d e = known_kept f g d.config.lists (known_at known n) k (a n d e)

fate_kept : (c : Config) (old new : List Fate) (value : Option ℕ) (a : ℕ) → Extends old new → HasFate c old value a → HasFate c new value a
fate_kept c old new value a g h =
    record {
      number = h.number;
      numbered = h.numbered;
      fate = h.fate;
      there = extends_get old new h.number h.fate g h.there;
      holds = h.holds;
    }

-- what is known of destinations, as functions and fates are added
pub fates_kept : (old new : Tables) (c : Config) (f : ℕ) → TablesGrow old new → IsFateFunction old.diagrams old.fates c f → IsFateFunction new.diagrams new.fates c f
fates_kept old new c f g a =
    let k = g.diagrams in
    let b = a.below in
    let m = k.count in
    record {
      below = omega (arith, b, m);
      exact = λ h v. subst (λ o. HasFate c new.fates o h.dst) (sym (k.value f a.below (number h))) (fate_kept c old.fates new.fates (value_at old.diagrams f (number h)) h.dst g.fates (a.exact h v));
    }

pub fates_kept_if_any : (old new : Tables) (c : Config) (o : Option ℕ) → TablesGrow old new → IfSome o (IsFateFunction old.diagrams old.fates c) → IfSome o (IsFateFunction new.diagrams new.fates c)
fates_kept_if_any old new c None g a = a
fates_kept_if_any old new c (Some f) g a = fates_kept old new c f g a

pub all_fates_kept : (old new : Tables) (ds : List NetDevice) (known : List (Option ℕ)) → TablesGrow old new → AreKnownFates old.diagrams old.fates ds known → AreKnownFates new.diagrams new.fates ds known
all_fates_kept old new ds known g a n d f e k = fates_kept old new d.config f g (a n d f e k)

pub before_kept : (old new : Tables) (ds : List NetDevice) (before : Beforehand) → TablesGrow old new → AreKnownBefore old.diagrams old.fates ds before → AreKnownBefore new.diagrams new.fates ds before
before_kept old new ds before g a =
    record {
      lists = lists_kept old.diagrams new.diagrams ds before.lists.now g.diagrams a.lists;
      fates = all_fates_kept old new ds before.fates.now g a.fates;
    }

-- the function that stands at a device's position is the device's
pub fates_here : (fs : Functions) (fates : List Fate) (ds : List NetDevice) (known : List (Option ℕ)) (n : ℕ) (d : NetDevice) (o : Option ℕ) → slice_get ds n ≡ Some d → AreKnownFates fs fates ds known → IfSome o (λ f. slice_get known n ≡ Some (Some f)) → IfSome o (IsFateFunction fs fates d.config)
fates_here fs fates ds known n d None e a i = i
fates_here fs fates ds known n d (Some f) e a i = a n d f e i

pub seat_kept : (f g : Functions) (c : Config) (i : Interface) (x : SeatForm) → Keeps f g → IsSeatForm f c i x → IsSeatForm g c i x
seat_kept f g c i x k a = record { input = list_kept f g _ x.input k a.input; output = list_kept f g _ x.output k a.output }

pub seats_kept : (f g : Functions) (c : Config) (is : List Interface) (xs : List SeatForm) → Keeps f g → AreSeatForms f c is xs → AreSeatForms g c is xs
seats_kept f g c is xs k a = along_weaker (IsSeatForm f c) (IsSeatForm g c) is xs (λ i x r. seat_kept f g c i x k r) a

tells_later : (a b : Functions) (f : ℕ) (rule : Header → Option ℕ) → Keeps a b → TellsRule a f rule → TellsRule b f rule
tells_later a b f rule k t =
    let n = k.count in
    let l = t.below in
    record { below = omega (arith, n, l); exact = λ h v. k.value f t.below (number h) ∙ t.exact h v }

rules_kept : (a b : Functions) (nat : List NatRule) (r : RuleForms) → Keeps a b → AreRuleForms a nat r → AreRuleForms b nat r
rules_kept a b nat r k t =
    record {
      outside = tells_later a b r.outside (rule_from_outside nat) k t.outside;
      outer_outside = tells_later a b r.outer_outside (outer_from_outside nat) k t.outer_outside;
      inside = tells_later a b r.inside (rule_from_inside nat) k t.inside;
      outer_inside = tells_later a b r.outer_inside (outer_from_inside nat) k t.outer_inside;
    }

pub device_kept : (old new : Tables) (d : NetDevice) (f : DeviceForm) → TablesGrow old new → IsDeviceForm old.diagrams old.fates d f → IsDeviceForm new.diagrams new.fates d f
device_kept old new d f g a =
    let k = g.diagrams in
    let c = k.count in
    let bf = a.fates_below in
    record {
      numbers = a.numbers;
      seats = seats_kept old.diagrams new.diagrams d.config d.config.interfaces f.seats.items k a.seats;
      rules = rules_kept old.diagrams new.diagrams d.config.nat f.rules k a.rules;
      fates_below = omega (arith, c, bf);
      numbered = λ h v. subst (λ o. HasFate d.config new.fates o h.dst) (sym (k.value f.fates a.fates_below (number h))) (fate_kept d.config old.fates new.fates (value_at old.diagrams f.fates (number h)) h.dst g.fates (a.numbered h v));
    }

pub devices_kept : (old new : Tables) (ds : List NetDevice) (fs : List DeviceForm) → TablesGrow old new → AreDevices old.diagrams old.fates ds fs → AreDevices new.diagrams new.fates ds fs
devices_kept old new ds fs g a = along_weaker (IsDeviceForm old.diagrams old.fates) (IsDeviceForm new.diagrams new.fates) ds fs (λ d f r. device_kept old new d f g r) a

pub known_kept_in : (old new : Tables) (known : Option (Bor NetworkForm)) → TablesGrow old new → IfSome known (λ n. IsNetworkForm old.diagrams old.fates n.now) → IfSome known (λ n. IsNetworkForm new.diagrams new.fates n.now)
known_kept_in old new None g a = a
known_kept_in old new (Some n) g a = record { wiring = a.wiring; devices = devices_kept old new n.now.world.network.now.devices n.now.devices.items g a.devices }

-- a copy of a form is one
device_copied : (fs : Functions) (fates : List Fate) (d : NetDevice) (f g : DeviceForm) → IsCopy f g → IsDeviceForm fs fates d f → IsDeviceForm fs fates d g
device_copied fs fates d f g i a =
    record {
      numbers = a.numbers;
      seats = subst (AreSeatForms fs d.config d.config.interfaces) (sym i.seats) a.seats;
      rules = subst (AreRuleForms fs d.config.nat) (sym i.rules) a.rules;
      fates_below = subst (λ n. n < count_of fs) (sym i.fates) a.fates_below;
      numbered = λ h v. subst (λ n. HasFate d.config fates (value_at fs n (number h)) h.dst) (sym i.fates) (a.numbered h v);
    }

-- ---- what is found
module _ (fs : Functions) (fates : List Fate) where
  pub device_found : (n : NetworkForm) (d : NetDevice) (f : DeviceForm) → IsNetworkForm fs fates n → IsFormIn n d f → IsDeviceForm fs fates d f
  device_found n d f a i =
      let x = a.devices.each i.position d i.device in
      let s : Some x.item ≡ Some f = sym x.there ∙ i.form in
      let q : x.item ≡ f = cc in
      subst (IsDeviceForm fs fates d) q x.right

  pub seat_form : (d : NetDevice) (f : DeviceForm) (seat : Seat) (x : SeatForm) → IsDeviceForm fs fates d f → IsFormOfSeat d f seat x → IsSeatForm fs d.config seat.interface x
  seat_form d f seat x r s =
      let p = r.seats.each s.position seat.interface s.interface in
      let e : Some p.item ≡ Some x = sym p.there ∙ s.form in
      let q : p.item ≡ x = cc in
      subst (IsSeatForm fs d.config seat.interface) q p.right

-- the form that a compiled network has of an equal device
pub form_in : (t : Tables) (n : NetworkForm) (d : NetDevice) (f : DeviceForm) (r : Result DeviceForm NoMemory) → IsNetworkForm t.diagrams t.fates n → IsFormIn n d f → IfOk r (IsCopy f) → IfOk r (IsDeviceForm t.diagrams t.fates d)
form_in t n d f (Err e) a i h = tt
form_in t n d f (Ok g) a i h = device_copied t.diagrams t.fates d f g h (device_found t.diagrams t.fates n d f a i)

pub some_then : {A : Type 0} (P Q : A → Type 0) (o : Option A) → ((x : A) → P x → Q x) → IfSome o P → IfSome o Q
some_then P Q None f p = p
some_then P Q (Some x) f p = f x p

pub on_ok : {A E : Type 0} (P : Type 0) (r : Result A E) → P → OnOk r P
on_ok P (Ok x) p = p
on_ok P (Err e) p = tt

pub tables_same : (t : Tables) → TablesGrow t t
tables_same t = record { diagrams = keeps_same t.diagrams; fates = extends_none t.fates }

pub tables_then : (a b c : Tables) → TablesGrow a b → TablesGrow b c → TablesGrow a c
tables_then a b c p q = record { diagrams = keeps_then a.diagrams b.diagrams c.diagrams p.diagrams q.diagrams; fates = extends_then a.fates b.fates c.fates p.fates q.fates }

-- ---- the list of a name
pub list_there : (lists : List AccessList) (name : Option (List ℕ)) (n : ℕ) → Some n ≡ option_and_then (λ m. position (λ l. same_text l.name m) lists) name → list_in lists name ≡ slice_get lists n
list_there lists None n e = absurd cc
list_there lists (Some m) n e =
    let p : Some n ≡ position (λ l. same_text l.name m) lists = e in
    let t = there lists n (at_position (λ l. same_text l.name m) lists n p).1 in
    found (λ l. same_text l.name m) lists n t.0 p (sym t.1) ∙ sym t.1

pub list_absent : (lists : List AccessList) (name : Option (List ℕ)) → None ≡ option_and_then (λ m. position (λ l. same_text l.name m) lists) name → list_in lists name ≡ None
list_absent lists None e = refl
list_absent lists (Some m) e = not_found (λ l. same_text l.name m) lists e

-- ---- a device, as its functions are added one after the other

-- the tables as each of the four functions is added
pub rules_made : (b c d e : Functions) (nat : List NatRule) (r : RuleForms) → Keeps b c → Keeps c d → Keeps d e → TellsRule b r.outside (rule_from_outside nat) → TellsRule c r.outer_outside (outer_from_outside nat) → TellsRule d r.inside (rule_from_inside nat) → TellsRule e r.outer_inside (outer_from_inside nat) → AreRuleForms e nat r
rules_made b c d e nat r bc cd de tb tc td te =
    let ce = keeps_then c d e cd de in
    let be = keeps_then b c e bc ce in
    record {
      outside = tells_later b e r.outside (rule_from_outside nat) be tb;
      outer_outside = tells_later c e r.outer_outside (outer_from_outside nat) ce tc;
      inside = tells_later d e r.inside (rule_from_inside nat) de td;
      outer_inside = te;
    }

-- a function of the first of some pieces tells the rule that these pieces are of
pub tells_by : (fs : Functions) (f : ℕ) (pieces : List Piece) (rule : Header → Option ℕ) → f < count_of fs → ((h : ℕ) → value_at fs f h ≡ value_of pieces h) → ((h : Header) → IsHeader h → value_of pieces (number h) ≡ rule h) → TellsRule fs f rule
tells_by fs f pieces rule b e r = record { below = b; exact = λ h v. e (number h) ∙ r h v }

module _ (x : NetDevice) (f : DeviceForm) where
  -- the tables after the lists, after the rules, and after the fates
  pub device_made : (a e z : Functions) (fates : List Fate) → length x.config.interfaces ≤ length x.numbers → AreSeatForms a x.config x.config.interfaces f.seats.items → Keeps a e → Keeps e z → AreRuleForms e x.config.nat f.rules → f.fates < count_of z → ((h : Header) → IsHeader h → HasFate x.config fates (value_at z f.fates (number h)) h.dst) → IsDeviceForm z fates x f
  device_made a e z fates numbers seats ae ez rules bf fate =
      let az = keeps_then a e z ae ez in
      record {
        numbers = numbers;
        seats = seats_kept a z x.config x.config.interfaces f.seats.items az seats;
        rules = rules_kept e z x.config.nat f.rules ez rules;
        fates_below = bf;
        numbered = fate;
      }

pub devices_more : (t0 t1 : Tables) (ds : List NetDevice) (fs : List DeviceForm) (i : ℕ) (d : NetDevice) (f : DeviceForm) → i < length ds → d ≡ get_or ds i d → TablesGrow t0 t1 → AreDevices t0.diagrams t0.fates (take i ds) fs → IsDeviceForm t1.diagrams t1.fates d f → AreDevices t1.diagrams t1.fates (take (i + 1) ds) (fs ++ f ∷ [])
devices_more t0 t1 ds fs i d f l e g a r = along_more (IsDeviceForm t1.diagrams t1.fates) ds fs i d f l e (devices_kept t0 t1 (take i ds) fs g a) r

pub seats_more : (f g : Functions) (c : Config) (is : List Interface) (xs : List SeatForm) (n : ℕ) (i : Interface) (x : SeatForm) → n < length is → i ≡ get_or is n i → Keeps f g → AreSeatForms f c (take n is) xs → IsSeatForm g c i x → AreSeatForms g c (take (n + 1) is) (xs ++ x ∷ [])
seats_more f g c is xs n i x l e k a r = along_more (IsSeatForm g c) is xs n i x l e (seats_kept f g c (take n is) xs k a) r

pub all_known : (fs : Functions) (lists : List AccessList) (known : List KnownList) (k : KnownList) → All (IsKnown fs lists) known → Contains known k → IsKnown fs lists k
all_known fs lists known k a c = subst (IsKnown fs lists) c.2 (a c.0 k c.1)
