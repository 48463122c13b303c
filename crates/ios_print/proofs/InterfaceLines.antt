-- The lines of an interface are read as it.
use Rattle.std.proofs.Common.{◌≡◌, ℕ, ◌+◌, ◌<◌, ◌≤◌, zero, suc, Bool, true, false, List, [], ◌∷◌, ◌++◌, length, map, refl, sym, ap, subst, ◌∙◌, arith, append-nil, append_assoc, min}
use Rattle.std.specs.Prelude.{flat_map, Option, Some, None, Ok, option_to_list, slice_set, slice_index_or, codes}
use Rattle.std.specs.Str.{bytes_eq}
use Rattle.std.specs.List.{AllByRecursion}
use Rattle.std.proofs.Math.Nat.{min-le_right}
use Rattle.std.proofs.Math.Bridge.{le_prop}
use Rattle.std.proofs.lemmas.Bool.{le-ltb}
use Rattle.std.proofs.lemmas.List.{length-map}
use Rattle.net_types.specs.declared.config.Config.{Config}
use Rattle.net_types.specs.declared.config.Interface.{Interface}
use Rattle.net_types.specs.declared.config.Subnet.{Subnet}
use Rattle.net_types.specs.declared.config.Side.{Side}
use Rattle.net_types.specs.declared.config.Side.TheVariants as side
use Rattle.ios_words.specs.Words.{mask_of}
use Rattle.ios_commands.specs.declared.refused.CommandPart.TheVariants as command_part
use Rattle.ios_commands.specs.Refused.{command_refuses}
use Rattle.ios_lines.specs.declared.effect.Action.TheVariants as action
use Rattle.ios_lines.specs.declared.effect.Effect.TheVariants as effect
use Rattle.ios_lines.specs.declared.effect.Change.{Change}
use Rattle.ios_lines.specs.declared.effect.Change.TheVariants as change
use Rattle.ios_lines.specs.declared.effect.Section.{Section}
use Rattle.ios_lines.specs.declared.effect.Section.TheVariants as section
use Rattle.ios_lines.specs.declared.effect.WrittenAddress.{WrittenAddress}
use Rattle.ios_lines.specs.declared.effect.WrittenInterface.{WrittenInterface}
use Rattle.ios_lines.specs.Words.{Word, Words, address_at, mask_at, allowed_word, ended}
use Rattle.ios_lines.specs.Lists.{place_of}
use Rattle.ios_lines.proofs.Steps.{map_more}
use Rattle.ios_lines.proofs.Keyed.{none_first, itself}
use Rattle.ios_commands.specs.Interfaces.{interface_action, written_at, address_action, plain_action, group_action, direction_at, subnet_of}
use Rattle.ios_commands.specs.Banners.{is_banner}
use Rattle.ios_config.specs.Effects.{Seen, is_comment, command_action, interface_command, global_command}
use Rattle.ios_config.specs.Rules.{is_opening, interface_of}
use Rattle.ios_config.specs.Draft.{with_change, new_interface, Parts, parts_after}
use Rattle.ios_print.specs.Print.{Row, address_word, primary_row, secondary_row, shut_rows, group_row, side_rows, interface_rows}
use Rattle.ios_print.specs.Printable.{IsAddress, IsAddressIfAny, IsInterface, AreInterfaces}
use Rattle.ios_print.proofs.Digits.{address_back, digital_address, other_word}
use Rattle.ios_print.proofs.Masks.{mask_back, mask_bound}
use Rattle.ios_print.proofs.Runs.{Shows, seen_by, One, Goes, goes_on}

-- ---- what the commands are read as

open_done : (seen : Seen) (k : ℕ) (n : Word) → bytes_eq n (codes "Null0") ≡ false → command_action seen k false (codes "interface" ∷ n ∷ []) ≡ Ok (action.Interface n change.Open)
unfolding command_action global_command interface_action ended
open_done seen k n h = rw h refl

same_length : (n m : ℕ) → n ≤ m → min n m ≡ n
same_length n m h = omega (arith, h)

with_range : (a n : ℕ) → n ≤ 32 → Subnet
with_range a n z = record { address = a; length = n; in_range = z }

within : (a n : ℕ) (h j : n ≤ 32) → ◌≡◌ {A = Subnet} (record { address = a; length = n; in_range = h }) (record { address = a; length = n; in_range = j })
unfolding with_range
within a n h j = ap (with_range a n) (le_prop h j)

shorter : (a n m : ℕ) (h : n ≤ 32) (k : m ≤ 32) → n ≡ m → ◌≡◌ {A = Subnet} (record { address = a; length = n; in_range = h }) (record { address = a; length = m; in_range = k })
shorter a n m h k e = subst (λ x. (j : x ≤ 32) → ◌≡◌ {A = Subnet} (record { address = a; length = n; in_range = h }) (record { address = a; length = x; in_range = j })) e
    (λ j. within a n h j) k

pub same_subnet : (s : Subnet) → subnet_of s.address s.length ≡ s
same_subnet s = shorter s.address (min s.length 32) s.length (min-le_right s.length 32) s.in_range (same_length s.length 32 s.in_range)

allowed_address : (a : ℕ) → a < 4294967296 → command_refuses command_part.Address (address_word a) ≡ false
allowed_address a h = let d = digital_address a h in rw (other_word (address_word a) 100 (codes "hcp") d refl, other_word (address_word a) 110 (codes "egotiated") d refl) refl

abbrev pub written : ℕ → Subnet → WrittenAddress
written k s = record { subnet = s; line = k; word = address_word s.address }

module _ (seen : Seen) (k : ℕ) (n : Word) (s : Subnet) (is : IsAddress s) (here : seen.section ≡ section.Interface n) where
  primary_done : command_action seen k true (primary_row s).1 ≡ Ok (action.Interface n (change.Primary (written k s)))
  unfolding command_action interface_command address_action written_at address_at mask_at allowed_word ended
  primary_done = rw (here, allowed_address s.address is.address, address_back s.address is.address, allowed_address (mask_of s.length) (mask_bound s.length s.in_range), address_back (mask_of s.length) (mask_bound s.length s.in_range), mask_back s.length s.in_range, le-ltb s.length 1 is.some, same_subnet s) refl

  secondary_done : command_action seen k true (secondary_row s).1 ≡ Ok (action.Interface n (change.Secondary (written k s)))
  unfolding command_action interface_command address_action written_at address_at mask_at allowed_word ended
  secondary_done = rw (here, allowed_address s.address is.address, address_back s.address is.address, allowed_address (mask_of s.length) (mask_bound s.length s.in_range), address_back (mask_of s.length) (mask_bound s.length s.in_range), mask_back s.length s.in_range, le-ltb s.length 1 is.some, same_subnet s) refl

module _ (seen : Seen) (k : ℕ) (n : Word) (here : seen.section ≡ section.Interface n) where
  shut_done : command_action seen k true (codes "shutdown" ∷ []) ≡ Ok (action.Interface n (change.Shut true))
  unfolding command_action interface_command plain_action ended
  shut_done = rw here refl

  input_done : (w : Word) → command_action seen k true (group_row (codes "in") w).1 ≡ Ok (action.Interface n (change.Input w))
  unfolding command_action interface_command group_action direction_at ended
  input_done w = rw here refl

  output_done : (w : Word) → command_action seen k true (group_row (codes "out") w).1 ≡ Ok (action.Interface n (change.Output w))
  unfolding command_action interface_command group_action direction_at ended
  output_done w = rw here refl

  inside_done : command_action seen k true (codes "ip" ∷ codes "nat" ∷ codes "inside" ∷ []) ≡ Ok (action.Interface n (change.OnSide side.Inside))
  unfolding command_action interface_command plain_action ended
  inside_done = rw here refl

  outside_done : command_action seen k true (codes "ip" ∷ codes "nat" ∷ codes "outside" ∷ []) ≡ Ok (action.Interface n (change.OnSide side.Outside))
  unfolding command_action interface_command plain_action ended
  outside_done = rw here refl

-- ---- what they make

abbrev pub changed : Interface → Change → Interface
changed i change.Open = i
changed i (change.Primary a) = record i { primary = Some a.subnet }
changed i (change.Secondary a) = record i { secondary = i.secondary ++ a.subnet ∷ [] }
changed i change.Clear = record i { primary = None; secondary = [] }
changed i (change.Shut b) = record i { shut = b }
changed i (change.Input w) = record i { input = Some w }
changed i (change.Output w) = record i { output = Some w }
changed i (change.OnSide s) = record i { side = s }

shown_change : (x : WrittenInterface) (c : Change) → interface_of (with_change x c) ≡ changed (interface_of x) c
shown_change x change.Open = refl
shown_change x (change.Primary a) = refl
shown_change x (change.Secondary a) = ap (λ ss. record (interface_of x) { secondary = ss }) (map_more (λ (a : WrittenAddress). a.subnet) x.secondary a)
shown_change x change.Clear = refl
shown_change x (change.Shut b) = refl
shown_change x (change.Input w) = refl
shown_change x (change.Output w) = refl
shown_change x (change.OnSide s) = refl

pub new_place : (n : Word) (ns : Words) → place_of n ns ≡ None → place_of n (ns ++ n ∷ []) ≡ Some (length ns)
new_place n [] h = rw (itself n) refl
new_place n (m ∷ ns) h = let p = none_first n m ns h in rw (p.0, new_place n ns p.1) refl

pub set_last : {A : Type 0} (is : List A) (x y : A) → slice_set (is ++ x ∷ []) (length is) y ≡ is ++ y ∷ []
set_last [] x y = refl
set_last (i ∷ is) x y = ap (λ l. i ∷ l) (set_last is x y)

pub at_last : {A : Type 0} (is : List A) (x d : A) → slice_index_or (is ++ x ∷ []) (length is) d ≡ x
at_last [] x d = refl
at_last (i ∷ is) x d = at_last is x d

map_set : {A B : Type 0} (f : A → B) (xs : List A) (n : ℕ) (y : A) → map f (slice_set xs n y) ≡ slice_set (map f xs) n (f y)
map_set f [] n y = refl
map_set f (x ∷ xs) zero y = refl
map_set f (x ∷ xs) (suc n) y = ap (λ l. f x ∷ l) (map_set f xs n y)

map_at : {A B : Type 0} (f : A → B) (xs : List A) (n : ℕ) (d : A) → f (slice_index_or xs n d) ≡ slice_index_or (map f xs) n (f d)
map_at f [] n d = refl
map_at f (x ∷ xs) zero d = refl
map_at f (x ∷ xs) (suc n) d = map_at f xs n d

-- a configuration that has interfaces alone
abbrev pub with_interfaces : Config → List Interface → Config
with_interfaces c is = record c { interfaces = is }

abbrev names_in : List Interface → Words
names_in is = map (λ i. i.name) is

no_more : (n : ℕ) → n + 0 ≡ n
no_more n = omega arith

change_shows : (c : Config) (is : List Interface) (i : Interface) (ch : Change) (p : Parts) → is_opening ch ≡ false → place_of i.name (names_in is) ≡ None → (changed i ch).name ≡ i.name
    → Shows (with_interfaces c (is ++ i ∷ [])) (section.Interface i.name) p
    → Shows (with_interfaces c (is ++ changed i ch ∷ [])) (section.Interface i.name) (parts_after p (effect.Act (action.Interface i.name ch)))
change_shows c is i ch p o new kept h =
    let names : p.names ≡ names_in is ++ i.name ∷ [] = h.names ∙ map_more (λ (i : Interface). i.name) is i in
    let place : place_of i.name p.names ≡ Some (length is) = ap (place_of i.name) names ∙ new_place i.name (names_in is) new ∙ ap Some (length-map is (λ i. i.name)) in
    let old : interface_of (slice_index_or p.interfaces (length is) (new_interface [])) ≡ i =
    map_at interface_of p.interfaces (length is) (new_interface []) ∙ ap (λ xs. slice_index_or xs (length is) (interface_of (new_interface []))) h.interfaces ∙ at_last is i (interface_of (new_interface [])) in
    let now : interface_of (with_change (slice_index_or p.interfaces (length is) (new_interface [])) ch) ≡ changed i ch = shown_change (slice_index_or p.interfaces (length is) (new_interface [])) ch ∙ ap (λ x. changed x ch) old in
    let set : map interface_of (slice_set p.interfaces (length is) (with_change (slice_index_or p.interfaces (length is) (new_interface [])) ch)) ≡ is ++ changed i ch ∷ [] =
    map_set interface_of p.interfaces (length is) (with_change (slice_index_or p.interfaces (length is) (new_interface [])) ch)
    ∙ ap (λ xs. slice_set xs (length is) (interface_of (with_change (slice_index_or p.interfaces (length is) (new_interface [])) ch))) h.interfaces
    ∙ ap (slice_set (is ++ i ∷ []) (length is)) now
    ∙ set_last is i (changed i ch) in
    record {
      host = h.host;
      names = rw place (names ∙ sym (map_more (λ (i : Interface). i.name) is (changed i ch) ∙ ap (λ x. names_in is ++ x ∷ []) kept));
      interfaces = rw place set;
      routes = ap (map (λ r. r.route)) (append-nil p.routes) ∙ h.routes;
      nat = append-nil p.nat ∙ h.nat;
      list_names = h.list_names;
      lists = h.lists;
      section = rw o h.section;
      covered = h.covered;
      passed = no_more p.passed ∙ h.passed;
    }

-- an interface of which nothing else is written yet
abbrev bare : Word → Interface
bare n = interface_of (new_interface n)

open_shows : (c : Config) (is : List Interface) (s : Section) (n : Word) (p : Parts) → place_of n (names_in is) ≡ None → Shows (with_interfaces c is) s p
    → Shows (with_interfaces c (is ++ bare n ∷ [])) (section.Interface n) (parts_after p (effect.Act (action.Interface n change.Open)))
open_shows c is s n p new h =
    let place : place_of n p.names ≡ None = ap (place_of n) h.names ∙ new in
    record {
      host = h.host;
      names = rw place (ap (λ ns. ns ++ n ∷ []) h.names ∙ sym (map_more (λ (i : Interface). i.name) is (bare n)));
      interfaces = rw place (map_more interface_of p.interfaces (new_interface n) ∙ ap (λ xs. xs ++ bare n ∷ []) h.interfaces);
      routes = ap (map (λ r. r.route)) (append-nil p.routes) ∙ h.routes;
      nat = append-nil p.nat ∙ h.nat;
      list_names = h.list_names;
      lists = h.lists;
      section = refl;
      covered = h.covered;
      passed = no_more p.passed ∙ h.passed;
    }

open_one : (c : Config) (is : List Interface) (s : Section) (n : Word) → bytes_eq n (codes "Null0") ≡ false → place_of n (names_in is) ≡ None
    → One (false, codes "interface" ∷ n ∷ []) (with_interfaces c is) s (with_interfaces c (is ++ bare n ∷ [])) (section.Interface n)
open_one c is s n o new = record { plain = refl; command = refl; acts = λ p k h. (action.Interface n change.Open, open_done (seen_by p) k n o, open_shows c is s n p new h) }

-- an interface by its fields
abbrev made : Word → Option Subnet → List Subnet → Bool → Option Word → Option Word → Side → Interface
made n a ss b i o s = record { name = n; primary = a; secondary = ss; shut = b; input = i; output = o; side = s }

module _ (c : Config) (is : List Interface) (n : Word) (new : place_of n (names_in is) ≡ None) where
  abbrev Adds : List Row → Interface → Interface → Type 0
  Adds rows i j = Goes rows (with_interfaces c (is ++ i ∷ [])) (section.Interface n) (with_interfaces c (is ++ j ∷ [])) (section.Interface n)

  one_change : (r : Row) (i : Interface) (ch : ℕ → Change) (j : Interface) → (is_comment r.1 ≡ false) × (is_banner r.0 r.1 ≡ false) → i.name ≡ n → j.name ≡ n → ((k : ℕ) → is_opening (ch k) ≡ false) → ((k : ℕ) → changed i (ch k) ≡ j)
      → ((seen : Seen) (k : ℕ) → seen.section ≡ section.Interface n → command_action seen k r.0 r.1 ≡ Ok (action.Interface n (ch k))) → Adds (r ∷ []) i j
  one_change r i ch j f a b o e d = (
    with_interfaces c (is ++ j ∷ []),
    section.Interface n,
    record {
      plain = f.0;
      command = f.1;
      acts = λ p k h. (
        action.Interface n (ch k),
        d (seen_by p) k h.section,
        subst (λ x. Shows (with_interfaces c (is ++ x ∷ [])) (section.Interface n) (parts_after p (effect.Act (action.Interface n (ch k))))) (e k)
            (subst (λ m. Shows (with_interfaces c (is ++ changed i (ch k) ∷ [])) (section.Interface m) (parts_after p (effect.Act (action.Interface m (ch k))))) a
            (change_shows c is i (ch k) p (o k) (subst (λ m. place_of m (names_in is) ≡ None) (sym a) new) (ap (λ x. x.name) (e k) ∙ b ∙ sym a) (subst (λ m. Shows (with_interfaces c (is ++ i ∷ [])) (section.Interface m) p) (sym a) h))),
      );
    },
    (refl, refl),
  )

  primary_adds : (o : Option Subnet) → IsAddressIfAny o → Adds (map primary_row (option_to_list o)) (made n None [] false None None side.Neither) (made n o [] false None None side.Neither)
  primary_adds None a = (refl, refl)
  primary_adds (Some s) a = one_change (primary_row s) (made n None [] false None None side.Neither) (λ k. change.Primary (written k s)) (made n (Some s) [] false None None side.Neither) (refl, refl) refl refl (λ k. refl) (λ k. refl) (λ seen k h. primary_done seen k n s a h)

  secondary_adds : (o : Option Subnet) (before ss : List Subnet) → AllByRecursion IsAddress ss → Adds (map secondary_row ss) (made n o before false None None side.Neither) (made n o (before ++ ss) false None None side.Neither)
  secondary_adds o before [] a = (ap (λ x. with_interfaces c (is ++ made n o x false None None side.Neither ∷ [])) (sym (append-nil before)), refl)
  secondary_adds o before (s ∷ ss) a =
      goes_on (secondary_row s ∷ []) (map secondary_row ss) (with_interfaces c (is ++ made n o before false None None side.Neither ∷ [])) (section.Interface n) (with_interfaces c (is ++ made n o (before ++ s ∷ []) false None None side.Neither ∷ [])) (section.Interface n) (with_interfaces c (is ++ made n o (before ++ s ∷ ss) false None None side.Neither ∷ [])) (section.Interface n)
      (one_change (secondary_row s) (made n o before false None None side.Neither) (λ k. change.Secondary (written k s)) (made n o (before ++ s ∷ []) false None None side.Neither) (refl, refl) refl refl (λ k. refl) (λ k. refl) (λ seen k h. secondary_done seen k n s a.0 h))
      (subst (λ x. Adds (map secondary_row ss) (made n o (before ++ s ∷ []) false None None side.Neither) (made n o x false None None side.Neither)) (append_assoc before (s ∷ []) ss) (secondary_adds o (before ++ s ∷ []) ss a.1))

  shut_adds : (o : Option Subnet) (ss : List Subnet) (b : Bool) → Adds (shut_rows b) (made n o ss false None None side.Neither) (made n o ss b None None side.Neither)
  shut_adds o ss false = (refl, refl)
  shut_adds o ss true = one_change (true, codes "shutdown" ∷ []) (made n o ss false None None side.Neither) (λ k. change.Shut true) (made n o ss true None None side.Neither) (refl, refl) refl refl (λ k. refl) (λ k. refl) (λ seen k h. shut_done seen k n h)

  input_adds : (o : Option Subnet) (ss : List Subnet) (b : Bool) (w : Option Word) → Adds (map (group_row (codes "in")) (option_to_list w)) (made n o ss b None None side.Neither) (made n o ss b w None side.Neither)
  input_adds o ss b None = (refl, refl)
  input_adds o ss b (Some w) = one_change (group_row (codes "in") w) (made n o ss b None None side.Neither) (λ k. change.Input w) (made n o ss b (Some w) None side.Neither) (refl, refl) refl refl (λ k. refl) (λ k. refl) (λ seen k h. input_done seen k n h w)

  output_adds : (o : Option Subnet) (ss : List Subnet) (b : Bool) (v w : Option Word) → Adds (map (group_row (codes "out")) (option_to_list w)) (made n o ss b v None side.Neither) (made n o ss b v w side.Neither)
  output_adds o ss b v None = (refl, refl)
  output_adds o ss b v (Some w) = one_change (group_row (codes "out") w) (made n o ss b v None side.Neither) (λ k. change.Output w) (made n o ss b v (Some w) side.Neither) (refl, refl) refl refl (λ k. refl) (λ k. refl) (λ seen k h. output_done seen k n h w)

  side_adds : (o : Option Subnet) (ss : List Subnet) (b : Bool) (v w : Option Word) (s : Side) → Adds (side_rows s) (made n o ss b v w side.Neither) (made n o ss b v w s)
  side_adds o ss b v w side.Neither = (refl, refl)
  side_adds o ss b v w side.Inside = one_change (true, codes "ip" ∷ codes "nat" ∷ codes "inside" ∷ []) (made n o ss b v w side.Neither) (λ k. change.OnSide side.Inside) (made n o ss b v w side.Inside) (refl, refl) refl refl (λ k. refl) (λ k. refl) (λ seen k h. inside_done seen k n h)
  side_adds o ss b v w side.Outside = one_change (true, codes "ip" ∷ codes "nat" ∷ codes "outside" ∷ []) (made n o ss b v w side.Neither) (λ k. change.OnSide side.Outside) (made n o ss b v w side.Outside) (refl, refl) refl refl (λ k. refl) (λ k. refl) (λ seen k h. outside_done seen k n h)

  adds_on : (rs qs : List Row) (i j m : Interface) → Adds rs i j → Adds qs j m → Adds (rs ++ qs) i m
  adds_on rs qs i j m g h = goes_on rs qs (with_interfaces c (is ++ i ∷ [])) (section.Interface n) (with_interfaces c (is ++ j ∷ [])) (section.Interface n) (with_interfaces c (is ++ m ∷ [])) (section.Interface n) g h

  fields_add : (o : Option Subnet) (ss : List Subnet) (b : Bool) (v w : Option Word) (s : Side) → IsAddressIfAny o → AllByRecursion IsAddress ss
      → Adds (map primary_row (option_to_list o) ++ (map secondary_row ss ++ (shut_rows b ++ (map (group_row (codes "in")) (option_to_list v) ++ (map (group_row (codes "out")) (option_to_list w) ++ (side_rows s)))))) (made n None [] false None None side.Neither) (made n o ss b v w s)
  fields_add o ss b v w s a more =
      adds_on (map primary_row (option_to_list o)) (map secondary_row ss ++ (shut_rows b ++ (map (group_row (codes "in")) (option_to_list v) ++ (map (group_row (codes "out")) (option_to_list w) ++ (side_rows s))))) (made n None [] false None None side.Neither) (made n o [] false None None side.Neither) (made n o ss b v w s) (primary_adds o a)
      (adds_on (map secondary_row ss) (shut_rows b ++ (map (group_row (codes "in")) (option_to_list v) ++ (map (group_row (codes "out")) (option_to_list w) ++ (side_rows s)))) (made n o [] false None None side.Neither) (made n o ss false None None side.Neither) (made n o ss b v w s) (secondary_adds o [] ss more)
      (adds_on (shut_rows b) (map (group_row (codes "in")) (option_to_list v) ++ (map (group_row (codes "out")) (option_to_list w) ++ (side_rows s))) (made n o ss false None None side.Neither) (made n o ss b None None side.Neither) (made n o ss b v w s) (shut_adds o ss b)
      (adds_on (map (group_row (codes "in")) (option_to_list v)) (map (group_row (codes "out")) (option_to_list w) ++ side_rows s) (made n o ss b None None side.Neither) (made n o ss b v None side.Neither) (made n o ss b v w s) (input_adds o ss b v)
      (adds_on (map (group_row (codes "out")) (option_to_list w)) (side_rows s) (made n o ss b v None side.Neither) (made n o ss b v w side.Neither) (made n o ss b v w s) (output_adds o ss b v w)
      (side_adds o ss b v w s)))))

interface_goes : (c : Config) (is : List Interface) (s : Section) (i : Interface) → IsInterface (names_in is) i → Goes (interface_rows i) (with_interfaces c is) s (with_interfaces c (is ++ i ∷ [])) (section.Interface i.name)
interface_goes c is s i k = (with_interfaces c (is ++ bare i.name ∷ []), section.Interface i.name, open_one c is s i.name k.other k.new, fields_add c is i.name k.new i.primary i.secondary i.shut i.input i.output i.side k.primary k.secondary)

pub interfaces_go : (c : Config) (before is : List Interface) (s : Section) → AreInterfaces (names_in before) is → (t : Section) × Goes (flat_map interface_rows is) (with_interfaces c before) s (with_interfaces c (before ++ is)) t
interfaces_go c before [] s k = (s, (ap (with_interfaces c) (sym (append-nil before)), refl))
interfaces_go c before (i ∷ is) s k =
    let rest = interfaces_go c (before ++ i ∷ []) is (section.Interface i.name) (subst (λ ns. AreInterfaces ns is) (sym (map_more (λ (i : Interface). i.name) before i)) k.1) in (
      rest.0,
      goes_on (interface_rows i) (flat_map interface_rows is) (with_interfaces c before) s (with_interfaces c (before ++ i ∷ [])) (section.Interface i.name) (with_interfaces c (before ++ i ∷ is)) rest.0
          (interface_goes c before s i k.0)
          (subst (λ x. Goes (flat_map interface_rows is) (with_interfaces c (before ++ i ∷ [])) (section.Interface i.name) (with_interfaces c x) rest.0) (append_assoc before (i ∷ []) is) rest.1),
    )
