-- What an edit makes of a network, or why it is refused: the device is looked for first, then the list, then the sequence, the
-- entry or the route.
use Rattle.std.specs.Prelude.{ℕ, ◌≡◌, Bool, ◌==◌, nat_lt, if◌then◌else◌, List, [], ◌∷◌, ◌++◌, Result, Ok, Err}
use Rattle.std.specs.List.{list_any}
use Rattle.net_types.specs.declared.config.AccessList.{AccessList}
use Rattle.net_types.specs.declared.config.Config.{Config}
use Rattle.net_types.specs.declared.config.Entry.{Entry}
use Rattle.net_types.specs.declared.config.Route.{Route}
use Rattle.net_types.specs.declared.network.NetDevice.{NetDevice}
use Rattle.net_types.specs.declared.network.Network.{Network}
use Rattle.net_types.specs.Routes.{same_text}
use Rattle.incr_review.specs.declared.edits.Edit.{Edit}
use Rattle.incr_review.specs.declared.edits.Edit.TheVariants as edit
use Rattle.incr_review.specs.declared.edits.EditFail.{EditFail}
use Rattle.incr_review.specs.declared.edits.EditFail.TheVariants as fail
use Rattle.incr_review.specs.declared.edits.EditKind.{EditKind}
use Rattle.incr_review.specs.declared.edits.EditKind.TheVariants.{UnknownDevice, UnknownList, SequenceTaken, NoSuchEntry, NoSuchRoute}
use Rattle.incr_review.specs.Same.{same_route}

abbrev pub map_ok : {X Y : Type 0} → (X → Y) → Result X EditKind → Result Y EditKind
map_ok f (Ok x) = Ok (f x)
map_ok f (Err kind) = Err kind

-- ---- lists

-- the first item that passes the test is changed and all others stay; where none passes it is refused with this kind
abbrev pub change_first : {X : Type 0} → (X → Bool) → EditKind → (X → Result X EditKind) → List X → Result (List X) EditKind
change_first test missing change [] = Err missing
change_first test missing change (x ∷ xs) = if test x then map_ok (λ y. y ∷ xs) (change x) else map_ok (λ ys. x ∷ ys) (change_first test missing change xs)

-- the first item that passes the test is gone and all others stay; where none passes it is refused with this kind
abbrev pub drop_first : {X : Type 0} → (X → Bool) → EditKind → List X → Result (List X) EditKind
drop_first test missing [] = Err missing
drop_first test missing (x ∷ xs) = if test x then Ok xs else map_ok (λ ys. x ∷ ys) (drop_first test missing xs)

-- ---- entries

-- the entry stands before the first one of a greater sequence, and where there is none it stands last
abbrev pub with_entry : Entry → List Entry → List Entry
with_entry e [] = e ∷ []
with_entry e (x ∷ xs) = if nat_lt e.sequence x.sequence then e ∷ x ∷ xs else x ∷ with_entry e xs

abbrev pub has_sequence : ℕ → Entry → Bool
has_sequence n e = e.sequence == n

abbrev pub entry_added : Entry → List Entry → Result (List Entry) EditKind
entry_added e entries = if list_any (has_sequence e.sequence) entries then Err SequenceTaken else Ok (with_entry e entries)

-- ---- a device

abbrev pub is_list : List ℕ → AccessList → Bool
is_list name a = same_text a.name name

abbrev pub list_edited : (List Entry → Result (List Entry) EditKind) → AccessList → Result AccessList EditKind
list_edited change a = map_ok (λ entries. record a { entries = entries }) (change a.entries)

abbrev pub lists_edited : List ℕ → (List Entry → Result (List Entry) EditKind) → List AccessList → Result (List AccessList) EditKind
lists_edited name change lists = change_first (is_list name) UnknownList (list_edited change) lists

-- what an edit may change of a device
pub record Rules : Type 0 where
  pub routes : List Route
  pub lists : List AccessList

abbrev pub with_lists : List Route → Result (List AccessList) EditKind → Result Rules EditKind
with_lists routes lists = map_ok (λ ls. record { routes = routes; lists = ls }) lists

-- the routes and lists after the edit
abbrev pub rules_edited : Edit → Config → Result Rules EditKind
rules_edited (edit.AddEntry d name e) c = with_lists c.routes (lists_edited name (entry_added e) c.lists)
rules_edited (edit.DropEntry d name n) c = with_lists c.routes (lists_edited name (drop_first (has_sequence n) NoSuchEntry) c.lists)
rules_edited (edit.AddRoute d r) c = Ok (record { routes = c.routes ++ r ∷ []; lists = c.lists })
rules_edited (edit.DropRoute d r) c = map_ok (λ routes. record { routes = routes; lists = c.lists }) (drop_first (same_route r) NoSuchRoute c.routes)

-- the device with other routes and lists
abbrev pub with_rules : NetDevice → Rules → NetDevice
with_rules d rules = record d { config = record d.config { routes = rules.routes; lists = rules.lists } }

abbrev pub device_edited : Edit → NetDevice → Result NetDevice EditKind
device_edited e d = map_ok (with_rules d) (rules_edited e d.config)

-- ---- a network

abbrev pub device_of : Edit → ℕ
device_of (edit.AddEntry d name e) = d
device_of (edit.DropEntry d name n) = d
device_of (edit.AddRoute d r) = d
device_of (edit.DropRoute d r) = d

abbrev pub is_named : ℕ → NetDevice → Bool
is_named n d = d.name == n

-- the network after the edit
abbrev pub edited : Edit → Network → Result Network EditKind
edited e network = map_ok (λ devices. record network { devices = devices }) (change_first (is_named (device_of e)) UnknownDevice (device_edited e) network.devices)

-- ---- answers

-- there was no memory, or it is refused with this kind
abbrev pub IsFailOf : {X : Type 0} → Result X EditKind → EditFail → Type 0
IsFailOf answer fail.NoMemory = fail.NoMemory ≡ fail.NoMemory
IsFailOf answer (fail.Refused kind) = answer ≡ Err kind
