-- What may stop a step of which nothing is refused, too long or absent.
use Rattle.std.proofs.Common.{◌≡◌, inl, inr, ℕ, ◌<◌, List, length, sym, subst, arith}
use Rattle.std.specs.Prelude.{Option, Some, None, Result, Ok, Err, IsSomeAnd}
use Rattle.net_types.specs.declared.config.Loaded.{Loaded}
use Rattle.net_io.specs.Limits.{file_limit}
use Rattle.net_io.specs.Files.{Told, content}
use Rattle.topo_links.specs.declared.table.LinkTable.{LinkTable}
use Rattle.topo_links.specs.declared.table.LinkFail.{LinkFail}
use Rattle.topo_links.specs.declared.table.LinkFail.TheVariants as links
use Rattle.topo_links.specs.Table.{table_of}
use Rattle.job_core.specs.declared.report.Report.{Report}
use Rattle.job_core.specs.declared.table.Wires.{Wires}
use Rattle.job_core.specs.declared.stop.Stop.{Stop}
use Rattle.job_core.specs.declared.stop.Stop.TheVariants as stop
use Rattle.job_core.specs.Accepted.{AcceptedFile, AcceptedLinks, AcceptedTable, MayAlwaysStop}
use Rattle.job_core.specs.Steps.{Then, OrNoMemory, UnreadFile, GivesBytes, LinksFail, SaysLinks, GivesLinks, fault_in, TableFails, IsChecked, GivesTable}

abbrev AreEqual : {A : Type 0} → Result A Stop → Result A Stop → Type 0
AreEqual x y = x ≡ y

inside : {A : Type 0} (s r : Stop) → AreEqual {A = A} (Err s) (Err r) → MayAlwaysStop r → MayAlwaysStop s
inside s r e h = let same : s ≡ r = cc in subst MayAlwaysStop (sym same) h

-- two steps one after the other: what may stop the first, and what may stop the second behind what the first gives
pub then_may_stop : {A B : Type 0} (first : Result A Stop → Type 0) (next : A → Result B Stop → Type 0) (s : Stop) → ((r : Stop) → first (Err r) → MayAlwaysStop r) → ((a : A) → first (Ok a) → next a (Err s) → MayAlwaysStop s) → Then first next (Err s) → MayAlwaysStop s
then_may_stop {A} {B} first next s stops goes (inl (r, h, same)) = inside {A = B} s r same (stops r h)
then_may_stop first next s stops goes (inr (a, h, k)) = goes a h k

some_is : {A : Type 0} (o : Option A) (x y : A) → o ≡ Some x → o ≡ Some y → x ≡ y
some_is o x y a b = cc

none_some : {A : Type 0} (o : Option A) (x : A) → o ≡ None → o ≡ Some x → ⊥
none_some o x a b = cc

ok_is : {A E : Type 0} (o : Result A E) (x y : A) → o ≡ Ok x → o ≡ Ok y → x ≡ y
ok_is o x y a b = cc

ok_err : {A E : Type 0} (o : Result A E) (x : A) (e : E) → o ≡ Ok x → o ≡ Err e → ⊥
ok_err o x e a b = cc

-- ---- files

pub file_may_stop : (t : Told) (path : List ℕ) (a : AcceptedFile t path) (s : Stop) → UnreadFile path (content t path) s → MayAlwaysStop s
file_may_stop t path a (stop.CannotRead p) h = tt
file_may_stop t path a stop.NoMemory h = tt
file_may_stop t path a (stop.NotFound p) h = none_some (content t path) a.bytes h.1 a.there
file_may_stop t path a (stop.TooLong p) h =
    let long : file_limit < length a.bytes = subst (λ (q : Option (List ℕ)). IsSomeAnd q (λ b. file_limit < length b)) a.there h.1 in
    let within = a.within in
    absurd (omega (arith, long, within))
file_may_stop t path a (stop.TooManyFiles p) h = h
file_may_stop t path a (stop.Refused p n k w) h = h
file_may_stop t path a (stop.HostnameTaken p q) h = h

-- the bytes that are given are the accepted ones
pub bytes_are : (t : Told) (path bytes : List ℕ) (a : AcceptedFile t path) → content t path ≡ Some bytes → bytes ≡ a.bytes
bytes_are t path bytes a there = some_is (content t path) bytes a.bytes there a.there

-- ---- link tables

links_fail : (path bytes : List ℕ) (table : LinkTable) (s : Stop) → table_of bytes ≡ Ok table → LinksFail path bytes s → MayAlwaysStop s
links_fail path bytes table stop.NoMemory read h = tt
links_fail path bytes table (stop.CannotRead p) read h = tt
links_fail path bytes table (stop.NotFound p) read h = h
links_fail path bytes table (stop.TooLong p) read h = h
links_fail path bytes table (stop.TooManyFiles p) read h = h
links_fail path bytes table (stop.HostnameTaken p q) read h = h
links_fail path bytes table (stop.Refused p n k word) read (same, kind, named, refused) = ok_err (table_of bytes) table (links.Refused kind n word) read refused

pub links_may_stop : (t : Told) (path : List ℕ) (a : AcceptedLinks t path) (s : Stop) → GivesLinks t path (Err s) → MayAlwaysStop s
links_may_stop t path a s h =
    then_may_stop (GivesBytes (λ bytes. bytes) path (content t path)) (SaysLinks path) s
    (file_may_stop t path a.file)
    (λ bytes given fails. links_fail path a.file.bytes a.table s a.read (subst (λ (b : List ℕ). LinksFail path b s) (bytes_are t path bytes a.file given.0) fails))
    h

-- the table that is given is the accepted one
pub links_are : (t : Told) (path : List ℕ) (a : AcceptedLinks t path) (table : LinkTable) → GivesLinks t path (Ok table) → table ≡ a.table
links_are t path a table (inl (r, unread, same)) = let other : ⊥ = cc in absurd other
links_are t path a table (inr (bytes, given, says)) =
    ok_is (table_of a.file.bytes) table a.table (subst (λ (b : List ℕ). table_of b ≡ Ok table) (bytes_are t path bytes a.file given.0) says) a.read

table_fails : (path : List ℕ) (fault : Option LinkFail) (s : Stop) → fault ≡ None → TableFails path fault s → MayAlwaysStop s
table_fails path fault stop.NoMemory fits h = tt
table_fails path fault (stop.CannotRead p) fits h = tt
table_fails path fault (stop.NotFound p) fits h = h
table_fails path fault (stop.TooLong p) fits h = h
table_fails path fault (stop.TooManyFiles p) fits h = h
table_fails path fault (stop.HostnameTaken p q) fits h = h
table_fails path fault (stop.Refused p n k word) fits (same, kind, named, fails) = none_some fault (links.Refused kind n word) fits fails

module _ (t : Told) (path : List ℕ) (w : Wires) (first second : List Loaded) (a : AcceptedTable t path w first second) where
  pub table_may_stop : (s : Stop) → GivesTable t path w first second (Err s) → MayAlwaysStop s
  table_may_stop s h =
      then_may_stop (GivesLinks t path) (IsChecked path w first second) s
      (links_may_stop t path a.links)
      (λ table given fails. table_fails path (fault_in w first second a.links.table.lines) s a.fits (subst (λ (x : LinkTable). TableFails path (fault_in w first second x.lines) s) (links_are t path a.links table given) fails))
      h

  -- the table that is given is the accepted one
  pub table_is : (table : LinkTable) → GivesTable t path w first second (Ok table) → table ≡ a.links.table
  table_is table (inl (r, unread, same)) = let other : ⊥ = cc in absurd other
  table_is table (inr (given, gives, answer)) = subst (λ (x : LinkTable). table ≡ x) (links_are t path a.links given gives) answer.0

-- ---- what is written

pub writing_may_stop : (Is : Report → Type 0) (s : Stop) → OrNoMemory Is (Err s) → MayAlwaysStop s
writing_may_stop Is stop.NoMemory h = tt
writing_may_stop Is (stop.CannotRead p) h = tt
writing_may_stop Is (stop.NotFound p) h = h
writing_may_stop Is (stop.TooLong p) h = h
writing_may_stop Is (stop.TooManyFiles p) h = h
writing_may_stop Is (stop.Refused p n k w) h = h
writing_may_stop Is (stop.HostnameTaken p q) h = h
