-- What may stop a look at folders and tables of which nothing is too long, too many or absent.
use Rattle.std.proofs.Common.{◌≡◌, inl, inr, ℕ, ◌+◌, ◌≤◌, true, false, List, [], ◌∷◌, ◌++◌, length, refl, sym, ap, subst, ◌∙◌, arith}
use Rattle.std.specs.Prelude.{Option, Some, None, Result, Ok, Err, IfErr, IfSome, Bool}
use Rattle.net_io.specs.Files.{Told, content, has_folder, path_in}
use Rattle.net_load.specs.Limits.{folder_limit}
use Rattle.net_load.proofs.OneAnswer.{names_once}
use Rattle.doctor_warnings.specs.declared.files.TextFile.{TextFile}
use Rattle.doctor_warnings.specs.declared.network.Subject.{Subject}
use Rattle.doctor_warnings.specs.declared.network.Texts.{Texts}
use Rattle.job_core.specs.declared.report.Report.{Report}
use Rattle.job_core.specs.declared.stop.Stop.{Stop}
use Rattle.job_core.specs.declared.stop.Stop.TheVariants as stop
use Rattle.job_core.specs.Accepted.{AcceptedFile, MayAlwaysStop}
use Rattle.job_core.specs.Causes.{FaultRose, HasCause, NamesLast, WasRead}
use Rattle.job_core.specs.Steps.{GivesBytes, OrNoMemory}
use Rattle.job_core.proofs.AcceptedLemmas.{then_may_stop, file_may_stop, bytes_are}
use Rattle.doctor_core.specs.Accepted.{AcceptedBy, AcceptedPaths, AcceptedTexts, IfAsked, IsAccepted}
use Rattle.doctor_core.specs.Folders.{AreGiven, GivesAll, GivesFile, GivesFiles, GivesFrom, GivesNames, GivesOthers, GivesTextAt, GivesTexts, GivesWith, IsFile, IsFolder, NoNames, Unlisted, total}
use Rattle.doctor_core.specs.Job.{Does, DoesBy, IsLook, IsTold, Looks, LooksBehind, LooksOver, LooksWith, subject_of, with_links}
use Rattle.doctor_core.specs.Words.{Paths, paths_of, text_of}
use Rattle.doctor_core.proofs.FileSteps.{total_more}

abbrev AreEqual : {A : Type 0} → Result A Stop → Result A Stop → Type 0
AreEqual x y = x ≡ y

inside : {A : Type 0} (s r : Stop) → AreEqual {A = A} (Err s) (Err r) → MayAlwaysStop r → MayAlwaysStop s
inside s r e h = let same : s ≡ r = cc in subst MayAlwaysStop (sym same) h

not_both : {A : Type 0} (x : A) (s : Stop) → AreEqual {A = A} (Ok x) (Err s) → ⊥
not_both x s h = cc

both : (b : Bool) → b ≡ true → b ≡ false → ⊥
both b h k = cc

-- ---- files

file_fits : (folder name bytes : List ℕ) (n : ℕ) (s : Stop) → n + length bytes ≤ folder_limit → IsFile folder name n bytes (Err s) → MayAlwaysStop s
file_fits folder name bytes n stop.NoMemory fits h = tt
file_fits folder name bytes n (stop.CannotRead p) fits h = tt
file_fits folder name bytes n (stop.NotFound p) fits h = h
file_fits folder name bytes n (stop.TooLong p) fits h = let long = h.1 in absurd (omega (arith, fits, long))
file_fits folder name bytes n (stop.TooManyFiles p) fits h = h
file_fits folder name bytes n (stop.Refused p k w v) fits h = h
file_fits folder name bytes n (stop.HostnameTaken p q) fits h = h

module _ (t : Told) (folder name : List ℕ) where
  -- a file that is given is there, and fits
  file_given : (n : ℕ) (f : TextFile) → GivesFile t folder name n (Ok f) → (a : AcceptedFile t (path_in folder name)) × (n + length a.bytes ≤ folder_limit) × (f.bytes ≡ a.bytes)
  file_given n f (inl (s, h, e)) = absurd (not_both f s e)
  file_given n f (inr (bytes, read, is)) =
      (record { bytes = bytes; there = read.0; within = read.1 }, is.2, is.1)

  file_stops : (n : ℕ) (a : AcceptedFile t (path_in folder name)) (s : Stop) → n + length a.bytes ≤ folder_limit → GivesFile t folder name n (Err s) → MayAlwaysStop s
  file_stops n a s fits h =
      then_may_stop (GivesBytes (λ (bytes : List ℕ). bytes) (path_in folder name) (content t (path_in folder name))) (IsFile folder name n) s
      (file_may_stop t (path_in folder name) a)
      (λ bytes read is. file_fits folder name a.bytes n s fits (subst (λ (b : List ℕ). IsFile folder name n b (Err s)) (bytes_are t (path_in folder name) bytes a read.0) is)) h

given_stops : (files : List TextFile) (s : Stop) → AreGiven files (Err s) → MayAlwaysStop s
given_stops files stop.NoMemory h = tt
given_stops files (stop.CannotRead p) h = tt
given_stops files (stop.NotFound p) h = h
given_stops files (stop.TooLong p) h = h
given_stops files (stop.TooManyFiles p) h = h
given_stops files (stop.Refused p k w v) h = h
given_stops files (stop.HostnameTaken p q) h = h

-- files that are given are stopped by nothing but what may always stop
from_stops : (t : Told) (folder : List ℕ) (names : List (List ℕ)) (a b fs : List TextFile) (s : Stop) → total a ≡ total b
    → GivesFrom t folder a names (Ok fs) → GivesFrom t folder b names (Err s) → MayAlwaysStop s
from_stops t folder [] a b fs s same g h = given_stops b s h
from_stops t folder (name ∷ names) a b fs s same (inl (x, g, e)) h = absurd (not_both fs x e)
from_stops t folder (name ∷ names) a b fs s same (inr (f, g, rest)) h =
    let file = file_given t folder name (total a) f g in
    let fits : total b + length file.0.bytes ≤ folder_limit = (let most = file.1 in omega (arith, same, most)) in
    then_may_stop (GivesFile t folder name (total b)) (λ f. GivesFrom t folder (b ++ f ∷ []) names) s
    (λ r k. file_stops t folder name (total b) file.0 r fits k)
    (λ other k more. (
    let other_file = file_given t folder name (total b) other k in
    let length_same : length f.bytes ≡ length other.bytes = ap length (file.2 ∙ sym (bytes_are t (path_in folder name) other_file.0.bytes file.0 other_file.0.there) ∙ sym other_file.2) in
    from_stops t folder names (a ++ f ∷ []) (b ++ other ∷ []) fs s (total_more a (a ++ f ∷ []) f refl ∙ omega (arith, same, length_same) ∙ sym (total_more b (b ++ other ∷ []) other refl)) rest more)) h

-- ---- folders

names_stop : (t : Told) (folder : List ℕ) (names : List (List ℕ)) (s : Stop) → GivesNames (λ (ns : List (List ℕ)). ns) t folder (Ok names) → NoNames t folder s → MayAlwaysStop s
names_stop t folder names stop.NoMemory g h = tt
names_stop t folder names (stop.CannotRead p) g h = tt
names_stop t folder names (stop.NotFound p) g h = absurd (both (has_folder t folder) g.0 h.1)
names_stop t folder names (stop.TooLong p) g h = h
names_stop t folder names (stop.TooManyFiles p) g (same, (ns, are, many)) =
    let one = ap length (names_once t folder ns names are g.1) in
    let few = g.2 in
    absurd (omega (arith, one, few, many))
names_stop t folder names (stop.Refused p k w v) g h = h
names_stop t folder names (stop.HostnameTaken p q) g h = h

all_stop : (t : Told) (folder : List ℕ) (files : List TextFile) (s : Stop) → GivesAll t folder (Ok files) → GivesAll t folder (Err s) → MayAlwaysStop s
all_stop t folder files s (inl (x, g, e)) h = absurd (not_both files x e)
all_stop t folder files s (inr (names, g, given)) h =
    then_may_stop (GivesNames (λ (ns : List (List ℕ)). ns) t folder) (GivesFiles t folder) s
    (λ r k. names_stop t folder names r g k)
    (λ ns k more. from_stops t folder names [] [] files s refl given (subst (λ (x : List (List ℕ)). GivesFrom t folder [] x (Err s)) (names_once t folder ns names k.1 g.1) more)) h

folder_stops : (folder : List ℕ) (files : List TextFile) (others : List (List ℕ)) (s : Stop) → IsFolder folder files others (Err s) → MayAlwaysStop s
folder_stops folder files others stop.NoMemory h = tt
folder_stops folder files others (stop.CannotRead p) h = tt
folder_stops folder files others (stop.NotFound p) h = h
folder_stops folder files others (stop.TooLong p) h = h
folder_stops folder files others (stop.TooManyFiles p) h = h
folder_stops folder files others (stop.Refused p k w v) h = h
folder_stops folder files others (stop.HostnameTaken p q) h = h

-- a folder whose files are given is there
is_there : (t : Told) (folder : List ℕ) (files : List TextFile) → GivesAll t folder (Ok files) → has_folder t folder ≡ true
is_there t folder files (inl (x, g, e)) = absurd (not_both files x e)
is_there t folder files (inr (names, g, given)) = g.0

others_stop : (t : Told) (folder : List ℕ) (s : Stop) → has_folder t folder ≡ true → Unlisted t folder s → MayAlwaysStop s
others_stop t folder stop.NoMemory g h = tt
others_stop t folder (stop.CannotRead p) g h = tt
others_stop t folder (stop.NotFound p) g h = absurd (both (has_folder t folder) g h.1)
others_stop t folder (stop.TooLong p) g h = h
others_stop t folder (stop.TooManyFiles p) g h = h
others_stop t folder (stop.Refused p k w v) g h = h
others_stop t folder (stop.HostnameTaken p q) g h = h

with_others_stop : (t : Told) (folder : List ℕ) (files : List TextFile) (s : Stop) → has_folder t folder ≡ true → GivesWith t folder files (Err s) → MayAlwaysStop s
with_others_stop t folder files s there h =
    then_may_stop (GivesOthers t folder) (IsFolder folder files) s (λ r k. others_stop t folder r there k) (λ others g k. folder_stops folder files others s k) h

texts_stop : (t : Told) (folder : List ℕ) (a : AcceptedTexts t folder) (s : Stop) → GivesTexts t folder (Err s) → MayAlwaysStop s
texts_stop t folder a s h =
    then_may_stop (GivesAll t folder) (GivesWith t folder) s (λ r k. all_stop t folder a.files r a.given k)
    (λ files g k. with_others_stop t folder files s (is_there t folder a.files a.given) k) h

-- ---- the whole

look_stops : (json : Bool) (x : Subject) (s : Stop) → IsLook json x (Err s) → MayAlwaysStop s
look_stops json x stop.NoMemory h = tt
look_stops json x (stop.CannotRead p) h = tt
look_stops json x (stop.NotFound p) h = h
look_stops json x (stop.TooLong p) h = h
look_stops json x (stop.TooManyFiles p) h = h
look_stops json x (stop.Refused p k w v) h = h
look_stops json x (stop.HostnameTaken p q) h = h

behind_stops : (t : Told) (json : Bool) (o : Option (List ℕ)) (x : Subject) (s : Stop) → IfAsked (AcceptedFile t) o → LooksBehind json o t x (Err s) → MayAlwaysStop s
behind_stops t json None x s a h = look_stops json x s h
behind_stops t json (Some p) x s a h =
    then_may_stop (GivesTextAt t p) (λ new_links. IsLook json (with_links x new_links)) s (λ r k. file_may_stop t p a r k) (λ new_links g k. look_stops json (with_links x new_links) s k) h

with_stops : (t : Told) (p : Paths) (a : AcceptedPaths t p) (old : Texts) (new : Option Texts) (s : Stop) → LooksWith t p old new (Err s) → MayAlwaysStop s
with_stops t p a old new s h =
    then_may_stop (GivesTextAt t p.links) (λ links. LooksBehind p.json p.new_links t (subject_of p old new links)) s
    (λ r k. file_may_stop t p.links a.links r k) (λ links g k. behind_stops t p.json p.new_links (subject_of p old new links) s a.new_links k) h

over_stops : (t : Told) (p : Paths) (a : AcceptedPaths t p) (o : Option (List ℕ)) → IfAsked (AcceptedTexts t) o → (old : Texts) (s : Stop) → LooksOver o t p old (Err s) → MayAlwaysStop s
over_stops t p a None x old s h = with_stops t p a old None s h
over_stops t p a (Some folder) x old s h =
    then_may_stop (GivesTexts t folder) (λ new. LooksWith t p old (Some new)) s (λ r k. texts_stop t folder x r k) (λ new g k. with_stops t p a old (Some new) s k) h

looks_stop : (t : Told) (p : Paths) (a : AcceptedPaths t p) (s : Stop) → Looks t p (Err s) → MayAlwaysStop s
looks_stop t p a s h =
    then_may_stop (GivesTexts t p.old) (LooksOver p.new t p) s (λ r k. texts_stop t p.old a.old r k) (λ old g k. over_stops t p a p.new a.new old s k) h

told_stops : (text : List ℕ) (s : Stop) → OrNoMemory (IsTold text) (Err s) → MayAlwaysStop s
told_stops text stop.NoMemory h = tt
told_stops text (stop.CannotRead p) h = tt
told_stops text (stop.NotFound p) h = h
told_stops text (stop.TooLong p) h = h
told_stops text (stop.TooManyFiles p) h = h
told_stops text (stop.Refused p k w v) h = h
told_stops text (stop.HostnameTaken p q) h = h

does_stop : (o : Option (List ℕ)) (q : Option Paths) (t : Told) (s : Stop) → AcceptedBy o q t → DoesBy o q t (Err s) → MayAlwaysStop s
does_stop (Some text) q t s a h = told_stops text s h
does_stop None (Some p) t s a h = looks_stop t p a s h
does_stop None None t s a h = absurd a

pub accepted_may_stop : (words : List (List ℕ)) (t : Told) (s : Stop) → IsAccepted words t → Does words t (Err s) → MayAlwaysStop s
accepted_may_stop words t s a d = does_stop (text_of words) (paths_of words) t s a d

-- ---- what is done is what the words ask

pub does_text : (words : List (List ℕ)) (told : Option Told) (text : List ℕ) (result : Result Report Stop) → text_of words ≡ Some text → OrNoMemory (IsTold text) result → IfSome told (λ t. Does words t result)
does_text words None text result asked d = tt
does_text words (Some t) text result asked d = subst (λ o. DoesBy o (paths_of words) t result) (sym asked) d

pub does_paths : (words : List (List ℕ)) (told : Option Told) (p : Paths) (result : Result Report Stop) → text_of words ≡ None → paths_of words ≡ Some p → IfSome told (λ t. Looks t p result) → IfSome told (λ t. Does words t result)
does_paths words None p result none asked d = tt
does_paths words (Some t) p result none asked d = subst (λ o. DoesBy o (paths_of words) t result) (sym none) (subst (λ o. DoesBy None o t result) (sym asked) d)

-- where the words are outside the usage nothing is accepted
pub none_accepted : (words : List (List ℕ)) → text_of words ≡ None → paths_of words ≡ None → (t : Told) → IsAccepted words t → ⊥
none_accepted words no_text none t a = subst (λ o. AcceptedBy None o t) none (subst (λ o. AcceptedBy o (paths_of words) t) no_text a)

-- ---- a job that reads no file

was_read : (n : ℕ) (s : Stop) → WasRead s → FaultRose n n s
was_read n stop.NoMemory h = tt
was_read n (stop.CannotRead p) h = absurd h
was_read n (stop.NotFound p) h = tt
was_read n (stop.TooLong p) h = tt
was_read n (stop.TooManyFiles p) h = tt
was_read n (stop.Refused p k w v) h = tt
was_read n (stop.HostnameTaken p q) h = tt

pub read_cause : (n : ℕ) (r : Result Report Stop) → IfErr r WasRead → HasCause n n r
read_cause n (Ok r) h = record { later = omega arith; fault = tt }
read_cause n (Err s) h = record { later = omega arith; fault = was_read n s h }

names_no_file : (last : Option (List ℕ)) (s : Stop) → WasRead s → NamesLast last s
names_no_file last stop.NoMemory h = tt
names_no_file last (stop.CannotRead p) h = absurd h
names_no_file last (stop.NotFound p) h = tt
names_no_file last (stop.TooLong p) h = tt
names_no_file last (stop.TooManyFiles p) h = tt
names_no_file last (stop.Refused p k w v) h = tt
names_no_file last (stop.HostnameTaken p q) h = tt

pub read_last : (last : Option (List ℕ)) (r : Result Report Stop) → IfErr r WasRead → IfErr r (NamesLast last)
read_last last (Ok r) h = tt
read_last last (Err s) h = names_no_file last s h

pub none_is : {A : Type 0} (o : Option A) → ((x : A) → o ≡ Some x → ⊥) → o ≡ None
none_is None h = refl
none_is (Some x) h = absurd (h x refl)
