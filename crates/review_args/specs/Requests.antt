-- The requests, by their positional words and the values of their options.
use Rattle.std.specs.Prelude.{◌≡◌, ◌≤◌, ℕ, Bool, ◌||◌, List, [], ◌∷◌, Option, Some, None, option_and_then, option_map, Result, Ok, Err, length, codes, ◌==◌, if◌then◌else◌}
use Rattle.std.specs.List.{list_any}
use Rattle.std.specs.Str.{bytes_eq}
use Rattle.hdr_bits.specs.declared.header.Header.{Header}
use Rattle.review_args.specs.Numbers.{Word, number_within, header_of}
use Rattle.review_args.specs.Words.{workers, ttl, values, positional, has_stray}
use Rattle.review_args.specs.declared.request.Asking.{Asking}
use Rattle.review_args.specs.declared.request.Comparison.{Comparison}
use Rattle.review_args.specs.declared.request.Tracing.{Tracing}
use Rattle.review_args.specs.declared.request.Job.{Job}
use Rattle.review_args.specs.declared.request.Job.TheVariants as job
use Rattle.review_args.specs.declared.request.Request.{Request}
use Rattle.review_args.specs.declared.request.WordsFail.{WordsFail}
use Rattle.review_args.specs.declared.request.WordsFail.TheVariants as fail

infixl 10 ◌>>=◌
abbrev ◌>>=◌ : {A B : Type 0} → Option A → (A → Option B) → Option B
o >>= f = option_and_then f o

-- the number that an option gives: its usual one where it isn't there, and none where it is there twice
abbrev pub option_number : ℕ → ℕ → ℕ → List Word → Option ℕ
option_number low high usual [] = Some usual
option_number low high usual (value ∷ []) = number_within low high value
option_number low high usual (value ∷ again ∷ values) = None

-- 1 to 64 workers, or else 4
abbrev pub workers_of : List Word → Option ℕ
workers_of values = option_number 1 64 4 values

-- a TTL of 1 to 255, or else 255
abbrev pub ttl_of : List Word → Option ℕ
ttl_of values = option_number 1 255 255 values

-- a job by so many workers
abbrev pub by_workers : ℕ → Job → Request
by_workers w j = record { job = j; workers = w }

abbrev pub compared : Word → Word → Word → Option Word → ℕ → Comparison
compared old new links new_links t = record { old = old; new = new; links = links; new_links = new_links; ttl = t }

-- `compare OLD NEW LINKS [NEWLINKS]`
abbrev pub comparison : List Word → ℕ → ℕ → Option Request
comparison (old ∷ new ∷ links ∷ []) w t = Some (by_workers w (job.Compare (compared old new links None t)))
comparison (old ∷ new ∷ links ∷ new_links ∷ []) w t = Some (by_workers w (job.Compare (compared old new links (Some new_links) t)))
comparison _ w t = None

abbrev pub asked : Word → Word → Word → ℕ → Asking
asked net links questions t = record { net = net; links = links; questions = questions; ttl = t }

-- `ask NET LINKS QUESTIONS`
abbrev pub asking : List Word → ℕ → ℕ → Option Request
asking (net ∷ links ∷ questions ∷ []) w t = Some (by_workers w (job.Ask (asked net links questions t)))
asking _ w t = None

abbrev pub followed : Word → Word → Word → Word → Header → ℕ → Tracing
followed net links device interface header t =
    record { net = net; links = links; packet = record { device = device; interface = interface; header = header }; ttl = t }

-- `trace NET LINKS DEVICE INTERFACE HEADER`
abbrev pub tracing : List Word → ℕ → Option Request
tracing (net ∷ links ∷ device ∷ interface ∷ header ∷ []) t =
    option_map (λ h. by_workers 1 (job.Trace (followed net links device interface h t))) (header_of header)
tracing _ t = None

-- `read NET`
abbrev pub reading : List Word → Option Request
reading (net ∷ []) = Some (by_workers 1 (job.Read net))
reading _ = None

-- `gen NUMBER SIZE`, a number below 2^64 and a size of 2 to 200
abbrev pub making : List Word → ℕ → Option Request
making (number ∷ size ∷ []) w = do
  n ← number_within 0 18446744073709551615 number
  s ← number_within 2 200 size
  Some (by_workers w (job.Gen n s))
making _ w = None

-- an option that doesn't go with the command
abbrev pub without : List Word → Option Request → Option Request
without [] o = o
without (value ∷ values) o = None

-- the request of a command of this name, with these positional words and these values of its options
abbrev pub named : Word → List Word → List Word → List Word → Option Request
named name words w t =
    if bytes_eq name (codes "compare") then option_and_then (λ n. option_and_then (comparison words n) (ttl_of t)) (workers_of w)
    else if bytes_eq name (codes "ask") then option_and_then (λ n. option_and_then (asking words n) (ttl_of t)) (workers_of w)
    else if bytes_eq name (codes "trace") then without w (option_and_then (tracing words) (ttl_of t))
    else if bytes_eq name (codes "read") then without w (without t (reading words))
    else if bytes_eq name (codes "gen") then without t (option_and_then (making words) (workers_of w))
    else None

abbrev pub is_empty : Word → Bool
is_empty word = length word == 0

-- what the words after the program's name ask for; nothing where they are outside the usage
abbrev pub request_of : List Word → Option Request
request_of [] = None
request_of (name ∷ words) =
    if has_stray name words || list_any is_empty (positional name words) then None
    else named name (positional name words) (values workers name words) (values ttl name words)

-- the job that they ask for
abbrev pub job_of : List Word → Option Job
job_of words = option_map (λ r. r.job) (request_of words)

-- the bounds of a request's numbers
abbrev pub AreWorkers : ℕ → Type 0
AreWorkers w = 1 ≤ w × w ≤ 64

abbrev pub IsTtl : ℕ → Type 0
IsTtl t = 1 ≤ t × t ≤ 255

abbrev pub IsSize : ℕ → Type 0
IsSize s = 2 ≤ s × s ≤ 200

abbrev pub IsJob : Job → Type 0
IsJob (job.Compare c) = IsTtl c.ttl
IsJob (job.Ask a) = IsTtl a.ttl
IsJob (job.Trace t) = IsTtl t.ttl
IsJob (job.Read net) = Unit {0}
IsJob (job.Gen number s) = IsSize s

pub record IsWithin (r : Request) : Type 0 where
  pub workers : AreWorkers r.workers
  pub job : IsJob r.job

-- what is answered where the words ask for this
abbrev pub Answers : Option Request → Result Request WordsFail → Type 0
Answers asked (Ok r) = asked ≡ Some r
Answers asked (Err fail.Refused) = asked ≡ None
Answers asked (Err fail.NoMemory) = Unit {0}
