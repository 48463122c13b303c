-- What lines that are read one after the other make.
use Rattle.std.proofs.Common.{◌≡◌, ℕ, ◌<◌, false, List, [], ◌∷◌, ◌++◌, map, refl, sym, ap, subst, ◌∙◌}
use Rattle.std.specs.Prelude.{Some, None, Ok}
use Rattle.std.specs.List.{AllByRecursion}
use Rattle.std.proofs.lemmas.Bool.{lt-leb}
use Rattle.net_text.specs.declared.Line.{Line}
use Rattle.net_text.specs.Texts.{text_at}
use Rattle.net_types.specs.declared.config.Config.{Config}
use Rattle.net_types.specs.declared.config.AccessList.{AccessList}
use Rattle.ios_lines.specs.declared.effect.Action.{Action}
use Rattle.ios_lines.specs.declared.effect.Effect.{Effect}
use Rattle.ios_lines.specs.declared.effect.Effect.TheVariants as effect
use Rattle.ios_lines.specs.declared.effect.Section.{Section}
use Rattle.ios_lines.specs.declared.effect.WrittenList.{WrittenList}
use Rattle.ios_lines.proofs.Steps.{first_more}
use Rattle.ios_commands.specs.Banners.{is_banner}
use Rattle.ios_config.specs.Effects.{Seen, is_comment, command_action, global_command, words_effect, effect_of}
use Rattle.ios_config.specs.Rules.{interface_of}
use Rattle.ios_config.specs.Reads.{line_effect, effects_after, refusal_in, early}
use Rattle.ios_config.specs.Draft.{Parts, parts_of, parts_after}
use Rattle.ios_config.proofs.More.{parts_more}
use Rattle.ios_print.specs.Print.{Row}

-- a list as it is written: its entries by their sequences
abbrev pub written_of : AccessList → WrittenList
written_of l = record { name = l.name; extended = l.extended; book = map (λ e. (e.sequence, e)) l.entries }

-- the parts say this configuration so far, and are in this section
pub record Shows (c : Config) (s : Section) (p : Parts) : Type 0 where
  pub host : p.hostname ≡ Some c.hostname
  pub names : p.names ≡ map (λ i. i.name) c.interfaces
  pub interfaces : map interface_of p.interfaces ≡ c.interfaces
  pub routes : map (λ r. r.route) p.routes ≡ c.routes
  pub nat : p.nat ≡ c.nat
  pub list_names : p.list_names ≡ map (λ l. l.name) c.lists
  pub lists : p.lists ≡ map written_of c.lists
  pub section : p.section ≡ s
  pub covered : p.covered ≡ 0
  pub passed : p.passed ≡ 0

abbrev pub seen_by : Parts → Seen
seen_by p = record { section = p.section; covered = p.covered; nat = p.nat; list_names = p.list_names; lists = p.lists }

-- one line takes a configuration so far to another
pub record One (r : Row) (c : Config) (s : Section) (d : Config) (t : Section) : Type 0 where
  pub plain : is_comment r.1 ≡ false
  pub command : is_banner r.0 r.1 ≡ false
  pub acts : (p : Parts) (k : ℕ) → Shows c s p → (a : Action) × (command_action (seen_by p) k r.0 r.1 ≡ Ok a) × Shows d t (parts_after p (effect.Act a))

abbrev pub Goes : List Row → Config → Section → Config → Section → Type 0
Goes [] c s d t = (c ≡ d) × (s ≡ t)
Goes (r ∷ rs) c s d t = (m : Config) × (n : Section) × One r c s m n × Goes rs m n d t

pub goes_on : (rs qs : List Row) (c : Config) (s : Section) (d : Config) (t : Section) (e : Config) (u : Section) → Goes rs c s d t → Goes qs d t e u → Goes (rs ++ qs) c s e u
goes_on [] qs c s d t e u g h = subst (λ x. Goes qs x s e u) (sym g.0) (subst (λ x. Goes qs d x e u) (sym g.1) h)
goes_on (r ∷ rs) qs c s d t e u (m, n, o, g) h = (m, n, o, goes_on rs qs m n d t e u g h)

pub record At (c : Config) (s : Section) (es : List Effect) : Type 0 where
  pub early : early es ≡ None
  pub shows : Shows c s (parts_of es)

acted : (bytes : List ℕ) (es : List Effect) (l : Line) (r : Row) (a : Action) → 0 < l.number → text_at bytes l ≡ r → (parts_of es).covered ≡ 0 → is_comment r.1 ≡ false → is_banner r.0 r.1 ≡ false
    → command_action (seen_by (parts_of es)) l.number r.0 r.1 ≡ Ok a → line_effect bytes es l ≡ effect.Act a
unfolding effect_of words_effect command_action global_command
acted bytes es l r a n e k p b h =
    let i : l.indent ≡ r.0 = ap (λ t. t.0) e in
    let w = ap (λ t. t.1) e in
    rw (k, lt-leb l.number 0 n, w, p, i, b, h) refl

one_step : (bytes : List ℕ) (es : List Effect) (l : Line) (r : Row) (c : Config) (s : Section) (d : Config) (t : Section) → 0 < l.number → text_at bytes l ≡ r → One r c s d t → At c s es
    → At d t (es ++ line_effect bytes es l ∷ [])
one_step bytes es l r c s d t n e o here =
    let x = o.acts (parts_of es) l.number here.shows in
    let is = acted bytes es l r x.0 n e here.shows.covered o.plain o.command x.1 in
    record {
      early = first_more refusal_in es (line_effect bytes es l) ∙ rw (here.early, is) refl;
      shows = subst (λ q. Shows d t q) (sym (parts_more es (line_effect bytes es l) ∙ ap (parts_after (parts_of es)) is)) x.2;
    }

abbrev pub Numbered : List Line → Type 0
Numbered ls = AllByRecursion (λ l. 0 < l.number) ls

pub all_steps : (bytes : List ℕ) (ls : List Line) (es : List Effect) (rs : List Row) (c : Config) (s : Section) (d : Config) (t : Section) → Numbered ls → map (text_at bytes) ls ≡ rs → Goes rs c s d t → At c s es
    → At d t (effects_after bytes es ls)
all_steps bytes [] es [] c s d t n e g here = subst (λ x. At x t es) g.0 (subst (λ x. At c x es) g.1 here)
all_steps bytes [] es (r ∷ rs) c s d t n e g here = absurd (cc)
all_steps bytes (l ∷ ls) es [] c s d t n e g here = absurd (cc)
all_steps bytes (l ∷ ls) es (r ∷ rs) c s d t n e (m, u, o, g) here =
    let a : text_at bytes l ≡ r = cc in
    let b : map (text_at bytes) ls ≡ rs = cc in
    all_steps bytes ls (es ++ line_effect bytes es l ∷ []) rs m u d t n.1 b g (one_step bytes es l r c s m u n.0 a o here)
