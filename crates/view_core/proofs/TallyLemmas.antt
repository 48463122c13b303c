-- Counts by the texts of outcomes, one mention after the other.
use Rattle.std.proofs.Common.{◌≡◌, ◌<◌, ◌+◌, ℕ, Bool, true, false, cond, List, [], ◌∷◌, ◌++◌, length, take, get_or, map, refl, sym, ap, subst, ◌∙◌, Vec, Global, Option, Some, None}
use Rattle.std.specs.Prelude.{fold, unwrap_or}
use Rattle.std.specs.Map.{lookup}
use Rattle.std.specs.Str.{bytes_eq}
use Rattle.std.proofs.lemmas.List.{map-append, take_more}
use Rattle.std.proofs.lemmas.List.Sums.{fold-append}
use Rattle.std.proofs.lemmas.Slice.Eq.{bytes_eq-Decides}
use Rattle.text_tallies.proofs.Lookups.{kept_put}
use Rattle.indexmap.specs.IndexMap.{insert_entry}
use Rattle.view_core.specs.declared.tallies.Count.{Count}
use Rattle.view_core.specs.declared.tallies.Counts.{Counts}
use Rattle.view_core.specs.declared.tallies.Mention.{Mention}
use Rattle.view_core.specs.declared.tallies.Tally.{Tally}
use Rattle.view_core.specs.declared.tallies.Version.{Version}
use Rattle.topo_links.specs.Names.{sorted_names}
use Rattle.view_core.specs.Counts.{AreCounts, kept_count, tally_with}
use Rattle.view_core.specs.Tallies.{count_of, counted_more, mention_in, no_count, raised, tally}

abbrev Entries : Type 0
Entries = List (Vec ℕ Global × Count)

abbrev found_in : Entries → List ℕ → Count
found_in es text = unwrap_or (lookup (λ k. bytes_eq text k.items) es) no_count

-- one more of the list
pub taken_mentions : (ms : List Mention) (i : ℕ) (m : Mention) → i < length ms → m ≡ get_or ms i m → map mention_in (take (i + 1) ms) ≡ map mention_in (take i ms) ++ mention_in m ∷ []
taken_mentions ms i m h e = ap (map mention_in) (take_more ms i m h ∙ ap (λ z. take i ms ++ z ∷ []) (sym e)) ∙ map-append mention_in (take i ms) (m ∷ [])

-- one more mention: its text's count is raised, and each other one stays
by_text : (old : Entries) (key : Vec ℕ Global) (rows : ℕ) (v : Count) (text : List ℕ) → v ≡ raised (found_in old key.items) rows → (b : Bool) → bytes_eq text key.items ≡ b
    → unwrap_or (cond b (Some v) (lookup (λ k. bytes_eq text k.items) old)) no_count ≡ cond b (raised (found_in old text) rows) (found_in old text)
by_text old key rows v text e true h = e ∙ ap (λ t. raised (found_in old t) rows) (sym ((bytes_eq-Decides text key.items).0 h))
by_text old key rows v text e false h = refl

pub counted_one : (ms : List (List ℕ × ℕ)) (old new : Counts) (key : Vec ℕ Global) (m : List ℕ × ℕ) (v : Count) → key.items ≡ m.0 → v ≡ raised (kept_count old m.0) m.1
    → new.counts.entries ≡ insert_entry (λ a b. bytes_eq a.items b.items) old.counts.entries key v → AreCounts ms old → AreCounts (ms ++ m ∷ []) new
counted_one ms old new key m v named e put are text =
    let es = old.counts.entries in
    let raise : v ≡ raised (found_in es key.items) m.1 = e ∙ ap (λ t. raised (found_in es t) m.1) (sym named) in
    ap (λ xs. found_in xs text) put
    ∙ (ap (λ o. unwrap_or o no_count) (kept_put text key v es)
    ∙ (by_text es key m.1 v text raise (bytes_eq text key.items) refl
    ∙ ((λ i. cond (bytes_eq text (named i)) (raised (are text i) m.1) (are text i))
    ∙ sym (fold-append (counted_more text) no_count ms (m ∷ [])))))

-- ---- the tally

mentioned_texts : (ms : List Mention) → map (λ m. m.text) ms ≡ map (λ m. m.0) (map mention_in ms)
mentioned_texts [] = refl
mentioned_texts (m ∷ ms) = ap (λ l. m.text ∷ l) (mentioned_texts ms)

pub tallied : (v : Version) (found : List Tally) (counts : Counts) (one other : List Mention) (ms : List (List ℕ × ℕ)) (texts given : List (List ℕ)) (after : List Tally)
    → AreCounts (map mention_in one) counts → map mention_in one ≡ ms → map mention_in other ≡ ms → texts ≡ sorted_names (map (λ m. m.text) other) → given ≡ texts
    → after ≡ found ++ map (tally_with v counts) given → after ≡ found ++ tally v ms
tallied v found counts one other ms texts given after are same also named is added =
    let all : given ≡ sorted_names (map (λ m. m.0) ms) = is ∙ (named ∙ ap sorted_names (mentioned_texts other ∙ ap (map (λ m. m.0)) also)) in
    let exact : AreCounts ms counts = subst (λ (l : List (List ℕ × ℕ)). AreCounts l counts) same are in
    added ∙ (λ i. found ++ map (λ text. record { version = v; text = text; count = exact text i }) (all i))
