-- Chains of chunks: their ends, their links and their items.
use Rattle.std.proofs.lemmas.Option.{none-some}
use Rattle.std.proofs.Common.{Bor, MatchOption, Bool, true, false, IsTrue, ◌≡◌, ◌<◌, List, [], ◌∷◌, ◌++◌, length, take, get_or, None, Some, refl, sym, ap, ◌∙◌, subst, arith, length-append, append_assoc}
use Rattle.std.proofs.Math.Seq.{take-append_seam, get_or-append_seam}
use denote.RawPtr.{Ptr}
use mathlib.Core.Bool.{not}
use Rattle.std.specs.Option.{option_or, is_some}
use Rattle.std.specs.declared.option.Option.{Option}
use Rattle.std.specs.declared.boxed.Box.{Box}
use Rattle.std.specs.declared.alloc.Global.{Global}
use Rattle.std.specs.VecDeque.{deque_len}
use Rattle.chunk_rope.specs.Owned.{Place, IsLast, Ends}
use Rattle.chunk_rope.specs.Linked.{mark_of, items_of, held_by, Leads, Linked, last_mark}
use Rattle.chunk_rope.specs.declared.chain.Mark.{Mark}
use Rattle.chunk_rope.specs.declared.chunks.Chunk.{Chunk}

snoc_same : {X : Type 0} (xs ys : List X) (x y : X) → xs ++ x ∷ [] ≡ ys ++ y ∷ [] → xs ≡ ys
snoc_same xs ys x y e =
    let n : length xs ≡ length ys = omega (arith, length-append xs (x ∷ []), length-append ys (y ∷ []), ap length e) in
    sym (take-append_seam xs (x ∷ [])) ∙ (λ i. take (n i) (e i)) ∙ take-append_seam ys (y ∷ [])

snoc_last : {X : Type 0} (xs ys : List X) (x y : X) → xs ++ x ∷ [] ≡ ys ++ y ∷ [] → x ≡ y
snoc_last xs ys x y e =
    let n : length xs ≡ length ys = ap length (snoc_same xs ys x y e) in
    sym (get_or-append_seam xs x [] x) ∙ (λ i. get_or (e i) (n i) x) ∙ get_or-append_seam ys y [] x

-- a last block that is there
pub at_end : {X : Type 0} (before : List (Place × X)) (p : Place) (x : X) → IsLast (before ++ (p, x) ∷ []) p.0
at_end [] p x = refl
at_end (b ∷ []) p x = refl
at_end (b ∷ c ∷ bs) p x = at_end (c ∷ bs) p x

abbrev Block : Type 0 → Type 0
Block T = Place × Chunk T

module _ {T : Type 0} where
  pub nothing_last : (bs : List (Block T)) → None ≡ last_mark bs → bs ≡ []
  nothing_last [] e = refl
  nothing_last (b ∷ []) e = grind arith
  nothing_last (b ∷ c ∷ bs) e = let k : c ∷ bs ≡ [] = nothing_last (c ∷ bs) e in grind arith

  pub last_lies : (bs : List (Block T)) (m : Mark) → Some m ≡ last_mark bs → IsLast bs m.ptr
  last_lies [] m e = grind arith
  last_lies (b ∷ []) m e = grind arith
  last_lies (b ∷ c ∷ bs) m e = last_lies (c ∷ bs) m e

  pub nowhere : (bs : List (Block T)) → Leads None bs None → bs ≡ []
  nowhere [] l = refl
  nowhere (b ∷ bs) l = grind arith

  pub items_join : (xs ys : List (Block T)) → items_of (xs ++ ys) ≡ items_of xs ++ items_of ys
  items_join [] ys = refl
  items_join (b ∷ bs) ys = ap (λ t. b.1.items.items ++ t) (items_join bs ys) ∙ sym (append_assoc b.1.items.items (items_of bs) (items_of ys))

  pub leads_join : (link : Option Mark) (xs ys : List (Block T)) (mid end : Option Mark) → Leads link xs mid → Leads mid ys end → Leads link (xs ++ ys) end
  leads_join link [] ys mid end l k = subst (λ o. Leads o ys end) (sym l) k
  leads_join link (b ∷ bs) ys mid end l k = (l.0, l.1, leads_join b.1.next bs ys mid end l.2 k)

  last_some : (c : Block T) (cs : List (Block T)) (m : Mark) → option_or (last_mark (c ∷ cs)) (Some m) ≡ last_mark (c ∷ cs)
  last_some c [] m = refl
  last_some c (d ∷ ds) m = last_some d ds m

  pub last_join : (xs : List (Block T)) (b : Block T) (ys : List (Block T)) → option_or (last_mark ys) (Some (mark_of b.0)) ≡ last_mark (xs ++ b ∷ ys)
  last_join [] b [] = refl
  last_join [] b (c ∷ cs) = last_some c cs (mark_of b.0)
  last_join (a ∷ []) b ys = last_join [] b ys
  last_join (a ∷ c ∷ cs) b ys = last_join (c ∷ cs) b ys

  -- the last chunk gets another link, and keeps its items
  pub leads_set : (link : Option Mark) (before : List (Block T)) (p : Place) (x y : Chunk T) (end : Option Mark) → y.items ≡ x.items → y.next ≡ end → Leads link (before ++ (p, x) ∷ []) None → Leads link (before ++ (p, y) ∷ []) end
  leads_set link [] p x y end same to l = (l.0, subst (λ d. 0 < deque_len d) (sym same) l.1, to)
  leads_set link (b ∷ bs) p x y end same to l = (l.0, l.1, leads_set b.1.next bs p x y end same to l.2)

  pub items_set : (before : List (Block T)) (p : Place) (x y : Chunk T) → y.items ≡ x.items → items_of (before ++ (p, y) ∷ []) ≡ items_of (before ++ (p, x) ∷ [])
  items_set [] p x y same = ap (λ d. d.items ++ []) same
  items_set (b ∷ bs) p x y same = ap (λ t. b.1.items.items ++ t) (items_set bs p x y same)

  -- two changes of the last block are one
  pub ends_twice : (old mid new : List (Block T)) (p : Ptr) (w x y z : Chunk T) → Ends (Chunk T) old mid p w x → Ends (Chunk T) mid new p y z → Ends (Chunk T) old new p w z
  ends_twice old mid new p w x y z e f =
      let both = sym f.2 ∙ e.3 in let same : f.1 ≡ e.1 = snoc_same f.1 e.1 ((p, f.0), y) ((p, e.0), x) both in let heap : f.0 ≡ e.0 = ap (λ (b : Block T). b.0.1) (snoc_last f.1 e.1 ((p, f.0), y) ((p, e.0), x) both) in
      (e.0, e.1, e.2, f.3 ∙ (λ i. same i ++ ((p, heap i), z) ∷ []))

  pub leads_changed : (link : Option Mark) (old new : List (Block T)) (p : Ptr) (x y : Chunk T) (end : Option Mark) → Ends (Chunk T) old new p x y → y.items ≡ x.items → y.next ≡ end → Leads link old None → Leads link new end
  leads_changed link old new p x y end e same to l =
      subst (λ bs. Leads link bs end) (sym e.3) (leads_set link e.1 (p, e.0) x y end same to (subst (λ bs. Leads link bs None) e.2 l))

  pub items_changed : (old new : List (Block T)) (p : Ptr) (x y : Chunk T) → Ends (Chunk T) old new p x y → y.items ≡ x.items → items_of new ≡ items_of old
  items_changed old new p x y e same = ap items_of e.3 ∙ items_set e.1 (p, e.0) x y same ∙ sym (ap items_of e.2)

  -- a block and those behind it come behind the last block, which leads to it
  pub leads_behind : (link : Option Mark) (xs ys new : List (Block T)) (m : Mark) (p : Place) (chunk : Chunk T) → Leads link xs (Some m) → m.ptr ≡ p.0 → 0 < deque_len chunk.items → Leads chunk.next ys None → new ≡ (xs ++ (p, chunk) ∷ []) ++ ys → Leads link new None
  leads_behind link xs ys new m p chunk l at some k e =
      subst (λ bs. Leads link bs None) (sym (e ∙ append_assoc xs ((p, chunk) ∷ []) ys)) (leads_join link xs ((p, chunk) ∷ ys) (Some m) None l ((λ i. Some (record { ptr = at i })), some, k))

  pub last_behind : (xs ys new : List (Block T)) (m : Mark) (p : Place) (chunk : Chunk T) (last : Option Mark) → m.ptr ≡ p.0 → last ≡ last_mark ys → new ≡ (xs ++ (p, chunk) ∷ []) ++ ys → option_or last (Some m) ≡ last_mark new
  last_behind xs ys new m p chunk last at same e =
      (λ i. option_or (same i) (Some (record { ptr = at i }))) ∙ last_join xs (p, chunk) ys ∙ sym (ap last_mark (e ∙ append_assoc xs ((p, chunk) ∷ []) ys))

  pub items_behind : (first : Option (Box (Chunk T) Global)) (own : Box (Chunk T) Global) (own' chunk : Chunk T) (old xs ys new : List (Block T)) (p : Place) (self other : List T)
      → first ≡ Some own → held_by first ++ items_of old ≡ self → own'.items ≡ own.value.items → items_of xs ≡ items_of old → new ≡ (xs ++ (p, chunk) ∷ []) ++ ys → other ≡ chunk.items.items ++ items_of ys → own'.items.items ++ items_of new ≡ self ++ other
  items_behind first own own' chunk old xs ys new p self other is view same kept e theirs =
      let ours : own.value.items.items ++ items_of old ≡ self = subst (λ o. held_by o ++ items_of old ≡ self) is view in
      let behind : items_of new ≡ items_of old ++ other = ap items_of (e ∙ append_assoc xs ((p, chunk) ∷ []) ys) ∙ items_join xs ((p, chunk) ∷ ys) ∙ (λ i. kept i ++ sym theirs i) in
      (λ i. (same i).items ++ behind i) ∙ sym (append_assoc own.value.items.items (items_of old) other) ∙ ap (λ t. t ++ other) ours

  pub linked_behind : (first theirs : Option (Box (Chunk T) Global)) (own chunk : Box (Chunk T) Global) (own' block : Chunk T) (old xs ys new : List (Block T)) (last last' : Option Mark) (m : Mark) (p : Place)
      → first ≡ Some own → Linked first old last → theirs ≡ Some chunk → Linked theirs ys last' → own'.items ≡ own.value.items → Leads own'.next xs (Some m) → m.ptr ≡ p.0 → block ≡ chunk.value → new ≡ (xs ++ (p, block) ∷ []) ++ ys
      → (0 < deque_len own'.items) × Leads own'.next new None × (option_or last' (Some m) ≡ last_mark new)
  linked_behind first theirs own chunk own' block old xs ys new last last' m p is ours is' other same leads at kept e =
      let o : Linked (Some own) old last = subst (λ f. Linked f old last) is ours in let t : Linked (Some chunk) ys last' = subst (λ f. Linked f ys last') is' other in (
        subst (λ d. 0 < deque_len d) (sym same) o.0,
        leads_behind own'.next xs ys new m p block leads at (subst (λ (k : Chunk T). 0 < deque_len k.items) (sym kept) t.0) (subst (λ (k : Chunk T). Leads k.next ys None) (sym kept) t.1) e,
        last_behind xs ys new m p block last' at t.2 e,
      )

  pub no_first : (first : Option (Box (Chunk T) Global)) (bs : List (Block T)) (last : Option Mark) → Linked first bs last → held_by first ++ items_of bs ≡ [] → first ≡ None
  no_first None bs last l e = refl
  no_first (Some b) bs last l e = let ok = b.value.items.ok in absurd (omega (arith, ap length e, length-append b.value.items.items (items_of bs), ok.0, l.0))

  pub is_empty_says : (first : Option (Box (Chunk T) Global)) (bs : List (Block T)) (last : Option Mark) (r : Bool) (now : List T) → Linked first bs last → is_some first ≡ not r → held_by first ++ items_of bs ≡ now → (IsTrue r → now ≡ []) × (now ≡ [] → IsTrue r)
  is_empty_says None bs last true now l e v = (λ t. sym v ∙ ap items_of l.0, λ n. refl)
  is_empty_says None bs last false now l e v = absurd (grind arith)
  is_empty_says (Some b) bs last true now l e v = absurd (grind arith)
  is_empty_says (Some b) bs last false now l e v = (λ t. absurd (grind arith), λ n. absurd (none-some b (sym (no_first (Some b) bs last l (v ∙ n)))))

pub empty_left : {X : Type 0} (xs ys : List X) → xs ++ ys ≡ [] → xs ≡ []
empty_left [] ys e = refl
empty_left (x ∷ xs) ys e = absurd (omega (arith, ap length e))

-- a cursor's step past the chunks, where only the tail is left
pub steps_last : {T : Type 0} (now held held' bare bare' : List T) (bs : List (Block T)) (r : Option (Bor T)) → held ++ (items_of bs ++ bare) ≡ now → bs ≡ [] → held ≡ [] → held' ≡ []
    → MatchOption r ((bare ≡ []) × (bare' ≡ [])) (λ x. bare ≡ x.now ∷ bare') → MatchOption r ((now ≡ []) × (held' ++ (items_of bs ++ bare') ≡ [])) (λ x. now ≡ x.now ∷ (held' ++ (items_of bs ++ bare')))
steps_last now held held' bare bare' bs r view none e e' step =
    let here : bare ≡ now = (λ i. sym e i ++ (items_of (sym none i) ++ bare)) ∙ view in let after : bare' ≡ held' ++ (items_of bs ++ bare') = λ i. sym e' i ++ (items_of (sym none i) ++ bare') in
    subst (λ (p : List _ × List _). MatchOption r ((p.0 ≡ []) × (p.1 ≡ [])) (λ x. p.0 ≡ x.now ∷ p.1)) (λ i. (here i, after i)) step
