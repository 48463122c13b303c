-- The machine value of a `Chain`, one behind a `&mut` opened and shut, and two chains as one. Assumes `Logic`.
use Rattle.std.proofs.Common.{◌≡◌, ℕ, List, [], ◌∷◌, ◌++◌, refl, subst}
use seplogic.Ra.Ura.{Ura}
use mir.Val.{Val, vstruct, vcons, vnil, of_list}
use base.Logic.{SProp, ent, sep, wand, all, emp}
use base.Fml.{Lft, Share, Fml, fsep, fobs, fbor, flft}
use types.Logic.{Logic, sem}
use types.SemTy.{Body}
use types.Kit.{split, ◌⊛◌, Item, Goal, Seq, feq_l, fpick, ‵, ◌$◌, ◌∵◌, !, qed, move, drop, fsplit, fjoin, frame, each, assume, updating, now, use1, use2, done}
use denote.RattleType.{RattleType}
use denote.Ref.{NamedLft}
use denote.Memory.{mem}
use denote.Shadow.{makes_shadow}
use denote.Steps.{nothing, opens, closes}
use denote.Struct.Struct.{Struct}
use denote.Struct.Owning.{shape}
use denote.RawPtr.{Ptr, ptr_val}
use Rattle.std_alloc.proofs.RcSteps.{word}
use Rattle.std.specs.declared.alloc.Global.{Global}
use Rattle.chunk_rope.specs.contracts.chain.Mark as mark
use Rattle.chunk_rope.specs.Owned.{Place, chain_owns, chain_lent, IsFirst, IsLast}
use Rattle.chunk_rope.specs.contracts.chain.Trail as trail
use Rattle.chunk_rope.specs.contracts.chain.Chain as chain

abbrev pub token : Val
token = vstruct (vcons (vstruct vnil) vnil)

module _ {M : Type 1} {𝓤 : Ura M} (𝓛 : Logic 𝓤) (R : RattleType) where
  abbrev pub Chain : RattleType
  Chain = chain.the_row R

  abbrev pub Data : Fml
  Data = (Struct (shape (chain.the_type R))).own_val (tt, tt) (token ∷ [])

  pub data_made : ent 𝓤 (emp 𝓤) (sem 𝓛 Data)
  data_made = makes_shadow 𝓛 Data (λ vss. (tt, ((λ uss. (tt, tt)), tt))) ((vstruct vnil ∷ [], tt), (refl, ((tt, (refl, tt)), tt)))

  -- two chains are one
  pub joined : (xs ys : List (Place × R.Denot)) → ent 𝓤 (sep 𝓤 (sem 𝓛 (chain_owns R xs)) (sem 𝓛 (chain_owns R ys))) (sem 𝓛 (chain_owns R (xs ++ ys)))
  joined [] ys = qed 𝓛 (‵ (chain_owns R []) ∷ ‵ (chain_owns R ys) ∷ []) ∵ drop ! $ done !
  joined (x ∷ xs) ys = qed 𝓛 (‵ (chain_owns R (x ∷ xs)) ∷ ‵ (chain_owns R ys) ∷ []) ∵ fsplit ! $ move ! (1 ∷ 2 ∷ []) $ use2 𝓛 (‵ (chain_owns R (xs ++ ys))) (joined xs ys) $ move ! (1 ∷ 0 ∷ []) $ fjoin ! $ done !

  -- one chain is two
  pub parted : (xs ys : List (Place × R.Denot)) → ent 𝓤 (sem 𝓛 (chain_owns R (xs ++ ys))) (sep 𝓤 (sem 𝓛 (chain_owns R xs)) (sem 𝓛 (chain_owns R ys)))
  parted [] ys = qed 𝓛 (‵ (chain_owns R ys) ∷ []) ∵ nothing ! $ frame ! $ done !
  parted (x ∷ xs) ys = qed 𝓛 (‵ (chain_owns R (x ∷ (xs ++ ys))) ∷ []) ∵ fsplit ! $ move ! (1 ∷ []) $ use1 𝓛 (‵ (chain_owns R xs) ⊛ ‵ (chain_owns R ys)) (parted xs ys) $ split ! $ move ! (2 ∷ 0 ∷ []) $ fjoin ! $ done !

  module _ (κ : Lft) (q : Share) (b o ν : ℕ) where
    abbrev pub lent : Chain.Denot → Fml
    lent n = fsep (fobs ν (Chain.coded.code n)) (fbor κ (Body (mem Chain) b o ν))

    abbrev pub Shuts : Chain.Denot → SProp 𝓤
    Shuts n = wand 𝓤 (sem 𝓛 (chain_owns R n.blocks)) (𝓛.H.⇛ (sep 𝓤 (sem 𝓛 (lent n)) (𝓛.A.lft κ q)))

    pub chain_opens : (n : Chain.Denot) → ent 𝓤 (sep 𝓤 (sem 𝓛 (lent n)) (𝓛.A.lft κ q)) (𝓛.H.⇛ (sep 𝓤 (sem 𝓛 (chain_owns R n.blocks)) (all 𝓤 Shuts)))
    chain_opens n = qed 𝓛 (‵ (lent n) ∷ ‵ (flft κ q) ∷ []) ∵ updating ! $ fsplit ! $ opens ! tt Chain b o (λ vs. move ! (1 ∷ []) $ fsplit ! $ now ! $ move ! (1 ∷ []) $ frame ! $
        each ! Shuts (λ m. assume ! (‵ (chain_owns R m.blocks)) $ updating ! $ move ! (1 ∷ 0 ∷ []) $ fjoin ! $ move ! (1 ∷ 0 ∷ []) $ closes ! tt Chain m vs b o $ fjoin ! $ now ! $ done !))

module _ {M : Type 1} {𝓤 : Ura M} (𝓛 : Logic 𝓤) (a : NamedLft) (R : RattleType) where
  abbrev pub Trail : RattleType
  Trail = trail.the_row a R

  abbrev pub TrailData : Fml
  TrailData = (Struct (shape (trail.the_type a R))).own_val (tt, tt) (token ∷ [])

  pub trail_made : ent 𝓤 (emp 𝓤) (sem 𝓛 TrailData)
  trail_made = makes_shadow 𝓛 TrailData (λ vss. (tt, ((λ uss. (tt, tt)), tt))) ((vstruct vnil ∷ [], tt), (refl, ((tt, (refl, tt)), tt)))

  module _ (κ : Lft) (q : Share) (b o ν : ℕ) where
    abbrev pub trail_held : Trail.Denot → Fml
    trail_held n = fsep (fobs ν (Trail.coded.code n)) (fbor κ (Body (mem Trail) b o ν))

    abbrev pub TrailShuts : Trail.Denot → SProp 𝓤
    TrailShuts n = wand 𝓤 (sem 𝓛 (chain_lent R n.blocks a.lft)) (𝓛.H.⇛ (sep 𝓤 (sem 𝓛 (trail_held n)) (𝓛.A.lft κ q)))

    pub trail_opens : (n : Trail.Denot) → ent 𝓤 (sep 𝓤 (sem 𝓛 (trail_held n)) (𝓛.A.lft κ q)) (𝓛.H.⇛ (sep 𝓤 (sem 𝓛 (chain_lent R n.blocks a.lft)) (all 𝓤 TrailShuts)))
    trail_opens n = qed 𝓛 (‵ (trail_held n) ∷ ‵ (flft κ q) ∷ []) ∵ updating ! $ fsplit ! $ opens ! tt Trail b o (λ vs. move ! (1 ∷ []) $ fsplit ! $ now ! $ move ! (1 ∷ []) $ frame ! $
        each ! TrailShuts (λ m. assume ! (‵ (chain_lent R m.blocks a.lft)) $ updating ! $ move ! (1 ∷ 0 ∷ []) $ fjoin ! $ move ! (1 ∷ 0 ∷ []) $ closes ! tt Trail m vs b o $ fjoin ! $ now ! $ done !))

module _ {M : Type 1} {𝓤 : Ura M} (𝓛 : Logic 𝓤) where
  pub mark_made : (p : Ptr) → ent 𝓤 (emp 𝓤) (sem 𝓛 ((mark.the_row).own_val (record { ptr = p }) (word p ∷ [])))
  mark_made p = makes_shadow 𝓛 ((mark.the_row).own_val (record { ptr = p }) (word p ∷ [])) (λ vss. (tt, (tt, tt))) ((ptr_val p ∷ [], tt), (refl, (refl, tt)))

-- what the last block holds
pub last_is : {X : Type 0} (bs : List (Place × X)) (p : Ptr) → IsLast bs p → (before : List (Place × X)) × (h : Global) × (x : X) × (bs ≡ before ++ ((p, h), x) ∷ [])
last_is [] p e = absurd e
last_is (b ∷ []) p e = ([], b.0.1, b.1, λ i. ((e i, b.0.1), b.1) ∷ [])
last_is (b ∷ c ∷ bs) p e = let k = last_is (c ∷ bs) p e in (b ∷ k.0, k.1, k.2, λ i. b ∷ k.3 i)

abbrev pub rest_of : {X : Type 0} → List (Place × X) → List (Place × X)
rest_of [] = []
rest_of (b ∷ bs) = bs

pub head_is : {X : Type 0} (bs : List (Place × X)) (p : Ptr) → IsFirst bs p → (h : Global) × (x : X) × (bs ≡ ((p, h), x) ∷ rest_of bs)
head_is [] p e = absurd e
head_is (b ∷ bs) p e = (b.0.1, b.1, λ i. ((e i, b.0.1), b.1) ∷ bs)

abbrev pub Mark : RattleType
Mark = mark.the_row

module _ {M : Type 1} {𝓤 : Ura M} {𝓛 : Logic 𝓤} {K : Type 0} {Γ : List (Item 𝓤)} {G : Goal 𝓤 𝓛.H} where
  pub word_had : K → (s : Mark.Denot) (vs : List Val) → (vs ≡ word s.ptr ∷ [] → Seq K 𝓛 Γ G) → Seq K 𝓛 (‵ (Mark.own_val s vs) ∷ Γ) G
  word_had t s vs k = fpick t (λ vss. fsplit t $ feq_l t (λ ev. fsplit t $ feq_l t (λ e. drop t $ k (subst (λ (ws : List Val). vs ≡ vstruct (of_list (ws ++ [])) ∷ []) e ev))))
