-- The chain of one block.
use Rattle.std.proofs.Common.{◌≡◌, List, [], ◌∷◌, ◌++◌, refl, sym, subst}
use mir.Syntax.{a_type}
use mir.Val.{Val, vptr, vstruct, of_list}
use mir.MapTy.{inst_fn}
use base.Logic.{SProp, ent, emp, id⊢}
use base.Fml.{ftrue, fsep, feq, flft}
use prog.Wp.{WpFn}
use types.Kit.{‵, raw, ◌⊛◌, ◌$◌, ◌∵◌, !, qed, by, move, keep, split, fsplit, fjoin, fjoin3, fpack, suffices, use0, feq_i}
use types.Run.{no_more, and_then, stop, fld, of_opd, returns, enter}
use types.ByLocal.{get, get_in, alloc_all, pass_all, free_all, look_at, sets}
use types.Part.{agg, sub, whole}
use contract.Monad.{fact, fact_i}
use contract.Running.{tables}
use denote.Exit.{no}
use denote.RattleType.{RattleType, Valss, owns}
use denote.Signature.{types_at, plain}
use denote.Steps.{nothing}
use denote.Param.{param, layouts}
use denote.Triple.Walked.{Stays, stay_dropped, walk_of}
use denote.RawPtr.{Ptr, block_ptr}
use Rattle.std.proofs.alloc.Calls.{Goes-blank}
use Rattle.std_alloc.proofs.RcSteps.{word, word-Good}
use Rattle.std.specs.contracts.alloc.Global as heap
use Rattle.std.proofs.alloc.Global.TheLaws as heap_laws
use Rattle.std.specs.contracts.impls.GlobalAllocator.TheImpl.{ghosts}
use Rattle.chunk_rope.proofs.Values.{both, Loose, loose_good, loose_out}
use Rattle.std.proofs.raw_atomic.Walks.{proved_at, leaves}
use Rattle.chunk_rope.proofs.Chains as chains
use Rattle.chunk_rope.proofs.Chains.{rest_of, head_is, last_is, Chain, Trail, Mark, word_had}
use Rattle.chunk_rope.specs.contracts.chain.Chain.alone.{ended, clauses}
use Rattle.chunk_rope.specs.contracts.chain.Chain.alone.Key.{name as #self}
use Rattle.chunk_rope.proofs.chain.Chain.alone.Statement.{statement}
use Rattle.chunk_rope.proofs.chain.Chain.alone.Code as code

pub alone_spec : {M : Type 1} → statement M
alone_spec 𝓤 𝓛 𝓜 𝓡 wired T L =
    let H = 𝓛.H in let 𝓣 = tables 𝓤 H 𝓜 𝓡 𝓡.env in let R : RattleType = param 0 T in let Z : RattleType = heap.the_row in let LZ = heap_laws.the_row_laws in let En = ended T in let c = clauses T 𝓛 𝓜.mem 𝓡.returns in
    let inst = layouts (a_type ∷ []) (T, tt) in let fn = inst_fn inst code.function in let Lr : RattleType = Loose R Z LZ ghosts in
    let hs : Stays En.signature.params En.kept = (stay_dropped (plain (λ _. Lr)) no, tt) in
    proved_at 𝓛 En hs c 𝓜 𝓡 (Goes-blank 𝓛 1 (plain (λ _. Lr)) no (λ κs x f. tt), tt) (#self inst) fn (code.unfolded 𝓤 H 𝓜 𝓡 wired (T, tt)) (λ z are.
    let κs = z.0.0 in let qs = z.0.1 in let Post : Val → SProp 𝓤 = (walk_of 𝓛 En hs c).post z in let Run : List Val → SProp 𝓤 = λ ws. WpFn 𝓤 H 𝓣.C 𝓣.Λ fn ws Post in
    let v : Lr.Denot = z.0.3.0 in let a = v.alloc in let x : R.Denot = v.value in let toks = ‵ (flft κs.0 qs.0) ⊛ ‵ ftrue in
    qed 𝓛 ((toks ⊛ ‵ (owns (types_at En.signature.params κs) z.0.3 z.0.4)) ∷ raw ((c κs z.0.3).requires z.1) ∷ []) ∵ split ! $ move ! (1 ∷ []) $ fsplit ! $
    loose_out R Z LZ ghosts ! v z.0.4.0 (λ b o h e ws fits.
    let w : Val = both (vptr b o) h in let typed = loose_good R Z LZ ghosts b o h fits in let p : Ptr = block_ptr b o in let k : (Chain 𝓛 R).Denot = record { mark = record {}; blocks = ((p, a), x) ∷ [] } in let s : Mark.Denot = record { ptr = p } in
    let out : Val = both chains.token (word p) in let Told : Type 0 = (p ≡ v.at) × (k.blocks ≡ ((v.at, a), x) ∷ []) in
    -- [the block; the handle; nothing; the tokens; what was asked]
    keep ! (0 ∷ 3 ∷ []) $ nothing ! $ move ! (1 ∷ 0 ∷ []) $ fjoin ! $
    suffices ! (Run (w ∷ [])) (subst (λ (us : List Val). ent 𝓤 (Run (w ∷ [])) (Run us)) (sym (λ i. ws i ++ [])) (id⊢ 𝓤 (Run (w ∷ [])))) $
    enter ! 𝓣.C 𝓣.Λ fn (w ∷ []) Post $ alloc_all ! (λ l. pass_all ! refl (typed, tt) $
    sets ! (of_opd ! (get_in ! (fld ! refl (stop !)) (sub ! 0 refl (whole !)))) refl (tt, tt) $ sets ! (agg ! (no_more !)) refl (tt, tt) $ sets ! (agg ! (and_then ! (get ! refl) (no_more !))) refl (tt, (tt, tt)) $
    sets ! (of_opd ! (get ! refl)) refl (tt, tt) $ sets ! (agg ! (and_then ! (get ! refl) (no_more !))) refl (word-Good [] p) $ sets ! (agg ! (and_then ! (get ! refl) (and_then ! (get ! refl) (no_more !)))) refl (tt, ((tt, tt), ((tt, tt), tt))) $
    use0 𝓛 (‵ (chains.Data 𝓛 R)) (chains.data_made 𝓛 R) $ fjoin ! $ nothing ! $ use0 𝓛 (‵ (Mark.own_val s (word p ∷ []))) (chains.mark_made 𝓛 p) $ move ! (2 ∷ 0 ∷ 1 ∷ []) $ fjoin3 ! $
    feq_i ! (List Val) (out ∷ []) (out ∷ []) refl $ fjoin ! $ fpack ! (Valss (Chain 𝓛 R ∷ Mark ∷ [])) (λ uss. fsep (feq (List Val) (out ∷ []) (vstruct (of_list (uss.0 ++ (uss.1.0 ++ []))) ∷ [])) (owns (Chain 𝓛 R ∷ Mark ∷ []) (k, (s, tt)) uss)) (chains.token ∷ [], (word p ∷ [], tt)) $
    use0 𝓛 (raw (fact 𝓤 Told)) (fact_i 𝓤 Told (emp 𝓤) (sym e, λ i. ((sym e i, a), x) ∷ [])) $ nothing ! $ nothing ! $ fjoin ! $
    returns ! (look_at ! 0 refl) $ free_all ! refl $ keep ! (3 ∷ 0 ∷ 2 ∷ 1 ∷ []) $ by ! (leaves 𝓛 En hs c z out (k, s) (tt, tt) (tt, tt)))))
