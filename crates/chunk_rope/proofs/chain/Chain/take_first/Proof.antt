-- The first block goes out of the chain.
use Rattle.std.proofs.Common.{ℕ, List, [], ◌∷◌, ◌++◌, refl, sym, subst, ap}
use mir.Syntax.{a_type}
use mir.Val.{Val, vptr, vstruct, vcons, vnil}
use mir.MapTy.{inst_fn}
use mir.Raw.{raw as bare}
use base.Logic.{never, fst∗, SProp, ent, emp, id⊢, apply∗, all, all_e}
use base.Fml.{Lft, Share, Fml, ftrue, fsep, flft}
use prog.Wp.{WpFn}
use types.Logic.{sem}
use types.Kit.{‵, raw, ◌⊛◌, later, ◌$◌, ◌∵◌, !, qed, by, move, keep, split, join, fsplit, fsplit3, fjoin, suffices, use0, use1, use2, await, rewrite, feq_i}
use types.Run.{no_more, and_then, stop, fld, of_opd, returns, enter}
use types.ByLocal.{is, get, get_in, alloc_all, pass_all, free_all, look_at, sets}
use types.Part.{agg, sub, whole}
use contract.Monad.{fact, fact_i}
use contract.BorrowLft.{◌⊑◌}
use contract.Running.{tables}
use denote.Exit.{yes}
use denote.RattleType.{RattleType, owns}
use denote.Signature.{types_at, plain}
use denote.Steps.{nothing, heard}
use denote.Param.{param, layout, layouts}
use denote.Triple.Walked.{Stays, stay_dropped, walk_of, Goes-dropped, stay_ref, Goes-ref}
use denote.RawPtr.{Ptr, ptr_val, block_ptr, null_ptr, in_a_block}
use denote.Memory.{lone}
use Rattle.std.proofs.cell.Inside.{one}
use Rattle.std_alloc.proofs.RcSteps.{word, word-Good}
use Rattle.std.specs.contracts.alloc.Global as heap
use Rattle.std.proofs.alloc.Global.TheLaws as heap_laws
use Rattle.std.specs.contracts.impls.GlobalAllocator.TheImpl.{ghosts}
use Rattle.std_alloc.specs.Box.Ownership.{box_owns}
use Rattle.chunk_rope.proofs.Values.{Loose, loose_good, loose_in}
use Rattle.chunk_rope.specs.Owned.{Place, chain_owns, IsFirst, Begins}
use Rattle.std.proofs.raw_atomic.Walks.{proved_at, leaves}
use Rattle.chunk_rope.proofs.Chains as chains
use Rattle.chunk_rope.proofs.Chains.{rest_of, head_is, last_is, Chain, Trail, Mark, word_had}
use Rattle.chunk_rope.specs.contracts.chain.Chain.take_first.{ended, clauses}
use Rattle.chunk_rope.specs.contracts.chain.Chain.take_first.Key.{name as #self}
use Rattle.chunk_rope.proofs.chain.Chain.take_first.Statement.{statement}
use Rattle.chunk_rope.proofs.chain.Chain.take_first.Code as code

pub take_first_spec : {M : Type 1} → statement M
take_first_spec 𝓤 𝓛 𝓜 𝓡 wired T L =
    let H = 𝓛.H in let 𝓣 = tables 𝓤 H 𝓜 𝓡 𝓡.env in let R : RattleType = param 0 T in let Z : RattleType = heap.the_row in let LZ = heap_laws.the_row_laws in let En = ended T in let c = clauses T 𝓛 𝓜.mem 𝓡.returns in
    let inst = layouts (a_type ∷ []) (T, tt) in let fn = inst_fn inst code.function in
    let hs : Stays En.signature.params En.kept = (stay_ref (0 ∷ []) tt (plain (λ _. Chain 𝓛 R)), (stay_dropped (plain (λ _. Z)) yes, (stay_dropped (plain (λ _. Mark)) yes, tt))) in
    proved_at 𝓛 En hs c 𝓜 𝓡 (Goes-ref 𝓛 2 0 tt (plain (λ _. Chain 𝓛 R)), (Goes-dropped 𝓛 2 (plain (λ _. Z)) yes (λ κs x f. refl), (Goes-dropped 𝓛 2 (plain (λ _. Mark)) yes (λ κs x f. refl), tt))) (#self inst) fn (code.unfolded 𝓤 H 𝓜 𝓡 wired (T, tt)) (λ z are.
    let κs = z.0.0 in let qs = z.0.1 in let Post : Val → SProp 𝓤 = (walk_of 𝓛 En hs c).post z in let Run : List Val → SProp 𝓤 = λ ws. WpFn 𝓤 H 𝓣.C 𝓣.Λ fn ws Post in
    let κ' : Lft = κs.0 in let q' : Share = qs.0 in let m = z.0.3.0 in let nb₀ : ℕ = m.ref_ptr.0 in let no₀ : ℕ = m.ref_ptr.1 in let ν₀ : ℕ = m.ghost_name in let n = m.now in let a = z.0.3.1.0 in let s = z.0.3.1.1.0 in let p : Ptr = s.ptr in
    let Shuts = chains.Shuts 𝓛 R κ' q' nb₀ no₀ ν₀ in let N : Fml = chain_owns R n.blocks in let h = one (layout Z) z.0.4.1.0 ((LZ.lawful 𝓛).typed a z.0.4.1.0 are.1.0) in let Vs : List Val = vptr nb₀ no₀ ∷ h.0 ∷ word p ∷ [] in
    qed 𝓛 (((‵ (flft κ' q') ⊛ ‵ (fsep (flft κs.1.0 qs.1.0) ftrue)) ⊛ ‵ (owns (types_at En.signature.params κs) z.0.3 z.0.4)) ∷ raw (fact 𝓤 (κs.1.0 ⊑ T.lives)) ∷ raw (fact 𝓤 (IsFirst n.blocks p)) ∷ []) ∵
    move ! (2 ∷ []) $ heard ! (IsFirst n.blocks p) (λ at_head. let hd = head_is n.blocks p at_head in let x : R.Denot = hd.1 in let k : (Chain 𝓛 R).Denot = record { mark = record {}; blocks = rest_of n.blocks } in
    let Told : Type 0 = Begins R.Denot n.blocks p x k.blocks in
    split ! $ split ! $ move ! (2 ∷ []) $ fsplit3 ! $ move ! (2 ∷ []) $ fsplit ! $ word_had ! s z.0.4.1.1.0 (λ ev. move ! (1 ∷ []) $ fsplit ! $ keep ! (1 ∷ 4 ∷ 5 ∷ 3 ∷ []) $
    rewrite ! 3 (λ (ws : List Val). ‵ (Z.own_val a ws)) h.1 refl $
    suffices ! (Run Vs) (subst (λ (us : List Val). ent 𝓤 (Run Vs) (Run us)) (sym (λ i. are.0.0 i ++ (h.1 i ++ (ev i ++ [])))) (id⊢ 𝓤 (Run Vs))) $
    enter ! 𝓣.C 𝓣.Λ fn Vs Post $ alloc_all ! (λ l. pass_all ! refl ((tt, tt), (h.2, (word-Good [] p, tt))) $
    use2 𝓛 (later (‵ N ⊛ raw (all 𝓤 Shuts))) (chains.chain_opens 𝓛 R κ' q' nb₀ no₀ ν₀ n) $ await ! tt $ split ! $ rewrite ! 0 (λ (bs : List (Place × R.Denot)). ‵ (chain_owns R bs)) hd.2 refl $ fsplit ! $
    -- [the block; the others; what shuts; the other tokens; the handle]
    move ! (2 ∷ []) $ use1 𝓛 (raw (Shuts k)) (all_e 𝓤 Shuts k) $ move ! (2 ∷ 0 ∷ []) $
    use2 𝓛 (later (‵ (chains.lent 𝓛 R κ' q' nb₀ no₀ ν₀ k) ⊛ ‵ (flft κ' q'))) (apply∗ 𝓤 (sem 𝓛 (chain_owns R k.blocks)) _) $ await ! tt $ split ! $
    -- [the borrow; its token; the block; the other tokens; the handle]
    feq_i ! (List Val) z.0.4.0 (vptr nb₀ no₀ ∷ []) are.0.0 $ fjoin ! $ nothing ! $ nothing ! $ fjoin ! $ nothing ! $ fjoin ! $ move ! (1 ∷ 0 ∷ []) $ fjoin ! $ move ! (1 ∷ 3 ∷ []) $ join ! $
    -- [the tokens; the borrow; the block; the handle]
    move ! (2 ∷ []) $ in_a_block ! p (λ at. box_owns (ghosts.dealloc_token hd.0) R at x) (fst∗ 𝓤 (never 𝓤) (sem 𝓛 (ghosts.dealloc_token hd.0 (bare (lone R.mir)) null_ptr))) (λ b o e.
    use1 𝓛 (‵ (box_owns (ghosts.dealloc_token a) R (block_ptr b o) x)) (id⊢ 𝓤 _) $ move ! (0 ∷ 3 ∷ []) $ loose_in R Z LZ ghosts ! b o h.0 a x $
    let r : (Loose R Z LZ ghosts).Denot = record { at = block_ptr b o; alloc = a; value = x } in let w : Val = vstruct (vcons (vptr b o) (vcons h.0 vnil)) in let typed = loose_good R Z LZ ghosts b o h.0 h.2 in
    sets ! (is ! (of_opd ! (get_in ! (fld ! refl (stop !)) (sub ! 0 refl (whole !)))) (ap ptr_val e)) refl (tt, tt) $ sets ! (agg ! (and_then ! (get ! refl) (and_then ! (get ! refl) (no_more !)))) refl typed $
    use0 𝓛 (raw (fact 𝓤 Told)) (fact_i 𝓤 Told (emp 𝓤) (hd.0, hd.2)) $
    returns ! (look_at ! 0 refl) $ free_all ! refl $ keep ! (2 ∷ 3 ∷ 1 ∷ 0 ∷ []) $ by ! (leaves 𝓛 En hs c z w r (k, (tt, (tt, tt))) (tt, (tt, (tt, tt)))))))))
