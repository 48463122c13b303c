-- The last block gets another value.
use Rattle.std.proofs.Common.{ℕ, List, [], ◌∷◌, ◌++◌, refl, sym, subst, ap}
use mir.Syntax.{a_type}
use mir.Val.{Val, vptr}
use mir.MapTy.{inst_fn}
use mir.Raw.{raw as bare}
use base.Logic.{never, fst∗, SProp, ent, emp, id⊢, apply∗, all, all_e}
use base.Fml.{Lft, Share, Fml, ftrue, fsep, flft, fat}
use base.Fraction.{full_share}
use prog.Wp.{WpFn}
use types.Logic.{sem}
use types.Kit.{at_ret, ‵, raw, ◌⊛◌, some, given, later, ◌$◌, ◌∵◌, !, qed, by, move, keep, split, join, fsplit, fsplit3, fjoin, pick, learn, suffices, use0, use1, use2, await, rewrite, feq_i}
use types.Run.{first, blocks, exec, stop, fld, of_opd, load, look, store, assigns, returns, enter}
use types.ByLocal.{env, is, through, sets_last, get, get_in, alloc_all, pass_all, free_all, look_at, sets}
use types.Part.{sub, whole}
use contract.Monad.{fact, fact_i}
use contract.BorrowLft.{◌⊑◌}
use contract.Running.{tables}
use denote.Exit.{yes, no}
use denote.RattleType.{RattleType, owns}
use denote.Signature.{types_at, plain}
use denote.Steps.{nothing, heard}
use denote.Param.{param, layout, layouts}
use denote.Param.Laws.{param_laws}
use denote.Triple.Walked.{Stays, stay_dropped, walk_of, Goes-dropped, stay_ref, Goes-ref}
use denote.RawPtr.{Ptr, ptr_val, block_ptr, null_ptr, lies_at, in_a_block}
use denote.Memory.{lone}
use Rattle.std.proofs.cell.Inside.{Good, one}
use Rattle.std_alloc.proofs.VecSteps.Shapes.{after}
use Rattle.std_alloc.proofs.RcSteps.{word, word-Good}
use Rattle.std.specs.contracts.impls.GlobalAllocator.TheImpl.{ghosts}
use Rattle.std_alloc.specs.Box.Ownership.{box_owns}
use Rattle.chunk_rope.proofs.Values.{value_out, value_in}
use Rattle.chunk_rope.specs.Owned.{Place, chain_owns, IsLast, Ends}
use Rattle.std.proofs.raw_atomic.Walks.{proved_at, leaves}
use Rattle.chunk_rope.proofs.Chains as chains
use Rattle.chunk_rope.proofs.Chains.{rest_of, head_is, last_is, Chain, Trail, Mark, word_had}
use Rattle.chunk_rope.specs.contracts.chain.Chain.replace_last.{ended, clauses}
use Rattle.chunk_rope.specs.contracts.chain.Chain.replace_last.Key.{name as #self}
use Rattle.chunk_rope.proofs.chain.Chain.replace_last.Statement.{statement}
use Rattle.chunk_rope.proofs.chain.Chain.replace_last.Code as code

pub replace_last_spec : {M : Type 1} → statement M
replace_last_spec 𝓤 𝓛 𝓜 𝓡 wired T L =
    let H = 𝓛.H in let 𝓣 = tables 𝓤 H 𝓜 𝓡 𝓡.env in let R : RattleType = param 0 T in let LR = param_laws 0 T L in let En = ended T in let c = clauses T 𝓛 𝓜.mem 𝓡.returns in
    let inst = layouts (a_type ∷ []) (T, tt) in let fn = inst_fn inst code.function in
    let hs : Stays En.signature.params En.kept = (stay_ref (0 ∷ []) tt (plain (λ _. Chain 𝓛 R)), (stay_dropped (plain (λ _. Mark)) yes, (stay_dropped (plain (λ _. R)) no, tt))) in
    proved_at 𝓛 En hs c 𝓜 𝓡 (Goes-ref 𝓛 2 0 tt (plain (λ _. Chain 𝓛 R)), (Goes-dropped 𝓛 2 (plain (λ _. Mark)) yes (λ κs x f. refl), (Goes-dropped 𝓛 2 (plain (λ _. R)) no (λ κs x f. refl), tt))) (#self inst) fn (code.unfolded 𝓤 H 𝓜 𝓡 wired (T, tt)) (λ z are.
    let κs = z.0.0 in let qs = z.0.1 in let Post : Val → SProp 𝓤 = (walk_of 𝓛 En hs c).post z in let Run : List Val → SProp 𝓤 = λ ws. WpFn 𝓤 H 𝓣.C 𝓣.Λ fn ws Post in
    let κ' : Lft = κs.0 in let q' : Share = qs.0 in let m = z.0.3.0 in let nb₀ : ℕ = m.ref_ptr.0 in let no₀ : ℕ = m.ref_ptr.1 in let ν₀ : ℕ = m.ghost_name in let n = m.now in let s = z.0.3.1.0 in let y : R.Denot = z.0.3.1.1.0 in let p : Ptr = s.ptr in
    let Shuts = chains.Shuts 𝓛 R κ' q' nb₀ no₀ ν₀ in let N : Fml = chain_owns R n.blocks in let w = one (layout R) z.0.4.1.1.0 ((LR.lawful 𝓛).typed y z.0.4.1.1.0 are.1.1.0) in let Vs : List Val = vptr nb₀ no₀ ∷ word p ∷ w.0 ∷ [] in
    qed 𝓛 (((‵ (flft κ' q') ⊛ ‵ (fsep (flft κs.1.0 qs.1.0) ftrue)) ⊛ ‵ (owns (types_at En.signature.params κs) z.0.3 z.0.4)) ∷ raw (fact 𝓤 (κs.1.0 ⊑ T.lives)) ∷ raw (fact 𝓤 (IsLast n.blocks p)) ∷ []) ∵
    move ! (2 ∷ []) $ heard ! (IsLast n.blocks p) (λ at_end. let la = last_is n.blocks p at_end in let x : R.Denot = la.2 in let k : (Chain 𝓛 R).Denot = record { mark = record {}; blocks = la.0 ++ ((p, la.1), y) ∷ [] } in
    let Told : Type 0 = Ends R.Denot n.blocks k.blocks p x y in
    split ! $ split ! $ move ! (2 ∷ []) $ fsplit3 ! $ move ! (1 ∷ []) $ word_had ! s z.0.4.1.0 (λ ev. fsplit ! $ move ! (2 ∷ []) $ fsplit ! $
    keep ! (3 ∷ 4 ∷ 5 ∷ 0 ∷ []) $
    rewrite ! 3 (λ (ws : List Val). ‵ (R.own_val y ws)) w.1 refl $
    suffices ! (Run Vs) (subst (λ (us : List Val). ent 𝓤 (Run Vs) (Run us)) (sym (λ i. are.0.0 i ++ (ev i ++ (w.1 i ++ [])))) (id⊢ 𝓤 (Run Vs))) $
    enter ! 𝓣.C 𝓣.Λ fn Vs Post $ alloc_all ! (λ l. pass_all ! refl ((tt, tt), (word-Good [] p, (w.2, tt))) $ let Ev = env fn.locals l in
    use2 𝓛 (later (‵ N ⊛ raw (all 𝓤 Shuts))) (chains.chain_opens 𝓛 R κ' q' nb₀ no₀ ν₀ n) $ await ! tt $ split ! $ rewrite ! 0 (λ (bs : List (Place × R.Denot)). ‵ (chain_owns R bs)) la.3 refl $
    use1 𝓛 (‵ (chain_owns R la.0) ⊛ ‵ (chain_owns R (((p, la.1), x) ∷ []))) (chains.parted 𝓛 R la.0 (((p, la.1), x) ∷ [])) $ split ! $ move ! (1 ∷ []) $ fsplit ! $
    -- [the block; nothing; the blocks before; what shuts; the other tokens; the value]
    in_a_block ! p (λ at. box_owns (ghosts.dealloc_token la.1) R at x) (fst∗ 𝓤 (never 𝓤) (sem 𝓛 (ghosts.dealloc_token la.1 (bare (lone R.mir)) null_ptr))) (λ b o e. fsplit ! $
    use1 𝓛 (some (λ (v : Val). given (Good (layout T) v) (‵ (fat full_share (layout T) b o v) ⊛ ‵ (T.own_val x (v ∷ []))))) (value_out T L 𝓛 x b o) $ pick ! (λ v. learn ! (λ gv. split ! $
    -- [the cell; what it held; the token; nothing; the blocks before; what shuts; the other tokens; the value]
    sets ! (is ! (of_opd ! (get_in ! (fld ! refl (stop !)) (sub ! 0 refl (whole !)))) (ap ptr_val e)) refl (tt, tt) $ first ! $ blocks ! $
    sets ! (of_opd ! (load ! (through ! refl (stop !)) (look ! 0 refl))) refl gv $ sets ! (of_opd ! (get ! refl)) refl w.2 $
    assigns ! (of_opd ! (get ! refl)) (through ! refl (stop !)) (store ! 0 refl w.2) $ sets_last ! (of_opd ! (get ! refl)) refl gv $
    exec ! 𝓣.C 𝓣.Λ Ev (after 2 fn.body) (at_ret Ev Post) $ sets ! (of_opd ! (get ! refl)) refl gv $
    move ! (0 ∷ 7 ∷ []) $ use2 𝓛 (‵ (lies_at R full_share (block_ptr b o) y)) (value_in T L 𝓛 y b o w.0) $ move ! (0 ∷ 2 ∷ []) $ fjoin ! $
    rewrite ! 0 (λ (at : Ptr). ‵ (box_owns (ghosts.dealloc_token la.1) R at y)) (sym e) refl $ move ! (0 ∷ 2 ∷ []) $ fjoin ! $
    move ! (2 ∷ 0 ∷ []) $ use2 𝓛 (‵ (chain_owns R k.blocks)) (chains.joined 𝓛 R la.0 (((p, la.1), y) ∷ [])) $
    -- [the blocks; what the last one held; what shuts; the other tokens]
    move ! (2 ∷ []) $ use1 𝓛 (raw (Shuts k)) (all_e 𝓤 Shuts k) $ move ! (1 ∷ 0 ∷ []) $
    use2 𝓛 (later (‵ (chains.lent 𝓛 R κ' q' nb₀ no₀ ν₀ k) ⊛ ‵ (flft κ' q'))) (apply∗ 𝓤 (sem 𝓛 (chain_owns R k.blocks)) _) $ await ! tt $ split ! $
    feq_i ! (List Val) z.0.4.0 (vptr nb₀ no₀ ∷ []) are.0.0 $ fjoin ! $ nothing ! $ nothing ! $ fjoin ! $ nothing ! $ fjoin ! $ move ! (1 ∷ 0 ∷ []) $ fjoin ! $ move ! (1 ∷ 3 ∷ []) $ join ! $
    use0 𝓛 (raw (fact 𝓤 Told)) (fact_i 𝓤 Told (emp 𝓤) (la.1, la.0, la.3, refl)) $
    returns ! (look_at ! 0 refl) $ free_all ! refl $ keep ! (1 ∷ 2 ∷ 3 ∷ 0 ∷ []) $ by ! (leaves 𝓛 En hs c z v x (k, (tt, (tt, tt))) (tt, (tt, (tt, tt)))))))))))
