-- The trail goes past one block.
use Rattle.std.proofs.Common.{ℕ, List, [], ◌∷◌, ◌++◌, refl, sym, subst, ap}
use mir.Syntax.{a_type}
use mir.Val.{Val, vptr}
use mir.MapTy.{inst_fn}
use base.Logic.{never, fst∗, SProp, ent, emp, id⊢, apply∗, all, all_e}
use base.Fml.{Lft, Share, Fml, ftrue, fsep, flft}
use prog.Wp.{WpFn}
use types.Logic.{sem}
use types.Kit.{at_ret, drop, ‵, raw, ◌⊛◌, later, ◌$◌, ◌∵◌, !, qed, by, move, keep, split, join, fsplit, fsplit3, fjoin, suffices, use0, use1, use2, await, rewrite, feq_i}
use types.Run.{addr, first, blocks, exec, stop, fld, of_opd, returns, enter}
use types.ByLocal.{env, is, through, sets_last, get, get_in, alloc_all, pass_all, free_all, look_at, sets}
use types.Part.{sub, whole}
use contract.Monad.{fact, fact_i}
use contract.BorrowLft.{◌⊑◌}
use contract.Running.{tables}
use denote.Exit.{yes}
use denote.RattleType.{RattleType, owns}
use denote.Signature.{types_at, plain, named_lft}
use denote.Steps.{nothing, heard}
use denote.Param.{param, layouts}
use denote.Triple.Walked.{Stays, stay_dropped, walk_of, Goes-dropped, stay_ref, Goes-ref}
use denote.RawPtr.{Ptr, ptr_val, in_a_block}
use denote.Opens.{hide}
use denote.Memory.{shared_of}
use denote.Struct.Lending.{lent_at}
use Rattle.std_alloc.proofs.VecSteps.Shapes.{after}
use Rattle.std_alloc.proofs.RcSteps.{word, word-Good}
use Rattle.chunk_rope.specs.Owned.{Place, chain_lent, IsFirst, Begins}
use Rattle.std.proofs.raw_atomic.Walks.{proved_at, leaves}
use Rattle.chunk_rope.proofs.Chains as chains
use Rattle.chunk_rope.proofs.Chains.{rest_of, head_is, last_is, Chain, Trail, Mark, word_had}
use Rattle.chunk_rope.specs.contracts.chain.Trail.step.{ended, clauses}
use Rattle.chunk_rope.specs.contracts.chain.Trail.step.Key.{name as #self}
use Rattle.chunk_rope.proofs.chain.Trail.step.Statement.{statement}
use Rattle.chunk_rope.proofs.chain.Trail.step.Code as code

pub step_spec : {M : Type 1} → statement M
step_spec 𝓤 𝓛 𝓜 𝓡 wired T L =
    let H = 𝓛.H in let 𝓣 = tables 𝓤 H 𝓜 𝓡 𝓡.env in let R : RattleType = param 0 T in let En = ended T in let c = clauses T 𝓛 𝓜.mem 𝓡.returns in
    let inst = layouts (a_type ∷ []) (T, tt) in let fn = inst_fn inst code.function in
    let hs : Stays En.signature.params En.kept = (stay_ref (0 ∷ []) tt (plain (λ κs. Trail 𝓛 (named_lft 3 1 tt κs) R)), (stay_dropped (plain (λ _. Mark)) yes, tt)) in
    proved_at 𝓛 En hs c 𝓜 𝓡 (Goes-ref 𝓛 3 0 tt (plain (λ κs. Trail 𝓛 (named_lft 3 1 tt κs) R)), (Goes-dropped 𝓛 3 (plain (λ _. Mark)) yes (λ κs x f. refl), tt)) (#self inst) fn (code.unfolded 𝓤 H 𝓜 𝓡 wired (T, tt)) (λ z are.
    let κs = z.0.0 in let qs = z.0.1 in let Post : Val → SProp 𝓤 = (walk_of 𝓛 En hs c).post z in let Run : List Val → SProp 𝓤 = λ ws. WpFn 𝓤 H 𝓣.C 𝓣.Λ fn ws Post in let a = named_lft 3 1 tt κs in
    let κ' : Lft = κs.0 in let q' : Share = qs.0 in let m = z.0.3.0 in let nb₀ : ℕ = m.ref_ptr.0 in let no₀ : ℕ = m.ref_ptr.1 in let ν₀ : ℕ = m.ghost_name in let n = m.now in let s = z.0.3.1.0 in let p : Ptr = s.ptr in
    let Shuts = chains.TrailShuts 𝓛 a R κ' q' nb₀ no₀ ν₀ in let N : Fml = chain_lent R n.blocks a.lft in let Vs : List Val = vptr nb₀ no₀ ∷ word p ∷ [] in
    qed 𝓛 (((‵ (flft κ' q') ⊛ ‵ (fsep (flft κs.1.0 qs.1.0) (fsep (flft κs.1.1.0 qs.1.1.0) ftrue))) ⊛ ‵ (owns (types_at En.signature.params κs) z.0.3 z.0.4)) ∷ raw (fact 𝓤 (κs.1.1.0 ⊑ T.lives)) ∷ raw (fact 𝓤 (IsFirst n.blocks p)) ∷ []) ∵
    move ! (2 ∷ []) $ heard ! (IsFirst n.blocks p) (λ at_head. let hd = head_is n.blocks p at_head in let x : R.Denot = hd.1 in let k : (Trail 𝓛 a R).Denot = record { mark = record {}; blocks = rest_of n.blocks } in
    let Told : Type 0 = Begins R.Denot n.blocks p x k.blocks in
    split ! $ split ! $ move ! (2 ∷ []) $ fsplit3 ! $ move ! (1 ∷ []) $ word_had ! s z.0.4.1.0 (λ ev. fsplit ! $ keep ! (1 ∷ 3 ∷ 4 ∷ []) $
    suffices ! (Run Vs) (subst (λ (us : List Val). ent 𝓤 (Run Vs) (Run us)) (sym (λ i. are.0.0 i ++ (ev i ++ []))) (id⊢ 𝓤 (Run Vs))) $
    enter ! 𝓣.C 𝓣.Λ fn Vs Post $ alloc_all ! (λ l. pass_all ! refl ((tt, tt), (word-Good [] p, tt)) $ let Ev = env fn.locals l in
    use2 𝓛 (later (‵ N ⊛ raw (all 𝓤 Shuts))) (chains.trail_opens 𝓛 a R κ' q' nb₀ no₀ ν₀ n) $ await ! tt $ split ! $ rewrite ! 0 (λ (bs : List (Place × R.Denot)). ‵ (chain_lent R bs a.lft)) hd.2 refl $ fsplit ! $
    move ! (2 ∷ []) $ use1 𝓛 (raw (Shuts k)) (all_e 𝓤 Shuts k) $ move ! (2 ∷ 0 ∷ []) $
    use2 𝓛 (later (‵ (chains.trail_held 𝓛 a R κ' q' nb₀ no₀ ν₀ k) ⊛ ‵ (flft κ' q'))) (apply∗ 𝓤 (sem 𝓛 (chain_lent R k.blocks a.lft)) _) $ await ! tt $ split ! $
    feq_i ! (List Val) z.0.4.0 (vptr nb₀ no₀ ∷ []) are.0.0 $ fjoin ! $ nothing ! $ nothing ! $ fjoin ! $ move ! (1 ∷ 0 ∷ []) $ fjoin ! $ move ! (1 ∷ 3 ∷ []) $ join ! $
    -- [the tokens; the borrow; the first block, lent]
    move ! (2 ∷ []) $ in_a_block ! p (λ at. lent_at R at x a.lft) (fst∗ 𝓤 (never 𝓤) (sem 𝓛 (shared_of R x 0 0 a.lft))) (λ nb no e. fsplit ! $ drop ! $ hide ! $
    let r : Val = vptr nb no in
    sets ! (is ! (of_opd ! (get_in ! (fld ! refl (stop !)) (sub ! 0 refl (whole !)))) (ap ptr_val e)) refl (tt, tt) $ first ! $ blocks ! $
    sets_last ! (addr ! (through ! refl (stop !))) refl (tt, tt) $ exec ! 𝓣.C 𝓣.Λ Ev (after 2 fn.body) (at_ret Ev Post) $ sets ! (of_opd ! (get ! refl)) refl (tt, tt) $
    feq_i ! (List Val) (r ∷ []) (r ∷ []) refl $ fjoin ! $ use0 𝓛 (raw (fact 𝓤 Told)) (fact_i 𝓤 Told (emp 𝓤) (hd.0, hd.2)) $
    returns ! (look_at ! 0 refl) $ free_all ! refl $ keep ! (2 ∷ 3 ∷ 1 ∷ 0 ∷ []) $ by ! (leaves 𝓛 En hs c z r (record { ref_ptr = (nb, no); now = x }) (k, (tt, tt)) (tt, (tt, tt))))))))
