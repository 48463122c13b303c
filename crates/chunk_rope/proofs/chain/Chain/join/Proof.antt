-- Two chains are owned as one.
use Rattle.std.proofs.Common.{◌≡◌, ℕ, List, [], ◌∷◌, ◌++◌, refl, sym, subst}
use mir.Syntax.{a_type}
use mir.Val.{Val, vptr, vunit}
use mir.MapTy.{inst_fn}
use base.Logic.{SProp, ent, emp, id⊢, apply∗, all, all_e}
use base.Fml.{Lft, Share, Fml, ftrue, fsep, flft}
use prog.Wp.{WpFn}
use types.Logic.{sem}
use types.Kit.{‵, raw, ◌⊛◌, later, ◌$◌, ◌∵◌, !, qed, by, move, keep, split, join, fsplit, fsplit3, fjoin, suffices, use0, use1, use2, await, feq_i}
use types.Run.{of_opd, returns, enter, unit_lit}
use types.ByLocal.{alloc_all, pass_all, free_all, look_at, sets}
use contract.Monad.{fact, fact_i}
use contract.Running.{tables}
use Rattle.std.proofs.cell.Inside.{one}
use denote.Exit.{no}
use denote.RattleType.{RattleType, owns}
use denote.Signature.{types_at, plain}
use denote.Steps.{nothing}
use denote.Param.{param, layout, layouts}
use denote.Param.Laws.{param_laws}
use denote.Triple.Walked.{Stays, stay_dropped, walk_of, Goes-dropped, stay_ref, Goes-ref}
use Rattle.chunk_rope.specs.Owned.{chain_owns}
use Rattle.std.proofs.raw_atomic.Walks.{proved_at, leaves}
use Rattle.chunk_rope.proofs.chain.Chain.TheLaws as chain_laws
use Rattle.chunk_rope.proofs.Chains as chains
use Rattle.chunk_rope.proofs.Chains.{Chain}
use Rattle.chunk_rope.specs.contracts.chain.Chain.join.{ended, clauses}
use Rattle.chunk_rope.specs.contracts.chain.Chain.join.Key.{name as #self}
use Rattle.chunk_rope.proofs.chain.Chain.join.Statement.{statement}
use Rattle.chunk_rope.proofs.chain.Chain.join.Code as code

pub join_spec : {M : Type 1} → statement M
join_spec 𝓤 𝓛 𝓜 𝓡 wired T L =
    let H = 𝓛.H in let 𝓣 = tables 𝓤 H 𝓜 𝓡 𝓡.env in let R : RattleType = param 0 T in let LR = param_laws 0 T L in let En = ended T in let c = clauses T 𝓛 𝓜.mem 𝓡.returns in
    let inst = layouts (a_type ∷ []) (T, tt) in let fn = inst_fn inst code.function in
    let hs : Stays En.signature.params En.kept = (stay_ref (0 ∷ []) tt (plain (λ _. Chain 𝓛 R)), (stay_dropped (plain (λ _. Chain 𝓛 R)) no, tt)) in
    proved_at 𝓛 En hs c 𝓜 𝓡 (Goes-ref 𝓛 2 0 tt (plain (λ _. Chain 𝓛 R)), (Goes-dropped 𝓛 2 (plain (λ _. Chain 𝓛 R)) no (λ κs x f. refl), tt)) (#self inst) fn (code.unfolded 𝓤 H 𝓜 𝓡 wired (T, tt)) (λ z are.
    let κs = z.0.0 in let qs = z.0.1 in let Post : Val → SProp 𝓤 = (walk_of 𝓛 En hs c).post z in let Run : List Val → SProp 𝓤 = λ ws. WpFn 𝓤 H 𝓣.C 𝓣.Λ fn ws Post in
    let κ' : Lft = κs.0 in let q' : Share = qs.0 in let m = z.0.3.0 in let nb₀ : ℕ = m.ref_ptr.0 in let no₀ : ℕ = m.ref_ptr.1 in let ν₀ : ℕ = m.ghost_name in let n = m.now in let x = z.0.3.1.0 in
    let k : (Chain 𝓛 R).Denot = record { mark = record {}; blocks = n.blocks ++ x.blocks } in
    let Shuts = chains.Shuts 𝓛 R κ' q' nb₀ no₀ ν₀ in let N : Fml = chain_owns R n.blocks in let Told : Type 0 = k.blocks ≡ n.blocks ++ x.blocks in
    let v = one (layout (Chain 𝓛 R)) z.0.4.1.0 (((chain_laws.the_row_laws R LR).lawful 𝓛).typed x z.0.4.1.0 are.1.0) in let Vs : List Val = vptr nb₀ no₀ ∷ v.0 ∷ [] in
    qed 𝓛 (((‵ (flft κ' q') ⊛ ‵ (fsep (flft κs.1.0 qs.1.0) ftrue)) ⊛ ‵ (owns (types_at En.signature.params κs) z.0.3 z.0.4)) ∷ raw ((c κs z.0.3).requires z.1) ∷ []) ∵
    split ! $ split ! $ move ! (2 ∷ []) $ fsplit3 ! $ fsplit ! $ move ! (2 ∷ []) $ fsplit ! $ keep ! (3 ∷ 5 ∷ 1 ∷ 6 ∷ []) $
    suffices ! (Run Vs) (subst (λ (us : List Val). ent 𝓤 (Run Vs) (Run us)) (sym (λ i. are.0.0 i ++ (v.1 i ++ []))) (id⊢ 𝓤 (Run Vs))) $
    enter ! 𝓣.C 𝓣.Λ fn Vs Post $ alloc_all ! (λ l. pass_all ! refl ((tt, tt), (v.2, tt)) $
    use2 𝓛 (later (‵ N ⊛ raw (all 𝓤 Shuts))) (chains.chain_opens 𝓛 R κ' q' nb₀ no₀ ν₀ n) $ await ! tt $ split ! $ move ! (0 ∷ 2 ∷ []) $ use2 𝓛 (‵ (chain_owns R k.blocks)) (chains.joined 𝓛 R n.blocks x.blocks) $ move ! (1 ∷ []) $ use1 𝓛 (raw (Shuts k)) (all_e 𝓤 Shuts k) $ move ! (1 ∷ 0 ∷ []) $
    use2 𝓛 (later (‵ (chains.lent 𝓛 R κ' q' nb₀ no₀ ν₀ k) ⊛ ‵ (flft κ' q'))) (apply∗ 𝓤 (sem 𝓛 (chain_owns R k.blocks)) _) $ await ! tt $ split ! $
    feq_i ! (List Val) z.0.4.0 (vptr nb₀ no₀ ∷ []) are.0.0 $ fjoin ! $ nothing ! $ nothing ! $ fjoin ! $ move ! (1 ∷ 0 ∷ []) $ fjoin ! $ move ! (1 ∷ 2 ∷ []) $ join ! $
    sets ! (of_opd ! (unit_lit !)) refl (tt, tt) $ feq_i ! (List Val) (vunit ∷ []) (vunit ∷ []) refl $ use0 𝓛 (raw (fact 𝓤 Told)) (fact_i 𝓤 Told (emp 𝓤) refl) $
    returns ! (look_at ! 0 refl) $ free_all ! refl $ keep ! (2 ∷ 3 ∷ 1 ∷ 0 ∷ []) $ by ! (leaves 𝓛 En hs c z vunit tt (k, (tt, tt)) (tt, (tt, tt)))))
