-- `hand_out` takes the box apart: its value stays where it lies, and the right to free its block is let go.
use Rattle.std.proofs.Common.{List, [], ◌∷◌, ◌++◌, refl, sym, ap, ◌∙◌, subst}
use mir.Syntax.{Fn, Args, Dict, a_type, tcons, tnil, dcons, dnil, impl}
use mir.MapTy.{inst_fn}
use mir.Raw.{raw as bare}
use mir.Val.{Val, vptr}
use base.Logic.{SProp, ent, emp, id⊢, never, fst∗}
use base.Fml.{ftrue, fsep, flft}
use prog.Wp.{WpFn}
use borrow.Author.Rules.{in_static}
use contract.BorrowLft.{◌⊑◌}
use contract.Monad.{fact, fact_i}
use contract.Running.{tables}
use types.Logic.{sem}
use types.Kit.{‵, raw, ◌⊛◌, some, later, ◌$◌, ◌∵◌, !, qed, by, move, drop, split, split3, join, fsplit, fjoin, pick, suffices, use0, use1, await, feq_i, feq_l}
use types.Run.{of_opd, no_more, and_then, returns, enter}
use types.ByLocal.{alloc_all, pass_all, free_all, look_at, get, sets, lands_as}
use denote.Exit.{no}
use denote.RattleType.{RattleType, owns}
use denote.Signature.{types_at, plain}
use denote.Builtin.{RawPtr}
use denote.RawPtr.{Ptr, block_ptr, null_ptr, ptr_val, in_a_block}
use denote.Steps.{nothing, only, heard}
use denote.Param.{param, layout, bounded, arg}
use denote.Param.Laws.{arg_laws}
use denote.Param.NoDrop.{glues}
use denote.Triple.Spec.{triple_of}
use denote.Triple.Call.{calls_at}
use denote.Triple.Walked.{Stays, stay_dropped, walk_of}
use Rattle.std.proofs.alloc.Calls.{Goes-blank}
use denote.Triple.Table.{framed}
use Rattle.std.specs.Box.Ownership.{box_owns}
use Rattle.std.proofs.BoxSteps.Form as box
use Rattle.std.proofs.BoxSteps.Steps.{box_out, box_in}
use Rattle.std.proofs.raw_atomic.Walks.{proved_at, leaves}
use Rattle.std.specs.contracts.alloc.Global as heap
use Rattle.std.proofs.alloc.Global.TheLaws as heap_laws
use Rattle.std.specs.contracts.boxed.Box as boxed
use Rattle.std.specs.contracts.impls.GlobalAllocator.TheImpl as allocator
use Rattle.std.proofs.impls.GlobalAllocator.TheImpl.Met as allocator_met
use Rattle.std.specs.contracts.boxed.Box.into_raw as callee
use Rattle.std.proofs.boxed.Box.into_raw.Met.{met}
use Rattle.c_common.specs.contracts.handle.hand_out.{ended, clauses}
use Rattle.c_common.specs.contracts.handle.hand_out.Key.{name as #self}
use Rattle.c_common.proofs.Destruct++none.drop.Code as dropped
use Rattle.c_common.proofs.handle.hand_out.Statement.{statement}
use Rattle.c_common.proofs.handle.hand_out.Code as code

pub hand_out_spec : {M : Type 1} → statement M
unfolding dropped.code
hand_out_spec 𝓤 𝓛 𝓜 𝓡 wired T Name L LN dT glue =
    let H = 𝓛.H in
    let 𝓣 = tables 𝓤 H 𝓜 𝓡 𝓡.env in
    let R : RattleType = param 0 T in
    let Z : RattleType = arg (bare (layout heap.the_row)) no heap.the_row in
    let LZ = arg_laws (bare (layout heap.the_row)) no heap.the_row heap_laws.the_row_laws refl in
    let En = ended T Name dT in
    let c = clauses T Name dT 𝓛 𝓜.mem 𝓡.returns in
    let dx : Dict = impl ("c_common::Destruct++none::drop" ∷ []) (tcons (layout Z) tnil) dnil in
    let E : box.Bx = record { row = T; laws = L; al = record { row = Z; laws = LZ; g = allocator.ghosts; d = allocator.dict; drops = dx } } in
    let inst : Args = bounded (a_type ∷ a_type ∷ []) (T, (Name, tt)) (dcons dT dnil) in
    let fn : Fn = inst_fn inst code.function in
    let Bo : RattleType = boxed.the_row R heap.the_row allocator.ghosts in
    let hs : Stays En.signature.params En.kept = (stay_dropped (plain (λ _. Bo)) no, tt) in
    let known = met 𝓤 𝓛 𝓜 𝓡 (code.calls-std_alloc::boxed::Box::into_raw 𝓡.env wired) T Z L LZ allocator.ghosts allocator.dict dx dT
    (allocator_met.passed 𝓡.env (code.calls-std_heap::GlobalAllocator::allocate 𝓡.env wired) (code.calls-std_heap::GlobalAllocator::deallocate 𝓡.env wired)
    (code.calls-std_heap::GlobalAllocator::grow 𝓡.env wired) (code.calls-std_heap::GlobalAllocator::shrink 𝓡.env wired) _ 𝓤 𝓛 𝓜 𝓡)
    (glues "c_common::Destruct++none::drop" 𝓡.env (code.calls-c_common::Destruct++none::drop 𝓡.env wired) Z LZ _ 𝓤 𝓛 𝓜 𝓡) glue in
    proved_at 𝓛 En hs c 𝓜 𝓡 (Goes-blank 𝓛 2 (plain (λ _. Bo)) no (λ κs x f. tt), tt) (#self inst) fn (code.unfolded 𝓤 H 𝓜 𝓡 wired (T, (Name, tt)) dT) (λ z are.
    let κs = z.0.0 in
    let qs = z.0.1 in
    let v = z.0.3.0 in
    let a = v.alloc in
    let Post : Val → SProp 𝓤 = (walk_of 𝓛 En hs c).post z in
    let Run : List Val → SProp 𝓤 = λ ws. WpFn 𝓤 H 𝓣.C 𝓣.Λ fn ws Post in
    let toks = ‵ (flft κs.0 qs.0) ⊛ ‵ (flft κs.1.0 qs.1.0) ⊛ ‵ ftrue in
    qed 𝓛 ((toks ⊛ ‵ (owns (types_at En.signature.params κs) z.0.3 z.0.4)) ∷ (raw (fact 𝓤 (κs.0 ⊑ T.lives)) ⊛ raw (fact 𝓤 (κs.1.0 ⊑ Name.lives)) ⊛ ‵ ftrue) ∷ []) ∵
    -- [what the box owns; nothing; the tokens]
    move ! (1 ∷ []) $ split3 ! $ heard ! (κs.0 ⊑ T.lives) (λ lives. heard ! (κs.1.0 ⊑ Name.lives) (λ named. drop ! $ split ! $ move ! (1 ∷ []) $ fsplit ! $
    use1 𝓛 (‵ ((box.B E).own_val v z.0.4.0)) (id⊢ 𝓤 _) $
    box_out E ! v z.0.4.0 (λ b o h e ws fits. box_in E ! v b o v.value e refl $
    let w : Val = box.word E h b o in
    let typed = box.box_typed E h b o fits in
    let k = triple_of 𝓛 (callee.signature T Z allocator.ghosts allocator.dict dx dT) (callee.spec T Z allocator.ghosts allocator.dict dx dT 𝓛 𝓜.mem 𝓡.returns) in
    let y : k.Ghost = ((κs, qs, tt, (v, tt), (w ∷ [], tt)), tt) in
    let free : κs.1.0 ⊑ Z.lives = (in_static κs.1.0).1 tt in
    fjoin ! $ move ! (1 ∷ 0 ∷ []) $ join ! $
    nothing ! $ use0 𝓛 (raw (fact 𝓤 (κs.1.0 ⊑ Z.lives))) (fact_i 𝓤 (κs.1.0 ⊑ Z.lives) (emp 𝓤) free) $ join ! $
    use0 𝓛 (raw (fact 𝓤 (κs.0 ⊑ T.lives))) (fact_i 𝓤 (κs.0 ⊑ T.lives) (emp 𝓤) lives) $ join ! $ move ! (1 ∷ 0 ∷ []) $ join ! $
    use1 𝓛 (raw (k.pre y)) (id⊢ 𝓤 _) $
    suffices ! (Run (w ∷ [])) (subst (λ (us : List Val). ent 𝓤 (Run (w ∷ [])) (Run us)) (sym (λ i. ws i ++ [])) (id⊢ 𝓤 (Run (w ∷ [])))) $
    enter ! 𝓣.C 𝓣.Λ fn (w ∷ []) Post $ alloc_all ! (λ l. pass_all ! refl (typed, tt) $ sets ! (of_opd ! (get ! refl)) refl typed $
    -- Box::into_raw(made)
    calls_at ! (framed 𝓤 H 𝓜 𝓣) k known y (and_then ! (get ! refl) (no_more !)) (λ u.
    use1 𝓛 (later (some (λ (r : Ptr). (toks ⊛ ‵ (RawPtr.own_val r (u ∷ []))) ⊛ some (λ (_ : (Unit {0} × (Unit {0} × Unit {0})) × Unit {0}).
    ‵ (fsep (fsep ftrue (fsep ftrue ftrue)) ftrue) ⊛ ‵ (box_owns (allocator.ghosts.dealloc_token a) R r v.value))))) (id⊢ 𝓤 _) $
    await ! tt $ pick ! (λ r. split ! $ move ! (1 ∷ []) $ pick ! (λ _. split ! $ drop ! $
    in_a_block ! r (λ p. box_owns (allocator.ghosts.dealloc_token a) R p v.value)
    (fst∗ 𝓤 (never 𝓤) (sem 𝓛 (allocator.ghosts.dealloc_token a (bare (layout T)) null_ptr))) (λ b' o' e'.
    -- [the value; the right to free its block, which is let go; the tokens with the pointer]
    fsplit ! $ move ! (1 ∷ []) $ drop ! $ move ! (1 ∷ []) $ split ! $ move ! (1 ∷ []) $ feq_l ! (λ eu.
    lands_as ! (ap only (eu ∙ ap (λ (p : Ptr). ptr_val p ∷ []) e')) refl (tt, tt) $ sets ! (of_opd ! (get ! refl)) refl (tt, tt) $
    returns ! (look_at ! 0 refl) $ free_all ! refl $
    feq_i ! (List Val) (vptr b' o' ∷ []) (vptr b' o' ∷ []) refl $ nothing ! $ nothing ! $ fjoin ! $ move ! (2 ∷ 0 ∷ 1 ∷ 3 ∷ []) $
    by ! (leaves 𝓛 En hs c z (vptr b' o') (block_ptr b' o') (tt, tt) (tt, tt))))))))))))
