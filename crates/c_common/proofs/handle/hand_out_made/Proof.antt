-- `hand_out_made` takes the answer apart: what a box holds is handed out at the pointer that is written, and a fault's number is told.
use Rattle.std.proofs.Common.{◌≡◌, ℕ, List, [], ◌∷◌, ◌++◌, refl, sym, ap, ◌∙◌, subst, lit<, w8}
use lib.Dec.{T as Holds}
use mir.Syntax.{Fn, Body, Args, a_type, tcons, tnil, dcons, dnil, impl}
use mir.MapTy.{inst_fn}
use mir.Raw.{raw as bare}
use mir.Val.{Val, vptr, vint, of_list}
use base.Logic.{SProp, ent, emp, id⊢}
use base.Fml.{ftrue, flft}
use prog.Wp.{WpFn, Wp, after_seq, at_return}
use contract.BorrowLft.{◌⊑◌}
use contract.Monad.{fact, fact_i}
use contract.Running.{tables}
use types.Kit.{Item, ‵, raw, ◌⊛◌, some, later, at_ret, any_q, ◌$◌, ◌∵◌, !, qed, by, move, keep, drop, split, split3, join, fsplit, fsplit3, fjoin, fpick, pick, suffices, use0, use1, await, feq_i, feq_l, rewrite}
use types.Run.{stop, fld, lit, of_opd, no_more, and_then, first, switches_on, assigns, store, exec, returns, enter}
use types.Part.{whole}
use types.Match.{live, vrt, in_variant}
use types.ByLocal.{alloc_all, pass_all, free_all, look_at, get, get_in, get_tag, through, sets, sets_last, lands_as, env}
use denote.Exit.{no, Last, left}
use denote.RattleType.{RattleType, owns}
use denote.Signature.{types_at, plain}
use denote.Builtin.{RawPtr, u8}
use base.Fraction.{full_share}
use denote.Memory.{cell_at}
use denote.Laws.{Is, shows}
use denote.Plain.{uint_Lawful, uint_Makes, uint_Tells}
use denote.RawPtr.{Ptr, ptr_val, lies_at, rawptr_Lawful}
use denote.Steps.{nothing, owned, only, heard, opens, closes, peeks}
use denote.Param.{param, layout, bounded, arg}
use denote.Param.Mute.{blank}
use denote.Param.Laws.{Laws, arg_laws}
use denote.Triple.Spec.{triple_of}
use denote.Triple.Call.{calls_at}
use denote.Triple.Clauses.{lasts, Lasts}
use denote.Triple.Walked.{Stays, stay_dropped, stay_ref, Goes-ref, walk_of}
use denote.Triple.Table.{framed}
use Rattle.std.proofs.VecSteps.Shapes.{after, head, arm_body}
use Rattle.std.proofs.alloc.Calls.{Goes-blank}
use Rattle.std.proofs.raw_atomic.Walks.{proved_at, leaves}
use Rattle.std.specs.Prelude.{Ok, Err, ⊤}
use Rattle.std.proofs.BoxSteps.Form as box
use Rattle.std.proofs.BoxSteps.Steps.{box_out, box_in}
use Rattle.std.proofs.ResultValues.{and_tt}
use Rattle.std.specs.contracts.alloc.Global as heap
use Rattle.std.proofs.alloc.Global.TheLaws as heap_laws
use Rattle.std.specs.contracts.impls.GlobalAllocator.TheImpl as allocator
use Rattle.c_common.proofs.HandedOut.{Boxed, Made}
use Rattle.c_common.specs.contracts.handle.hand_out_made.{ended, clauses}
use Rattle.c_common.specs.contracts.handle.hand_out_made.Key.{name as #self}
use Rattle.c_common.specs.contracts.handle.hand_out as out
use Rattle.c_common.proofs.handle.hand_out.Met.{met as out_met}
use Rattle.c_common.proofs.handle.hand_out_made.Statement.{statement}
use Rattle.c_common.proofs.handle.hand_out_made.Code as code

module _ (T : RattleType) (L : Laws T) where
  abbrev E : box.Bx
  E =
      let Z : RattleType = arg (bare (layout heap.the_row)) no heap.the_row in
      record {
        row = T;
        laws = L;
        al = record {
          row = Z;
          laws = arg_laws (bare (layout heap.the_row)) no heap.the_row heap_laws.the_row_laws refl;
          g = allocator.ghosts;
          d = allocator.dict;
          drops = impl ("c_common::Destruct++none::drop" ∷ []) (tcons (layout Z) tnil) dnil;
        };
      }

module _ (T : RattleType) where
  -- nothing is said of what is made once it is given up
  spent : (x : (Made T).Denot) (f : Last ((Made T).exit no) x) → Holds (blank (left ((Made T).exit no) x f))
  spent (Ok made) f = tt
  spent (Err number) f = tt

  both : (Goes : (Made T).Denot → Type 1) → ((made : (Boxed T).Denot) → Goes (Ok made)) → ((number : ℕ) → Goes (Err number)) → (m : (Made T).Denot) → Goes m
  both Goes ok err (Ok made) = ok made
  both Goes ok err (Err number) = err number

pub hand_out_made_spec : {M : Type 1} → statement M
hand_out_made_spec 𝓤 𝓛 𝓜 𝓡 wired T Name L LN dT glue =
    let H = 𝓛.H in
    let 𝓣 = tables 𝓤 H 𝓜 𝓡 𝓡.env in
    let En = ended T Name dT in
    let c = clauses T Name dT 𝓛 𝓜.mem 𝓡.returns in
    let inst : Args = bounded (a_type ∷ a_type ∷ []) (T, (Name, tt)) (dcons dT dnil) in
    let fn : Fn = inst_fn inst code.function in
    let hs : Stays En.signature.params En.kept = (stay_dropped (plain (λ _. Made T)) no, (stay_ref (0 ∷ []) tt (plain (λ _. RawPtr)), tt)) in
    proved_at 𝓛 En hs c 𝓜 𝓡 (Goes-blank 𝓛 3 (plain (λ _. Made T)) no (λ κs x f. spent T x f), (Goes-ref 𝓛 3 0 tt (plain (λ _. RawPtr)), tt)) (#self inst) fn (code.unfolded 𝓤 H 𝓜 𝓡 wired (T, (Name, tt)) dT) (λ z are.
    let W = walk_of 𝓛 En hs c in
    let κs = z.0.0 in
    let qs = z.0.1 in
    let At : (Made T).Denot → W.Ghost = λ m. ((κs, qs, z.0.2, (m, z.0.3.1), z.0.4), z.1) in
    let Goes : (Made T).Denot → Type 1 = λ m. ent 𝓤 (W.pre (At m)) (WpFn 𝓤 H 𝓣.C 𝓣.Λ fn (W.args (At m)) (W.post (At m))) in
    let Post : Val → SProp 𝓤 = W.post z in
    let r = z.0.3.1.0 in
    let b = r.ref_ptr.0 in
    let o = r.ref_ptr.1 in
    let κ = κs.0 in
    let others = ‵ (flft κs.1.0 qs.1.0) ⊛ ‵ (flft κs.1.1.0 qs.1.1.0) ⊛ ‵ ftrue in
    let body : Body = head fn.body in
    let Start : (Made T).Denot → List (Item 𝓤) = λ m. ((‵ (flft κ qs.0) ⊛ others) ⊛ ‵ (owns (types_at En.signature.params κs) (m, z.0.3.1) z.0.4))
    ∷ (raw (fact 𝓤 (κs.1.0 ⊑ T.lives)) ⊛ raw (fact 𝓤 (κs.1.1.0 ⊑ Name.lives)) ⊛ ‵ ftrue) ∷ [] in
    let ok : (x : (Boxed T).Denot) → Goes (Ok x) = λ x.
    let Post : Val → SProp 𝓤 = W.post (At (Ok x)) in
    let Run : List Val → SProp 𝓤 = λ us. WpFn 𝓤 H 𝓣.C 𝓣.Λ fn us Post in
    let O = out.ended T Name dT in
    let G = triple_of 𝓛 O.signature (out.spec T Name dT 𝓛 𝓜.mem 𝓡.returns) in
    let known = out_met 𝓤 𝓛 𝓜 𝓡 (code.calls-c_common::handle::hand_out 𝓡.env wired) T Name L LN dT glue in
    qed 𝓛 (Start (Ok x)) ∵
    move ! (1 ∷ []) $ split3 ! $ heard ! (κs.1.0 ⊑ T.lives) (λ lives. heard ! (κs.1.1.0 ⊑ Name.lives) (λ named. drop ! $ split ! $ split ! $
    move ! (2 ∷ []) $ fsplit ! $ fpick ! (λ us. fsplit ! $ feq_l ! (λ e0. fpick ! (λ vss. fsplit ! $ feq_l ! (λ e1. fsplit ! $
    move ! (2 ∷ []) $ fsplit ! $ fsplit3 ! $ feq_l ! (λ e2. keep ! (3 ∷ 0 ∷ 1 ∷ 5 ∷ 6 ∷ []) $
    -- [what the box owns; the borrow, in two parts; its token; the other tokens]
    use1 𝓛 (‵ ((box.B (E T L)).own_val x vss.0)) (id⊢ 𝓤 _) $ box_out (E T L) ! x vss.0 (λ b' o' h e ws fits. box_in (E T L) ! x b' o' x.value e refl $
    let w : Val = box.word (E T L) h b' o' in
    let typed = box.box_typed (E T L) h b' o' fits in
    let made : Val = live 0 (of_list (w ∷ [])) in
    let ms : z.0.4.0 ≡ made ∷ [] = e0 ∙ ap (λ (vs : List Val). live 0 (of_list vs) ∷ []) (e1 ∙ ap (λ (vs : List Val). vs ++ []) ws) in
    let y : G.Ghost = (((κs.1.0, (κs.1.1.0, tt)), (qs.1.0, (qs.1.1.0, tt)), tt, (x, tt), (w ∷ [], tt)), tt) in
    suffices ! (Run (made ∷ vptr b o ∷ [])) (subst (λ (vs : List Val). ent 𝓤 (Run (made ∷ vptr b o ∷ [])) (Run vs)) (sym (λ i. ms i ++ (e2 i ++ []))) (id⊢ 𝓤 _)) $
    enter ! 𝓣.C 𝓣.Λ fn (made ∷ vptr b o ∷ []) Post $ alloc_all ! (λ l. pass_all ! refl ((and_tt _ typed.0, (record { fits = lit< tt }, (typed.1, tt))), ((tt, tt), tt)) $
    let Ev = env fn.locals l in
    first ! $ switches_on ! (get_tag ! (vrt ! refl (fld ! refl (stop !))) (whole !)) $ exec ! 𝓣.C 𝓣.Λ Ev (arm_body 0 body) (any_q (after_seq 𝓤 H (Wp 𝓤 H 𝓣.C 𝓣.Λ Ev (after 1 fn.body) (at_return 𝓤 H Ev Post)) (at_return 𝓤 H Ev Post))) $
    sets ! (of_opd ! (get_in ! (vrt ! refl (fld ! refl (stop !))) (in_variant ! 0 0 refl refl (whole !)))) refl typed $ sets ! (of_opd ! (get ! refl)) refl typed $
    -- hand_out(made)
    nothing ! $ move ! (1 ∷ 0 ∷ []) $ fjoin ! $ move ! (4 ∷ 0 ∷ []) $ join ! $
    nothing ! $ use0 𝓛 (raw (fact 𝓤 (κs.1.1.0 ⊑ Name.lives))) (fact_i 𝓤 (κs.1.1.0 ⊑ Name.lives) (emp 𝓤) named) $ join ! $
    use0 𝓛 (raw (fact 𝓤 (κs.1.0 ⊑ T.lives))) (fact_i 𝓤 (κs.1.0 ⊑ T.lives) (emp 𝓤) lives) $ join ! $ move ! (1 ∷ 0 ∷ []) $ join ! $
    use1 𝓛 (raw (G.pre y)) (id⊢ 𝓤 _) $
    calls_at ! (framed 𝓤 H 𝓜 𝓣) G known y (and_then ! (get ! refl) (no_more !)) (λ u.
    use1 𝓛 (later (some (λ (p : Ptr). (others ⊛ ‵ (RawPtr.own_val p (u ∷ []))) ⊛ some (λ (end : Lasts O y.0.0 y.0.3).
    ‵ (lasts O y.0.0 y.0.3 end) ⊛ ‵ (lies_at (param 0 T) full_share p x.value))))) (id⊢ 𝓤 _) $
    await ! tt $ pick ! (λ p. split ! $ move ! (1 ∷ []) $ pick ! (λ end. split ! $ drop ! $ move ! (1 ∷ []) $ split ! $ move ! (1 ∷ []) $ feq_l ! (λ eu.
    let good = ((rawptr_Lawful 𝓛).typed p _ refl).0 in
    lands_as ! (ap only eu) refl good $
    -- [the other tokens; what is handed out; the borrow, in two parts; its token]
    move ! (2 ∷ 3 ∷ 4 ∷ []) $ opens ! tt RawPtr b o (λ us'. move ! (1 ∷ []) $ feq_l ! (λ e3.
    rewrite ! 0 (λ (vs : List Val). ‵ (cell_at full_share RawPtr.mir vs b o)) e3 refl $
    assigns ! (of_opd ! (get ! refl)) (through ! refl (stop !)) (store ! 0 refl good) $
    feq_i ! (List Val) (ptr_val p ∷ []) (ptr_val p ∷ []) refl $ move ! (1 ∷ 0 ∷ []) $ closes ! tt RawPtr p (ptr_val p ∷ []) b o $
    sets_last ! (of_opd ! (lit ! tt)) refl (tt, record { fits = lit< tt }) $ exec ! 𝓣.C 𝓣.Λ Ev (after 1 fn.body) (at_ret Ev Post) $
    sets ! (of_opd ! (get ! refl)) refl (tt, record { fits = lit< tt }) $ returns ! (look_at ! 0 refl) $ free_all ! refl $
    -- [the borrow, in two parts; the tokens; what is handed out]
    fjoin ! $ feq_i ! (List Val) z.0.4.1.0 (vptr b o ∷ []) e2 $ fjoin ! $ nothing ! $ move ! (1 ∷ 0 ∷ []) $ fjoin ! $ nothing ! $ fjoin ! $
    move ! (1 ∷ 2 ∷ []) $ join ! $ owned ! u8 _ (uint_Makes 𝓛 w8) 0 _ (refl, lit< tt) $ move ! (3 ∷ []) $
    use0 𝓛 (raw (fact 𝓤 ⊤)) (fact_i 𝓤 ⊤ (emp 𝓤) tt) $ join ! $
    use0 𝓛 (raw (fact 𝓤 (0 ≡ 0))) (fact_i 𝓤 (0 ≡ 0) (emp 𝓤) refl) $ join ! $ keep ! (2 ∷ 3 ∷ 1 ∷ 0 ∷ []) $
    by ! (leaves 𝓛 En hs c (At (Ok x)) (vint w8 0) 0 ((tt, tt), (p, tt)) (tt, (tt, tt)))))))))))))))))) in
    let err : (n : ℕ) → Goes (Err n) = λ n.
    let Post : Val → SProp 𝓤 = W.post (At (Err n)) in
    let Run : List Val → SProp 𝓤 = λ us. WpFn 𝓤 H 𝓣.C 𝓣.Λ fn us Post in
    qed 𝓛 (Start (Err n)) ∵
    keep ! (0 ∷ []) $ split ! $ split ! $ move ! (2 ∷ []) $ fsplit ! $ fpick ! (λ us. fsplit ! $ feq_l ! (λ e0. fpick ! (λ vss. fsplit ! $ feq_l ! (λ e1. fsplit ! $
    move ! (2 ∷ []) $ fsplit ! $ fsplit3 ! $ feq_l ! (λ e2. keep ! (3 ∷ 0 ∷ 1 ∷ 5 ∷ 6 ∷ []) $ peeks ! u8 (Is u8) (shows 𝓛 u8) n vss.0 (λ is.
    -- [what the number owns; the borrow, in two parts; its token; the other tokens]
    let w : Val = vint w8 n in
    let ws : vss.0 ≡ w ∷ [] = uint_Tells w8 n vss.0 is in
    let good = ((uint_Lawful 𝓛 w8).typed n (w ∷ []) (subst (Is u8 n) ws is)).0 in
    let told : Val = live 1 (of_list (w ∷ [])) in
    let ms : z.0.4.0 ≡ told ∷ [] = e0 ∙ ap (λ (vs : List Val). live 1 (of_list vs) ∷ []) (e1 ∙ ap (λ (vs : List Val). vs ++ []) ws) in
    rewrite ! 0 (λ (vs : List Val). ‵ (u8.own_val n vs)) ws refl $
    suffices ! (Run (told ∷ vptr b o ∷ [])) (subst (λ (vs : List Val). ent 𝓤 (Run (told ∷ vptr b o ∷ [])) (Run vs)) (sym (λ i. ms i ++ (e2 i ++ []))) (id⊢ 𝓤 _)) $
    enter ! 𝓣.C 𝓣.Λ fn (told ∷ vptr b o ∷ []) Post $ alloc_all ! (λ l. pass_all ! refl ((tt, (record { fits = lit< tt }, (good.1, tt))), ((tt, tt), tt)) $
    let Ev = env fn.locals l in
    first ! $ switches_on ! (get_tag ! (vrt ! refl (fld ! refl (stop !))) (whole !)) $ exec ! 𝓣.C 𝓣.Λ Ev (arm_body 1 body) (any_q (after_seq 𝓤 H (Wp 𝓤 H 𝓣.C 𝓣.Λ Ev (after 1 fn.body) (at_return 𝓤 H Ev Post)) (at_return 𝓤 H Ev Post))) $
    sets ! (of_opd ! (get_in ! (vrt ! refl (fld ! refl (stop !))) (in_variant ! 1 0 refl refl (whole !)))) refl good $
    sets_last ! (of_opd ! (get ! refl)) refl good $ exec ! 𝓣.C 𝓣.Λ Ev (after 1 fn.body) (at_ret Ev Post) $
    sets ! (of_opd ! (get ! refl)) refl good $ returns ! (look_at ! 0 refl) $ free_all ! refl $
    -- [the result; the borrow, in two parts; the tokens]
    move ! (1 ∷ 2 ∷ []) $ fjoin ! $ feq_i ! (List Val) z.0.4.1.0 (vptr b o ∷ []) e2 $ fjoin ! $ nothing ! $ move ! (1 ∷ 0 ∷ []) $ fjoin ! $ nothing ! $ fjoin ! $
    move ! (2 ∷ 3 ∷ []) $ join ! $ nothing ! $
    use0 𝓛 (raw (fact 𝓤 (r.now ≡ r.now))) (fact_i 𝓤 (r.now ≡ r.now) (emp 𝓤) refl) $ join ! $
    use0 𝓛 (raw (fact 𝓤 (n ≡ n))) (fact_i 𝓤 (n ≡ n) (emp 𝓤) refl) $ join ! $ keep ! (1 ∷ 2 ∷ 3 ∷ 0 ∷ []) $
    by ! (leaves 𝓛 En hs c (At (Err n)) (vint w8 n) n (tt, (r.now, tt)) (tt, (tt, tt)))))))))) in
    both T Goes ok err z.0.3.0)
