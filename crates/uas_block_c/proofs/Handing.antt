-- The making of a handle of a record of options for C, once for every type R behind one, every name N of it in C and every such record: the code of
-- an export that makes a box and hands it out by `hand_out_made`, and that it meets the export's contract, where what makes the box meets its own.
use Rattle.std.proofs.Common.{◌≡◌, ℕ, ◌<◌, [], ◌∷◌, Option, true, refl, sym, subst, w8}
use Rattle.std.specs.Prelude.{IfErr, IfOk}
use mir.Syntax.{Args, Callee, Dict, Fn, a_type, dcons, dnil, method, no_args}
use mir.Syntax.{named, erased, imm, mut, ty_int, ty_ptr, ty_ref, deref, place, copy, addr_of, seq, assign, call, return}
use mir.Val.{Val}
use base.Fraction.{full_share}
use base.Logic.{ent, emp, sep, id⊢}
use base.Fml.{Lft, ftrue, flft}
use prog.Model.{Model}
use prog.Routine.{◌≼⁺◌}
use prog.Wired.{Wired}
use prog.Wp.{Closed, WpFn}
use seplogic.Ra.Ura.{Ura}
use contract.BorrowLft.{◌⊑◌, ⊑_static}
use contract.Monad.{fact, fact_i}
use contract.Running.{Running, tables}
use types.Logic.{Logic, sem}
use types.Kit.{‵, raw, ◌⊛◌, some, later, ◌$◌, ◌∵◌, !, qed, by, move, keep, drop, split, split3, join, group, fsplit, pick, use0, use1, await}
use types.Run.{stop, addr, no_more, and_then, returns, enter}
use types.ByLocal.{alloc_all, pass_all, free_all, look_at, get, through, sets, lands_as}
use denote.Exit.{yes}
use denote.RattleType.{RattleType, owns}
use denote.Laws.{Is, shows}
use denote.Param.{bounded, layout, param}
use denote.Param.Laws.{Laws}
use denote.Plain.{uint_Lawful}
use denote.Signature.{types_at, plain}
use denote.Builtin.{One, RawPtr, RefMutOf, RefOf, u8}
use denote.Ref.{mut_vals, shr_vals, shr_Tells}
use denote.Steps.{nothing, only, heard, peeks}
use denote.Triple.Entry.{Vals}
use denote.Triple.Spec.{Meets, triple_of}
use denote.Triple.Statement.{Triple}
use denote.Triple.Call.{calls_at}
use denote.Triple.Clauses.{Clauses, Ended, closing, lasts, Lasts}
use denote.Triple.Walked.{Stays, stay_dropped, Goes-dropped, gave_ref, Goes-gave_ref, walk_of}
use denote.Triple.Table.{framed}
use Rattle.std.proofs.raw_atomic.Walks.{proved_at, leaves}
use Rattle.std.specs.contracts.alloc.Global as heap
use Rattle.std.proofs.alloc.Global.TheLaws as heap_laws
use Rattle.c_common.specs.HandedOut.{handed_if_made, handed_out, made_number}
use Rattle.c_common.specs.contracts.hand_out_made as over
use Rattle.c_common.specs.contracts.hand_out_made.Key.{name as #hand_out}
use Rattle.c_common.proofs.hand_out_made.Met.{met as over_met}
use Rattle.c_common.proofs.hand_out_made.Symbol.{code as over_code}
use Rattle.c_common.proofs.Behind.{Known, known_laws}
use Rattle.c_common.proofs.ExportCode.{one_local}
use Rattle.c_common.proofs.Given.{As, glue_of, letting_go, silent}
use Rattle.c_common.proofs.HandedOut.{Made, as_it_was, handed, made_laws, one_value}
use Rattle.uas_block_c.specs.Made.{tells}

-- a record of options as C has it, and their fault
pub record Asked : Type 1 where
  pub row : RattleType
  pub one : One row.mir
  pub fault : row.Denot → Option ℕ

-- what is made of them
abbrev pub MadeOf : Asked → RattleType → Type 1
MadeOf U R = U.row.Denot → R.Denot → Type 0

-- THE CODE

abbrev pub function : Asked → RattleType → Callee → Callee → Fn
function U R make over = record {
  lifetimes = 2;
  outlives = [];
  ty_params = [];
  givens = 0;
  params = 3;
  locals = one_local (ty_int w8) ∷ one_local (layout heap.the_row) ∷ one_local (ty_ref (named 0) imm (U.row.written.ty))
      ∷ one_local (ty_ref (named 1) mut ty_ptr) ∷ one_local (layout (Made (As R))) ∷ one_local (ty_ref erased mut ty_ptr) ∷ [];
  body = seq (call make (copy (place 1 []) ∷ copy (place 2 []) ∷ []) (place 4 []))
      (seq (assign (place 5 []) (addr_of (place 3 (deref ty_ptr ∷ []))))
      (seq (call over (copy (place 4 []) ∷ copy (place 5 []) ∷ []) (place 0 [])) return));
}

-- THE CONTRACT OF WHAT MAKES THE BOX

abbrev pub made_ended : Asked → RattleType → Ended
made_ended U R = record {
  signature = record {
    lifetimes = 1;
    outlives = [];
    params = plain (λ κs. heap.the_row) ∷ RefOf (0 ∷ []) tt (plain (λ κs. U.row)) (λ κs. U.one) ∷ [];
    result = plain (λ κs. Made (As R));
  };
  kept = (yes, (yes, tt));
}

-- what is made is that, else the fault is told, and it is not 0
abbrev pub made_clauses : (U : Asked) (R : RattleType) → MadeOf U R → {M : Type 1} {𝓤 : Ura M} (𝓛 : Logic 𝓤) → Clauses 𝓤 (made_ended U R)
made_clauses U R IsMade {𝓤 = 𝓤} 𝓛 κs args =
    let options = args.1.0.now in
    record {
      ghost = Unit {0};
      requires = λ ghost. emp 𝓤;
      ensures = λ ghost m end. sep 𝓤 (fact 𝓤 (IfOk m (λ made. IsMade options made.value)))
          (sep 𝓤 (fact 𝓤 (tells (made_number m) (U.fault options) ≡ true)) (fact 𝓤 (IfErr m (λ number. 0 < number))));
    }

-- THE CONTRACT OF THE EXPORT

abbrev pub ended : Asked → Ended
ended U = record {
  signature = record {
    lifetimes = 2;
    outlives = [];
    params = plain (λ κs. heap.the_row) ∷ RefOf (0 ∷ []) tt (plain (λ κs. U.row)) (λ κs. U.one)
        ∷ RefMutOf (1 ∷ []) tt (plain (λ κs. RawPtr)) (λ κs. tt) ∷ [];
    result = plain (λ κs. u8);
  };
  kept = (yes, (yes, (yes, tt)));
}

-- the fault is told, the pointer stays where there is one, and else what was made is handed out
abbrev pub clauses : (U : Asked) (R : RattleType) → MadeOf U R → {M : Type 1} {𝓤 : Ura M} (𝓛 : Logic 𝓤) → Clauses 𝓤 (ended U)
clauses U R IsMade {𝓤 = 𝓤} 𝓛 κs args =
    let options = args.1.0.now in
    record {
      ghost = Unit {0};
      requires = λ ghost. emp 𝓤;
      ensures = λ ghost r end. sep 𝓤 (fact 𝓤 (tells r (U.fault options) ≡ true))
          (sep 𝓤 (fact 𝓤 (0 < r → end.1.1.0.now ≡ args.1.1.0.now))
          (sem 𝓛 (handed_out (param 0 (As R)) (IsMade options) r end.1.1.0.now)));
    }

-- THE WALK

abbrev stayed : (U : Asked) → Stays (ended U).signature.params (ended U).kept
stayed U = (
  stay_dropped (plain (λ κs. heap.the_row)) yes,
  (
    stay_dropped (RefOf (0 ∷ []) tt (plain (λ κs. U.row)) (λ κs. U.one)) yes,
    (gave_ref (1 ∷ []) tt (plain (λ κs. RawPtr)), tt),
  ),
)

pub meets : (U : Asked) (R N : RattleType) (L : Laws (As R)) (IsMade : MadeOf U R) (dR : Dict) (make hands : Callee)
    → ((κ : Lft) → κ ⊑ R.lives) → ((κ : Lft) → κ ⊑ N.lives)
    → {M : Type 1} (𝓤 : Ura M) (𝓛 : Logic 𝓤) (𝓜 : Model 𝓤 𝓛.H) (𝓡 : Running 𝓤 𝓛.H 𝓜)
    → Meets 𝓛 (made_ended U R).signature ((tables 𝓤 𝓛.H 𝓜 𝓡 𝓡.env).C make) (closing 𝓛 (made_ended U R) (made_clauses U R IsMade 𝓛))
    → Triple 𝓤 ((tables 𝓤 𝓛.H 𝓜 𝓡 𝓡.env).C hands)
    (triple_of 𝓛 (over.signature (As R) (As N)) (over.spec (As R) (As N) dR 𝓛 𝓜.mem 𝓡.returns))
    → (export : Callee)
    → Closed 𝓤 𝓛.H (tables 𝓤 𝓛.H 𝓜 𝓡 𝓡.env).C (tables 𝓤 𝓛.H 𝓜 𝓡 𝓡.env).Λ export (function U R make hands)
    → Meets 𝓛 (ended U).signature ((tables 𝓤 𝓛.H 𝓜 𝓡 𝓡.env).C export) (closing 𝓛 (ended U) (clauses U R IsMade 𝓛))
meets U R N L IsMade dR make hands within name_within 𝓤 𝓛 𝓜 𝓡 known known' export closed =
    let H = 𝓛.H in
    let 𝓣 = tables 𝓤 H 𝓜 𝓡 𝓡.env in
    let c = clauses U R IsMade 𝓛 in
    let fn = function U R make hands in
    let T : RattleType = As R in
    proved_at 𝓛 (ended U) (stayed U) c 𝓜 𝓡 (
      Goes-dropped 𝓛 2 (plain (λ κs. heap.the_row)) yes (λ κs x f. refl),
      (
        Goes-dropped 𝓛 2 (RefOf (0 ∷ []) tt (plain (λ κs. U.row)) (λ κs. U.one)) yes (λ κs x f. refl),
        (Goes-gave_ref 𝓛 2 1 tt (plain (λ κs. RawPtr)), tt),
      ),
    ) export fn closed (λ z are.
    let W = walk_of 𝓛 (ended U) (stayed U) c in
    let κs = z.0.0 in let κ₀ = κs.0 in let κ₁ = κs.1.0 in
    let qs = z.0.1 in let q₀ = qs.0 in let q₁ = qs.1.0 in
    let a = z.0.3 in let alloc = a.0 in let options = a.1.0 in let r = a.1.1.0 in
    let vh : Val = only z.0.4.0 in
    let vss : Vals (ended U).signature κs = (vh ∷ [], (shr_vals options, (mut_vals r, tt))) in
    let eh : z.0.4.0 ≡ vh ∷ [] = one_value z.0.4.0 (heap_laws.the_row_laws.single alloc z.0.4.0 are.0) in
    let eo : z.0.4.1.0 ≡ shr_vals options = shr_Tells (named 0) κ₀ U.row options z.0.4.1.0 are.1.0 in
    let At : Vals (ended U).signature κs → W.Ghost = λ vss. ((κs, qs, z.0.2, a, vss), z.1) in
    let Goes : Vals (ended U).signature κs → Type 1 =
    λ vss. ent 𝓤 (W.pre (At vss)) (WpFn 𝓤 H 𝓣.C 𝓣.Λ fn (W.args (At vss)) (W.post (At vss))) in
    let z' : W.Ghost = At vss in
    subst Goes (sym (λ i. (eh i, (eo i, (are.1.1.0.0 i, tt))))) (
    let Is_made = IsMade options.now in
    let fault = U.fault options.now in
    let O = made_ended U R in
    let G = triple_of 𝓛 O.signature (closing 𝓛 O (made_clauses U R IsMade 𝓛)) in
    let y : G.Ghost = (
      ((κ₀, tt), (q₀, tt), tt, (alloc, (options, tt)), (vh ∷ [], (shr_vals options, tt))),
      tt,
    ) in
    let O' = over.ended T (As N) dR in
    let G' = triple_of 𝓛 O'.signature (over.spec T (As N) dR 𝓛 𝓜.mem 𝓡.returns) in
    let static = ‵ (flft [] full_share) in
    let kept₀ = ‵ (flft κ₀ q₀) ⊛ ‵ ftrue in
    let toks = ‵ (flft κ₁ q₁) ⊛ static ⊛ static ⊛ ‵ ftrue in
    let brought = ‵ (owns (types_at (ended U).signature.params κs) a vss) in
    qed 𝓛 (((‵ (flft κ₀ q₀) ⊛ ‵ (flft κ₁ q₁) ⊛ ‵ ftrue) ⊛ brought) ∷ ‵ ftrue ∷ []) ∵
    split ! $ split ! $ move ! (1 ∷ []) $ split ! $ move ! (3 ∷ []) $ fsplit ! $ move ! (1 ∷ []) $ fsplit ! $ move ! (1 ∷ []) $ fsplit ! $
    -- [the borrow; nothing; the options; the allocator; a token; nothing; a token; nothing]
    keep ! (3 ∷ 2 ∷ 1 ∷ 6 ∷ 5 ∷ 0 ∷ 4 ∷ []) $ group ! 3 $ move ! (1 ∷ 2 ∷ []) $ group ! 2 $ join ! $
    nothing ! $ move ! (1 ∷ 0 ∷ []) $ join ! $ use1 𝓛 (raw (G.pre y)) (id⊢ 𝓤 _) $
    enter ! 𝓣.C 𝓣.Λ fn (W.args z') (W.post z') $ alloc_all ! (λ l.
    pass_all ! refl (((heap_laws.the_row_laws.lawful 𝓛).typed alloc (vh ∷ []) (subst (Is heap.the_row alloc) eh are.0)).0, ((tt, tt), ((tt, tt), tt))) $
    calls_at ! (framed 𝓤 H 𝓜 𝓣) G known y (and_then ! (get ! refl) (and_then ! (get ! refl) (no_more !))) (λ u.
    use1 𝓛 (later (some (λ (m : (Made T).Denot). (kept₀ ⊛ ‵ ((Made T).own_val m (u ∷ []))) ⊛ some (λ (end : Lasts O y.0.0 y.0.3).
    ‵ (lasts O y.0.0 y.0.3 end) ⊛ raw (fact 𝓤 (IfOk m (λ made. Is_made made.value))) ⊛ raw (fact 𝓤 (tells (made_number m) fault ≡ true))
    ⊛ raw (fact 𝓤 (IfErr m (λ number. 0 < number))))))) (id⊢ 𝓤 _) $
    await ! tt $ pick ! (λ m. split ! $ move ! (1 ∷ []) $ pick ! (λ end. split3 ! $ drop ! $
    heard ! (IfOk m (λ made. Is_made made.value)) (λ is. split ! $
    heard ! (tells (made_number m) fault ≡ true) (λ told. heard ! (IfErr m (λ number. 0 < number)) (λ not_0. split ! $ move ! (1 ∷ []) $
    peeks ! (Made T) (Is (Made T)) (shows 𝓛 (Made T)) m (u ∷ []) (λ is_m.
    lands_as ! refl refl (((made_laws T L).lawful 𝓛).typed m _ is_m).0 $
    sets ! (addr ! (through ! refl (stop !))) refl (tt, tt) $
    -- [what was made; the options' token; the borrow; its token]
    move ! (0 ∷ 3 ∷ 2 ∷ 1 ∷ []) $ use0 𝓛 static (𝓛.lfts.lft-nil full_share) $ use0 𝓛 static (𝓛.lfts.lft-nil full_share) $ nothing ! $
    move ! (4 ∷ 1 ∷ 2 ∷ 0 ∷ []) $ group ! 4 $
    nothing ! $ move ! (2 ∷ 3 ∷ 0 ∷ []) $ group ! 3 $ move ! (1 ∷ 0 ∷ []) $ join ! $
    nothing ! $ use0 𝓛 (raw (fact 𝓤 ([] ⊑ N.lives))) (fact_i 𝓤 ([] ⊑ N.lives) (emp 𝓤) (name_within [])) $ join ! $
    use0 𝓛 (raw (fact 𝓤 ([] ⊑ R.lives))) (fact_i 𝓤 ([] ⊑ R.lives) (emp 𝓤) (within [])) $ join ! $ move ! (1 ∷ 0 ∷ []) $ join ! $
    let y' : G'.Ghost = (
      ((κ₁, ([], ([], tt))), (q₁, (full_share, (full_share, tt))), (⊑_static κ₁, tt), (m, (r, tt)), (u ∷ [], (mut_vals r, tt))),
      tt,
    ) in
    use1 𝓛 (raw (G'.pre y')) (id⊢ 𝓤 _) $
    calls_at ! (framed 𝓤 H 𝓜 𝓣) G' known' y' (and_then ! (get ! refl) (and_then ! (get ! refl) (no_more !))) (λ v.
    use1 𝓛 (later (some (λ (n : ℕ). (toks ⊛ ‵ (u8.own_val n (v ∷ []))) ⊛ some (λ (end : Lasts O' y'.0.0 y'.0.3). ‵ (lasts O' y'.0.0 y'.0.3 end)
    ⊛ raw (fact 𝓤 (n ≡ made_number m)) ⊛ raw (fact 𝓤 (IfErr m (λ _. end.1.0 ≡ r.now))) ⊛ ‵ (handed_if_made (param 0 T) m end.1.0))))) (id⊢ 𝓤 _) $
    await ! tt $ pick ! (λ n. split ! $ move ! (1 ∷ []) $ pick ! (λ end. split3 ! $ fsplit ! $ drop ! $ fsplit ! $ move ! (1 ∷ []) $ drop ! $
    move ! (1 ∷ 2 ∷ []) $ heard ! (n ≡ made_number m) (λ answer. split ! $ heard ! (IfErr m (λ _. end.1.0 ≡ r.now)) (λ kept.
    use1 𝓛 (‵ (handed_out (param 0 T) Is_made n end.1.0)) (handed (param 0 T) Is_made 𝓛 m n end.1.0 is not_0 answer) $
    move ! (2 ∷ []) $ split ! $ move ! (1 ∷ []) $ peeks ! u8 (Is u8) (shows 𝓛 u8) n (v ∷ []) (λ is_n.
    lands_as ! refl refl ((uint_Lawful 𝓛 w8).typed n _ is_n).0 $ returns ! (look_at ! 0 refl) $ free_all ! refl $
    -- [the answer; the tokens; what is handed out; the borrow; the options' token]
    move ! (1 ∷ []) $ split ! $ move ! (5 ∷ []) $ split ! $ keep ! (0 ∷ 2 ∷ 1 ∷ 6 ∷ 4 ∷ 5 ∷ []) $ group ! 3 $
    nothing ! $ move ! (2 ∷ 0 ∷ []) $ group ! 2 $ nothing ! $ nothing ! $ group ! 3 $ move ! (3 ∷ []) $
    use0 𝓛 (raw (fact 𝓤 (0 < n → end.1.0 ≡ r.now))) (fact_i 𝓤 (0 < n → end.1.0 ≡ r.now) (emp 𝓤) (as_it_was m n answer kept)) $ join ! $
    use0 𝓛 (raw (fact 𝓤 (tells n fault ≡ true))) (fact_i 𝓤 (tells n fault ≡ true) (emp 𝓤)
    (subst (λ (k : ℕ). tells k fault ≡ true) (sym answer) told)) $ join ! $ keep ! (2 ∷ 1 ∷ 3 ∷ 0 ∷ []) $
    by ! (leaves 𝓛 (ended U) (stayed U) c z' v n (tt, (tt, (end.1.0, tt))) (tt, (tt, (tt, tt))))))))))))))))))))

-- THE EXPORT OF A CRATE

abbrev pub given_types : Known → Known → Dict → Args
given_types type name drops = bounded (a_type ∷ a_type ∷ []) (As type.row, (As name.row, tt)) (dcons drops dnil)

-- The crate has a type behind the handle, made so by `make`, and let go by the `drop` under the name s.
pub exported : (U : Asked) (type name : Known) (IsMade : MadeOf U type.row) (drops : Dict)
    → {M : Type 1} (𝓤 : Ura M) (𝓛 : Logic 𝓤) (𝓜 : Model 𝓤 𝓛.H) (𝓡 : Running 𝓤 𝓛.H 𝓜) → Wired 𝓡.env over_code
    → (s : Callee) → 𝓡.env s ≼⁺ 𝓡.env (method drops 0 no_args) → Meets 𝓛 (letting_go type.row) (𝓡.run (𝓡.env s)) (silent type.row yes 𝓛)
    → (make : Callee)
    → Meets 𝓛 (made_ended U type.row).signature ((tables 𝓤 𝓛.H 𝓜 𝓡 𝓡.env).C make) (closing 𝓛 (made_ended U type.row) (made_clauses U type.row IsMade 𝓛))
    → (export : Callee)
    → Closed 𝓤 𝓛.H (tables 𝓤 𝓛.H 𝓜 𝓡 𝓡.env).C (tables 𝓤 𝓛.H 𝓜 𝓡 𝓡.env).Λ export
    (function U type.row make (#hand_out (given_types type name drops)))
    → Meets 𝓛 (ended U).signature ((tables 𝓤 𝓛.H 𝓜 𝓡 𝓡.env).C export) (closing 𝓛 (ended U) (clauses U type.row IsMade 𝓛))
exported U type name IsMade drops 𝓤 𝓛 𝓜 𝓡 wired s above dropped make made export closed =
    let glue = glue_of type.row yes drops 𝓤 𝓛 𝓜 𝓡 s above dropped in
    meets U type.row name.row (known_laws type) IsMade drops make (#hand_out (given_types type name drops)) type.within name.within
    𝓤 𝓛 𝓜 𝓡 made
    (over_met 𝓤 𝓛 𝓜 𝓡 wired (As type.row) (As name.row) (known_laws type) (known_laws name) drops glue) export closed
