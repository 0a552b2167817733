-- The making of a handle for C, once for every type R behind one and every name N of it in C: the code of an export that calls `open_handle` alone,
-- and that it meets the export's contract. The callee's lifetimes of R and N are 'static, which both outlive.
use Rattle.std.proofs.Common.{◌≡◌, ℕ, ◌<◌, [], ◌∷◌, true, refl, sym, subst, w8, w32}
use mir.Syntax.{Callee, Dict, Fn, method, no_args, named, erased, imm, mut, ty_int, ty_ptr, ty_ref, deref, place, copy, addr_of, seq, assign, call, return}
use mir.Val.{Val}
use base.Fraction.{full_share}
use base.Logic.{ent, emp, sep, id⊢}
use base.Fml.{Lft, ftrue, flft}
use prog.Model.{Model}
use prog.Routine.{◌≼⁺◌}
use prog.Wired.{Wired}
use prog.Wp.{Closed, WpFn}
use seplogic.Ra.Ura.{Ura}
use contract.BorrowLft.{◌⊑◌, ⊑_static}
use contract.Monad.{fact, fact_i}
use contract.Running.{Running, tables}
use types.Logic.{Logic, sem}
use types.Kit.{‵, raw, ◌⊛◌, some, later, ◌$◌, ◌∵◌, !, qed, by, move, keep, drop, split, split3, join, group, fsplit, pick, use0, use1, await}
use types.Run.{stop, addr, no_more, and_then, returns, enter}
use types.ByLocal.{alloc_all, pass_all, free_all, look_at, get, through, sets, lands_as}
use denote.Exit.{yes}
use denote.RattleType.{RattleType, owns}
use denote.Laws.{Is, shows}
use denote.Plain.{uint_Lawful}
use denote.Signature.{types_at, plain}
use denote.Builtin.{RawPtr, RefMutOf, u8, u32, SliceRefOf}
use denote.Ref.{mut_vals}
use denote.Slice.{shr_slice_vals, slice_ty}
use denote.Steps.{nothing, only, heard, peeks}
use denote.Param.{layout, param}
use denote.Triple.Entry.{Vals}
use denote.Triple.Spec.{Meets, triple_of}
use denote.Triple.Statement.{Triple}
use denote.Triple.Call.{calls_at}
use denote.Triple.Clauses.{Clauses, Ended, closing, lasts, Lasts}
use denote.Triple.Walked.{Stays, stay_dropped, Goes-dropped, gave_ref, Goes-gave_ref, walk_of}
use denote.Triple.Table.{framed}
use Rattle.std.proofs.raw_atomic.Walks.{proved_at, leaves}
use Rattle.std.specs.contracts.alloc.Global as heap
use Rattle.std.proofs.alloc.Global.TheLaws as heap_laws
use Rattle.c_common.specs.HandedOut.{handed_out}
use Rattle.c_common.specs.Units.{opened_units, units_told}
use Rattle.uas_profile.specs.declared.TheConstants.{MAX_CLIENTS}
use Rattle.c_common.specs.declared.units.OfUnits as of_units
use Rattle.c_common.specs.contracts.units.UasBadBlock as bad_block
use Rattle.c_common.specs.contracts.units.OfUnits.TheBound as bound
use Rattle.c_common.specs.contracts.units.open_handle as callee
use Rattle.c_common.specs.contracts.units.open_handle.Key.{name as #make}
use Rattle.c_common.proofs.units.open_handle.Symbol.{code as make_code}
use Rattle.c_common.proofs.open_handle.Met.{met}
use Rattle.c_common.proofs.Behind.{Behind, given_types, known_laws}
use Rattle.c_common.proofs.ExportCode.{one_local}
use Rattle.c_common.proofs.Given.{As, glue_of, letting_go, silent}
use Rattle.c_common.proofs.HandedOut.{one_value}

-- THE CODE

abbrev pub function : Callee → Fn
function make = record {
  lifetimes = 4;
  outlives = [];
  ty_params = [];
  givens = 0;
  params = 5;
  locals = one_local (ty_int w8) ∷ one_local (layout heap.the_row) ∷ one_local (slice_ty (ty_ref (named 0) imm (ty_int w32))) ∷ one_local (slice_ty (ty_ref (named 1) imm (ty_int w8))) ∷ one_local (slice_ty (ty_ref (named 2) imm (bad_block.the_row.written.ty))) ∷ one_local (ty_ref (named 3) mut ty_ptr) ∷ one_local (ty_ref erased mut ty_ptr) ∷ [];
  body = seq (assign (place 6 []) (addr_of (place 5 (deref ty_ptr ∷ [])))) (seq (call make (copy (place 1 []) ∷ copy (place 2 []) ∷ copy (place 3 []) ∷ copy (place 4 []) ∷ copy (place 6 []) ∷ []) (place 0 [])) return);
}

-- THE CONTRACT

abbrev pub ended : Ended
ended = record {
  signature = record {
    lifetimes = 4;
    outlives = [];
    params = plain (λ κs. heap.the_row) ∷ SliceRefOf (0 ∷ []) tt (plain (λ κs. u32)) (λ κs. tt) ∷ SliceRefOf (1 ∷ []) tt (plain (λ κs. u8)) (λ κs. tt) ∷ SliceRefOf (2 ∷ []) tt (plain (λ κs. bad_block.the_row)) (λ κs. tt) ∷ RefMutOf (3 ∷ []) tt (plain (λ κs. RawPtr)) (λ κs. tt) ∷ [];
    result = plain (λ κs. u8);
  };
  kept = (yes, (yes, (yes, (yes, (yes, tt)))));
}

-- the fault is told, the pointer stays where there is one, and else what was made of these units is handed out
abbrev pub clauses : (R : RattleType) → of_units.Ghosts R.Denot → {M : Type 1} {𝓤 : Ura M} (𝓛 : Logic 𝓤) → Clauses 𝓤 ended
clauses R units {𝓤 = 𝓤} 𝓛 κs args =
    let blocks = args.1.0 in
    let image = args.1.1.0 in
    let bad = args.1.1.1.0 in
    record {
      ghost = Unit {0};
      requires = λ ghost. emp 𝓤;
      ensures = λ ghost r end. sep 𝓤 (fact 𝓤 (units_told r MAX_CLIENTS blocks.now image.now bad.now ≡ true)) (sep 𝓤 (fact 𝓤 (0 < r → end.1.1.1.1.0.now ≡ args.1.1.1.1.0.now))
          (sem 𝓛 (handed_out (param 0 (As R)) (units.is_of (opened_units blocks.now image.now bad.now)) r end.1.1.1.1.0.now)));
    }

-- THE WALK

abbrev stayed : Stays (ended).signature.params (ended).kept
stayed = (stay_dropped (plain (λ κs. heap.the_row)) yes, (stay_dropped (SliceRefOf (0 ∷ []) tt (plain (λ κs. u32)) (λ κs. tt)) yes, (stay_dropped (SliceRefOf (1 ∷ []) tt (plain (λ κs. u8)) (λ κs. tt)) yes, (stay_dropped (SliceRefOf (2 ∷ []) tt (plain (λ κs. bad_block.the_row)) (λ κs. tt)) yes, (gave_ref (3 ∷ []) tt (plain (λ κs. RawPtr)), tt)))))

pub meets : (R N : RattleType) (units : of_units.Ghosts R.Denot) (dU dR : Dict) (make : Callee) → ((κ : Lft) → κ ⊑ R.lives) → ((κ : Lft) → κ ⊑ N.lives)
    → {M : Type 1} (𝓤 : Ura M) (𝓛 : Logic 𝓤) (𝓜 : Model 𝓤 𝓛.H) (𝓡 : Running 𝓤 𝓛.H 𝓜)
    → (export : Callee) → Closed 𝓤 𝓛.H (tables 𝓤 𝓛.H 𝓜 𝓡 𝓡.env).C (tables 𝓤 𝓛.H 𝓜 𝓡 𝓡.env).Λ export (function make)
    → Triple 𝓤 ((tables 𝓤 𝓛.H 𝓜 𝓡 𝓡.env).C make) (triple_of 𝓛 (callee.signature (As R) (As N)) (callee.spec (As R) (As N) units dU dR 𝓛 𝓜.mem 𝓡.returns))
    → Meets 𝓛 (ended).signature ((tables 𝓤 𝓛.H 𝓜 𝓡 𝓡.env).C export) (closing 𝓛 ended (clauses R units 𝓛))
meets R N units dU dR make within name_within 𝓤 𝓛 𝓜 𝓡 export closed known =
    let H = 𝓛.H in
    let 𝓣 = tables 𝓤 H 𝓜 𝓡 𝓡.env in
    let c = clauses R units 𝓛 in
    let fn = function make in
    proved_at 𝓛 ended stayed c 𝓜 𝓡 (Goes-dropped 𝓛 4 (plain (λ κs. heap.the_row)) yes (λ κs x f. refl), (Goes-dropped 𝓛 4 (SliceRefOf (0 ∷ []) tt (plain (λ κs. u32)) (λ κs. tt)) yes (λ κs x f. refl), (Goes-dropped 𝓛 4 (SliceRefOf (1 ∷ []) tt (plain (λ κs. u8)) (λ κs. tt)) yes (λ κs x f. refl), (Goes-dropped 𝓛 4 (SliceRefOf (2 ∷ []) tt (plain (λ κs. bad_block.the_row)) (λ κs. tt)) yes (λ κs x f. refl), (Goes-gave_ref 𝓛 4 3 tt (plain (λ κs. RawPtr)), tt)))))
    export fn closed (λ z are.
    let W = walk_of 𝓛 ended stayed c in
    let κs = z.0.0 in let κ₀ = κs.0 in let κ₁ = κs.1.0 in let κ₂ = κs.1.1.0 in let κ₃ = κs.1.1.1.0 in
    let qs = z.0.1 in let q₀ = qs.0 in let q₁ = qs.1.0 in let q₂ = qs.1.1.0 in let q₃ = qs.1.1.1.0 in
    let a = z.0.3 in let alloc = a.0 in let blocks = a.1.0 in let image = a.1.1.0 in let bad = a.1.1.1.0 in let r = a.1.1.1.1.0 in
    let vh : Val = only z.0.4.0 in
    let vss : Vals (ended).signature κs = (vh ∷ [], (shr_slice_vals blocks, (shr_slice_vals image, (shr_slice_vals bad, (mut_vals r, tt))))) in
    let eh : z.0.4.0 ≡ vh ∷ [] = one_value z.0.4.0 (heap_laws.the_row_laws.single alloc z.0.4.0 are.0) in
    let Goes : Vals (ended).signature κs → Type 1 = λ vss. let y : W.Ghost = ((κs, qs, z.0.2, a, vss), z.1) in ent 𝓤 (W.pre y) (WpFn 𝓤 H 𝓣.C 𝓣.Λ fn (W.args y) (W.post y)) in
    let z' : W.Ghost = ((κs, qs, z.0.2, a, vss), z.1) in
    subst Goes (sym (λ i. (eh i, (are.1.0.0.0 i, (are.1.1.0.0.0 i, (are.1.1.1.0.0.0 i, (are.1.1.1.1.0.0 i, tt))))))) (
    let us = opened_units blocks.now image.now bad.now in
    let O = callee.ended (As R) (As N) units dU dR in
    let G = triple_of 𝓛 O.signature (callee.spec (As R) (As N) units dU dR 𝓛 𝓜.mem 𝓡.returns) in
    let y : G.Ghost = (((κ₀, (κ₁, (κ₂, (κ₃, ([], ([], tt)))))), (q₀, (q₁, (q₂, (q₃, (full_share, (full_share, tt)))))), (⊑_static κ₃, tt), a, vss), tt) in
    let static = ‵ (flft [] full_share) in
    let toks = ‵ (flft κ₀ q₀) ⊛ ‵ (flft κ₁ q₁) ⊛ ‵ (flft κ₂ q₂) ⊛ ‵ (flft κ₃ q₃) ⊛ ‵ ftrue in
    let toks₁ = ‵ (flft κ₀ q₀) ⊛ ‵ (flft κ₁ q₁) ⊛ ‵ (flft κ₂ q₂) ⊛ ‵ (flft κ₃ q₃) ⊛ static ⊛ static ⊛ ‵ ftrue in
    qed 𝓛 ((toks ⊛ ‵ (owns (types_at (ended).signature.params κs) a vss)) ∷ ‵ ftrue ∷ []) ∵
    split ! $ split ! $ move ! (1 ∷ []) $ split ! $ move ! (1 ∷ []) $ split ! $ move ! (1 ∷ []) $ split ! $
    use0 𝓛 static (𝓛.lfts.lft-nil full_share) $ use0 𝓛 static (𝓛.lfts.lft-nil full_share) $
    keep ! (6 ∷ 5 ∷ 4 ∷ 2 ∷ 0 ∷ 1 ∷ 3 ∷ 7 ∷ []) $ group ! 7 $ join ! $
    nothing ! $ use0 𝓛 (raw (fact 𝓤 ([] ⊑ N.lives))) (fact_i 𝓤 ([] ⊑ N.lives) (emp 𝓤) (name_within [])) $ join ! $
    use0 𝓛 (raw (fact 𝓤 ([] ⊑ R.lives))) (fact_i 𝓤 ([] ⊑ R.lives) (emp 𝓤) (within [])) $ join ! $ move ! (1 ∷ 0 ∷ []) $ join ! $ use1 𝓛 (raw (G.pre y)) (id⊢ 𝓤 _) $
    enter ! 𝓣.C 𝓣.Λ fn (W.args z') (W.post z') $ alloc_all ! (λ l.
    pass_all ! refl (((heap_laws.the_row_laws.lawful 𝓛).typed alloc (vh ∷ []) (subst (Is heap.the_row alloc) eh are.0)).0, ((tt, (tt, (record { fits = are.1.0.0.1.0 }, tt))), ((tt, (tt, (record { fits = are.1.1.0.0.1.0 }, tt))), ((tt, (tt, (record { fits = are.1.1.1.0.0.1.0 }, tt))), ((tt, tt), tt))))) $
    sets ! (addr ! (through ! refl (stop !))) refl (tt, tt) $
    calls_at ! (framed 𝓤 H 𝓜 𝓣) G known y (and_then ! (get ! refl) (and_then ! (get ! refl) (and_then ! (get ! refl) (and_then ! (get ! refl) (and_then ! (get ! refl) (no_more !)))))) (λ v.
    use1 𝓛 (later (some (λ (n : ℕ). (toks₁ ⊛ ‵ (u8.own_val n (v ∷ []))) ⊛ some (λ (end : Lasts O y.0.0 y.0.3). ‵ (lasts O y.0.0 y.0.3 end) ⊛ raw (fact 𝓤 (units_told n MAX_CLIENTS blocks.now image.now bad.now ≡ true))
    ⊛ raw (fact 𝓤 (0 < n → end.1.1.1.1.0 ≡ r.now)) ⊛ ‵ (handed_out (param 0 (As R)) (units.is_of us) n end.1.1.1.1.0))))) (id⊢ 𝓤 _) $
    await ! tt $ pick ! (λ n. split ! $ move ! (1 ∷ []) $ pick ! (λ end. split3 ! $ fsplit ! $ drop ! $ fsplit ! $ drop ! $ fsplit ! $ drop ! $ fsplit ! $ drop ! $ fsplit ! $ move ! (1 ∷ []) $ drop ! $ move ! (1 ∷ 2 ∷ []) $
    heard ! (units_told n MAX_CLIENTS blocks.now image.now bad.now ≡ true) (λ told. split ! $ heard ! (0 < n → end.1.1.1.1.0 ≡ r.now) (λ refused.
    move ! (2 ∷ []) $ split ! $ move ! (1 ∷ []) $ peeks ! u8 (Is u8) (shows 𝓛 u8) n (v ∷ []) (λ is_n. lands_as ! refl refl ((uint_Lawful 𝓛 w8).typed n _ is_n).0 $
    returns ! (look_at ! 0 refl) $ free_all ! refl $
    -- [the answer; the tokens; what is handed out; the borrow]
    move ! (1 ∷ []) $ split ! $ move ! (1 ∷ []) $ split ! $ move ! (1 ∷ []) $ split ! $ move ! (1 ∷ []) $ split ! $
    keep ! (4 ∷ 3 ∷ 2 ∷ 0 ∷ 7 ∷ 5 ∷ 6 ∷ []) $ nothing ! $ move ! (1 ∷ 2 ∷ 3 ∷ 4 ∷ 0 ∷ []) $ group ! 5 $
    nothing ! $ move ! (2 ∷ 0 ∷ []) $ group ! 2 $ nothing ! $ nothing ! $ nothing ! $ nothing ! $ group ! 5 $ move ! (3 ∷ []) $
    use0 𝓛 (raw (fact 𝓤 (0 < n → end.1.1.1.1.0 ≡ r.now))) (fact_i 𝓤 (0 < n → end.1.1.1.1.0 ≡ r.now) (emp 𝓤) refused) $ join ! $
    use0 𝓛 (raw (fact 𝓤 (units_told n MAX_CLIENTS blocks.now image.now bad.now ≡ true))) (fact_i 𝓤 (units_told n MAX_CLIENTS blocks.now image.now bad.now ≡ true) (emp 𝓤) told) $ join ! $ keep ! (2 ∷ 1 ∷ 3 ∷ 0 ∷ []) $
    by ! (leaves 𝓛 ended stayed c z' v n (tt, (tt, (tt, (tt, (end.1.1.1.1.0, tt))))) (tt, (tt, (tt, (tt, (tt, tt)))))))))))))))

-- THE EXPORT OF A CRATE

-- The crate has a type behind the handle, made of units as its trait says, and let go by the `drop` under the name s.
pub exported : (b : Behind) {M : Type 1} (𝓤 : Ura M) (𝓛 : Logic 𝓤) (𝓜 : Model 𝓤 𝓛.H) (𝓡 : Running 𝓤 𝓛.H 𝓜) → Wired 𝓡.env make_code
    → bound.Met 𝓛 𝓜 𝓡 𝓡.env (As b.type.row) b.units b.of_units
    → (s : Callee) → 𝓡.env s ≼⁺ 𝓡.env (method b.drop 0 no_args) → Meets 𝓛 (letting_go b.type.row) (𝓡.run (𝓡.env s)) (silent b.type.row yes 𝓛)
    → (export : Callee) → Closed 𝓤 𝓛.H (tables 𝓤 𝓛.H 𝓜 𝓡 𝓡.env).C (tables 𝓤 𝓛.H 𝓜 𝓡 𝓡.env).Λ export (function (#make (given_types b)))
    → Meets 𝓛 (ended).signature ((tables 𝓤 𝓛.H 𝓜 𝓡 𝓡.env).C export) (closing 𝓛 ended (clauses b.type.row b.units 𝓛))
exported b 𝓤 𝓛 𝓜 𝓡 wired made s above dropped export closed =
    let glue = glue_of b.type.row yes b.drop 𝓤 𝓛 𝓜 𝓡 s above dropped in
    meets b.type.row b.name.row b.units b.of_units b.drop (#make (given_types b)) b.type.within b.name.within 𝓤 𝓛 𝓜 𝓡 export closed
    (met 𝓤 𝓛 𝓜 𝓡 wired (As b.type.row) (As b.name.row) (known_laws b.type) (known_laws b.name) b.units b.of_units b.drop made glue)
