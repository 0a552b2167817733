-- A call of a handle over a record and a slice, once for every type T behind the handle, every record D and all elements E of a slice: what lies at
-- the handle's pointer is lent to a function, which is handed the record and the slice as they came.
use Rattle.std.proofs.Common.{ℕ, ◌^◌, ◌<◌, List, [], ◌∷◌, ◌++◌, length, refl, w8, MutBor}
use Rattle.std.proofs.raw_atomic.Walks.{proved}
use seplogic.Ra.Ura.{Ura}
use base.Fraction.{full_share}
use mir.Syntax.{Ty, Callee, Body, Fn, Local, Lifetime, named, erased, mut, ty_int, ty_ptr, ty_ref}
use mir.Syntax.{deref, field, place, copy, addr_of, aggregate, seq, assign, block, call, return}
use mir.Val.{Val, vptr}
use base.Logic.{SProp, ent, sep, ex, never_e, id⊢}
use base.Fml.{Lft, GName, Fml, Share, ftrue, flft, flent}
use prog.Model.{Model}
use prog.Wp.{Env, Calls, Loops, Closed, WpFn}
use types.Logic.{Logic, sem}
use contract.Monad.{fact}
use contract.Notation.{connectives}
use contract.Running.{Running, tables, tables_of}
use types.Kit.{‵, raw, ◌⊛◌, some, later, at_ret, ◌$◌, ◌∵◌, !, qed, by, move, keep, drop, use1, use3, split, join, pick, fsplit, fjoin}
use types.Kit.{⋆, suffices, frame, await, done, show}
use types.Tokens.{lft_new, lft_end}
use types.Part.{whole, sub}
use types.Run.{stop, fld, hop, from, addr, of_opd, and_then, no_more, first, blocks, exec, returns, enter}
use types.Part.{agg}
use types.SemTy.{Body as Borrowed}
use types.ByLocal.{alloc_all, pass_all, free_all, look_at, look_in_at, get, get_in, through, sets, sets_last, lands_as, env}
use sound.WpLaws.{FmC, fm_of}
use denote.Exit.{Kept, left, yes}
use denote.RattleType.{RattleType, owns}
use denote.Laws.{Is, shows}
use denote.Memory.{part_at, mem, lone}
use denote.Plain.{uint_Lawful}
use denote.Builtin.{u8}
use denote.Ref.{MutRef, mut_vals, mut_Tells}
use denote.Signature.{Slot, plain, mut_ref_to, mut_slice_of}
use denote.Slice.{MutSlice, slice_ty, mut_slice_vals, mut_slice_Tells}
use denote.Lend.{lends_ref, ref_back}
use denote.RawPtr.{Ptr, block_ptr, null_ptr, RawPtr, lies_at, rawptr_vals, rawptr_Tells}
use denote.Steps.{peeks, heard, nothing}
use denote.Triple.Statement.{Contract, Triple}
use denote.Triple.Call.{calls_at}
use denote.Triple.Clauses.{Ended, Clauses, Lasts, lasts, closing}
use denote.Triple.Entry.{on_entry}
use denote.Triple.Spec.{Meets, exits, triple_of}
use denote.Triple.Walked.{says, Stay, Stays, stay_none, walk_of, Goes-none, ends_at}
use Rattle.c_common.proofs.ExportCode.{copied, one_local}

-- THE CODE

abbrev reference : Lifetime → Ty → Local
reference name type = one_local (ty_ref name mut type)

-- The parameters are a handle, a record, and a slice. A `&mut` of what lies at the handle's pointer is what `serve` is called with.
module _ (T D E : RattleType) (serve : Callee) where
  abbrev called : Body
  called = seq (call serve (copy (place 4 []) ∷ copy (place 6 []) ∷ copy (place 7 []) ∷ []) (place 0 [])) return

  abbrev with_handle : Body
  with_handle = seq (copied 7 8) called

  abbrev pub function : Fn
  function = record {
    lifetimes = 2;
    outlives = [];
    ty_params = [];
    givens = 0;
    params = 3;
    locals =
        one_local (ty_int w8) ∷ one_local ty_ptr ∷ reference (named 0) D.written.ty
        ∷ one_local (slice_ty (ty_ref (named 1) mut E.written.ty))
        ∷ reference erased D.written.ty ∷ reference erased E.written.ty
        ∷ one_local (slice_ty (ty_ref erased mut E.written.ty))
        ∷ reference erased T.written.ty ∷ reference erased T.written.ty ∷ one_local ty_ptr ∷ one_local ty_ptr ∷ [];
    body =
        seq (assign (place 4 []) (addr_of (place 2 (deref (lone D.mir) ∷ []))))
        (seq (assign (place 5 []) (addr_of (place 3 (field 0 ∷ deref (lone E.mir) ∷ []))))
        (seq (assign (place 6 []) (aggregate (copy (place 5 []) ∷ copy (place 3 (field 1 ∷ [])) ∷ [])))
        (seq (block (seq (copied 9 1) (seq (copied 10 9) (assign (place 8 []) (addr_of (place 10 (deref (lone T.mir) ∷ [])))))))
        with_handle)));
  }

-- THE CONTRACTS

-- what a call makes of the handle, the record and the slice, and answers
abbrev pub Makes : RattleType → RattleType → RattleType → Type 1
Makes T D E = T.Denot → T.Denot → D.Denot → D.Denot → List E.Denot → List E.Denot → ℕ → Type 0

-- of the function that is called
abbrev pub served : RattleType → RattleType → RattleType → Ended
served T D E = record {
  signature = record {
    lifetimes = 3;
    outlives = [];
    params = mut_ref_to (0 ∷ []) tt (plain (λ κs. D)) ∷ mut_slice_of (1 ∷ []) tt (plain (λ κs. E))
        ∷ mut_ref_to (2 ∷ []) tt (plain (λ κs. T)) ∷ [];
    result = plain (λ κs. u8);
  };
  kept = (yes, (yes, (yes, tt)));
}

-- of the export
abbrev pub ended : RattleType → RattleType → Ended
ended D E = record {
  signature = record {
    lifetimes = 2;
    outlives = [];
    params = plain (λ κs. RawPtr) ∷ mut_ref_to (0 ∷ []) tt (plain (λ κs. D))
        ∷ mut_slice_of (1 ∷ []) tt (plain (λ κs. E)) ∷ [];
    result = plain (λ κs. u8);
  };
  kept = (yes, (yes, (yes, tt)));
}

-- a parameter that was handed on: what the callee left of it is had
abbrev stay_left : {n : ℕ} (s : Slot n) (k : Kept) → Stay s k
stay_left s k = record { fit = λ κs x f. Unit {0}; has = λ κs x f vs. left ((s.row κs).exit k) x f }

abbrev stayed : (D E : RattleType) → Stays (ended D E).signature.params (ended D E).kept
stayed D E = (
  stay_none (λ _. RawPtr) yes,
  (
    stay_left (mut_ref_to (0 ∷ []) tt (plain (λ κs. D))) yes,
    (stay_left (mut_slice_of (1 ∷ []) tt (plain (λ κs. E))) yes, tt),
  ),
)

module _ (T D E : RattleType) (makes : Makes T D E) {M : Type 1} {𝓤 : Ura M} (𝓛 : Logic 𝓤) where
  abbrev pub Of : Contract 𝓤
  Of = triple_of 𝓛 (served T D E).signature (λ κs args. record {
    ghost = Unit {0};
    requires = λ ghost. (connectives 𝓤).⊤ₛ;
    ensures = λ ghost r. exits 𝓛 (served T D E).signature (served T D E).kept κs args (λ end.
        fact 𝓤 (makes args.1.1.0.now end.1.1.0.now args.0.now end.0.now args.1.0.now end.1.0.now r));
  })

  abbrev pub clauses : Clauses 𝓤 (ended D E)
  clauses κs args = record {
    ghost = T.Denot;
    requires = λ had. sem 𝓛 (lies_at T full_share args.0 had);
    ensures = λ had r end. ex 𝓤 (λ (now : T.Denot). sep 𝓤 (sem 𝓛 (lies_at T full_share args.0 now))
        (fact 𝓤 (makes had now args.1.0.now end.1.0.now args.1.1.0.now end.1.1.0.now r)));
  }

-- THE WALK

module _ (T D E : RattleType) (serve : Callee) (makes : Makes T D E) {M : Type 1} {𝓤 : Ura M} (𝓛 : Logic 𝓤)
    (C : Calls 𝓤 𝓛.H) (Λ : Loops 𝓤 𝓛.H) (fm : FmC 𝓤 𝓛.H 𝓛.laws C)
    (known : Triple 𝓤 (C serve) (Of T D E makes 𝓛)) (κ₀ κ₁ : Lft) (q₀ q₁ : Share) (x : MutBor D.Denot) (y : MutBor (List E.Denot)) (value : T.Denot) where
  open 𝓛 use {H}

  abbrev Passed : Type 0
  Passed = List Val × (List Val × (List Val × Unit {0}))

  abbrev passed : Ptr → Passed
  passed p = (rawptr_vals p, (mut_vals x, (mut_slice_vals y, tt)))

  abbrev Entry : Ptr → SProp 𝓤
  Entry p = on_entry 𝓛 (ended D E).signature (κ₀, (κ₁, tt)) (q₀, (q₁, tt)) (p, (x, (y, tt))) (passed p)

  module _ (within : Unit {0}) where
    abbrev bound : Ptr → (walk_of 𝓛 (ended D E) (stayed D E) (clauses T D E makes 𝓛)).Ghost
    bound p = (((κ₀, (κ₁, tt)), (q₀, (q₁, tt)), within, (p, (x, (y, tt))), passed p), value)

    abbrev Post : Ptr → Val → SProp 𝓤
    Post p = (walk_of 𝓛 (ended D E) (stayed D E) (clauses T D E makes 𝓛)).post (bound p)

    abbrev Runs : Ptr → SProp 𝓤
    Runs p = WpFn 𝓤 H C Λ (function T D E serve) (rawptr_vals p ++ (mut_vals x ++ (mut_slice_vals y ++ []))) (Post p)

    abbrev door_left : D.Denot → Fml
    door_left w = left ((MutRef (named 0) κ₀ D).exit yes) x w

    abbrev slice_left : List E.Denot → Fml
    slice_left w = left ((MutSlice (named 1) κ₁ E).exit yes) y w

    module _ (b o : ℕ) where
      abbrev p : Ptr
      p = block_ptr b o

      abbrev At : T.Denot → Fml
      At v = part_at T full_share v b o

      answered : (r : ℕ) (v : Val) (now : T.Denot) (door : D.Denot) (slice : List E.Denot) → makes value now x.now door y.now slice r
          → ent 𝓤 (⋆ 𝓛 (‵ (RawPtr.own_val p (rawptr_vals p)) ∷ ‵ (door_left door) ∷ ‵ (slice_left slice) ∷ ‵ (At now)
          ∷ ‵ (flft κ₀ q₀) ∷ ‵ (flft κ₁ q₁) ∷ ‵ (u8.own_val r (v ∷ [])) ∷ [])) (Post p v)
      answered r v now door slice same =
          qed 𝓛 (‵ (RawPtr.own_val p (rawptr_vals p)) ∷ ‵ (door_left door) ∷ ‵ (slice_left slice) ∷ ‵ (At now)
          ∷ ‵ (flft κ₀ q₀) ∷ ‵ (flft κ₁ q₁) ∷ ‵ (u8.own_val r (v ∷ [])) ∷ []) ∵
          suffices ! _ (ends_at 𝓛 (ended D E) (stayed D E) (clauses T D E makes 𝓛) (bound p) v r (tt, (door, (slice, tt))) (tt, (tt, (tt, tt)))) $
          -- [what is left of the parameters with the result; the tokens]
          nothing ! $ move ! (3 ∷ 0 ∷ []) $ fjoin ! $ move ! (2 ∷ 0 ∷ []) $ fjoin ! $ move ! (1 ∷ 0 ∷ []) $ fjoin ! $ move ! (0 ∷ 4 ∷ []) $ join ! $
          nothing ! $ move ! (4 ∷ 0 ∷ []) $ join ! $ move ! (3 ∷ 0 ∷ []) $ join ! $ join ! $ frame ! $
          show ! (λ (z : T.Denot). sep 𝓤 (sem 𝓛 (lies_at T full_share p z)) (fact 𝓤 (makes value z x.now door y.now slice r))) now $
          says ! same $ done !

      walk : length y.now < 2 ^ 64 → ent 𝓤 (sep 𝓤 (Entry p) (sem 𝓛 (At value))) (Runs p)
      walk count =
          qed 𝓛 (((‵ (flft κ₀ q₀) ⊛ (‵ (flft κ₁ q₁) ⊛ ‵ ftrue)) ⊛ ‵ (owns (RawPtr ∷ MutRef (named 0) κ₀ D ∷ MutSlice (named 1) κ₁ E ∷ [])
          (p, (x, (y, tt))) (passed p))) ∷ ‵ (At value) ∷ []) ∵
          split ! $
          enter ! C Λ (function T D E serve) (rawptr_vals p ++ (mut_vals x ++ (mut_slice_vals y ++ []))) _ $
          alloc_all ! (λ l. pass_all ! refl ((tt, tt), ((tt, tt), ((tt, (tt, (record { fits = count }, tt))), tt))) $
          let En : Env 𝓤 H = env (function T D E serve).locals l in
          split ! $ move ! (1 ∷ []) $ split ! $ move ! (1 ∷ []) $ drop ! $
          move ! (2 ∷ []) $ fsplit ! $ move ! (1 ∷ []) $ fsplit ! $ move ! (1 ∷ []) $ fsplit ! $ move ! (1 ∷ []) $ drop ! $
          -- [the slice; the record; the pointer; the two tokens; the value]
          sets ! (addr ! (through ! refl (stop !))) refl (tt, tt) $
          sets ! (addr ! (from ! (fld ! refl (hop ! (look_in_at ! 3 (sub ! 0 refl (whole !))) (stop !))))) refl (tt, tt) $
          sets ! (agg ! (and_then ! (get ! refl) (and_then ! (get_in ! (fld ! refl (stop !)) (sub ! 1 refl (whole !))) (no_more !)))) refl
          (tt, (tt, (record { fits = count }, tt))) $
          first ! $ blocks ! $ sets ! (of_opd ! (get ! refl)) refl (tt, tt) $ sets ! (of_opd ! (get ! refl)) refl (tt, tt) $
          sets_last ! (addr ! (through ! refl (stop !))) refl (tt, tt) $
          exec ! C Λ En (with_handle T D E serve) (at_ret En (Post p)) $ sets ! (of_opd ! (get ! refl)) refl (tt, tt) $
          -- what lies at the pointer is lent
          lft_new ! tt (λ α. let κ : Lft = α ∷ [] in move ! (6 ∷ 0 ∷ []) $
          use1 𝓛 (later (some (λ (γ : GName). ‵ ((MutRef (named 2) κ T).own_val (record { ref_ptr = (b, o); ghost_name = γ; now = value })
          (vptr b o ∷ [])) ⊛ ‵ (flent κ (Borrowed (mem T) b o γ)))))
          (lends_ref 𝓛 T (named 2) κ value b o) $ await ! tt $ pick ! (λ γ. split ! $
          let r₀ : MutBor T.Denot = record { ref_ptr = (b, o); ghost_name = γ; now = value } in
          let z : (Of T D E makes 𝓛).Ghost = (
            (
              (κ₀, (κ₁, (κ, tt))),
              (q₀, (q₁, (full_share, tt))),
              within,
              (x, (y, (r₀, tt))),
              (mut_vals x, (mut_slice_vals y, (vptr b o ∷ [], tt))),
            ),
            tt,
          ) in
          nothing ! $ move ! (1 ∷ 0 ∷ []) $ fjoin ! $ move ! (3 ∷ 0 ∷ []) $ fjoin ! $ move ! (3 ∷ 0 ∷ []) $ fjoin ! $
          nothing ! $ move ! (3 ∷ 0 ∷ []) $ join ! $ move ! (4 ∷ 0 ∷ []) $ join ! $ move ! (4 ∷ 0 ∷ []) $ join ! $ join ! $
          nothing ! $ move ! (1 ∷ 0 ∷ []) $ join ! $ use1 𝓛 (raw ((Of T D E makes 𝓛).pre z)) (id⊢ 𝓤 ((Of T D E makes 𝓛).pre z)) $
          -- serve(..)
          calls_at ! fm (Of T D E makes 𝓛) known z (and_then ! (get ! refl) (and_then ! (get ! refl) (and_then ! (get ! refl) (no_more !)))) (λ v.
          use1 𝓛 (later (some (λ (r : ℕ). ((‵ (flft κ₀ q₀) ⊛ (‵ (flft κ₁ q₁) ⊛ (‵ (flft κ full_share) ⊛ ‵ ftrue))) ⊛ ‵ (u8.own_val r (v ∷ [])))
          ⊛ some (λ (ws : Lasts (served T D E) (κ₀, (κ₁, (κ, tt))) z.0.3). ‵ (lasts (served T D E) (κ₀, (κ₁, (κ, tt))) z.0.3 ws)
          ⊛ raw (fact 𝓤 (makes value ws.1.1.0 x.now ws.0 y.now ws.1.0 r)))))) (id⊢ 𝓤 _) $
          await ! tt $ pick ! (λ r. split ! $ move ! (1 ∷ []) $ pick ! (λ ws. split ! $ move ! (1 ∷ []) $
          heard ! (makes value ws.1.1.0 x.now ws.0 y.now ws.1.0 r) (λ same.
          fsplit ! $ move ! (1 ∷ []) $ fsplit ! $ move ! (1 ∷ []) $ fsplit ! $ move ! (1 ∷ []) $ drop ! $ fsplit ! $ move ! (1 ∷ []) $ drop ! $
          -- [the handle's last value; the slice; the record; the tokens with the result; the handle's right; the pointer]
          move ! (3 ∷ []) $ split ! $ split ! $ move ! (1 ∷ []) $ split ! $ move ! (1 ∷ []) $ split ! $ lft_end ! tt $
          move ! (0 ∷ 8 ∷ 5 ∷ []) $ use3 𝓛 (later (‵ (At ws.1.1.0))) (ref_back 𝓛 T κ γ ws.1.1.0 b o) $ await ! tt $ move ! (1 ∷ []) $ drop ! $
          move ! (3 ∷ []) $ peeks ! u8 (Is u8) (shows 𝓛 u8) r (v ∷ []) (λ is. lands_as ! refl refl ((uint_Lawful 𝓛 w8).typed r _ is).0 $
          returns ! (look_at ! 0 refl) $ free_all ! refl $ move ! (6 ∷ 5 ∷ 4 ∷ 1 ∷ 3 ∷ 2 ∷ 0 ∷ []) $
          by ! (answered r v ws.1.1.0 ws.0 ws.1.0 same)))))))))

    -- nothing lies at null
    at_each : (p : Ptr) → length y.now < 2 ^ 64 → ent 𝓤 (sep 𝓤 (Entry p) (sem 𝓛 (lies_at T full_share p value))) (Runs p)
    at_each (block_ptr b o) count = walk b o count
    at_each null_ptr count =
        qed 𝓛 (raw (Entry null_ptr) ∷ ‵ (lies_at T full_share null_ptr value) ∷ []) ∵
        move ! (1 ∷ []) $ use1 𝓛 (raw (Runs null_ptr)) (never_e 𝓤 (Runs null_ptr)) $ keep ! (0 ∷ []) $ done !

pub meets : (T D E : RattleType) (serve : Callee) (makes : Makes T D E) {M : Type 1} (𝓤 : Ura M) (𝓛 : Logic 𝓤) (𝓜 : Model 𝓤 𝓛.H) (𝓡 : Running 𝓤 𝓛.H 𝓜)
    → (export : Callee) → Closed 𝓤 𝓛.H (tables 𝓤 𝓛.H 𝓜 𝓡 𝓡.env).C (tables 𝓤 𝓛.H 𝓜 𝓡 𝓡.env).Λ export (function T D E serve)
    → Triple 𝓤 ((tables 𝓤 𝓛.H 𝓜 𝓡 𝓡.env).C serve) (Of T D E makes 𝓛)
    → Meets 𝓛 (ended D E).signature ((tables 𝓤 𝓛.H 𝓜 𝓡 𝓡.env).C export) (closing 𝓛 (ended D E) (clauses T D E makes 𝓛))
unfolding tables_of
meets T D E serve makes 𝓤 𝓛 𝓜 𝓡 export closed known =
    let 𝓣 = tables 𝓤 𝓛.H 𝓜 𝓡 𝓡.env in
    proved 𝓛 (ended D E) (stayed D E) (clauses T D E makes 𝓛) 𝓜 𝓡
    (Goes-none 𝓛 2 (λ _. RawPtr) yes (λ κs a g. refl), ((λ κs x f vs fits. 𝓛.laws.⇛_intro _), ((λ κs x f vs fits. 𝓛.laws.⇛_intro _), tt)))
    export (function T D E serve) closed
    (λ κs. (rawptr_vals, (mut_vals, (mut_slice_vals, tt))))
    (λ κs. (rawptr_Tells, (mut_Tells (named 0) κs.0 D, (mut_slice_Tells (named 1) κs.1.0 E, tt))))
    (λ κs qs bounds a had are. at_each T D E serve makes 𝓛 𝓣.C 𝓣.Λ (fm_of 𝓤 𝓛.H 𝓛.laws (tables_of 𝓤 𝓛.H 𝓜 𝓣)) known
    κs.0 κs.1.0 qs.0 qs.1.0 a.1.0 a.1.1.0 had bounds a.0 are.1.1.0.0.1.0)
