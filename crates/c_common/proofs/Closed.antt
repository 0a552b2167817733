-- The end of a handle, once for every type T behind one: what the code of an export runs that moves out what lies at a pointer and gives
-- it to a function, and that it meets the export's contract.
use Rattle.std.proofs.Common.{List, [], ◌∷◌, ◌++◌, ℕ, refl, ap, subst}
use Rattle.std.proofs.raw_atomic.Walks.{proved}
use seplogic.Ra.Ura.{Ura}
use base.Fraction.{full_share}
use mir.Syntax.{Ty, Callee, Body, Fn, ty_ptr, ty_unit, deref, place, copy, rv_opd, opd_unit, seq, assign, block, call, return}
use mir.Val.{Val, vptr, vunit}
use base.Logic.{SProp, ent, sep, never_e, id⊢}
use base.Fml.{ftrue, fat, froom}
use prog.Model.{Model}
use prog.Wp.{Env, Calls, Loops, Closed, WpFn}
use types.Logic.{Logic, sem}
use contract.Notation.{connectives}
use contract.Running.{Running, tables, tables_of}
use types.Kit.{‵, raw, ◌⊛◌, some, later, at_ret, ◌$◌, ◌∵◌, !, qed, by, move, keep, drop, use1, split, join, pick, fjoin, feq_l, feq_i, suffices, await, done}
use types.Run.{stop, load, look, of_opd, unit_lit, and_then, no_more, first, blocks, exec, returns, enter}
use types.ByLocal.{alloc_all, pass_all, free_all, look_at, get, through, sets, sets_last, lands_as, env}
use sound.WpLaws.{FmC, fm_of}
use borrow.Table.OneValue.{One, part_out}
use denote.Exit.{yes}
use denote.RattleType.{RattleType, owns}
use denote.Laws.{Is, Lawful, Typed, shows}
use denote.Memory.{part_at, lone}
use denote.Builtin.{unit}
use denote.RawPtr.{Ptr, block_ptr, null_ptr, RawPtr, rawptr_vals, rawptr_Tells, lies_at, room_at}
use denote.Signature.{plain}
use denote.Steps.{only, peeks, nothing}
use denote.Triple.Statement.{Contract, Triple}
use denote.Triple.Call.{calls_at}
use denote.Triple.Clauses.{Ended, Clauses, Lasts, lasts, closing}
use denote.Triple.Entry.{on_entry}
use denote.Triple.Spec.{Meets, exits, triple_of}
use denote.Triple.Walked.{Stays, stay_none, walk_of, Goes-none, ends_at}
use Rattle.c_common.proofs.ExportCode.{copied, one_local, plain_function}

-- THE CODE

-- The parameter is a handle. What lies at it is what `release` is called with.
module _ (T : RattleType) (release : Callee) where
  abbrev released : Body
  released = seq (copied 3 4) (seq (call release (copy (place 3 []) ∷ []) (place 2 [])) (seq (assign (place 0 []) (rv_opd opd_unit)) return))

  abbrev pub function : Fn
  function =
      plain_function 1 (one_local ty_unit ∷ one_local ty_ptr ∷ one_local ty_unit ∷ one_local (lone T.mir) ∷ one_local (lone T.mir)
      ∷ one_local ty_ptr ∷ one_local ty_ptr ∷ [])
      (seq (block (seq (copied 5 1) (seq (copied 6 5) (assign (place 4 []) (rv_opd (copy (place 6 (deref (lone T.mir) ∷ [])))))))) released)

-- THE CONTRACTS

-- of the function that what was moved out is given to
abbrev pub let_go : RattleType → Ended
let_go T = record {
  signature = record { lifetimes = 0; outlives = []; params = plain (λ κs. T) ∷ []; result = plain (λ κs. unit) };
  kept = (yes, tt);
}

-- of the export
abbrev pub ended : Ended
ended = record {
  signature = record { lifetimes = 0; outlives = []; params = plain (λ κs. RawPtr) ∷ []; result = plain (λ κs. unit) };
  kept = (yes, tt);
}

abbrev stayed : Stays (ended).signature.params (ended).kept
stayed = (stay_none (λ _. RawPtr) yes, tt)

module _ (T : RattleType) {M : Type 1} {𝓤 : Ura M} (𝓛 : Logic 𝓤) where
  abbrev pub Of : Contract 𝓤
  Of = triple_of 𝓛 (let_go T).signature (λ κs args. record {
    ghost = Unit {0};
    requires = λ ghost. (connectives 𝓤).⊤ₛ;
    ensures = λ ghost r. exits 𝓛 (let_go T).signature (let_go T).kept κs args (λ end. (connectives 𝓤).⊤ₛ);
  })

  abbrev pub clauses : Clauses 𝓤 ended
  clauses κs args = record {
    ghost = T.Denot;
    requires = λ value. sem 𝓛 (lies_at T full_share args.0 value);
    ensures = λ value r end. sem 𝓛 (room_at T args.0);
  }

-- THE WALK

module _ (T : RattleType) (one : One T) (release : Callee) {M : Type 1} {𝓤 : Ura M} (𝓛 : Logic 𝓤) (lawful : Lawful 𝓛 T)
    (C : Calls 𝓤 𝓛.H) (Λ : Loops 𝓤 𝓛.H) (fm : FmC 𝓤 𝓛.H 𝓛.laws C) (known : Triple 𝓤 (C release) (Of T 𝓛)) (value : T.Denot) where
  open 𝓛 use {H}

  abbrev Entry : Ptr → SProp 𝓤
  Entry p = on_entry 𝓛 (ended).signature tt tt (p, tt) (rawptr_vals p, tt)

  abbrev bound : Ptr → (walk_of 𝓛 ended stayed (clauses T 𝓛)).Ghost
  bound p = ((tt, tt, tt, (p, tt), (rawptr_vals p, tt)), value)

  abbrev Post : Ptr → Val → SProp 𝓤
  Post p = (walk_of 𝓛 ended stayed (clauses T 𝓛)).post (bound p)

  abbrev Runs : Ptr → SProp 𝓤
  Runs p = WpFn 𝓤 H C Λ (function T release) (rawptr_vals p ++ []) (Post p)

  left : (b o : ℕ) → ent 𝓤 (sep 𝓤 (sem 𝓛 (froom (lone T.mir) b o)) (Entry (block_ptr b o))) (Post (block_ptr b o) vunit)
  left b o =
      let p : Ptr = block_ptr b o in
      qed 𝓛 (‵ (froom (lone T.mir) b o) ∷ (‵ ftrue ⊛ ‵ (owns (RawPtr ∷ []) (p, tt) (rawptr_vals p, tt))) ∷ []) ∵
      suffices ! _ (ends_at 𝓛 ended stayed (clauses T 𝓛) (bound p) vunit tt (tt, tt) (tt, tt)) $
      feq_i ! (List Val) (vunit ∷ []) (vunit ∷ []) refl $ move ! (2 ∷ []) $ split ! $ move ! (1 ∷ 2 ∷ []) $ join ! $ move ! (1 ∷ 0 ∷ []) $ join ! $ join ! $
      done !

  walk : (b o : ℕ) → ent 𝓤 (sep 𝓤 (sem 𝓛 (part_at T full_share value b o)) (Entry (block_ptr b o))) (Runs (block_ptr b o))
  walk b o =
      qed 𝓛 (‵ (part_at T full_share value b o) ∷ raw (Entry (block_ptr b o)) ∷ []) ∵ enter ! C Λ (function T release) (vptr b o ∷ []) _ $
      alloc_all ! (λ l. pass_all ! refl ((tt, tt), tt) $
      let En : Env 𝓤 H = env (function T release).locals l in
      use1 𝓛 (some (λ (w : Val). ‵ (fat full_share (lone T.mir) b o w) ⊛ ‵ (T.own_val value (w ∷ []))))
      (part_out 𝓛 T one full_share value b o) $ pick ! (λ w. split ! $ move ! (1 ∷ []) $
      peeks ! T (Is T) (shows 𝓛 T) value (w ∷ []) (λ is.
      let good = (subst (λ (types : List Ty). Typed types (w ∷ [])) one (lawful.typed value (w ∷ []) is)).0 in
      move ! (1 ∷ 0 ∷ []) $
      -- ptr::read(handle as *mut T)
      first ! $ blocks ! $ sets ! (of_opd ! (get ! refl)) refl (tt, tt) $ sets ! (of_opd ! (get ! refl)) refl (tt, tt) $
      sets_last ! (of_opd ! (load ! (through ! refl (stop !)) (look ! 0 refl))) refl good $
      exec ! C Λ En (released T release) (at_ret En (Post (block_ptr b o))) $ sets ! (of_opd ! (get ! refl)) refl good $
      -- release(..)
      let y : (Of T 𝓛).Ghost = ((tt, tt, tt, (value, tt), (w ∷ [], tt)), tt) in
      use1 𝓛 (‵ (froom (lone T.mir) b o)) (𝓛.laws.at_room (lone T.mir) b o w) $ move ! (1 ∷ []) $ nothing ! $ move ! (1 ∷ 0 ∷ []) $ fjoin ! $
      nothing ! $ join ! $ nothing ! $ move ! (1 ∷ 0 ∷ []) $ join ! $ use1 𝓛 (raw ((Of T 𝓛).pre y)) (id⊢ 𝓤 ((Of T 𝓛).pre y)) $
      calls_at ! fm (Of T 𝓛) known y (and_then ! (get ! refl) (no_more !)) (λ u.
      use1 𝓛 (later (some (λ (r : Unit {0}). (‵ ftrue ⊛ ‵ (unit.own_val r (u ∷ []))) ⊛ some (λ (ws : Lasts (let_go T) tt y.0.3). ‵
      (lasts (let_go T) tt y.0.3 ws) ⊛ ‵ ftrue)))) (id⊢ 𝓤 _) $
      await ! tt $ pick ! (λ r. split ! $ move ! (1 ∷ []) $ drop ! $ split ! $ drop ! $ feq_l ! (λ eu. lands_as ! (ap only eu) refl (tt, tt) $
      sets ! (of_opd ! (unit_lit !)) refl (tt, tt) $
      returns ! (look_at ! 0 refl) $ free_all ! refl $ by ! (left b o)))))))

  -- by the pointer's form: nothing lies at null
  at_each : (p : Ptr) → ent 𝓤 (sep 𝓤 (Entry p) (sem 𝓛 (lies_at T full_share p value))) (Runs p)
  at_each (block_ptr b o) = qed 𝓛 (raw (Entry (block_ptr b o)) ∷ ‵ (part_at T full_share value b o) ∷ []) ∵ move ! (1 ∷ 0 ∷ []) $ by ! (walk b o)
  at_each null_ptr = qed 𝓛 (raw (Entry null_ptr) ∷ ‵ (lies_at T full_share null_ptr value) ∷ []) ∵ move ! (1 ∷ []) $
      use1 𝓛 (raw (Runs null_ptr)) (never_e 𝓤 (Runs null_ptr)) $ keep ! (0 ∷ []) $ done !

pub meets : (T : RattleType) → One T → (release : Callee) {M : Type 1} (𝓤 : Ura M) (𝓛 : Logic 𝓤) (𝓜 : Model 𝓤 𝓛.H) (𝓡 : Running 𝓤 𝓛.H 𝓜) → Lawful 𝓛 T
    → (export : Callee) → Closed 𝓤 𝓛.H (tables 𝓤 𝓛.H 𝓜 𝓡 𝓡.env).C (tables 𝓤 𝓛.H 𝓜 𝓡 𝓡.env).Λ export (function T release)
    → Triple 𝓤 ((tables 𝓤 𝓛.H 𝓜 𝓡 𝓡.env).C release) (Of T 𝓛)
    → Meets 𝓛 (ended).signature ((tables 𝓤 𝓛.H 𝓜 𝓡 𝓡.env).C export) (closing 𝓛 ended (clauses T 𝓛))
unfolding tables_of
meets T one release 𝓤 𝓛 𝓜 𝓡 lawful export closed known =
    let 𝓣 = tables 𝓤 𝓛.H 𝓜 𝓡 𝓡.env in
    proved 𝓛 ended stayed (clauses T 𝓛) 𝓜 𝓡 (Goes-none 𝓛 0 (λ _. RawPtr) yes (λ κs a g. refl), tt) export (function T release) closed
    (λ κs. (rawptr_vals, tt)) (λ κs. (rawptr_Tells, tt))
    (λ κs qs bounds a value are. at_each T one release 𝓛 lawful 𝓣.C 𝓣.Λ (fm_of 𝓤 𝓛.H 𝓛.laws (tables_of 𝓤 𝓛.H 𝓜 𝓣)) known value a.0)
