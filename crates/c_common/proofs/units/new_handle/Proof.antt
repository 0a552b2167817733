-- `new_handle` makes what a handle is of, and hands it over: the walk keeps the pointer's borrow, which goes on to `hand_out_made`.
use Rattle.std.proofs.Common.{◌≡◌, ℕ, ◌<◌, [], ◌∷◌, true, refl, sym, subst, w8}
use Rattle.std.specs.Prelude.{IfErr, IfOk}
use mir.Syntax.{Fn, Args, a_type, dcons, dnil}
use mir.MapTy.{inst_fn}
use mir.Val.{Val}
use base.Logic.{ent, emp, id⊢}
use base.Fml.{ftrue, flft}
use prog.Wp.{WpFn}
use contract.BorrowLft.{◌⊑◌}
use contract.Monad.{fact, fact_i}
use contract.Running.{tables}
use types.Kit.{‵, raw, ◌⊛◌, some, later, ◌$◌, ◌∵◌, !, qed, by, move, keep, drop, split, split3, join, group, fsplit, pick, use0, use1, await}
use types.Run.{stop, addr, no_more, and_then, returns, enter}
use types.ByLocal.{alloc_all, pass_all, free_all, look_at, get, through, sets, lands_as}
use denote.Exit.{yes}
use denote.RattleType.{owns}
use denote.Laws.{Is, shows}
use denote.Plain.{uint_Lawful}
use denote.Signature.{types_at, plain}
use denote.Builtin.{RawPtr, u8, u32, SliceRefOf}
use denote.Ref.{mut_vals}
use denote.Slice.{shr_slice_vals}
use denote.Steps.{nothing, only, heard, peeks}
use denote.Param.{param, bounded}
use denote.Triple.Entry.{Vals}
use denote.Triple.Spec.{triple_of}
use denote.Triple.Call.{calls_at}
use denote.Triple.Clauses.{lasts, Lasts}
use denote.Triple.Walked.{Stays, stay_dropped, Goes-dropped, gave_ref, Goes-gave_ref, walk_of}
use denote.Triple.Table.{framed}
use Rattle.std.proofs.raw_atomic.Walks.{proved_at, leaves}
use Rattle.std.specs.contracts.alloc.Global as heap
use Rattle.std.proofs.alloc.Global.TheLaws as heap_laws
use Rattle.c_common.specs.HandedOut.{handed_if_made, handed_out, made_number}
use Rattle.c_common.specs.Units.{opened_units, units_told}
use Rattle.uas_profile.specs.declared.TheConstants.{MAX_CLIENTS}
use Rattle.c_common.proofs.HandedOut.{Made, as_it_was, handed, made_laws, one_value}
use Rattle.c_common.specs.contracts.units.zeroed as made
use Rattle.c_common.proofs.units.zeroed.Met.{met as made_met}
use Rattle.c_common.specs.contracts.handle.hand_out_made as over
use Rattle.c_common.proofs.handle.hand_out_made.Met.{met as over_met}
use Rattle.c_common.specs.contracts.units.new_handle.{ended, clauses}
use Rattle.c_common.specs.contracts.units.new_handle.Key.{name as #self}
use Rattle.c_common.proofs.units.new_handle.Statement.{statement}
use Rattle.c_common.proofs.units.new_handle.Code as code

pub new_handle_spec : {M : Type 1} → statement M
new_handle_spec 𝓤 𝓛 𝓜 𝓡 wired T Name L LN units dU dT met glue =
    let H = 𝓛.H in
    let 𝓣 = tables 𝓤 H 𝓜 𝓡 𝓡.env in
    let En = ended T Name units dU dT in
    let c = clauses T Name units dU dT 𝓛 𝓜.mem 𝓡.returns in
    let inst : Args = bounded (a_type ∷ a_type ∷ []) (T, (Name, tt)) (dcons dU (dcons dT dnil)) in
    let fn : Fn = inst_fn inst code.function in
    let hs : Stays En.signature.params En.kept = (
      stay_dropped (plain (λ _. heap.the_row)) yes,
      (
        stay_dropped (SliceRefOf (0 ∷ []) tt (plain (λ _. u32)) (λ _. tt)) yes,
        (gave_ref (1 ∷ []) tt (plain (λ _. RawPtr)), tt),
      ),
    ) in
    proved_at 𝓛 En hs c 𝓜 𝓡 (
      Goes-dropped 𝓛 4 (plain (λ _. heap.the_row)) yes (λ κs x f. refl),
      (
        Goes-dropped 𝓛 4 (SliceRefOf (0 ∷ []) tt (plain (λ _. u32)) (λ _. tt)) yes (λ κs x f. refl),
        (Goes-gave_ref 𝓛 4 1 tt (plain (λ _. RawPtr)), tt),
      ),
    ) (#self inst) fn (code.unfolded 𝓤 H 𝓜 𝓡 wired (T, (Name, tt)) dU dT) (λ z are.
    let W = walk_of 𝓛 En hs c in
    let κs = z.0.0 in let κ₀ = κs.0 in let κ₁ = κs.1.0 in let κ₂ = κs.1.1.0 in let κ₃ = κs.1.1.1.0 in
    let qs = z.0.1 in let q₀ = qs.0 in let q₁ = qs.1.0 in let q₂ = qs.1.1.0 in let q₃ = qs.1.1.1.0 in
    let a = z.0.3 in let alloc = a.0 in let blocks = a.1.0 in let r = a.1.1.0 in
    let vh : Val = only z.0.4.0 in
    let vss : Vals En.signature κs = (vh ∷ [], (shr_slice_vals blocks, (mut_vals r, tt))) in
    let eh : z.0.4.0 ≡ vh ∷ [] = one_value z.0.4.0 (heap_laws.the_row_laws.single alloc z.0.4.0 are.0) in
    let Goes : Vals En.signature κs → Type 1 = λ vss. let y : W.Ghost = ((κs, qs, z.0.2, a, vss), z.1) in ent 𝓤 (W.pre y) (WpFn 𝓤 H 𝓣.C 𝓣.Λ fn (W.args y) (W.post y)) in
    let z' : W.Ghost = ((κs, qs, z.0.2, a, vss), z.1) in
    subst Goes (sym (λ i. (eh i, (are.1.0.0.0 i, (are.1.1.0.0 i, tt))))) (
    let us = opened_units blocks.now [] [] in
    let O = made.ended T units dU dT in
    let G = triple_of 𝓛 O.signature (made.spec T units dU dT 𝓛 𝓜.mem 𝓡.returns) in
    let known = made_met 𝓤 𝓛 𝓜 𝓡 (code.calls-c_common::units::zeroed 𝓡.env wired) T L units dU dT met glue in
    let y : G.Ghost = (((κ₀, (κ₂, tt)), (q₀, (q₂, tt)), tt, (alloc, (blocks, tt)), (vh ∷ [], (shr_slice_vals blocks, tt))), tt) in
    let O' = over.ended T Name dT in
    let G' = triple_of 𝓛 O'.signature (over.spec T Name dT 𝓛 𝓜.mem 𝓡.returns) in
    let known' = over_met 𝓤 𝓛 𝓜 𝓡 (code.calls-c_common::handle::hand_out_made 𝓡.env wired) T Name L LN dT glue in
    let toks = ‵ (flft κ₀ q₀) ⊛ ‵ (flft κ₁ q₁) ⊛ ‵ (flft κ₂ q₂) ⊛ ‵ (flft κ₃ q₃) ⊛ ‵ ftrue in
    let toks₁ = ‵ (flft κ₀ q₀) ⊛ ‵ (flft κ₂ q₂) ⊛ ‵ ftrue in
    let toks₂ = ‵ (flft κ₁ q₁) ⊛ ‵ (flft κ₂ q₂) ⊛ ‵ (flft κ₃ q₃) ⊛ ‵ ftrue in
    qed 𝓛 ((toks ⊛ ‵ (owns (types_at En.signature.params κs) a vss)) ∷ (raw (fact 𝓤 (κ₂ ⊑ T.lives)) ⊛ raw (fact 𝓤 (κ₃ ⊑ Name.lives)) ⊛ ‵ ftrue) ∷ []) ∵
    move ! (1 ∷ []) $ split3 ! $ heard ! (κ₂ ⊑ T.lives) (λ lives. heard ! (κ₃ ⊑ Name.lives) (λ named. drop ! $ split ! $
    split ! $ move ! (1 ∷ []) $ split ! $ move ! (1 ∷ []) $ split ! $ move ! (1 ∷ []) $ split ! $
    move ! (5 ∷ []) $ fsplit ! $ move ! (1 ∷ []) $ fsplit ! $ move ! (1 ∷ []) $ fsplit ! $
    -- [the borrow; nothing; the blocks; the allocator; a token; nothing; three tokens]
    keep ! (3 ∷ 2 ∷ 1 ∷ 8 ∷ 6 ∷ 5 ∷ 0 ∷ 7 ∷ 4 ∷ []) $ group ! 3 $ move ! (1 ∷ 2 ∷ 3 ∷ []) $ group ! 3 $ join ! $
    nothing ! $ use0 𝓛 (raw (fact 𝓤 (κ₂ ⊑ T.lives))) (fact_i 𝓤 (κ₂ ⊑ T.lives) (emp 𝓤) lives) $ join ! $ move ! (1 ∷ 0 ∷ []) $ join ! $ use1 𝓛 (raw (G.pre y)) (id⊢ 𝓤 _) $
    enter ! 𝓣.C 𝓣.Λ fn (W.args z') (W.post z') $ alloc_all ! (λ l.
    pass_all ! refl ((((heap_laws.the_row_laws.lawful 𝓛).typed alloc (vh ∷ []) (subst (Is heap.the_row alloc) eh are.0)).0, ((tt, (tt, (record { fits = are.1.0.0.1.0 }, tt))), ((tt, tt), tt)))) $
    calls_at ! (framed 𝓤 H 𝓜 𝓣) G known y (and_then ! (get ! refl) (and_then ! (get ! refl) (no_more !))) (λ u.
    use1 𝓛 (later (some (λ (m : (Made T).Denot). (toks₁ ⊛ ‵ ((Made T).own_val m (u ∷ []))) ⊛ some (λ (end : Lasts O y.0.0 y.0.3). ‵ (lasts O y.0.0 y.0.3 end)
    ⊛ raw (fact 𝓤 (IfOk m (λ made. units.is_of us made.value))) ⊛ raw (fact 𝓤 (units_told (made_number m) MAX_CLIENTS blocks.now [] [] ≡ true)) ⊛ raw (fact 𝓤 (IfErr m (λ number. 0 < number))))))) (id⊢ 𝓤 _) $
    await ! tt $ pick ! (λ m. split ! $ move ! (1 ∷ []) $ pick ! (λ end. split3 ! $ drop ! $ heard ! (IfOk m (λ made. units.is_of us made.value)) (λ is.
    split ! $ heard ! (units_told (made_number m) MAX_CLIENTS blocks.now [] [] ≡ true) (λ told. heard ! (IfErr m (λ number. 0 < number)) (λ not_0. split ! $ move ! (1 ∷ []) $
    peeks ! (Made T) (Is (Made T)) (shows 𝓛 (Made T)) m (u ∷ []) (λ is_m. lands_as ! refl refl (((made_laws T L).lawful 𝓛).typed m _ is_m).0 $
    sets ! (addr ! (through ! refl (stop !))) refl (tt, tt) $
    -- [what was made; two tokens; the borrow; two tokens]
    move ! (1 ∷ []) $ split ! $ move ! (1 ∷ []) $ split ! $
    -- [a token; nothing; a token; what was made; the borrow; two tokens]
    move ! (5 ∷ 0 ∷ 6 ∷ 1 ∷ []) $ group ! 4 $ nothing ! $ move ! (3 ∷ 4 ∷ 0 ∷ []) $ group ! 3 $ move ! (1 ∷ 0 ∷ []) $ join ! $
    nothing ! $ use0 𝓛 (raw (fact 𝓤 (κ₃ ⊑ Name.lives))) (fact_i 𝓤 (κ₃ ⊑ Name.lives) (emp 𝓤) named) $ join ! $
    use0 𝓛 (raw (fact 𝓤 (κ₂ ⊑ T.lives))) (fact_i 𝓤 (κ₂ ⊑ T.lives) (emp 𝓤) lives) $ join ! $ move ! (1 ∷ 0 ∷ []) $ join ! $
    let y' : G'.Ghost = (((κ₁, (κ₂, (κ₃, tt))), (q₁, (q₂, (q₃, tt))), (z.0.2.0, tt), (m, (r, tt)), (u ∷ [], (mut_vals r, tt))), tt) in
    use1 𝓛 (raw (G'.pre y')) (id⊢ 𝓤 _) $ calls_at ! (framed 𝓤 H 𝓜 𝓣) G' known' y' (and_then ! (get ! refl) (and_then ! (get ! refl) (no_more !))) (λ v.
    use1 𝓛 (later (some (λ (n : ℕ). (toks₂ ⊛ ‵ (u8.own_val n (v ∷ []))) ⊛ some (λ (end : Lasts O' y'.0.0 y'.0.3). ‵ (lasts O' y'.0.0 y'.0.3 end)
    ⊛ raw (fact 𝓤 (n ≡ made_number m)) ⊛ raw (fact 𝓤 (IfErr m (λ _. end.1.0 ≡ r.now))) ⊛ ‵ (handed_if_made (param 0 T) m end.1.0))))) (id⊢ 𝓤 _) $
    await ! tt $ pick ! (λ n. split ! $ move ! (1 ∷ []) $ pick ! (λ end. split3 ! $ fsplit ! $ drop ! $ fsplit ! $ move ! (1 ∷ []) $ drop ! $ move ! (1 ∷ 2 ∷ []) $
    heard ! (n ≡ made_number m) (λ answer. split ! $ heard ! (IfErr m (λ _. end.1.0 ≡ r.now)) (λ kept.
    use1 𝓛 (‵ (handed_out (param 0 T) (units.is_of us) n end.1.0)) (handed (param 0 T) (units.is_of us) 𝓛 m n end.1.0 is not_0 answer) $
    move ! (2 ∷ []) $ split ! $ move ! (1 ∷ []) $ peeks ! u8 (Is u8) (shows 𝓛 u8) n (v ∷ []) (λ is_n. lands_as ! refl refl ((uint_Lawful 𝓛 w8).typed n _ is_n).0 $
    returns ! (look_at ! 0 refl) $ free_all ! refl $
    -- [the answer; three tokens; what is handed out; the borrow; a token]
    move ! (1 ∷ []) $ split ! $ move ! (1 ∷ []) $ split ! $ move ! (1 ∷ []) $ split ! $ keep ! (7 ∷ 3 ∷ 2 ∷ 0 ∷ 1 ∷ 6 ∷ 4 ∷ 5 ∷ []) $ group ! 5 $
    nothing ! $ move ! (2 ∷ 0 ∷ []) $ group ! 2 $ nothing ! $ nothing ! $ group ! 3 $ move ! (3 ∷ []) $
    use0 𝓛 (raw (fact 𝓤 (0 < n → end.1.0 ≡ r.now))) (fact_i 𝓤 (0 < n → end.1.0 ≡ r.now) (emp 𝓤) (as_it_was m n answer kept)) $ join ! $
    use0 𝓛 (raw (fact 𝓤 (units_told n MAX_CLIENTS blocks.now [] [] ≡ true))) (fact_i 𝓤 (units_told n MAX_CLIENTS blocks.now [] [] ≡ true) (emp 𝓤)
    (subst (λ (k : ℕ). units_told k MAX_CLIENTS blocks.now [] [] ≡ true) (sym answer) told)) $ join ! $ keep ! (2 ∷ 1 ∷ 3 ∷ 0 ∷ []) $
    by ! (leaves 𝓛 En hs c z' v n (tt, (tt, (end.1.0, tt))) (tt, (tt, (tt, tt))))))))))))))))))))))
