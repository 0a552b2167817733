-- `uas_driver_open_tags` makes a driver, and hands it out: the walk keeps the pointer's borrow, which goes on to `hand_out_made`.
use Rattle.std.proofs.Common.{◌≡◌, ℕ, ◌<◌, List, [], ◌∷◌, true, refl, sym, subst, w8, w64}
use Rattle.std.specs.Prelude.{IfErr, IfOk}
use mir.Syntax.{Dict, dnil, impl, method, no_args, tnil}
use mir.Val.{Val, vint}
use base.Fraction.{full_share}
use base.Logic.{ent, emp, id⊢}
use base.Fml.{ftrue, flft}
use prog.Wp.{WpFn}
use contract.BorrowLft.{◌⊑◌, ⊑_static}
use contract.Monad.{fact, fact_i}
use contract.Running.{tables}
use types.Kit.{‵, raw, ◌⊛◌, some, later, ◌$◌, ◌∵◌, !, qed, by, move, keep, drop, split, split3, join, group, fsplit, pick, use0, use1, await}
use types.Run.{stop, addr, no_more, and_then, returns, enter}
use types.ByLocal.{alloc_all, pass_all, free_all, look_at, get, through, sets, lands_as}
use denote.Exit.{yes}
use denote.RattleType.{RattleType, owns}
use denote.Laws.{Is, shows}
use denote.Plain.{uint_Lawful, uint_Tells}
use denote.Signature.{types_at, plain}
use denote.Builtin.{RawPtr, u8, usize}
use denote.Ref.{mut_vals}
use denote.Steps.{nothing, only, heard, peeks}
use denote.Param.{param}
use denote.Triple.Entry.{Vals}
use denote.Triple.Spec.{triple_of}
use denote.Triple.Call.{calls_at}
use denote.Triple.Clauses.{lasts, Lasts}
use denote.Triple.Walked.{Stays, stay_dropped, Goes-dropped, gave_ref, Goes-gave_ref, walk_of}
use denote.Triple.Table.{framed}
use Rattle.std.proofs.raw_atomic.Walks.{proved_at, leaves}
use Rattle.std.specs.contracts.alloc.Global as heap
use Rattle.std.proofs.alloc.Global.TheLaws as heap_laws
use Rattle.c_common.specs.HandedOut.{handed_if_made, handed_out, made_number}
use Rattle.c_common.specs.contracts.hand_out_made as over
use Rattle.c_common.proofs.hand_out_made.Met.{met as over_met}
use Rattle.c_common.proofs.Given.{As, as_laws, glue_of}
use Rattle.c_common.proofs.HandedOut.{Made, as_it_was, handed, made_laws, one_value}
use Rattle.uas_driver.specs.Driver.{IsOpening}
use Rattle.uas_c.specs.DriverCall.{clients_told}
use Rattle.uas_c.specs.contracts.driver.KeptDriver.{the_row as driver_row}
use Rattle.uas_c.proofs.driver.KeptDriver.TheLaws as driver_laws
use Rattle.uas_c.specs.contracts.driver.handle.UasDriver.{the_row as name_row}
use Rattle.uas_c.proofs.driver.handle.UasDriver.TheLaws as name_laws
use Rattle.uas_c.proofs.uas_c++driver++KeptDriver+Destruct.drop.Symbol as dropped
use Rattle.uas_c.proofs.uas_c++driver++KeptDriver+Destruct.drop.Met as dropped_met
use Rattle.uas_c.specs.contracts.driver.made as made
use Rattle.uas_c.proofs.driver.made.Met.{met as made_met}
use Rattle.uas_c.specs.contracts.driver.handle.uas_driver_open_tags.{ended, clauses}
use Rattle.uas_c.specs.contracts.driver.handle.uas_driver_open_tags.Key.{name as #self}
use Rattle.uas_c.proofs.driver.handle.uas_driver_open_tags.Statement.{statement}
use Rattle.uas_c.proofs.driver.handle.uas_driver_open_tags.Code as code

abbrev stayed : Stays (ended).signature.params (ended).kept
stayed = (stay_dropped (plain (λ κs. heap.the_row)) yes, (stay_dropped (plain (λ κs. usize)) yes, (stay_dropped (plain (λ κs. usize)) yes, (gave_ref (0 ∷ []) tt (plain (λ κs. RawPtr)), tt))))

pub uas_driver_open_tags_spec : {M : Type 1} → statement M
uas_driver_open_tags_spec 𝓤 𝓛 𝓜 𝓡 wired =
    let H = 𝓛.H in
    let 𝓣 = tables 𝓤 H 𝓜 𝓡 𝓡.env in
    let c = clauses 𝓛 𝓜.mem 𝓡.returns in
    let fn = code.function in
    let dR : Dict = impl ("uas_c::uas_c++driver++KeptDriver+Destruct::drop" ∷ []) tnil dnil in
    let drops = code.calls-uas_c::uas_c++driver++KeptDriver+Destruct::drop 𝓡.env wired in
    let glue = glue_of driver_row yes dR 𝓤 𝓛 𝓜 𝓡 dropped.name (dropped.as_method 𝓡.env drops (method dR 0 no_args) refl) (dropped_met.met 𝓤 𝓛 𝓜 𝓡 drops) in
    let T : RattleType = As driver_row in
    let L = as_laws driver_row driver_laws.the_row_laws refl in
    let N : RattleType = As name_row in
    proved_at 𝓛 ended stayed c 𝓜 𝓡 (
      Goes-dropped 𝓛 1 (plain (λ κs. heap.the_row)) yes (λ κs x f. refl),
      (
        Goes-dropped 𝓛 1 (plain (λ κs. usize)) yes (λ κs x f. refl),
        (Goes-dropped 𝓛 1 (plain (λ κs. usize)) yes (λ κs x f. refl), (Goes-gave_ref 𝓛 1 0 tt (plain (λ κs. RawPtr)), tt)),
      ),
    ) #self fn (code.unfolded 𝓤 H 𝓜 𝓡 wired) (λ z are.
    let W = walk_of 𝓛 ended stayed c in
    let κs = z.0.0 in let κ = κs.0 in let qs = z.0.1 in let q = qs.0 in
    let a = z.0.3 in let alloc = a.0 in let clients = a.1.0 in let tags = a.1.1.0 in let r = a.1.1.1.0 in
    let vh : Val = only z.0.4.0 in
    let vss : Vals (ended).signature κs = (vh ∷ [], (vint w64 clients ∷ [], (vint w64 tags ∷ [], (mut_vals r, tt)))) in
    let eh : z.0.4.0 ≡ vh ∷ [] = one_value z.0.4.0 (heap_laws.the_row_laws.single alloc z.0.4.0 are.0) in
    let ec : z.0.4.1.0 ≡ vint w64 clients ∷ [] = uint_Tells w64 clients z.0.4.1.0 are.1.0 in
    let et : z.0.4.1.1.0 ≡ vint w64 tags ∷ [] = uint_Tells w64 tags z.0.4.1.1.0 are.1.1.0 in
    let Goes : Vals (ended).signature κs → Type 1 = λ vss. let y : W.Ghost = ((κs, qs, z.0.2, a, vss), z.1) in ent 𝓤 (W.pre y) (WpFn 𝓤 H 𝓣.C 𝓣.Λ fn (W.args y) (W.post y)) in
    let z' : W.Ghost = ((κs, qs, z.0.2, a, vss), z.1) in
    subst Goes (sym (λ i. (eh i, (ec i, (et i, (are.1.1.1.0.0 i, tt)))))) (
    let O = made.ended in
    let G = triple_of 𝓛 O.signature (made.spec 𝓛 𝓜.mem 𝓡.returns) in
    let known = made_met 𝓤 𝓛 𝓜 𝓡 (code.calls-uas_c::driver::made 𝓡.env wired) in
    let y : G.Ghost = ((tt, tt, tt, (alloc, (clients, (tags, tt))), (vh ∷ [], (vint w64 clients ∷ [], (vint w64 tags ∷ [], tt)))), tt) in
    let O' = over.ended T N dR in
    let G' = triple_of 𝓛 O'.signature (over.spec T N dR 𝓛 𝓜.mem 𝓡.returns) in
    let known' = over_met 𝓤 𝓛 𝓜 𝓡 (code.calls-c_common::hand_out_made 𝓡.env wired) T N L (as_laws name_row name_laws.the_row_laws refl) dR glue in
    let static = ‵ (flft [] full_share) in
    let toks = ‵ (flft κ q) ⊛ static ⊛ static ⊛ ‵ ftrue in
    qed 𝓛 (((‵ (flft κ q) ⊛ ‵ ftrue) ⊛ ‵ (owns (types_at (ended).signature.params κs) a vss)) ∷ ‵ ftrue ∷ []) ∵
    split ! $ split ! $ move ! (2 ∷ []) $ fsplit ! $ move ! (1 ∷ []) $ fsplit ! $ move ! (1 ∷ []) $ fsplit ! $ move ! (1 ∷ []) $ fsplit ! $
    -- [the borrow; nothing; the tags; the count; the allocator; the token; nothing; nothing]
    keep ! (4 ∷ 3 ∷ 2 ∷ 1 ∷ 5 ∷ 0 ∷ []) $ group ! 4 $ nothing ! $ join ! $ nothing ! $ move ! (1 ∷ 0 ∷ []) $ join ! $ use1 𝓛 (raw (G.pre y)) (id⊢ 𝓤 _) $
    enter ! 𝓣.C 𝓣.Λ fn (W.args z') (W.post z') $ alloc_all ! (λ l.
    pass_all ! refl (
      ((heap_laws.the_row_laws.lawful 𝓛).typed alloc (vh ∷ []) (subst (Is heap.the_row alloc) eh are.0)).0,
      (
        ((uint_Lawful 𝓛 w64).typed clients (vint w64 clients ∷ []) (subst (Is usize clients) ec are.1.0)).0,
        (((uint_Lawful 𝓛 w64).typed tags (vint w64 tags ∷ []) (subst (Is usize tags) et are.1.1.0)).0, ((tt, tt), tt)),
      ),
    ) $
    calls_at ! (framed 𝓤 H 𝓜 𝓣) G known y (and_then ! (get ! refl) (and_then ! (get ! refl) (and_then ! (get ! refl) (no_more !)))) (λ u.
    use1 𝓛 (later (some (λ (m : (Made T).Denot). (‵ ftrue ⊛ ‵ ((Made T).own_val m (u ∷ []))) ⊛ some (λ (end : Lasts O y.0.0 y.0.3). ‵ (lasts O y.0.0 y.0.3 end)
    ⊛ raw (fact 𝓤 (IfOk m (λ made. IsOpening tags clients made.value))) ⊛ raw (fact 𝓤 (clients_told (made_number m) clients tags ≡ true)) ⊛ raw (fact 𝓤 (IfErr m (λ number. 0 < number))))))) (id⊢ 𝓤 _) $
    await ! tt $ pick ! (λ m. split ! $ move ! (1 ∷ []) $ pick ! (λ end. split3 ! $ drop ! $ heard ! (IfOk m (λ made. IsOpening tags clients made.value)) (λ is. split ! $
    heard ! (clients_told (made_number m) clients tags ≡ true) (λ told. heard ! (IfErr m (λ number. 0 < number)) (λ not_0. split ! $ drop ! $
    peeks ! (Made T) (Is (Made T)) (shows 𝓛 (Made T)) m (u ∷ []) (λ is_m. lands_as ! refl refl (((made_laws T L).lawful 𝓛).typed m _ is_m).0 $
    sets ! (addr ! (through ! refl (stop !))) refl (tt, tt) $
    -- [what was made; the token; the borrow]
    use0 𝓛 static (𝓛.lfts.lft-nil full_share) $ use0 𝓛 static (𝓛.lfts.lft-nil full_share) $ nothing ! $ move ! (4 ∷ 1 ∷ 2 ∷ 0 ∷ []) $ group ! 4 $
    nothing ! $ move ! (2 ∷ 3 ∷ 0 ∷ []) $ group ! 3 $ move ! (1 ∷ 0 ∷ []) $ join ! $
    nothing ! $ use0 𝓛 (raw (fact 𝓤 ([] ⊑ N.lives))) (fact_i 𝓤 ([] ⊑ N.lives) (emp 𝓤) (name_laws.the_within [])) $ join ! $
    use0 𝓛 (raw (fact 𝓤 ([] ⊑ T.lives))) (fact_i 𝓤 ([] ⊑ T.lives) (emp 𝓤) (driver_laws.the_within [])) $ join ! $ move ! (1 ∷ 0 ∷ []) $ join ! $
    let y' : G'.Ghost = (((κ, ([], ([], tt))), (q, (full_share, (full_share, tt))), (⊑_static κ, tt), (m, (r, tt)), (u ∷ [], (mut_vals r, tt))), tt) in
    use1 𝓛 (raw (G'.pre y')) (id⊢ 𝓤 _) $ calls_at ! (framed 𝓤 H 𝓜 𝓣) G' known' y' (and_then ! (get ! refl) (and_then ! (get ! refl) (no_more !))) (λ v.
    use1 𝓛 (later (some (λ (n : ℕ). (toks ⊛ ‵ (u8.own_val n (v ∷ []))) ⊛ some (λ (end : Lasts O' y'.0.0 y'.0.3). ‵ (lasts O' y'.0.0 y'.0.3 end)
    ⊛ raw (fact 𝓤 (n ≡ made_number m)) ⊛ raw (fact 𝓤 (IfErr m (λ _. end.1.0 ≡ r.now))) ⊛ ‵ (handed_if_made (param 0 T) m end.1.0))))) (id⊢ 𝓤 _) $
    await ! tt $ pick ! (λ n. split ! $ move ! (1 ∷ []) $ pick ! (λ end. split3 ! $ fsplit ! $ drop ! $ fsplit ! $ move ! (1 ∷ []) $ drop ! $ move ! (1 ∷ 2 ∷ []) $
    heard ! (n ≡ made_number m) (λ answer. split ! $ heard ! (IfErr m (λ _. end.1.0 ≡ r.now)) (λ kept.
    use1 𝓛 (‵ (handed_out (param 0 T) (IsOpening tags clients) n end.1.0)) (handed (param 0 T) (IsOpening tags clients) 𝓛 m n end.1.0 is not_0 answer) $
    move ! (2 ∷ []) $ split ! $ move ! (1 ∷ []) $ peeks ! u8 (Is u8) (shows 𝓛 u8) n (v ∷ []) (λ is_n. lands_as ! refl refl ((uint_Lawful 𝓛 w8).typed n _ is_n).0 $
    returns ! (look_at ! 0 refl) $ free_all ! refl $
    -- [the answer; the tokens; what is handed out; the borrow]
    move ! (1 ∷ []) $ split ! $ keep ! (0 ∷ 4 ∷ 2 ∷ 3 ∷ []) $ nothing ! $ move ! (1 ∷ 0 ∷ []) $ join ! $
    nothing ! $ move ! (2 ∷ 0 ∷ []) $ group ! 2 $ nothing ! $ nothing ! $ nothing ! $ group ! 4 $ move ! (3 ∷ []) $
    use0 𝓛 (raw (fact 𝓤 (0 < n → end.1.0 ≡ r.now))) (fact_i 𝓤 (0 < n → end.1.0 ≡ r.now) (emp 𝓤) (as_it_was m n answer kept)) $ join ! $
    use0 𝓛 (raw (fact 𝓤 (clients_told n clients tags ≡ true))) (fact_i 𝓤 (clients_told n clients tags ≡ true) (emp 𝓤)
    (subst (λ (k : ℕ). clients_told k clients tags ≡ true) (sym answer) told)) $ join ! $ keep ! (2 ∷ 1 ∷ 3 ∷ 0 ∷ []) $
    by ! (leaves 𝓛 ended stayed c z' v n (tt, (tt, (tt, (end.1.0, tt)))) (tt, (tt, (tt, (tt, tt)))))))))))))))))))))
