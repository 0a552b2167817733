-- What a caller of a generic function gives for a type parameter: the type as the machine sees it, and the glue that lets a value go.
use Rattle.std.proofs.Common.{◌≡◌, [], ◌∷◌}
use seplogic.Ra.Ura.{Ura}
use mir.Raw.{raw as bare}
use mir.Syntax.{Dict, method, no_args}
use base.Fml.{ftrue, fsep}
use base.Logic.{emp, emp∗, sep}
use prog.Model.{Model}
use prog.Routine.{Callee, ◌≼⁺◌}
use contract.Running.{Running}
use types.Logic.{Logic, sem}
use types.Kit.{raw, ◌$◌, ◌∵◌, !, qed, keep, join, show, done}
use denote.Builtin.{unit}
use denote.Exit.{Kept, no}
use denote.Param.{arg, layout, param}
use denote.Param.Glue as glue
use denote.Param.Laws.{Laws, arg_laws}
use denote.RattleType.{RattleType}
use denote.Signature.{Signature, plain}
use denote.Steps.{nothing}
use denote.Triple.Carry.{beside, spared}
use denote.Triple.Spec.{Meets, Spec, exits, triple_of}
use denote.Triple.Table.{run_framed, widened}

abbrev pub As : RattleType → RattleType
As R = arg (bare (layout R)) no R

pub as_laws : (R : RattleType) → Laws R → bare (bare (layout R)) ≡ bare (layout R) → Laws (As R)
as_laws R L same = arg_laws (bare (layout R)) no R L same

-- of a function that takes a value, and lets it go
abbrev pub letting_go : RattleType → Signature
letting_go R = record { lifetimes = 0; outlives = []; params = plain (λ κs. R) ∷ []; result = plain (λ κs. unit) }

-- it says nothing of the value, which is kept at exit as this
abbrev pub silent : (R : RattleType) → Kept → {M : Type 1} {𝓤 : Ura M} (𝓛 : Logic 𝓤) → Spec 𝓤 (letting_go R)
silent R kept {𝓤 = 𝓤} 𝓛 κs args = record { ghost = Unit {0}; requires = λ ghost. emp 𝓤; ensures = λ ghost r. exits 𝓛 (letting_go R) (kept, tt) κs args (λ end. emp 𝓤) }

-- a type's `drop` under the name s is its glue, which is called by its dictionary's name
pub glue_of : (R : RattleType) (kept : Kept) (d : Dict) {M : Type 1} (𝓤 : Ura M) (𝓛 : Logic 𝓤) (𝓜 : Model 𝓤 𝓛.H) (𝓡 : Running 𝓤 𝓛.H 𝓜) (s : Callee)
    → 𝓡.env s ≼⁺ 𝓡.env (method d 0 no_args) → Meets 𝓛 (letting_go R) (𝓡.run (𝓡.env s)) (silent R kept 𝓛) → glue.Met 𝓛 𝓜 𝓡 𝓡.env (As R) d
glue_of R kept d 𝓤 𝓛 𝓜 𝓡 s above met =
    let P = param 0 (As R) in
    let run = 𝓡.run (𝓡.env (method d 0 no_args)) in
    let fm = run_framed 𝓤 𝓛.H 𝓜 𝓡 (𝓡.env (method d 0 no_args)) in
    let c : Spec 𝓤 (letting_go P) = λ κs args. record { ghost = Unit {0}; requires = λ ghost. emp 𝓤; ensures = λ ghost r. (silent R kept 𝓛 κs args).ensures tt r } in
    let wide : Meets 𝓛 (letting_go P) run c = widened 𝓤 𝓛.H (triple_of 𝓛 (letting_go R) (silent R kept 𝓛)) 𝓜 𝓡 𝓡.env (𝓡.env s) (𝓡.env (method d 0 no_args)) above met in
    spared 𝓛 (letting_go P) run fm 1 ((As R).lives, tt) (silent P no 𝓛) (beside 𝓛 (letting_go P) run fm c (silent P no 𝓛) (λ κs a g. g) (λ κs a g. emp 𝓤) (λ κs a g. emp∗ 𝓤 (emp 𝓤))
    (λ κs a g r. qed 𝓛 (raw ((c κs a).ensures g r) ∷ raw (emp 𝓤) ∷ []) ∵ keep ! [] $ show ! (λ (ws : Unit {0} × Unit {0}). sep 𝓤 (sem 𝓛 (fsep ftrue ftrue)) (emp 𝓤)) (tt, tt) $
    nothing ! $ nothing ! $ nothing ! $ join ! $ done !)
    wide)
